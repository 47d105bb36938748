-- The scratch: where an end stands, the table of an end, and what a store of an end leaves. Assumes nothing.
use mathlib.Core.Path.{◌≡◌, refl, sym, ◌∙◌, ap}
use mathlib.Core.Logic.{◌≢◌}
use mathlib.Core.Bool.{Bool}
use mathlib.Core.List.{List}
use Prim.Native.Nat.{ℕ, ◌+◌, ◌*◌, ◌-◌, ◌≤◌, ◌<◌}
use native.Mathlib.Omega.{arith}
use lib.ListN.{length, get_or, set, take, drop, length-take, length-drop}
use lib.Seq.{get_or-set_same, get_or-set_other, drop-set-lt, get_or-take, get_or-drop}
use Rattle.semantics.specs.Area.{top_of, conditions_of}
use Rattle.semantics.specs.Grade.{End, lower, upper}
use Rattle.value.specs.Table.{end_of, other, Grades, EndTable}
use Rattle.value.proofs.Tables.{table_of_lem, grades_of}
use Rattle.settle.specs.Scratch.{base_of, table_of, held, Half}
use Rattle.settle.proofs.Halves.{end_in}

-- where an end stands
pub end_at : (n : ℕ) (s : List ℕ) (e : End) (c : ℕ) → end_of e (held n s c) ≡ get_or s (base_of n e + 2 * c) 0
end_at n s lower c = ap (λ (i : ℕ). get_or s i 0) (omega arith)
end_at n s upper c = refl

pub base_in : (n : ℕ) (e : End) → base_of n e ≤ 2 * n
base_in n lower = omega arith
base_in n upper = omega arith

module _ (n : ℕ) (s : List ℕ) (e : End) where
  table_get : (i : ℕ) → i < 2 * n → get_or (table_of n e s) i 0 ≡ get_or s (base_of n e + i) 0
  table_get i l = get_or-take (2 * n) (drop (base_of n e) s) i 0 l ∙ get_or-drop (base_of n e) s i 0

  table_long : 4 * n ≤ length s → 2 * n ≤ length (table_of n e s)
  table_long l = simp (length-take, length-drop) (omega (arith, base_in n e))

  -- the table as the part of the scratch that the code takes
  pub part_is : (base : ℕ) → base ≡ base_of n e → take (base + 2 * n - base) (drop base s) ≡ table_of n e s
  part_is base h = let q : base + 2 * n - base ≡ 2 * n = omega arith in rw (q, h)

module _ {e : End} {a : List ℕ} {m : List Bool} {s : List ℕ} (h : Half e a m s) where
  pub half_table : EndTable e (top_of a) (conditions_of a) (held (conditions_of a) s) (table_of (conditions_of a) e s)
  half_table =
      table_of_lem e (top_of a) (conditions_of a) (held (conditions_of a) s) (table_of (conditions_of a) e s)
      (λ c l. record {
        plain = table_get (conditions_of a) s e (2 * c) (omega arith) ∙ sym (end_at (conditions_of a) s e c);
        negative = table_get (conditions_of a) s e (2 * c + 1) (omega arith) ∙ h.negated c l;
      })

  pub half_grades : Grades (top_of a) (conditions_of a) (table_of (conditions_of a) e s)
  half_grades =
      grades_of e (top_of a) (conditions_of a) (held (conditions_of a) s) (table_of (conditions_of a) e s) (table_long (conditions_of a) s e (omega (arith, h.long)))
      (λ c l. end_in e (held (conditions_of a) s c) (h.within c l)) half_table

-- the end e of h becomes v
module _ (n : ℕ) (s : List ℕ) (h v : ℕ) (long : 4 * n ≤ length s) (real : h < n) where
  pub put_here : (e : End) → end_of e (held n (set s (base_of n e + 2 * h) v) h) ≡ v
  put_here e = end_at n (set s (base_of n e + 2 * h) v) e h ∙ get_or-set_same s (base_of n e + 2 * h) v 0 (omega (arith, base_in n e))

  pub put_else : (e : End) (c : ℕ) → c ≢ h → end_of e (held n (set s (base_of n e + 2 * h) v) c) ≡ end_of e (held n s c)
  put_else e c d =
      end_at n (set s (base_of n e + 2 * h) v) e c ∙ get_or-set_other s (base_of n e + 2 * h) (base_of n e + 2 * c) v 0 (λ q. d (omega arith)) ∙ sym (end_at n s e c)

  pub put_other : (e : End) (c : ℕ) → c < n → end_of (other e) (held n (set s (base_of n e + 2 * h) v) c) ≡ end_of (other e) (held n s c)
  put_other lower c l = get_or-set_other s (0 + 2 * h) (2 * n + 2 * c) v 0 (λ q. omega arith)
  put_other upper c l = get_or-set_other s (2 * n + 2 * h) (2 * c) v 0 (λ q. omega arith)

  pub put_negated : (e : End) (c : ℕ) → get_or (set s (base_of n e + 2 * h) v) (base_of n e + (2 * c + 1)) 0 ≡ get_or s (base_of n e + (2 * c + 1)) 0
  put_negated e c = get_or-set_other s (base_of n e + 2 * h) (base_of n e + (2 * c + 1)) v 0 (λ q. omega arith)

  pub put_rest : (e : End) (c : ℕ) → c < n
      → get_or (set s (base_of n e + 2 * h) v) (base_of n (other e) + (2 * c + 1)) 0 ≡ get_or s (base_of n (other e) + (2 * c + 1)) 0
  put_rest lower c l = get_or-set_other s (0 + 2 * h) (2 * n + (2 * c + 1)) v 0 (λ q. omega arith)
  put_rest upper c l = get_or-set_other s (2 * n + 2 * h) (0 + (2 * c + 1)) v 0 (λ q. omega arith)

  pub put_beyond : (e : End) → drop (4 * n) (set s (base_of n e + 2 * h) v) ≡ drop (4 * n) s
  put_beyond e = drop-set-lt (4 * n) s (base_of n e + 2 * h) v (omega (arith, base_in n e))
