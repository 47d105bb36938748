-- Which stores keep a table of one end of every literal right. Assumes nothing.
use mathlib.Core.Path.{◌≡◌, sym, ◌∙◌, ap, subst}
use mathlib.Core.Logic.{◌≢◌}
use mathlib.Core.List.{List}
use Prim.Native.Nat.{ℕ, ◌+◌, ◌*◌, ◌-◌, ◌≤◌, ◌<◌}
use native.Mathlib.Decide.{ℕ_discrete}
use native.Mathlib.Omega.{arith}
use lib.ListN.{length, get_or, set, length-set}
use lib.Seq.{get_or-set_same, get_or-set_other}
use Rattle.fixpoint.specs.Interval.{Interval, Assign}
use Rattle.semantics.specs.Grade.{End}
use Rattle.value.specs.Table.{end_of, other, EndTable}
use Rattle.value.proofs.Tables.{EndsAt, table_at_lem, table_of_lem}

-- the ends of other conditions are not changed by a store at the codes of c
module _ (values : List ℕ) (c x y : ℕ) where
  other_plain : (d : ℕ) → d ≢ c → get_or (set (set values (2 * c) x) (2 * c + 1) y) (2 * d) 0 ≡ get_or values (2 * d) 0
  other_plain d n =
      get_or-set_other (set values (2 * c) x) (2 * c + 1) (2 * d) y 0 (λ e. omega arith) ∙ get_or-set_other values (2 * c) (2 * d) x 0 (λ e. n (omega arith))

  other_negative : (d : ℕ) → d ≢ c → get_or (set (set values (2 * c) x) (2 * c + 1) y) (2 * d + 1) 0 ≡ get_or values (2 * d + 1) 0
  other_negative d n =
      get_or-set_other (set values (2 * c) x) (2 * c + 1) (2 * d + 1) y 0 (λ e. n (omega arith)) ∙ get_or-set_other values (2 * c) (2 * d + 1) x 0 (λ e. omega arith)

  same_plain : 2 * c < length values → get_or (set (set values (2 * c) x) (2 * c + 1) y) (2 * c) 0 ≡ x
  same_plain l = get_or-set_other (set values (2 * c) x) (2 * c + 1) (2 * c) y 0 (λ e. omega arith) ∙ get_or-set_same values (2 * c) x 0 l

  same_negative : 2 * c + 1 < length values → get_or (set (set values (2 * c) x) (2 * c + 1) y) (2 * c + 1) 0 ≡ y
  same_negative l = get_or-set_same (set values (2 * c) x) (2 * c + 1) y 0 (rw length-set l)

-- a table of I is one of I' where the two agree
pub table_agrees : (e : End) (top n : ℕ) (I I' : Assign) (values : List ℕ) → ((d : ℕ) → d < n → I' d ≡ I d) → EndTable e top n I values → EndTable e top n I' values
table_agrees e top n I I' values h t =
    table_of_lem e top n I' values
    (λ d l. let s = table_at_lem e top n I values t d l in
    record { plain = rw (h d l) s.plain; negative = rw (h d l) s.negative })

-- both numbers of c stored, where the assignments agree but at c
module _ (e : End) (top n : ℕ) (I I' : Assign) (values : List ℕ) (c : ℕ) (agree : (d : ℕ) → d < n → d ≢ c → I' d ≡ I d) where
  pub table_stored : c < n → 2 * n ≤ length values → EndTable e top n I values → {x y : ℕ} → x ≡ end_of e (I' c) → y ≡ top - end_of (other e) (I' c)
      → EndTable e top n I' (set (set values (2 * c) x) (2 * c + 1) y)
  table_stored l w t {x} {y} p q = table_of_lem e top n I' _ (λ d m. go d m (ℕ_discrete d c))
    where
      go : (d : ℕ) → d < n → Dec (d ≡ c) → EndsAt e top I' (set (set values (2 * c) x) (2 * c + 1) y) d
      go d m (yes z) =
          subst (EndsAt e top I' (set (set values (2 * c) x) (2 * c + 1) y)) (sym z)
          (record { plain = same_plain values c x y (omega arith) ∙ p; negative = same_negative values c x y (omega arith) ∙ q })
      go d m (no z) =
          let s = table_at_lem e top n I values t d m in
          record {
            plain = other_plain values c x y d z ∙ s.plain ∙ ap (end_of e) (sym (agree d m z));
            negative = other_negative values c x y d z ∙ s.negative ∙ ap (λ (i : Interval). top - end_of (other e) i) (sym (agree d m z));
          }

-- a table of the first c conditions, and the numbers of c: a table of one condition more
pub table_more : (e : End) (top c : ℕ) (I : Assign) (values : List ℕ) → 2 * c + 1 < length values → EndTable e top c I values
    → {x y : ℕ} → x ≡ end_of e (I c) → y ≡ top - end_of (other e) (I c)
    → EndTable e top (c + 1) I (set (set values (2 * c) x) (2 * c + 1) y)
table_more e top c I values l t {x} {y} p q = table_of_lem e top (c + 1) I _ (λ d m. go d m (ℕ_discrete d c))
  where
    go : (d : ℕ) → d < c + 1 → Dec (d ≡ c) → EndsAt e top I (set (set values (2 * c) x) (2 * c + 1) y) d
    go d m (yes z) =
        subst (EndsAt e top I (set (set values (2 * c) x) (2 * c + 1) y)) (sym z)
        (record { plain = same_plain values c x y (omega arith) ∙ p; negative = same_negative values c x y l ∙ q })
    go d m (no z) =
        let s = table_at_lem e top c I values t d (omega arith) in
        record { plain = other_plain values c x y d z ∙ s.plain; negative = other_negative values c x y d z ∙ s.negative }
