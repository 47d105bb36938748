-- What the tests of a sound area say of one entry, field by field. Assumes nothing.
use mathlib.Core.Path.{◌≡◌, subst}
use mathlib.Core.Bool.{true}
use mathlib.Core.List.{List}
use Prim.Native.Nat.{ℕ, zero, suc, ◌+◌, ◌*◌, ◌-◌, ◌≤◌, ◌<◌}
use native.Mathlib.Nat.{mul-le-mul}
use native.Mathlib.Omega.{arith}
use lib.Dec.{ltb}
use lib.ListN.{length, get_or, take, drop}
use lib.Seq.{get_or-drop, drop-drop}
use borrow.Author.Tests.{leb-true, ltb-true}
use Rattle.semantics.specs.Area.{Kind, fact_kind, rule_kind, kind, span_as, every, field_tests, line_tests, all_under}
use Rattle.page.specs.Graded.{RuleAt}
use Rattle.semantics.proofs.Soundness.{Every, every_true, both_true}
use Rattle.page.proofs.Scan.{part_cons, rule_kind_lem, fact_kind_lem, entry_fits}

-- a product of two grades fits 16 bits
pub small_product : {p q : ℕ} → p ≤ 200 → q ≤ 200 → p * q < 65536
small_product h k = omega (arith, mul-le-mul h k)

-- each of r numbers that lie under a limit
under_cons : (limit : ℕ) (a : List ℕ) (r x : ℕ) → x + r ≤ length a → 0 < r → all_under limit (take r (drop x a)) ≡ true
    → (get_or a x 0 < limit) × (all_under limit (take (r - 1) (drop (x + 1) a)) ≡ true)
unfolding all_under
under_cons limit a r x l z e =
    let b = both_true (ltb (get_or a x 0) limit) (all_under limit (take (r - 1) (drop (x + 1) a))) (rw (part_cons a x r (omega arith) z) at e) in
    (ltb-true (get_or a x 0) limit b.0, b.1)

part_under : (limit : ℕ) (a : List ℕ) (i r x : ℕ) → x + r ≤ length a → all_under limit (take r (drop x a)) ≡ true → i < r → get_or a (x + i) 0 < limit
part_under limit a zero r x l e h = subst (λ (k : ℕ). get_or a k 0 < limit) (omega arith) (under_cons limit a r x l (omega arith) e).0
part_under limit a (suc i) r x l e h =
    subst (λ (k : ℕ). get_or a k 0 < limit) (omega arith) (part_under limit a i (r - 1) (x + 1) (omega arith) (under_cons limit a r x l (omega arith) e).1 (omega arith))

-- the literals of a rule's entry
module _ (top n : ℕ) (a : List ℕ) (at : ℕ) (r : RuleAt top n a at) where
  pub code_in : (j : ℕ) → j < get_or a (at + 3) 0 → get_or a (at + 4 + j) 0 < 2 * n
  code_in j l = part_under (2 * n) a j (get_or a (at + 3) 0) (at + 4) r.fits r.literals l

  pub code_first : get_or a (at + 4) 0 < 2 * n
  code_first = subst (λ (x : ℕ). get_or a x 0 < 2 * n) (omega arith) (code_in 0 (omega (arith, r.some)))

-- the entry at a place, which passes its tests
module _ (top n left : ℕ) (a : List ℕ) (at : ℕ) (fits : at + left ≤ length a) (ok : every (line_tests top n left (drop at a)) ≡ true) where
  abbrev t : Kind
  t = kind (get_or a (at + 1) 0)

  abbrev codes : List ℕ
  codes = take (get_or a (at + 3) 0) (drop (at + 4) a)

  tested : Every (field_tests top n t (get_or a (at + 2) 0) (get_or a (at + 3) 0) codes)
  tested =
      rw (get_or-drop at a 1 0, get_or-drop at a 2 0, get_or-drop at a 3 0, drop-drop 4 at a) at (every_true (line_tests top n left (drop at a)) ok).1.1

  -- both ends of a fact are grades
  pub fact_in : get_or a (at + 1) 0 ≡ 0 → (get_or a (at + 2) 0 ≤ top) × (get_or a (at + 3) 0 ≤ top)
  fact_in k =
      let f : t ≡ fact_kind = fact_kind_lem _ k in
      let w : Every (field_tests top n fact_kind (get_or a (at + 2) 0) (get_or a (at + 3) 0) codes) = rw f at tested in
      (omega (arith, leb-true), omega (arith, leb-true))

  pub rule_at : 1 ≤ get_or a (at + 1) 0 → get_or a (at + 1) 0 ≤ 5 → RuleAt top n a at
  rule_at l u =
      let r = rule_kind_lem (get_or a (at + 1) 0) l u in
      let s : span_as t (get_or a (at + 3) 0) ≡ 4 + get_or a (at + 3) 0 = rw r.1 in
      let w : Every (field_tests top n (rule_kind r.0) (get_or a (at + 2) 0) (get_or a (at + 3) 0) codes) = rw r.1 at tested in
      record {
        least = l;
        most = u;
        fits = omega (arith, entry_fits top n left a at ok);
        some = omega (arith, leb-true);
        few = omega (arith, leb-true);
        weight = omega (arith, leb-true);
        literals = w.1.1.1.1.0;
      }
