-- What the queries and the literals still to come name, in the code's own terms. Assumes nothing.
use mathlib.Core.Path.{◌≡◌, refl, ap}
use mathlib.Core.Bool.{Bool, true, false, ◌||◌}
use mathlib.Core.List.{List, [], ◌∷◌, map}
use Prim.Native.Nat.{ℕ, zero, suc, ◌+◌, ◌*◌, ◌/◌, ◌≤◌, ◌<◌}
use native.Mathlib.Numerals.{add-one}
use native.Mathlib.Omega.{arith}
use lib.Dec.{eqb, ltb}
use lib.ListN.{length, get_or, take, drop, drop_of_length-le}
use lib.Seq.{drop-cons}
use Rattle.std.proofs.lemmas.List.{drop_more}
use borrow.Author.Tests.{ltb-true, lt-ltb}
use Rattle.semantics.specs.Area.{top_of, conditions_of, literal_of, all_under}
use Rattle.semantics.specs.Page.{mentions}
use Rattle.semantics.specs.Table.{listed}
use Rattle.semantics.proofs.Soundness.{both_true, subject_of}
use Rattle.semantics.proofs.Table.{iff_eq}
use Rattle.std.specs.List.{All}
use Rattle.page.specs.Graded.{RuleAt}
use Rattle.page.proofs.Head.{head_of}
use Rattle.reach.specs.Sets.{Inserts}
use Rattle.reach.proofs.Inserting.{Inserting, inserting_next}
use Rattle.page.specs.Solvable.{solvable}

-- the queries
under_each : (m : ℕ) (xs : List ℕ) → all_under m xs ≡ true → (i d : ℕ) → i < length xs → get_or xs i d < m
unfolding all_under
under_each m [] e i d l = absurd (omega arith)
under_each m (x ∷ xs) e zero d l = ltb-true x m (both_true (ltb x m) (all_under m xs) e).0
under_each m (x ∷ xs) e (suc i) d l = under_each m xs (both_true (ltb x m) (all_under m xs) e).1 i d (omega arith)

pub under_at : (m : ℕ) (xs : List ℕ) → all_under m xs ≡ true → (i : ℕ) → i < length xs → get_or xs i 0 < m
under_at m xs e i l = under_each m xs e i 0 l

under_so : (m : ℕ) (xs : List ℕ) → All (λ x. x < m) xs → all_under m xs ≡ true
unfolding all_under
under_so m [] h = refl
under_so m (x ∷ xs) h = rw (lt-ltb x m (h 0 0 (omega arith)), under_so m xs (λ i d l. h (suc i) d (omega arith)))

pub under_all : (m : ℕ) (xs : List ℕ) {r : Bool} → (r ≡ true → All (λ x. x < m) xs) × (All (λ x. x < m) xs → r ≡ true) → r ≡ all_under m xs
under_all m xs {r} h = iff_eq r (all_under m xs) (λ e. under_so m xs (h.0 e)) (λ e. h.1 (under_each m xs e))

pub listed_on : (qs : List ℕ) (i c : ℕ) → i < length qs → listed c (drop i qs) ≡ (eqb (get_or qs i 0) c || listed c (drop (i + 1) qs))
unfolding listed
listed_on qs i c l = rw (add-one, drop-cons qs i 0 l)

pub listed_none : (qs : List ℕ) (i c : ℕ) → length qs ≤ i → listed c (drop i qs) ≡ false
unfolding listed
listed_none qs i c l = rw (drop_of_length-le qs l)

under_more : (m k : ℕ) (xs : List ℕ) → m ≤ k → all_under m xs ≡ true → all_under k xs ≡ true
unfolding all_under
under_more m k [] l e = refl
under_more m k (x ∷ xs) l e =
    let h = both_true (ltb x m) (all_under m xs) e in
    rw (lt-ltb x k (omega (arith, ltb-true x m h.0)), under_more m k xs l h.1)

pub queries_few : (a : List ℕ) → solvable a ≡ true → (qs : List ℕ) → all_under (conditions_of a) qs ≡ true → all_under 512 qs ≡ true
queries_few a ok qs asked = under_more (conditions_of a) 512 qs (head_of a ok).few asked

-- a loop over literals puts what they name into a set: the conditions of those from j on are still to come
module _ (codes : List ℕ) where
  abbrev pub named_from : ℕ → ℕ → Bool
  named_from j = mentions (map literal_of (drop j codes))

  named_on : (j b : ℕ) → j < length codes → named_from j b ≡ (eqb (get_or codes j 0 / 2) b || named_from (j + 1) b)
  unfolding mentions
  named_on j b l = rw (drop_more codes j 0 l) (ap (λ (s : ℕ). eqb s b || named_from (j + 1) b) (subject_of (get_or codes j 0)))

  pub named_none : (j b : ℕ) → length codes ≤ j → named_from j b ≡ false
  unfolding mentions
  named_none j b l = rw (drop_of_length-le codes l)

  pub literal_small : all_under 1024 codes ≡ true → (j : ℕ) → j < length codes → get_or codes j 0 / 2 < 512
  literal_small e j l = omega (arith, under_at 1024 codes e j l)

  pub literal_next : {f s₀ s t : ℕ → Bool} {new added j : ℕ} → Inserting f (named_from j) s₀ s new → j < length codes → Inserts (eqb (get_or codes j 0 / 2)) s t added → Inserting f (named_from (j + 1)) s₀ t (new + added)
  literal_next {j = j} i l one = inserting_next i one (λ b. named_on j b l)

-- the literals of a rule
pub rule_codes : {a : List ℕ} {at : ℕ} → RuleAt (top_of a) (conditions_of a) a at → conditions_of a ≤ 512 → all_under 1024 (take (get_or a (at + 3) 0) (drop (at + 4) a)) ≡ true
rule_codes {a} {at} r few = under_more (2 * conditions_of a) 1024 (take (get_or a (at + 3) 0) (drop (at + 4) a)) (omega arith) r.literals
