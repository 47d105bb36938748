-- Tests of equality that compute, for the worked rows. Assumes nothing.
use mathlib.Core.Path.{◌≡◌, refl, sym, ◌∙◌, ap, ap₂}
use mathlib.Core.Logic.{◌≢◌}
use mathlib.Core.Bool.{Bool, true, false, not, cond, ◌&&◌, false≢true}
use mathlib.Core.List.{List, [], ◌∷◌}
use mathlib.Core.Option.{Option, none, some}
use Prim.Native.Nat.{ℕ}
use lib.Dec.{eqb}
use lib.ListN.{get_or}
use borrow.Author.Tests.{eq-eqb, eqb-true, not-true}
use Rattle.semantics.specs.Call.{Answer, refused, unchanged, changed, drove, valued, held_by}
use Rattle.semantics.specs.Operation.{Opening, refused_opening, opened_with}
use Rattle.semantics.specs.Worklist.{Status, rest, spent}
use Rattle.semantics.proofs.Soundness.{both_true}

-- lists, by a test of their elements
unfoldable pub same_list : {A : Type 0} → (A → A → Bool) → List A → List A → Bool
same_list eq [] [] = true
same_list eq [] (y ∷ ys) = false
same_list eq (x ∷ xs) [] = false
same_list eq (x ∷ xs) (y ∷ ys) = eq x y && same_list eq xs ys

pub same_list_lem : {A : Type 0} (eq : A → A → Bool) → ((x y : A) → eq x y ≡ true → x ≡ y) → (xs ys : List A) → same_list eq xs ys ≡ true → xs ≡ ys
unfolding same_list
same_list_lem eq h [] [] e = refl
same_list_lem eq h [] (y ∷ ys) e = absurd (false≢true e)
same_list_lem eq h (x ∷ xs) [] e = absurd (false≢true e)
same_list_lem {A} eq h (x ∷ xs) (y ∷ ys) e =
    let k = both_true (eq x y) (same_list eq xs ys) e in
    ap₂ {C = List A} (λ z zs. z ∷ zs) (h x y k.0) (same_list_lem eq h xs ys k.1)

abbrev pub same_numbers : List ℕ → List ℕ → Bool
same_numbers = same_list eqb

pub same_numbers_lem : (xs ys : List ℕ) → same_numbers xs ys ≡ true → xs ≡ ys
same_numbers_lem = same_list_lem eqb eqb-true

same_self : (xs : List ℕ) → same_numbers xs xs ≡ true
unfolding same_list
same_self [] = refl
same_self (x ∷ xs) = rw (eq-eqb x x refl) (same_self xs)

pub differ_numbers : (xs ys : List ℕ) → same_numbers xs ys ≡ false → xs ≢ ys
differ_numbers xs ys e q = false≢true (sym e ∙ ap (same_numbers xs) (sym q) ∙ same_self xs)

unfoldable pub same_status : Status → Status → Bool
same_status rest rest = true
same_status rest spent = false
same_status spent rest = false
same_status spent spent = true

pub same_status_lem : (a b : Status) → same_status a b ≡ true → a ≡ b
unfolding same_status
same_status_lem rest rest e = refl
same_status_lem rest spent e = absurd (false≢true e)
same_status_lem spent rest e = absurd (false≢true e)
same_status_lem spent spent e = refl

unfoldable pub same_flag : Bool → Bool → Bool
same_flag true b = b
same_flag false b = not b

pub same_flag_lem : (a b : Bool) → same_flag a b ≡ true → a ≡ b
unfolding same_flag
same_flag_lem true b e = sym e
same_flag_lem false b e = sym (not-true b e)

-- which refusal it is, if any
unfoldable pub same_cause : Option ℕ → Option ℕ → Bool
same_cause none none = true
same_cause none (some k) = false
same_cause (some j) none = false
same_cause (some j) (some k) = eqb j k

pub same_cause_lem : (o p : Option ℕ) → same_cause o p ≡ true → o ≡ p
unfolding same_cause
same_cause_lem none none e = refl
same_cause_lem none (some k) e = absurd (false≢true e)
same_cause_lem (some j) none e = absurd (false≢true e)
same_cause_lem (some j) (some k) e = ap some (eqb-true j k e)

unfoldable pub same_opening : Opening → Opening → Bool
same_opening (refused_opening j) (refused_opening k) = eqb j k
same_opening (refused_opening j) (opened_with r e b k) = false
same_opening (opened_with r e b k) (refused_opening j) = false
same_opening (opened_with r e b k) (opened_with R E B K) = eqb r R && (eqb e E && (eqb b B && eqb k K))

pub same_opening_lem : (o p : Opening) → same_opening o p ≡ true → o ≡ p
unfolding same_opening
same_opening_lem (refused_opening j) (refused_opening k) e = ap refused_opening (eqb-true j k e)
same_opening_lem (refused_opening j) (opened_with r e b k) q = absurd (false≢true q)
same_opening_lem (opened_with r e b k) (refused_opening j) q = absurd (false≢true q)
same_opening_lem (opened_with r e b k) (opened_with R E B K) q =
    let h = both_true (eqb r R) (eqb e E && (eqb b B && eqb k K)) q in
    let i = both_true (eqb e E) (eqb b B && eqb k K) h.1 in
    let j = both_true (eqb b B) (eqb k K) i.1 in
    rw (eqb-true r R h.0, eqb-true e E i.0, eqb-true b B j.0, eqb-true k K j.1) refl

-- an answer as numbers: which of the six it is, and its figures
abbrev status_number : Status → ℕ
status_number rest = 0
status_number spent = 1

abbrev status_in : ℕ → Status
status_in k = cond (eqb k 0) rest spent

unfoldable pub figures : Answer → List ℕ
figures (refused k) = 0 ∷ k ∷ []
figures (unchanged l) = 1 ∷ l ∷ []
figures (changed l) = 2 ∷ l ∷ []
figures (drove k l s) = 3 ∷ k ∷ l ∷ status_number s ∷ []
figures (valued p s) = 4 ∷ p.low ∷ p.high ∷ status_number s ∷ []
figures (held_by l) = 5 ∷ l ∷ []

abbrev answer_as : ℕ → ℕ → ℕ → ℕ → Answer
answer_as t x y z =
    cond (eqb t 0) (refused x)
    (cond (eqb t 1) (unchanged x)
    (cond (eqb t 2) (changed x)
    (cond (eqb t 3) (drove x y (status_in z))
    (cond (eqb t 4) (valued (record { low = x; high = y }) (status_in z)) (held_by x)))))

abbrev answer_in : List ℕ → Answer
answer_in l = answer_as (get_or l 0 0) (get_or l 1 0) (get_or l 2 0) (get_or l 3 0)

answer_back : (a : Answer) → answer_in (figures a) ≡ a
unfolding figures
answer_back (refused k) = refl
answer_back (unchanged l) = refl
answer_back (changed l) = refl
answer_back (drove k l rest) = refl
answer_back (drove k l spent) = refl
answer_back (valued p rest) = refl
answer_back (valued p spent) = refl
answer_back (held_by l) = refl

pub same_answer : (a b : Answer) → same_numbers (figures a) (figures b) ≡ true → a ≡ b
same_answer a b e = sym (answer_back a) ∙ ap answer_in (same_numbers_lem (figures a) (figures b) e) ∙ answer_back b
