-- A head whose rules have a literal is a condition of the page, and names the condition of the literal. Assumes nothing.
use mathlib.Core.Path.{◌≡◌, refl, sym, ◌∙◌, ap, ap₂}
use mathlib.Core.Logic.{⊎_elim}
use mathlib.Core.Bool.{Bool, true, false, ◌&&◌, ◌||◌, or-true, true≢false}
use mathlib.Core.List.{List, [], ◌∷◌}
use Prim.Native.Nat.{ℕ, ◌+◌, ◌*◌, ◌<◌}
use native.Mathlib.Decide.{ℕ_discrete}
use native.Mathlib.Omega.{arith}
use lib.Dec.{eqb}
use borrow.Author.Tests.{eqb-true, eq-eqb, ne_eqb}
use Rattle.semantics.specs.Area.{page_of, conditions_of, code_of}
use Rattle.semantics.specs.Page.{Literal, positive, negative, condition_of, mentions, Line, fact, rule, query, default, lines_name, names}
use Rattle.semantics.proofs.Proper.{AllInRange}
use Rattle.semantics.proofs.Soundness.{both_true}
use Rattle.semantics.proofs.Table.{or_cases}
use Rattle.index.specs.Readers.{among, lines_read}
use Rattle.page.specs.Solvable.{solvable}
use Rattle.page.proofs.Solvable.{solvable_proper}

read_below : (top n : ℕ) (ls : List Line) → AllInRange top n ls → (code h : ℕ) → lines_read code ls h ≡ true → h < n
unfolding lines_read
read_below top n [] w code h e = absurd (true≢false (sym e))
read_below top n (fact d l u ∷ ls) w code h e = read_below top n ls w.1 code h e
read_below top n (rule d v op lits ∷ ls) w code h e =
    ⊎_elim (λ q. omega (arith, eqb-true d h (both_true (eqb d h) (among code lits) q).0, w.0.0)) (λ q. read_below top n ls w.1 code h q)
    (or_cases (eqb d h && among code lits) (lines_read code ls h) e)
read_below top n (query r d ∷ ls) w code h e = read_below top n ls w.1 code h e
read_below top n (default d ∷ ls) w code h e = read_below top n ls w.1 code h e

pub reads_below : (a : List ℕ) → solvable a ≡ true → (code h : ℕ) → lines_read code (page_of a).lines h ≡ true → h < conditions_of a
unfolding page_of
reads_below a ok code h q = read_below (page_of a).top (page_of a).conditions (page_of a).lines (solvable_proper a ok).ranged code h q

-- a rule names c if it has the plain or the negated literal of c
regroup : (x y p q : Bool) → ((x || y) || (p || q)) ≡ ((x || p) || (y || q))
regroup true y p q = refl
regroup false true p q = sym (or-true p)
regroup false false p q = refl

both_or : (d x y : Bool) → (d && (x || y)) ≡ ((d && x) || (d && y))
both_or true x y = refl
both_or false x y = refl

literal_codes : (l : Literal) (c : ℕ) → eqb (condition_of l) c ≡ (eqb (code_of l) (2 * c) || eqb (code_of l) (2 * c + 1))
literal_codes (positive d) c =
    elim (ℕ_discrete d c) [
      | yes q ↦ rw (eq-eqb d c q, eq-eqb (2 * d) (2 * c) (omega arith))
      | no q ↦ rw (ne_eqb d c q, ne_eqb (2 * d) (2 * c) (λ e. q (omega arith)), ne_eqb (2 * d) (2 * c + 1) (λ e. omega arith))
    ]
literal_codes (negative d) c =
    elim (ℕ_discrete d c) [
      | yes q ↦ rw (eq-eqb d c q, ne_eqb (2 * d + 1) (2 * c) (λ e. omega arith), eq-eqb (2 * d + 1) (2 * c + 1) (omega arith))
      | no q ↦ rw (ne_eqb d c q, ne_eqb (2 * d + 1) (2 * c) (λ e. omega arith), ne_eqb (2 * d + 1) (2 * c + 1) (λ e. q (omega arith)))
    ]

mentions_codes : (ls : List Literal) (c : ℕ) → mentions ls c ≡ (among (2 * c) ls || among (2 * c + 1) ls)
unfolding mentions among
mentions_codes [] c = refl
mentions_codes (l ∷ ls) c =
    ap₂ (λ (x y : Bool). x || y) (literal_codes l c) (mentions_codes ls c)
    ∙ regroup (eqb (code_of l) (2 * c)) (eqb (code_of l) (2 * c + 1)) (among (2 * c) ls) (among (2 * c + 1) ls)

pub names_codes : (ls : List Line) (h c : ℕ) → lines_name ls h c ≡ (lines_read (2 * c) ls h || lines_read (2 * c + 1) ls h)
unfolding lines_name lines_read
names_codes [] h c = refl
names_codes (fact d l u ∷ ls) h c = names_codes ls h c
names_codes (rule d w op lits ∷ ls) h c =
    ap₂ (λ (x y : Bool). x || y) (ap (λ (x : Bool). eqb d h && x) (mentions_codes lits c) ∙ both_or (eqb d h) (among (2 * c) lits) (among (2 * c + 1) lits)) (names_codes ls h c)
    ∙ regroup (eqb d h && among (2 * c) lits) (eqb d h && among (2 * c + 1) lits) (lines_read (2 * c) ls h) (lines_read (2 * c + 1) ls h)
names_codes (query r d ∷ ls) h c = names_codes ls h c
names_codes (default d ∷ ls) h c = names_codes ls h c

-- the heads of the rules that name a condition are conditions
pub names_below : (a : List ℕ) → solvable a ≡ true → (h c : ℕ) → names (page_of a) h c ≡ true → h < conditions_of a
names_below a ok h c q =
    ⊎_elim (reads_below a ok (2 * c) h) (reads_below a ok (2 * c + 1) h)
    (or_cases (lines_read (2 * c) (page_of a).lines h) (lines_read (2 * c + 1) (page_of a).lines h) (sym (names_codes (page_of a).lines h c) ∙ q))
