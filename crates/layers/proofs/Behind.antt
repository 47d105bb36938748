-- A scan over the lines of a page, and what it has shown of those behind it, for a relation between heads and conditions that goes by lines:
-- naming and negating. Assumes nothing.
use mathlib.Core.Path.{◌≡◌, refl, sym, ◌∙◌, ap, subst}
use mathlib.Core.Logic.{◌⊎◌, inl, inr, ⊎_elim}
use mathlib.Core.Bool.{Bool, true, false, ◌&&◌, ◌||◌, or-true, false≢true}
use mathlib.Core.List.{List, [], ◌∷◌}
use Prim.Native.Nat.{ℕ, ◌≤◌, ◌<◌}
use lib.Dec.{eqb}
use lib.ListN.{get_or, drop}
use borrow.Author.Tests.{eq-eqb, eqb-true}
use Rattle.semantics.specs.Area.{page_of, line_at, count_of, first_line}
use Rattle.semantics.specs.Layers.{lines_negate}
use Rattle.semantics.specs.Page.{Line, lines_name}
use Rattle.semantics.proofs.Soundness.{both_true}
use Rattle.semantics.proofs.Table.{or_cases}
use Rattle.page.specs.Lines.{Next, line_names, Scanning}
use Rattle.page.proofs.Naming.{lines_name_lem}
use Rattle.page.proofs.Scanning.{lines_left, lines_first, lines_moved, lines_none}
use Rattle.layers.specs.Raising.{line_negates}
use Rattle.layers.proofs.Literals.{lines_negate_lem}

-- a relation of a list of lines, by that of each line
pub record ByLines (R : List Line → ℕ → ℕ → Bool) (r : Line → ℕ → Bool) : Type 0 where
  pub none : (x b : ℕ) → R [] x b ≡ false
  pub more : (a : List ℕ) (at x b : ℕ) (ls : List Line) → R (line_at (drop at a) ∷ ls) x b ≡ ((eqb (get_or a at 0) x && r (line_at (drop at a)) b) || R ls x b)

pub by_names : ByLines lines_name line_names
unfolding lines_name
by_names = record { none = λ x b. refl; more = lines_name_lem }

pub by_negates : ByLines lines_negate line_negates
unfolding lines_negate
by_negates = record { none = λ x b. refl; more = lines_negate_lem }

module _ {R : List Line → ℕ → ℕ → Bool} {r : Line → ℕ → Bool} (g : ByLines R r) (a : List ℕ) where
  abbrev ahead : ℕ → ℕ → ℕ → ℕ → Bool
  ahead at k x b = R (lines_left a at k) x b

  -- what holds of every pair that the lines of the page relate holds, or a line still to come relates them
  pub record Behind (P : ℕ → ℕ → Type 0) (at k : ℕ) : Type 0 where
    pub suffix : (x b : ℕ) → ahead at k x b ≡ true → R (page_of a).lines x b ≡ true
    pub shown : (x b : ℕ) → R (page_of a).lines x b ≡ true → P x b ⊎ (ahead at k x b ≡ true)

  pub behind_first_lem : {P : ℕ → ℕ → Type 0} {at k : ℕ} → (at ≡ first_line a) × (k ≡ 0) → Behind P at k
  behind_first_lem {P} {at} {k} z =
      rw (z.0, z.1)
      (record {
        suffix = λ x b q. ap (λ (ls : List Line). R ls x b) (sym (lines_first a)) ∙ q;
        shown = λ x b q. inr (ap (λ (ls : List Line). R ls x b) (lines_first a) ∙ q);
      })

  pub behind_last : {P : ℕ → ℕ → Type 0} {at k : ℕ} → Behind P at k → count_of a ≤ k → (x b : ℕ) → R (page_of a).lines x b ≡ true → P x b
  behind_last {P} {at} {k} s l x b q =
      ⊎_elim (λ p. p) (λ e. absurd (false≢true (sym (ap (λ (ls : List Line). R ls x b) (lines_none a at k l) ∙ g.none x b) ∙ e))) (s.shown x b q)

  -- the line at hand: what it relates, the page relates; and past it
  module _ {P : ℕ → ℕ → Type 0} {at k at' k' : ℕ} (c : Scanning a at k) (s : Behind P at k) (l : k < count_of a) (e : Next a at k at' k') where
    abbrev head : ℕ
    head = get_or a at 0

    abbrev line : Line
    line = line_at (drop at a)

    ahead_is : (x b : ℕ) → ahead at k x b ≡ ((eqb head x && r line b) || ahead at' k' x b)
    ahead_is x b = ap (λ (ls : List Line). R ls x b) (lines_moved a c l e) ∙ g.more a at x b (lines_left a at' k')

    pub here_related : (b : ℕ) → r line b ≡ true → R (page_of a).lines head b ≡ true
    here_related b q = s.suffix head b (ahead_is head b ∙ rw (eq-eqb head head refl, q))

    pub behind_next : {Q : ℕ → ℕ → Type 0} → ((x b : ℕ) → P x b → Q x b) → ((b : ℕ) → r line b ≡ true → Q head b) → Behind Q at' k'
    behind_next {Q} f h =
        record {
          suffix = λ x b q. s.suffix x b (ahead_is x b ∙ rw (q, or-true));
          shown = λ x b q.
              ⊎_elim (λ p. inl (f x b p))
              (λ p.
              ⊎_elim (λ o. let z = both_true (eqb head x) (r line b) o in inl (subst (λ (y : ℕ). Q y b) (eqb-true head x z.0) (h b z.1))) (λ o. inr o)
              (or_cases (eqb head x && r line b) (ahead at' k' x b) (sym (ahead_is x b) ∙ p)))
              (s.shown x b q);
        }
