-- Figures compared with the intervals held, pair by pair, in the code's own terms. Assumes nothing.
use mathlib.Core.Path.{◌≡◌, refl, sym, ◌∙◌, ap, ap₂, subst}
use mathlib.Core.Logic.{◌≢◌}
use mathlib.Core.Bool.{Bool, true, false, true≢false}
use mathlib.Core.List.{List, [], ◌∷◌, ◌++◌}
use Prim.Native.Nat.{ℕ, zero, suc, ◌*◌, ◌/◌, ◌<◌}
use native.Mathlib.Omega.{arith}
use lib.Dec.{ltb}
use lib.ListN.{length, get_or, take, drop, length-append}
use lib.Seq.{take_at, drop_at}
use borrow.Author.Tests.{ltb-true}
use Rattle.std.specs.List.{list_all, zip}
use Rattle.std.proofs.iter.Yields.{fronts}
use Rattle.std.specs.Iterator.Adapters.{zip_first, zip_second}
use Rattle.std.specs.Slice.Iter.{iter_rest, chunks_exact_rest, chunks_exact_size, chunks_exact_steps}
use Rattle.std.proofs.lemmas.Iterator.{YieldsList, zips, YieldsList-from_slice, YieldsList-from_zip}
use Rattle.std.proofs.lemmas.Iterator.Splits.{YieldsList-from_shown_while}
use Rattle.fixpoint.specs.Interval.{same, Assign}
use Rattle.fixpoint.proofs.Evaluation.{same_true, same_refl}
use Rattle.semantics.specs.Area.{all_under}
use Rattle.semantics.proofs.Soundness.{both_true}
use Rattle.semantics.specs.Operation.{ends}
use Rattle.semantics.proofs.Keeps.{length_ends}
use Rattle.picks.specs.Figures.{table_at, Compared}

-- the first k pairs of a list
unfoldable pub pairs : ℕ → List ℕ → List (List ℕ)
pairs zero p = []
pairs (suc k) p = take 2 p ∷ pairs k (drop 2 p)

pairs_length : (k : ℕ) (p : List ℕ) → length (pairs k p) ≡ k
unfolding pairs
pairs_length zero p = refl
pairs_length (suc k) p = ap suc (pairs_length k (drop 2 p))

-- a pair before others
pairs_on : (p pair rest : List ℕ) → p ≡ pair ++ rest → length pair ≡ 2 → pairs (length p / 2) p ≡ pair ∷ pairs (length rest / 2) rest
unfolding pairs
pairs_on p pair rest e l =
    let n : length p / 2 ≡ suc (length rest / 2) = omega (arith, ap length e, length-append pair rest) in
    ap₂ {C = List (List ℕ)} pairs n e
    ∙ ap₂ {C = List (List ℕ)} (λ (x q : List ℕ). x ∷ pairs (length rest / 2) q) (take_at pair rest 2 l) (drop_at pair rest 2 l)

-- what the pairs of a list of 2 × k figures give
gives_pairs : {s : _} (k : ℕ) (figures : List ℕ) → chunks_exact_size s ≡ 2 → chunks_exact_rest s ≡ figures → length figures ≡ 2 * k → YieldsList chunks_exact_steps (λ x. x.now) s (pairs k figures)
gives_pairs {s} k figures f e l =
    let h : length figures / 2 ≡ k = omega arith in
    subst (λ (j : ℕ). YieldsList chunks_exact_steps (λ x. x.now) s (pairs j figures)) h
    (subst (λ (q : List ℕ). YieldsList chunks_exact_steps (λ x. x.now) s (pairs (length q / 2) q)) e
    (YieldsList-from_shown_while chunks_exact_steps (λ x. x.now) (λ s. pairs (length (chunks_exact_rest s) / 2) (chunks_exact_rest s)) (λ s. chunks_exact_size s ≡ 2)
    (λ s t p h. pairs_length _ _ ∙ omega (arith, p, h.1.0))
    (λ s x t p h. (h.0 ∙ p, pairs_on _ _ _ h.1.0 (h.1.1 ∙ p)))
    s f))

-- each query beside its figures
abbrev pub beside : List ℕ → List ℕ → List (ℕ × List ℕ)
beside qs figures = zip qs (pairs (length qs) figures)

pub gives_beside : {s : _} (qs figures : List ℕ) → iter_rest (zip_first s) ≡ qs → chunks_exact_size (zip_second s) ≡ 2 → chunks_exact_rest (zip_second s) ≡ figures → length figures ≡ 2 * length qs
    → YieldsList (zips fronts chunks_exact_steps) (λ p. (p.0.now, p.1.now)) s (beside qs figures)
gives_beside qs figures q f e l = YieldsList-from_zip (YieldsList-from_slice qs q) (gives_pairs (length qs) figures f e l)

-- the query is a condition, and the figures are two
pub record Pair (n : ℕ) (p : ℕ × List ℕ) : Type 0 where
  pub query : p.0 < n
  pub figures : length p.1 ≡ 2

pub pair_at : (n : ℕ) (qs figures : List ℕ) → all_under n qs ≡ true → length figures ≡ 2 * length qs → (k : ℕ) (d : ℕ × List ℕ) → k < length (beside qs figures) → Pair n (get_or (beside qs figures) k d)
unfolding pairs all_under
pair_at n [] figures u e k d l = absurd (omega arith)
pair_at n (q ∷ qs) [] u e k d l = absurd (omega arith)
pair_at n (q ∷ qs) (x ∷ []) u e k d l = absurd (omega arith)
pair_at n (q ∷ qs) (x ∷ y ∷ figures) u e zero d l = record { query = ltb-true q n (both_true (ltb q n) (all_under n qs) u).0; figures = refl }
pair_at n (q ∷ qs) (x ∷ y ∷ figures) u e (suc k) d l = pair_at n qs figures (both_true (ltb q n) (all_under n qs) u).1 (omega arith) k d (omega arith)

-- the code's test of a query and its figures
abbrev pub agrees : Assign → ℕ × List ℕ → Bool
agrees I p = same (record { low = get_or p.1 0 0; high = get_or p.1 1 0 }) (I p.0)

module _ (I : Assign) where
  all_equal : (qs figures : List ℕ) → length figures ≡ 2 * length qs → list_all (agrees I) (beside qs figures) ≡ true → figures ≡ ends I qs
  unfolding pairs
  all_equal [] [] e t = refl
  all_equal [] (x ∷ figures) e t = absurd (omega arith)
  all_equal (q ∷ qs) [] e t = absurd (omega arith)
  all_equal (q ∷ qs) (x ∷ []) e t = absurd (omega arith)
  all_equal (q ∷ qs) (x ∷ y ∷ figures) e t =
      let b = both_true (same (record { low = x; high = y }) (I q)) (list_all (agrees I) (beside qs figures)) t in
      let h : record { low = x; high = y } ≡ I q = same_true _ _ b.0 in
      let g : figures ≡ ends I qs = all_equal qs figures (omega arith) b.1 in
      λ i. (h i).low ∷ (h i).high ∷ g i

  all_agree : (qs : List ℕ) → list_all (agrees I) (beside qs (ends I qs)) ≡ true
  unfolding pairs
  all_agree [] = refl
  all_agree (q ∷ qs) = rw (same_refl (I q)) (all_agree qs)

module _ (top : ℕ) (qs figures values : List ℕ) where
  -- figures of another length
  pub compared_length : length figures ≢ 2 * length qs → Compared top qs figures values false
  compared_length n = record { equal = λ e. absurd (true≢false (sym e)); differ = λ e q. n (ap length q ∙ length_ends (table_at top values) qs) }

  -- figures of the right one
  pub compared_pairs : length figures ≡ 2 * length qs → {r : Bool} → r ≡ list_all (agrees (table_at top values)) (beside qs figures) → Compared top qs figures values r
  compared_pairs e {r} t =
      record {
        equal = λ z. all_equal (table_at top values) qs figures e (sym t ∙ z);
        differ = λ z q. absurd (true≢false (sym (all_agree (table_at top values) qs) ∙ sym (ap (λ (l : List ℕ). list_all (agrees (table_at top values)) (beside qs l)) q) ∙ sym t ∙ z));
      }
