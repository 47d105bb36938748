-- The numbers of the lines of a list, and the end of its first trial. Assumes nothing.
use mathlib.Core.Path.{◌≡◌, refl, sym, ◌∙◌, ap, ap₂, subst}
use mathlib.Core.Logic.{◌≢◌}
use mathlib.Core.List.{List, [], ◌∷◌, ◌++◌}
use Prim.Native.Nat.{ℕ, zero, suc, ◌+◌, ◌*◌, ◌/◌, ◌≤◌, ◌<◌}
use native.Mathlib.Decide.{dec_le}
use native.Mathlib.Omega.{arith}
use lib.ListN.{length, get_or, drop, length-append}
use lib.Seq.{get_or-drop}
use Rattle.std.specs.Prelude.{Some, None, MatchOption}
use Rattle.std.specs.Prelude as code
use Rattle.std.specs.Option.{unwrap_or}
use Rattle.std.specs.List.{AllWithin, HoldsAt}
use Rattle.std.specs.Slice.Iter.{chunks_exact_rest, chunks_exact_size, chunks_exact_steps}
use Rattle.std.proofs.lemmas.Iterator.{YieldsList}
use Rattle.std.proofs.lemmas.Iterator.Splits.{YieldsList-from_shown_while}
use Rattle.trial.specs.Parts.{TrialEnd}

-- the numbers of k lines
unfoldable pub numbers : ℕ → List ℕ → List ℕ
numbers zero p = []
numbers (suc k) p = get_or p 0 0 ∷ numbers k (drop 4 p)

numbers_length : (k : ℕ) (p : List ℕ) → length (numbers k p) ≡ k
unfolding numbers
numbers_length zero p = refl
numbers_length (suc k) p = ap suc (numbers_length k (drop 4 p))

numbers_at : (k : ℕ) (p : List ℕ) (i : ℕ) → i < k → get_or (numbers k p) i 0 ≡ get_or p (4 * i) 0
unfolding numbers
numbers_at zero p i l = absurd (omega arith)
numbers_at (suc k) p zero l = refl
numbers_at (suc k) p (suc i) l =
    let e : 4 + 4 * i ≡ 4 * suc i = omega arith in
    numbers_at k (drop 4 p) i (omega arith) ∙ get_or-drop 4 p (4 * i) 0 ∙ ap (λ (j : ℕ). get_or p j 0) e

-- those of all lines
abbrev pub numbers_in : List ℕ → List ℕ
numbers_in p = numbers (length p / 4) p

-- a line before others
front : (line rest : List ℕ) → length line ≡ 4 → (drop 4 (line ++ rest) ≡ rest) × (get_or (line ++ rest) 0 0 ≡ get_or line 0 0)
front (t ∷ c ∷ l ∷ h ∷ []) rest e = (refl, refl)
front [] rest e = absurd (omega arith)
front (t ∷ []) rest e = absurd (omega arith)
front (t ∷ c ∷ []) rest e = absurd (omega arith)
front (t ∷ c ∷ l ∷ []) rest e = absurd (omega arith)
front (t ∷ c ∷ l ∷ h ∷ x ∷ xs) rest e = absurd (omega arith)

numbers_on : (p line rest : List ℕ) → p ≡ line ++ rest → length line ≡ 4 → numbers_in p ≡ get_or line 0 0 ∷ numbers_in rest
unfolding numbers
numbers_on p line rest e l =
    let w = front line rest l in
    let n : length p / 4 ≡ suc (length rest / 4) = omega (arith, ap length e, length-append line rest) in
    ap₂ {C = List ℕ} numbers n e
    ∙ ap₂ {C = List ℕ} (λ (x : ℕ) (q : List ℕ). x ∷ numbers (length rest / 4) q) w.1 w.0

-- the lines of a list give their numbers
pub gives_numbers : {s : _} (list : List ℕ) → chunks_exact_size s ≡ 4 → chunks_exact_rest s ≡ list → YieldsList chunks_exact_steps (λ x. get_or x.now 0 0) s (numbers_in list)
gives_numbers {s} list f e =
    subst (λ (q : List ℕ). YieldsList chunks_exact_steps (λ x. get_or x.now 0 0) s (numbers_in q)) e
    (YieldsList-from_shown_while chunks_exact_steps (λ x. get_or x.now 0 0) (λ s. numbers_in (chunks_exact_rest s)) (λ s. chunks_exact_size s ≡ 4)
    (λ s t p h. numbers_length _ _ ∙ omega (arith, p, h.1.0))
    (λ s x t p h. (h.0 ∙ p, numbers_on _ _ _ h.1.0 (h.1.1 ∙ p)))
    s f)

-- the first line with another number is where the trial ends, or the end of the list
pub trial_ends : (list : List ℕ) → 4 ≤ length list → (found : code.Option ℕ)
    → MatchOption found (AllWithin (λ n. n ≡ get_or list 0 0) (numbers_in list) 0 (length (numbers_in list)))
    (λ i. (i < length (numbers_in list)) × HoldsAt (λ n. n ≢ get_or list 0 0) (numbers_in list) i × AllWithin (λ n. n ≡ get_or list 0 0) (numbers_in list) 0 i)
    → TrialEnd list (unwrap_or found (length list / 4))
trial_ends list l None h =
    let n = numbers_length (length list / 4) list in
    record {
      some = omega arith;
      within = omega arith;
      same = λ i m. sym (numbers_at (length list / 4) list i m) ∙ h i 0 (omega arith) (omega (arith, n));
      other = λ m. absurd (omega arith);
    }
trial_ends list l (Some end) h =
    let n = numbers_length (length list / 4) list in
    let here = numbers_at (length list / 4) list end (omega (arith, n, h.0)) in
    record {
      some = elim (dec_le 1 end) [
        | yes z ↦ z
        | no z ↦ absurd (h.1 0 (here ∙ (let e : 4 * end ≡ 0 = omega arith in ap (λ (j : ℕ). get_or list j 0) e)))
      ];
      within = omega (arith, n, h.0);
      same = λ i m. sym (numbers_at (length list / 4) list i (omega (arith, n, h.0))) ∙ h.2 i 0 (omega arith) m;
      other = λ m e. h.1 0 (here ∙ e);
    }
