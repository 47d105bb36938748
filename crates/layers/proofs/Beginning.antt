-- The heads of R lines are not met, in a scan over the lines. Assumes nothing.
use mathlib.Core.Path.{◌≡◌, refl, sym, ◌∙◌, ap, subst}
use mathlib.Core.Logic.{◌⊎◌, inl, inr, ⊎_elim}
use mathlib.Core.Bool.{true, false, false≢true}
use mathlib.Core.List.{List}
use Prim.Native.Nat.{ℕ, ◌+◌, ◌≤◌, ◌<◌}
use native.Mathlib.Decide.{ℕ_discrete, dec_le}
use native.Mathlib.Omega.{arith}
use lib.ListN.{length, get_or, drop, replicate, get_or-eq_default}
use Rattle.std.proofs.lemmas.List.{length-replicate, get_or-replicate}
use Rattle.semantics.specs.Area.{page_of, line_at, conditions_of, count_of, first_line}
use Rattle.page.specs.Lines.{Next, line_names, Scanning}
use Rattle.page.proofs.Naming.{line_fact, line_over}
use Rattle.page.proofs.Scanning.{scanning_first, scanning_moved}
use Rattle.layers.specs.Levels.{level_in, HeadOpened, Begun}
use Rattle.layers.proofs.Behind.{Behind, by_names, behind_first_lem, behind_next, behind_last}
use Rattle.page.specs.Solvable.{solvable}

-- one line
module _ (a : List ℕ) (at : ℕ) (levels : List ℕ) where
  abbrev head : ℕ
  head = get_or a at 0

  none_opened : ((b : ℕ) → line_names (line_at (drop at a)) b ≡ false) → HeadOpened a at levels levels
  none_opened f = record { size = refl; others = λ c e. refl; head = inr refl; named = λ b q. absurd (false≢true (sym (f b) ∙ q)) }

  pub fact_opened : get_or a (at + 1) 0 < 1 → HeadOpened a at levels levels
  fact_opened l = none_opened (λ b. line_fact a at b l)

  pub over_opened : 5 < get_or a (at + 1) 0 → HeadOpened a at levels levels
  over_opened l = none_opened (λ b. line_over a at b l)

-- every level is that of what is done
pub done_either : (levels : List ℕ) → ((c : ℕ) → c < length levels → level_in levels c ≡ 513) → (c : ℕ) → (level_in levels c ≡ 0) ⊎ (level_in levels c ≡ 513)
done_either levels h c =
    elim (dec_le (length levels) c) [
      | yes l ↦ inl (get_or-eq_default levels 0 l)
      | no l ↦ inr (h c (omega arith))
    ]

pub filled_either : (n : ℕ) (levels : List ℕ) → levels ≡ replicate n 513 → (c : ℕ) → (level_in levels c ≡ 0) ⊎ (level_in levels c ≡ 513)
filled_either n levels e =
    done_either levels (λ c l. rw e (get_or-replicate n c 513 0 (omega (arith, ap length e, length-replicate {A = ℕ}))))

-- the scan stands at `at`, behind k lines
module _ (a : List ℕ) where
  pub record Beginning (levels : List ℕ) (at k : ℕ) : Type 0 where
    pub scan : Scanning a at k
    pub size : length levels ≡ conditions_of a
    pub either : (c : ℕ) → (level_in levels c ≡ 0) ⊎ (level_in levels c ≡ 513)
    pub named : Behind by_names a (λ x b. level_in levels x ≡ 0) at k

  pub beginning_first : {levels : List ℕ} → solvable a ≡ true → length levels ≡ conditions_of a → ((c : ℕ) → (level_in levels c ≡ 0) ⊎ (level_in levels c ≡ 513))
      → {at k : ℕ} → (at ≡ first_line a) × (k ≡ 0) → Beginning levels at k
  beginning_first ok s all z = record { scan = rw (z.0, z.1) (scanning_first a ok); size = s; either = all; named = behind_first_lem by_names a z }

  module _ {levels levels' : List ℕ} {at k at' k' : ℕ} (s : Beginning levels at k) (l : k < count_of a) (e : Next a at k at' k') (h : HeadOpened a at levels levels') where
    stays_zero : (c : ℕ) → level_in levels c ≡ 0 → level_in levels' c ≡ 0
    stays_zero c z =
        elim (ℕ_discrete c (get_or a at 0)) [
          | yes q ↦ subst (λ (x : ℕ). level_in levels x ≡ 0 → level_in levels' x ≡ 0) (sym q) (λ y. ⊎_elim (λ p. p) (λ p. p ∙ y) h.head) z
          | no q ↦ h.others c q ∙ z
        ]

    stays_either : (c : ℕ) → (level_in levels' c ≡ 0) ⊎ (level_in levels' c ≡ 513)
    stays_either c =
        elim (ℕ_discrete c (get_or a at 0)) [
          | yes q ↦
              subst (λ (x : ℕ). (level_in levels x ≡ 0) ⊎ (level_in levels x ≡ 513) → (level_in levels' x ≡ 0) ⊎ (level_in levels' x ≡ 513)) (sym q)
              (λ y. ⊎_elim (λ p. inl p) (λ p. ⊎_elim (λ w. inl (p ∙ w)) (λ w. inr (p ∙ w)) y) h.head) (s.either c)
          | no q ↦ ⊎_elim (λ w. inl (h.others c q ∙ w)) (λ w. inr (h.others c q ∙ w)) (s.either c)
        ]

    pub beginning_next : Beginning levels' at' k'
    beginning_next =
        record {
          scan = scanning_moved a s.scan l e;
          size = h.size ∙ s.size;
          either = stays_either;
          named = behind_next by_names a s.scan s.named l e (λ x b p. stays_zero x p) (λ b p. h.named b p);
        }

  pub beginning_last : {levels : List ℕ} {at k : ℕ} → Beginning levels at k → count_of a ≤ k → Begun (page_of a) levels
  unfolding page_of
  beginning_last s l = record { size = s.size; either = s.either; named = behind_last by_names a s.named l }
