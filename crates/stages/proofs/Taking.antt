-- The next low ends are taken over, one condition that moved after the other. Assumes nothing.
use mathlib.Core.Path.{◌≡◌, sym, ◌∙◌, ap, subst}
use mathlib.Core.Logic.{◌≢◌, ◌⊎◌, inl, inr, ⊎_elim}
use mathlib.Core.Bool.{Bool, true, false}
use mathlib.Core.List.{List}
use Prim.Native.Nat.{ℕ, ◌+◌, ◌*◌, ◌-◌, ◌≤◌, ◌<◌}
use native.Mathlib.Decide.{ℕ_discrete}
use native.Mathlib.Omega.{arith}
use lib.ListN.{length, get_or, drop, length-set}
use lib.Seq.{get_or-set_same, get_or-set_other, drop-set-lt}
use Rattle.semantics.specs.Area.{page_of, top_of, conditions_of}
use Rattle.page.proofs.Head.{head_of}
use Rattle.bits.specs.Sets.{Nobody, Member}
use Rattle.bits.specs.Words.{has, Removed}
use Rattle.index.specs.Readers.{lines_read}
use Rattle.index.proofs.Readers.{reads_below}
use Rattle.settle.specs.Waiting.{WaitSet}
use Rattle.stages.specs.Steps.{ahead, TakenOver, AllTaken}
use Rattle.bits.proofs.Members.{else_same}
use Rattle.settle.proofs.Members.{rest_in}
use Rattle.page.specs.Solvable.{solvable}

-- whoever reads a literal of a condition that moved and was taken over is in the set
abbrev WokenBy : (a : List ℕ) (indexed : Bool) (s₀ moved : List ℕ) → (ℕ → ℕ) → List ℕ → Type 0
WokenBy a indexed s₀ moved code words =
    (indexed ≡ false) ⊎ ((d : ℕ) → d < conditions_of a → has moved d ≡ false → get_or s₀ (2 * d) 0 ≢ ahead a s₀ d → (h : ℕ) → lines_read (code d) (page_of a).lines h ≡ true → has words h ≡ true)

pub record Taking (a : List ℕ) (indexed : Bool) (s₀ s moved lows₀ lows look₀ look : List ℕ) : Type 0 where
  pub sound : solvable a ≡ true
  pub long : 4 * conditions_of a ≤ length s
  pub grades : (d : ℕ) → d < conditions_of a → get_or s₀ (2 * conditions_of a + (2 * d + 1)) 0 ≤ top_of a
  pub same_length : length s ≡ length s₀
  pub odd : (d : ℕ) → get_or s (2 * d + 1) 0 ≡ get_or s₀ (2 * d + 1) 0
  pub upper : (i : ℕ) → 2 * conditions_of a ≤ i → get_or s i 0 ≡ get_or s₀ i 0
  pub beyond : drop (4 * conditions_of a) s ≡ drop (4 * conditions_of a) s₀
  pub moved_in : WaitSet (conditions_of a) moved
  pub lows_in : WaitSet (conditions_of a) lows
  pub look_in : WaitSet (conditions_of a) look
  pub done : (d : ℕ) → d < conditions_of a → has moved d ≡ false → get_or s (2 * d) 0 ≡ ahead a s₀ d
  pub lows_woken : WokenBy a indexed s₀ moved (λ d. 2 * d) lows
  pub look_woken : WokenBy a indexed s₀ moved (λ d. 2 * d + 1) look
  pub lows_kept : (d : ℕ) → d < 512 → has lows₀ d ≡ true → has lows d ≡ true
  pub look_kept : (d : ℕ) → d < 512 → has look₀ d ≡ true → has look d ≡ true
  pub look_same : (indexed ≡ false) → look ≡ look₀

module _ {a : List ℕ} {indexed : Bool} {s₀ s moved lows₀ lows look₀ look : List ℕ} (v : Taking a indexed s₀ s moved lows₀ lows look₀ look) where
  abbrev n : ℕ
  n = conditions_of a

  few : n ≤ 512
  few = (head_of a v.sound).few

  pub taking_last : Nobody moved → AllTaken a indexed s₀ s lows₀ lows look₀ look
  taking_last l =
      let out : (d : ℕ) → d < conditions_of a → has moved d ≡ false = λ d k. l d (omega (arith, few)) in
      record {
        same_length = v.same_length;
        next = λ d k. v.done d k (out d k);
        negations = v.odd;
        upper = v.upper;
        beyond = v.beyond;
        lows_in = v.lows_in;
        look_in = v.look_in;
        lows_kept = v.lows_kept;
        look_kept = v.look_kept;
        lows_woken = ⊎_elim (λ z. inl z) (λ f. inr (λ d k. f d k (out d k))) v.lows_woken;
        look_same = v.look_same;
        look_woken = ⊎_elim (λ z. inl z) (λ f. inr (λ d k. f d k (out d k))) v.look_woken;
      }

  module _ {c : ℕ} (waits : Member moved c) where
    pub taking_real : c < conditions_of a
    taking_real = v.moved_in.inside c waits.within waits.found

    module _ (moved₁ : List ℕ) (x : Removed c moved moved₁) where
      module _ {s' lows' look' : List ℕ} (r : TakenOver a indexed c s s' lows lows' look look') where
        else' : (j : ℕ) → j ≢ 2 * c → get_or s' j 0 ≡ get_or s j 0
        else' j z = ap (λ (t : List ℕ). get_or t j 0) r.stored ∙ get_or-set_other s (2 * c) j (ahead a s c) 0 z

        here : get_or s' (2 * c) 0 ≡ ahead a s₀ c
        here =
            ap (λ (t : List ℕ). get_or t (2 * c) 0) r.stored ∙ get_or-set_same s (2 * c) (ahead a s c) 0 (omega (arith, v.long, taking_real))
            ∙ ap (λ (k : ℕ). top_of a - k) (v.upper (2 * n + (2 * c + 1)) (omega arith))

        woken_next : (code : ℕ → ℕ) (words words' : List ℕ) → WokenBy a indexed s₀ moved code words → ((d : ℕ) → d < 512 → has words d ≡ true → has words' d ≡ true)
            → (indexed ≡ false) ⊎ ((h : ℕ) → lines_read (code c) (page_of a).lines h ≡ true → has words' h ≡ true) → WokenBy a indexed s₀ moved₁ code words'
        woken_next code words words' (inl z) k w = inl z
        woken_next code words words' (inr f) k (inl z) = inl z
        woken_next code words words' (inr f) k (inr g) =
            inr (λ d l q z. elim (ℕ_discrete d c) [
              | yes y ↦ λ h e. g h (subst (λ (j : ℕ). lines_read (code j) (page_of a).lines h ≡ true) y e)
              | no y ↦ λ h e. k h (omega (arith, few, reads_below a v.sound (code d) h e)) (f d l (sym (else_same moved moved₁ c x d (omega (arith, few)) y) ∙ q) z h e)
            ])

        pub taking_next : Taking a indexed s₀ s' moved₁ lows₀ lows' look₀ look'
        taking_next =
            record {
              sound = v.sound;
              long = omega (arith, ap length r.stored, length-set s (2 * c) (ahead a s c), v.long);
              grades = v.grades;
              same_length = ap length r.stored ∙ length-set s (2 * c) (ahead a s c) ∙ v.same_length;
              odd = λ d. else' (2 * d + 1) (λ z. omega arith) ∙ v.odd d;
              upper = λ i l. else' i (λ z. omega (arith, taking_real)) ∙ v.upper i l;
              beyond = ap (drop (4 * n)) r.stored ∙ drop-set-lt (4 * n) s (2 * c) (ahead a s c) (omega (arith, taking_real)) ∙ v.beyond;
              moved_in = rest_in moved moved₁ c x v.moved_in;
              lows_in = r.lows_in;
              look_in = r.look_in;
              done = λ d l q. elim (ℕ_discrete d c) [
                | yes z ↦ subst (λ (j : ℕ). get_or s' (2 * j) 0 ≡ ahead a s₀ j) (sym z) here
                | no z ↦ else' (2 * d) (λ e. z (omega arith)) ∙ v.done d l (sym (else_same moved moved₁ c x d (omega (arith, few)) z) ∙ q)
              ];
              lows_woken = woken_next (λ d. 2 * d) lows lows' v.lows_woken r.lows_kept r.lows_woken;
              look_woken = woken_next (λ d. 2 * d + 1) look look' v.look_woken r.look_kept r.look_woken;
              lows_kept = λ d l q. r.lows_kept d l (v.lows_kept d l q);
              look_kept = λ d l q. r.look_kept d l (v.look_kept d l q);
              look_same = λ z. r.look_same z ∙ v.look_same z;
            }
