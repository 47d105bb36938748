-- The negations of the conditions that were lowered have their numbers over the high ends, one after the other. Assumes nothing.
use mathlib.Core.Path.{◌≡◌, sym, ◌∙◌, ap, subst}
use mathlib.Core.Logic.{◌≢◌, ◌⊎◌, inl, inr, ⊎_elim}
use mathlib.Core.Bool.{Bool, true, false, true≢false}
use mathlib.Core.List.{List}
use Prim.Native.Nat.{ℕ, ◌+◌, ◌*◌, ◌-◌, ◌≤◌, ◌<◌}
use native.Mathlib.Decide.{ℕ_discrete}
use native.Mathlib.Omega.{arith}
use lib.ListN.{length, get_or, set, drop, length-set}
use lib.Seq.{get_or-set_same, get_or-set_other, drop-set-lt}
use Rattle.fixpoint.proofs.KnowledgeOrder.{pair_eq}
use Rattle.semantics.specs.Area.{page_of, top_of, conditions_of}
use Rattle.page.proofs.Head.{head_of}
use Rattle.bits.specs.Sets.{Nobody, Member}
use Rattle.bits.specs.Words.{has, Removed}
use Rattle.index.specs.Readers.{lines_read}
use Rattle.index.proofs.Readers.{reads_below}
use Rattle.settle.specs.Waiting.{WaitSet}
use Rattle.rounds.specs.Round.{Renegated, LowsBegun, Woke}
use Rattle.bits.proofs.Members.{else_same, gone}
use Rattle.settle.proofs.Members.{rest_in}
use Rattle.page.specs.Solvable.{solvable}

-- the number of a negation
abbrev over_high : (a s : List ℕ) → ℕ → ℕ
over_high a s d = top_of a - get_or s (2 * conditions_of a + 2 * d) 0

pub record Following (a : List ℕ) (indexed : Bool) (s₀ s lowered lows₀ lows : List ℕ) : Type 0 where
  pub sound : solvable a ≡ true
  pub long : 4 * conditions_of a ≤ length s
  pub grades : (d : ℕ) → d < conditions_of a → get_or s₀ (2 * conditions_of a + 2 * d) 0 ≤ top_of a
  pub same_length : length s ≡ length s₀
  pub plain : (d : ℕ) → get_or s (2 * d) 0 ≡ get_or s₀ (2 * d) 0
  pub upper : (i : ℕ) → 2 * conditions_of a ≤ i → get_or s i 0 ≡ get_or s₀ i 0
  pub beyond : drop (4 * conditions_of a) s ≡ drop (4 * conditions_of a) s₀
  pub lowered_in : WaitSet (conditions_of a) lowered
  pub lows_in : WaitSet (conditions_of a) lows
  pub kept : (d : ℕ) → d < 512 → has lows₀ d ≡ true → has lows d ≡ true
  pub done : (d : ℕ) → d < conditions_of a → has lowered d ≡ false → get_or s (2 * d + 1) 0 ≡ over_high a s₀ d
  pub todo : (d : ℕ) → d < conditions_of a → has lowered d ≡ true → get_or s (2 * d + 1) 0 ≡ get_or s₀ (2 * d + 1) 0
  pub woken : (indexed ≡ false) ⊎ ((d : ℕ) → d < conditions_of a → has lowered d ≡ false → get_or s₀ (2 * d + 1) 0 ≢ over_high a s₀ d → (h : ℕ) → lines_read (2 * d + 1) (page_of a).lines h ≡ true → has lows h ≡ true)

module _ {a : List ℕ} {indexed : Bool} {s₀ s lowered lows₀ lows : List ℕ} (v : Following a indexed s₀ s lowered lows₀ lows) where
  abbrev n : ℕ
  n = conditions_of a

  few : n ≤ 512
  few = (head_of a v.sound).few

  pub following_last : Nobody lowered → LowsBegun a s₀ s × Woke a indexed s₀ s lows₀ lows
  following_last o =
      let out : (d : ℕ) → d < n → has lowered d ≡ false = λ d l. o d (omega (arith, few)) in (
        record {
          same_length = v.same_length;
          intervals = λ d l. pair_eq (v.plain d) (v.upper (2 * n + 2 * d) (omega arith));
          negated = λ d l. v.done d l (out d l);
          negations = λ d l. v.upper (2 * n + (2 * d + 1)) (omega arith);
          beyond = v.beyond;
        },
        record {
          set_in = v.lows_in;
          kept = v.kept;
          woken = ⊎_elim (λ z. inl z) (λ f. inr (λ d l e. f d l (out d l) (λ y. e (y ∙ sym (v.done d l (out d l)))))) v.woken;
        },
      )

  module _ {c : ℕ} (waits : Member lowered c) where
    pub following_real : c < conditions_of a
    following_real = v.lowered_in.inside c waits.within waits.found

    module _ (lowered₁ : List ℕ) (x : Removed c lowered lowered₁) where
      module _ {s' lows' : List ℕ} (r : Renegated a indexed c s s' lows lows') where
        number : ℕ
        number = top_of a - get_or s (2 * n + 2 * c) 0

        number_is : number ≡ over_high a s₀ c
        unfolding number
        number_is = ap (λ (k : ℕ). top_of a - k) (v.upper (2 * n + 2 * c) (omega arith))

        stored : s' ≡ set s (2 * c + 1) number
        unfolding number
        stored = r.stored

        else' : (j : ℕ) → j ≢ 2 * c + 1 → get_or s' j 0 ≡ get_or s j 0
        else' j z = ap (λ (t : List ℕ). get_or t j 0) stored ∙ get_or-set_other s (2 * c + 1) j number 0 z

        here : get_or s' (2 * c + 1) 0 ≡ over_high a s₀ c
        here = ap (λ (t : List ℕ). get_or t (2 * c + 1) 0) stored ∙ get_or-set_same s (2 * c + 1) number 0 (omega (arith, v.long, following_real)) ∙ number_is

        was : (d : ℕ) → d < n → d ≢ c → has lowered₁ d ≡ has lowered d
        was d l z = else_same lowered lowered₁ c x d (omega (arith, few)) z

        woken' : (indexed ≡ false) ⊎ ((d : ℕ) → d < n → has lowered₁ d ≡ false → get_or s₀ (2 * d + 1) 0 ≢ over_high a s₀ d → (h : ℕ) → lines_read (2 * d + 1) (page_of a).lines h ≡ true → has lows' h ≡ true)
        woken' =
            elim v.woken [
              | inl z ↦ inl z
              | inr f ↦ elim r.woken [
                | inl z ↦ inl z
                | inr g ↦ inr (λ d l q e. elim (ℕ_discrete d c) [
                  | yes z ↦ λ h k. g (λ y. e (subst (λ (j : ℕ). get_or s₀ (2 * j + 1) 0 ≡ over_high a s₀ j) (sym z) (sym (v.todo c following_real waits.found) ∙ y ∙ unfold number in number_is))) h
                      (subst (λ (j : ℕ). lines_read (2 * j + 1) (page_of a).lines h ≡ true) z k)
                  | no z ↦ λ h k. r.kept h (omega (arith, few, reads_below a v.sound (2 * d + 1) h k)) (f d l (sym (was d l z) ∙ q) e h k)
                ])
              ]
            ]

        pub following_next : Following a indexed s₀ s' lowered₁ lows₀ lows'
        following_next =
            record {
              sound = v.sound;
              long = omega (arith, ap length stored, length-set s (2 * c + 1) number, v.long);
              grades = v.grades;
              same_length = ap length stored ∙ length-set s (2 * c + 1) number ∙ v.same_length;
              plain = λ d. else' (2 * d) (λ z. omega arith) ∙ v.plain d;
              upper = λ i l. else' i (λ z. omega (arith, following_real)) ∙ v.upper i l;
              beyond = ap (drop (4 * n)) stored ∙ drop-set-lt (4 * n) s (2 * c + 1) number (omega (arith, following_real)) ∙ v.beyond;
              lowered_in = rest_in lowered lowered₁ c x v.lowered_in;
              lows_in = r.set_in;
              kept = λ d l q. r.kept d l (v.kept d l q);
              done = λ d l q. elim (ℕ_discrete d c) [
                | yes z ↦ subst (λ (j : ℕ). get_or s' (2 * j + 1) 0 ≡ over_high a s₀ j) (sym z) here
                | no z ↦ else' (2 * d + 1) (λ e. z (omega arith)) ∙ v.done d l (sym (was d l z) ∙ q)
              ];
              todo = λ d l q. elim (ℕ_discrete d c) [
                | yes z ↦ absurd (gone_not d l z q)
                | no z ↦ else' (2 * d + 1) (λ e. z (omega arith)) ∙ v.todo d l (sym (was d l z) ∙ q)
              ];
              woken = woken';
            }
          where
            gone_not : (d : ℕ) → d < n → d ≡ c → has lowered₁ d ≡ true → ⊥
            gone_not d l z q = true≢false (sym q ∙ ap (has lowered₁) z ∙ gone lowered lowered₁ c x waits.within)
