-- The loops that start a half: the ends and the negations of the conditions before c stand in the scratch. Assumes nothing.
use mathlib.Core.Path.{◌≡◌, sym, ◌∙◌, ap, subst}
use mathlib.Core.Logic.{◌≢◌, ◌⊎◌, inl, inr}
use mathlib.Core.Bool.{Bool, true, false, cond}
use mathlib.Core.List.{List}
use Prim.Native.Nat.{ℕ, ◌+◌, ◌*◌, ◌-◌, ◌≤◌, ◌<◌}
use native.Mathlib.Decide.{ℕ_discrete}
use native.Mathlib.Omega.{arith}
use lib.ListN.{length, get_or, set, drop, length-set}
use lib.Seq.{get_or-set_same, get_or-set_other, drop-set-lt}
use Rattle.fixpoint.proofs.Cond.{cond_true, cond_false}
use Rattle.semantics.specs.Area.{page_of, top_of, conditions_of}
use Rattle.semantics.specs.Body.{unknown_by_default}
use Rattle.page.specs.Solvable.{solvable}
use Rattle.page.proofs.Head.{head_of}
use Rattle.bits.specs.Words.{has}
use Rattle.index.specs.Readers.{lines_read}
use Rattle.settle.specs.Waiting.{WaitSet}
use Rattle.rounds.specs.Round.{HighsIn, Comparable, Renegated}
use Rattle.index.proofs.Readers.{reads_below}

-- a fact of every condition before c, and of c
pub upto : (P : ℕ → Type 0) (c : ℕ) → ((d : ℕ) → d < c → P d) → P c → (d : ℕ) → d < c + 1 → P d
upto P c f g d l =
    elim (ℕ_discrete d c) [
      | yes z ↦ subst P (sym z) g
      | no z ↦ f d (omega arith)
    ]

module _ (a s₀ : List ℕ) where
  abbrev n : ℕ
  n = conditions_of a

  -- the negations of the conditions before c have their numbers over the low ends
  pub record Refreshing (s : List ℕ) (c : ℕ) : Type 0 where
    pub ready : Comparable a s₀
    pub within : c ≤ n
    pub same_length : length s ≡ length s₀
    pub under : (i : ℕ) → i < 2 * n → get_or s i 0 ≡ get_or s₀ i 0
    pub highs : (d : ℕ) → get_or s (2 * n + 2 * d) 0 ≡ get_or s₀ (2 * n + 2 * d) 0
    pub negated : (d : ℕ) → d < c → get_or s (2 * n + (2 * d + 1)) 0 ≡ top_of a - get_or s₀ (2 * d) 0
    pub beyond : drop (4 * n) s ≡ drop (4 * n) s₀

  -- the high ends of the conditions before c start anew, but for those that are unknown by default
  pub record StartingHighs (s : List ℕ) (c : ℕ) : Type 0 where
    pub long : 4 * n ≤ length s₀
    pub within : c ≤ n
    pub same_length : length s ≡ length s₀
    pub started : (d : ℕ) → d < c → get_or s (2 * n + 2 * d) 0 ≡ cond (unknown_by_default (page_of a) d) (get_or s₀ (2 * n + 2 * d) 0) 0
    pub behind : (d : ℕ) → c ≤ d → get_or s (2 * n + 2 * d) 0 ≡ get_or s₀ (2 * n + 2 * d) 0
    pub rest : (j : ℕ) → ((d : ℕ) → d < n → j ≢ 2 * n + 2 * d) → get_or s j 0 ≡ get_or s₀ j 0
    pub beyond : drop (4 * n) s ≡ drop (4 * n) s₀

  module _ {s : List ℕ} {c : ℕ} (v : StartingHighs s c) (l : c < n) where
    pub kept_high : unknown_by_default (page_of a) c ≡ true → StartingHighs s (c + 1)
    kept_high f =
        record {
          long = v.long;
          within = omega arith;
          same_length = v.same_length;
          started = upto (λ d. get_or s (2 * n + 2 * d) 0 ≡ cond (unknown_by_default (page_of a) d) (get_or s₀ (2 * n + 2 * d) 0) 0) c v.started
              (v.behind c (omega arith) ∙ sym (cond_true (get_or s₀ (2 * n + 2 * c) 0) 0 f));
          behind = λ d m. v.behind d (omega arith);
          rest = v.rest;
          beyond = v.beyond;
        }

    abbrev s' : List ℕ
    s' = set s (2 * n + 2 * c) 0

    pub high_anew : unknown_by_default (page_of a) c ≡ false → StartingHighs s' (c + 1)
    high_anew f =
        record {
          long = v.long;
          within = omega arith;
          same_length = length-set s (2 * n + 2 * c) 0 ∙ v.same_length;
          started = upto (λ d. get_or s' (2 * n + 2 * d) 0 ≡ cond (unknown_by_default (page_of a) d) (get_or s₀ (2 * n + 2 * d) 0) 0) c
              (λ d m. get_or-set_other s (2 * n + 2 * c) (2 * n + 2 * d) 0 0 (λ z. omega arith) ∙ v.started d m)
              (get_or-set_same s (2 * n + 2 * c) 0 0 (omega (arith, v.same_length, v.long)) ∙ sym (cond_false (get_or s₀ (2 * n + 2 * c) 0) 0 f));
          behind = λ d m. get_or-set_other s (2 * n + 2 * c) (2 * n + 2 * d) 0 0 (λ z. omega arith) ∙ v.behind d (omega arith);
          rest = λ j g. get_or-set_other s (2 * n + 2 * c) j 0 0 (g c l) ∙ v.rest j g;
          beyond = drop-set-lt (4 * n) s (2 * n + 2 * c) 0 (omega arith) ∙ v.beyond;
        }

-- the negations of the conditions before c have their numbers over the high ends
module _ (a : List ℕ) (indexed : Bool) (s₀ words₀ : List ℕ) where
  abbrev size : ℕ
  size = conditions_of a

  -- the number of a negation
  abbrev over_high : ℕ → ℕ
  over_high d = top_of a - get_or s₀ (2 * conditions_of a + 2 * d) 0

  -- whoever negates d is woken, if the number is another
  abbrev WokenFor : List ℕ → ℕ → Type 0
  WokenFor words d = get_or s₀ (2 * d + 1) 0 ≢ over_high d → (h : ℕ) → lines_read (2 * d + 1) (page_of a).lines h ≡ true → has words h ≡ true

  pub record StartingLows (s words : List ℕ) (c : ℕ) : Type 0 where
    pub sound : solvable a ≡ true
    pub half : HighsIn a s₀
    pub within : c ≤ size
    pub same_length : length s ≡ length s₀
    pub plain : (d : ℕ) → get_or s (2 * d) 0 ≡ get_or s₀ (2 * d) 0
    pub over : (i : ℕ) → 2 * size ≤ i → get_or s i 0 ≡ get_or s₀ i 0
    pub behind : (d : ℕ) → c ≤ d → get_or s (2 * d + 1) 0 ≡ get_or s₀ (2 * d + 1) 0
    pub negated : (d : ℕ) → d < c → get_or s (2 * d + 1) 0 ≡ over_high d
    pub beyond : drop (4 * size) s ≡ drop (4 * size) s₀
    pub set_in : WaitSet size words
    pub kept : (d : ℕ) → d < 512 → has words₀ d ≡ true → has words d ≡ true
    pub woken : (indexed ≡ false) ⊎ ((d : ℕ) → d < c → WokenFor words d)

  module _ {s words : List ℕ} {c : ℕ} (v : StartingLows s words c) (l : c < size) where
    module _ {s' words' : List ℕ} (r : Renegated a indexed c s s' words words') where
      y : ℕ
      y = top_of a - get_or s (2 * size + 2 * c) 0

      y_is : y ≡ over_high c
      unfolding y
      y_is = ap (λ (k : ℕ). top_of a - k) (v.over (2 * size + 2 * c) (omega arith))

      s_is : s' ≡ set s (2 * c + 1) y
      unfolding y
      s_is = r.stored

      other_at : (j : ℕ) → j ≢ 2 * c + 1 → get_or s' j 0 ≡ get_or s j 0
      other_at j z = ap (λ (x : List ℕ). get_or x j 0) s_is ∙ get_or-set_other s (2 * c + 1) j y 0 z

      next_woken : (indexed ≡ false) ⊎ ((d : ℕ) → d < c + 1 → WokenFor words' d)
      next_woken =
          elim v.woken [
            | inl z ↦ inl z
            | inr f ↦ elim r.woken [
              | inl z ↦ inl z
              | inr g ↦ inr (λ d m. elim (ℕ_discrete d c) [
                | yes z ↦ subst (WokenFor words') (sym z) (λ q h k. g (λ e. q (sym (v.behind c (omega arith)) ∙ e ∙ ap (λ (x : ℕ). top_of a - x) (v.over (2 * size + 2 * c) (omega arith)))) h k)
                | no z ↦ λ q h k. r.kept h (omega (arith, (head_of a v.sound).few, reads_below a v.sound (2 * d + 1) h k)) (f d (omega arith) q h k)
              ])
            ]
          ]

      pub lows_next : StartingLows s' words' (c + 1)
      lows_next =
          record {
            sound = v.sound;
            half = v.half;
            within = omega arith;
            same_length = ap length s_is ∙ length-set s (2 * c + 1) y ∙ v.same_length;
            plain = λ d. other_at (2 * d) (λ z. omega arith) ∙ v.plain d;
            over = λ j m. other_at j (λ z. omega arith) ∙ v.over j m;
            behind = λ d m. other_at (2 * d + 1) (λ z. omega arith) ∙ v.behind d (omega arith);
            negated = upto (λ d. get_or s' (2 * d + 1) 0 ≡ over_high d) c (λ d m. other_at (2 * d + 1) (λ z. omega arith) ∙ v.negated d m)
                (ap (λ (x : List ℕ). get_or x (2 * c + 1) 0) s_is ∙ get_or-set_same s (2 * c + 1) y 0 (omega (arith, v.same_length, v.half.0)) ∙ y_is);
            beyond = ap (drop (4 * size)) s_is ∙ drop-set-lt (4 * size) s (2 * c + 1) y (omega arith) ∙ v.beyond;
            set_in = r.set_in;
            kept = λ d m q. r.kept d m (v.kept d m q);
            woken = next_woken;
          }
