-- The sets of those that wait, where the rounds start: nobody, and every reached condition. Assumes nothing.
use mathlib.Core.Path.{◌≡◌, sym, ◌∙◌}
use mathlib.Core.Logic.{◌⊎◌, inl, inr, ⊎_elim}
use mathlib.Core.Bool.{Bool, true, false, true≢false}
use mathlib.Core.List.{List}
use Prim.Native.Nat.{ℕ, ◌≤◌, ◌<◌}
use Rattle.semantics.specs.Area.{conditions_of}
use Rattle.semantics.specs.Grade.{End}
use Rattle.semantics.specs.Table.{member}
use Rattle.bits.specs.Words.{has}
use Rattle.settle.specs.Waiting.{WaitSet, MaybeWaiting}
use Rattle.rounds.specs.Round.{MarkedWait}

-- the reached conditions before c wait
module _ (n : ℕ) (m : List Bool) where
  pub record WaitingAll (words : List ℕ) (c : ℕ) : Type 0 where
    pub few : n ≤ 512
    pub within : c ≤ n
    pub set : WaitSet n words
    pub waits : (d : ℕ) → d < c → member m d ≡ true → has words d ≡ true

-- a set of nobody
pub nobody_waits : {n : ℕ} {words : List ℕ} → ((c : ℕ) → has words c ≡ false) → WaitSet n words
nobody_waits h = record { inside = λ c l r. absurd (true≢false (sym r ∙ h c)) }

-- if there is an index, all who are reached wait
pub all_indexed : (e : End) (a : List ℕ) (m : List Bool) (indexed : Bool) (s words : List ℕ) → (indexed ≡ false) ⊎ MarkedWait (conditions_of a) m words → MaybeWaiting e a m indexed s words
all_indexed e a m indexed s words = ⊎_elim (λ z. inl z) (λ w. inr (record { set = w.set; rests = λ c l r q. absurd (true≢false (sym (w.waits c l r) ∙ q)) }))
