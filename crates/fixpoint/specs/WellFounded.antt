-- The closed reading: the well-founded semantics, where what has no support is false unless it is free. Assumes nothing.
use Rattle.std.specs.Prelude.{◌≡◌, Bool, ℕ, ◌<◌}
use Rattle.fixpoint.specs.Interval.{Interval, Within, Assign}
use Rattle.fixpoint.specs.KnowledgeOrder.{Under, join}
use Rattle.fixpoint.specs.LeastFixpoint.{iter, lfp}
use Rattle.fixpoint.specs.Support.{IsSupport, close}

-- I has a support, and equals T at I joined with that support. (There is one support: `support_unique`.)
pub record Closes (n top : ℕ) (T : Assign → ℕ → Interval) (free : ℕ → Bool) (I : Assign) : Type 0 where
  pub within : (c : ℕ) → c < n → Within top (I c)
  pub its_support : Assign
  pub is_support : IsSupport n top T free I its_support
  pub equal : (c : ℕ) → c < n → I c ≡ T (join I its_support) c

-- C is the least in knowledge of those
pub record IsClosedReading (n top : ℕ) (T : Assign → ℕ → Interval) (free : ℕ → Bool) (C : Assign) : Type 0 where
  pub closes : Closes n top T free C
  pub least : (I : Assign) → Closes n top T free I → (c : ℕ) → c < n → Under (C c) (I c)

unfoldable pub closed : ℕ → ℕ → (Assign → ℕ → Interval) → (ℕ → Bool) → Assign
closed n top T free = lfp n top (close n top T free)

-- assignment k on the way there, which defines the count of rounds
unfoldable pub stage : ℕ → ℕ → (Assign → ℕ → Interval) → (ℕ → Bool) → ℕ → Assign
stage n top T free = iter top (close n top T free)
