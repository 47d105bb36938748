-- Safe assignments and the support: what may be taken as false. Assumes nothing.
use Rattle.std.specs.Prelude.{Bool, cond, ℕ, ◌<◌}
use Rattle.fixpoint.specs.Interval.{Interval, Within, Assign}
use Rattle.fixpoint.specs.KnowledgeOrder.{Under, unknown, certainly_false, join}
use Rattle.fixpoint.specs.LeastFixpoint.{lfp}

-- The default assumption: the most that may be taken of a condition which nothing supports. It is [0; 0], false, but for the
-- free conditions, those unknown by default, where it is [0; top] (the any-world assumption). With none free it is all-[0; 0].
abbrev pub assumption : ℕ → (ℕ → Bool) → Assign
assumption top free c = cond (free c) (unknown top) certainly_false

-- J is safe over I: pairs of grades, at or under the default assumption, and at or under T taken at I joined with J
pub record Safe (n top : ℕ) (T : Assign → ℕ → Interval) (free : ℕ → Bool) (I J : Assign) : Type 0 where
  pub within : (c : ℕ) → c < n → Within top (J c)
  pub assumed : (c : ℕ) → c < n → Under (J c) (assumption top free c)
  pub borne : (c : ℕ) → c < n → Under (J c) (T (join I J) c)

-- the support of I: J is the greatest safe assignment over I
pub record IsSupport (n top : ℕ) (T : Assign → ℕ → Interval) (free : ℕ → Bool) (I J : Assign) : Type 0 where
  pub safe : Safe n top T free I J
  pub greatest : (K : Assign) → Safe n top T free I K → (c : ℕ) → c < n → Under (K c) (J c)

-- The support, computed. Greatest in knowledge is least in the high ends, so it is a least fixed point
-- of assignments whose low ends stand for the support's high ends.
unfoldable pub roof : Assign → Assign
roof X c = record { low = 0; high = (X c).low }

unfoldable pub raise : ℕ → (Assign → ℕ → Interval) → (ℕ → Bool) → Assign → Assign → Assign
raise top T free I X c = record { low = cond (free c) top (T (join I (roof X)) c).high; high = top }

unfoldable pub support : ℕ → ℕ → (Assign → ℕ → Interval) → (ℕ → Bool) → Assign → Assign
support n top T free I = roof (lfp n top (raise top T free I))

-- T at I joined with its support
unfoldable pub close : ℕ → ℕ → (Assign → ℕ → Interval) → (ℕ → Bool) → Assign → Assign
close n top T free I = T (join I (support n top T free I))
