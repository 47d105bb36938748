-- From the closed world to the open one: no condition is free, more are, all are. Assumes nothing.
use mathlib.Core.Path.{◌≡◌, refl, sym, ◌∙◌}
use mathlib.Core.Bool.{Bool, true, false}
use Prim.Native.Nat.{ℕ, ◌<◌}
use native.Mathlib.Omega.{arith}
use Rattle.fixpoint.specs.Interval.{Interval, Within, Assign}
use Rattle.fixpoint.specs.KnowledgeOrder.{Under, certainly_false, join}
use Rattle.fixpoint.specs.LeastFixpoint.{Operator, IsLeast, lfp}
use Rattle.fixpoint.specs.Support.{Safe, roof, raise, support, close}
use Rattle.fixpoint.specs.WellFounded.{closed}
use Rattle.fixpoint.specs.AlternatingFixpoint.{mix}
use Rattle.fixpoint.proofs.KnowledgeOrder.{pair_eq, under_trans, under_antisym, under_eq}
use Rattle.fixpoint.proofs.LeastFixpoint.{ext, lfp_under}
use Rattle.fixpoint.proofs.Support.{only_high, silent, safe_by, support_free, support_is}
use Rattle.fixpoint.proofs.WellFounded.{close_operator, closed_within, closed_closes, plain_under_closed}

-- None is free: the definitions are those of a page without default lines, where a safe J answers for two things only ...
abbrev pub none_free : ℕ → Bool
none_free c = false

pub closed_world_safe : {n : ℕ} (top : ℕ) {T : Assign → ℕ → Interval} {I J : Assign} → ((c : ℕ) → c < n → Within top (J c)) → ((c : ℕ) → c < n → Under (J c) certainly_false)
    → ((c : ℕ) → c < n → Under (J c) (T (join I J) c))
    → Safe n top T none_free I J
closed_world_safe top w h g = record { within = w; assumed = h; borne = g }

-- ... and the computations are those that know of no free conditions
unfoldable pub support₀ : ℕ → ℕ → (Assign → ℕ → Interval) → Assign → Assign
support₀ n top T I = roof (lfp n top (λ X c. record { low = (T (join I (roof X)) c).high; high = top }))

unfoldable pub closed₀ : ℕ → ℕ → (Assign → ℕ → Interval) → Assign
closed₀ n top T = lfp n top (λ I. T (join I (support₀ n top T I)))

pub closed_world : (n top : ℕ) (T : Assign → ℕ → Interval) → closed n top T none_free ≡ closed₀ n top T
unfolding closed close support raise closed₀ support₀
closed_world n top T = refl

pub closed_world_mix : (L H : Assign) (c : ℕ) → mix none_free L H c ≡ record { low = (L c).low; high = (H c).high }
closed_world_mix L H c = refl

module _ {n top : ℕ} {T : Assign → ℕ → Interval} (O : Operator n top T) where
  -- The more conditions are free, the less is known.
  module _ {free free' : ℕ → Bool} (more : (c : ℕ) → c < n → free c ≡ true → free' c ≡ true) where
    fewer_safe : {I J : Assign} → Safe n top T free' I J → Safe n top T free I J
    fewer_safe s = safe_by s.within (only_high s) (λ c l f. silent s c l (more c l f)) s.borne

    pub support_fewer : (I : Assign) → ((c : ℕ) → c < n → Within top (I c)) → (c : ℕ) → c < n
        → Under (support n top T free' I c) (support n top T free I c)
    support_fewer I w = (support_is O free I w).greatest (support n top T free' I) (fewer_safe (support_is O free' I w).safe)

    pub closed_fewer : (c : ℕ) → c < n → Under (closed n top T free' c) (closed n top T free c)
    unfolding closed close
    closed_fewer =
        lfp_under (close_operator O free') (closed n top T free) (closed_within O free)
        (λ c l. under_trans (O.mono (join (closed n top T free) (support n top T free' (closed n top T free))) (join (closed n top T free) (support n top T free (closed n top T free))) (λ b m. omega (arith, support_fewer (closed n top T free) (closed_within O free) b m)) c l)
        (under_eq (sym (closed_closes O free c l))))

  -- All are free: the support tells nothing, and the closed reading is the plain one.
  pub closed_all_free : (free : ℕ → Bool) → ((c : ℕ) → c < n → free c ≡ true) → (P : Assign) → IsLeast n top T P → (c : ℕ) → c < n
      → closed n top T free c ≡ P c
  unfolding closed close
  closed_all_free free all P p c l = under_antisym (lfp_under (close_operator O free) P p.within lowers c l) (plain_under_closed O free P p c l)
    where
      same : (b : ℕ) → b < n → join P (support n top T free P) b ≡ P b
      same b m =
          let s : (support n top T free P b).high ≡ top = support_free O free P p.within b m (all b m) in
          let z : Under (support n top T free P b) certainly_false = only_high (support_is O free P p.within).safe b m in
          let w : Within top (P b) = p.within b m in
          pair_eq (omega arith) (omega arith)

      lowers : (b : ℕ) → b < n → Under (T (join P (support n top T free P)) b) (P b)
      lowers b m = under_eq (ext O (join P (support n top T free P)) P same b m ∙ sym (p.fixed b m))
