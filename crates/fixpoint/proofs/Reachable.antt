-- The readings on what is reached do not depend on anything else. Assumes nothing.
use mathlib.Core.Path.{◌≡◌, refl, sym, ◌∙◌, ap, ap₂}
use mathlib.Core.Logic.{◌↔◌}
use mathlib.Core.Bool.{Bool, true, false, cond}
use Prim.Native.Nat.{ℕ, zero, suc, ◌+◌, ◌*◌, ◌≤◌, ◌<◌, min, max}
use Rattle.fixpoint.specs.Interval.{Interval, Within, Ordered, Assign}
use Rattle.fixpoint.specs.KnowledgeOrder.{Under, Alike, join, unknown}
use Rattle.fixpoint.specs.System.{System, Consistent, Agrees}
use Rattle.fixpoint.specs.LeastFixpoint.{iter, lfp}
use Rattle.fixpoint.specs.ChaoticIteration.{DependencyClosed}
use Rattle.fixpoint.specs.Support.{roof, raise, support, close}
use Rattle.fixpoint.specs.WellFounded.{closed}
use Rattle.fixpoint.specs.AlternatingFixpoint.{merge, mix, floor, clip, highs, lift, lows, turn, turns}
use Rattle.fixpoint.specs.Reachable.{only, IsCount, HighLocal, Unseen}
use Rattle.fixpoint.proofs.Cond.{cond_eq}
use Rattle.fixpoint.proofs.KnowledgeOrder.{under_refl}
use Rattle.fixpoint.proofs.Merge.{merge_cong}

-- operators that make alike of alike have alike iterates
pub iter_alike : {n : ℕ} {reached : ℕ → Bool} (top : ℕ) (U Z : Assign → ℕ → Interval)
    → ((I J : Assign) → Alike n reached I J → Alike n reached (U I) (Z J)) → (k : ℕ) → Alike n reached (iter top U k) (iter top Z k)
unfolding iter
iter_alike top U Z h zero c l r = refl
iter_alike top U Z h (suc k) c l r = h (iter top U k) (iter top Z k) (iter_alike top U Z h k) c l r

pub lfp_alike : {n : ℕ} {reached : ℕ → Bool} (top : ℕ) (U Z : Assign → ℕ → Interval)
    → ((I J : Assign) → Alike n reached I J → Alike n reached (U I) (Z J)) → Alike n reached (lfp n top U) (lfp n top Z)
unfolding lfp
lfp_alike {n} top U Z h = iter_alike top U Z h (n * (top + top))

join_eq : (I J X Y : Assign) (b : ℕ) → I b ≡ J b → X b ≡ Y b → join I X b ≡ join J Y b
join_eq I J X Y b e f = rw (e, f)

roof_eq : (X Y : Assign) (b : ℕ) → X b ≡ Y b → roof X b ≡ roof Y b
unfolding roof
roof_eq X Y b e = rw e

-- Two operators and two sets of free conditions that are the same on what is reached, the first operator a system.
-- Most often they are one.
module _ {n top : ℕ} {T : Assign → ℕ → Interval} {names : ℕ → ℕ → Bool} (S : System n top T names)
    {reached : ℕ → Bool} (shut : DependencyClosed n names reached)
    {Z : Assign → ℕ → Interval} (same : (I : Assign) → Alike n reached (T I) (Z I))
    {free free' : ℕ → Bool} (even : (c : ℕ) → c < n → reached c ≡ true → free c ≡ free' c) where
  pub T_alike : (I J : Assign) → Alike n reached I J → Alike n reached (T I) (Z J)
  T_alike I J h c l r = S.local I J c l (λ b m e. h b m (shut c b l m r e)) ∙ same J c l r

  -- the plain reading
  pub plain_alike : Alike n reached (lfp n top T) (lfp n top Z)
  plain_alike = lfp_alike top T Z T_alike

  pub raise_alike : (I J : Assign) → Alike n reached I J → (X Y : Assign) → Alike n reached X Y
      → Alike n reached (raise top T free I X) (raise top Z free' J Y)
  unfolding raise
  raise_alike I J h X Y g c l r =
      ap₂ (λ (t : Bool) (p : Interval). record { low = cond t top p.high; high = top }) (even c l r)
      (T_alike (join I (roof X)) (join J (roof Y)) (λ b m e. join_eq I J (roof X) (roof Y) b (h b m e) (roof_eq X Y b (g b m e))) c l r)

  pub support_alike : (I J : Assign) → Alike n reached I J → Alike n reached (support n top T free I) (support n top Z free' J)
  unfolding support
  support_alike I J h c l r = roof_eq _ _ c (lfp_alike top (raise top T free I) (raise top Z free' J) (raise_alike I J h) c l r)

  pub close_alike : (I J : Assign) → Alike n reached I J → Alike n reached (close n top T free I) (close n top Z free' J)
  unfolding close
  close_alike I J h =
      T_alike (join I (support n top T free I)) (join J (support n top Z free' J)) (λ b m e. join_eq I J (support n top T free I) (support n top Z free' J) b (h b m e) (support_alike I J h b m e))

  -- the closed reading
  pub closed_alike : Alike n reached (closed n top T free) (closed n top Z free')
  unfolding closed
  closed_alike = lfp_alike top (close n top T free) (close n top Z free') close_alike

  -- the two halves, each over the other alone
  pub highs_alike : (I J : Assign) → Alike n reached (floor top free I) (floor top free' J)
      → Alike n reached (highs n top T free I) (highs n top Z free' J)
  unfolding highs
  highs_alike I J h = support_alike (floor top free I) (floor top free' J) h

  pub lift_alike : (I J : Assign) → ((c : ℕ) → c < n → reached c ≡ true → free c ≡ false → (I c).high ≡ (J c).high) → (X Y : Assign)
      → Alike n reached (floor top free X) (floor top free' Y)
      → Alike n reached (lift top T free I X) (lift top Z free' J Y)
  unfolding lift
  lift_alike I J h X Y g c l r =
      ap₂ (λ (t : Bool) (p : Interval). merge t (clip top p) (unknown top)) (even c l r)
      (T_alike (mix free X I) (mix free' Y J) (λ b m e. merge_cong (free b) (free' b) top (X b) (Y b) (I b) (J b) (even b m e) (g b m e) (h b m e)) c l r)

  floor_alike : (I J : Assign) → Alike n reached I J → Alike n reached (floor top free I) (floor top free' J)
  floor_alike I J h c l r = ap₂ (λ (t : Bool) (p : Interval). merge t p (unknown top)) (even c l r) (h c l r)

  pub lows_alike : (I J : Assign) → ((c : ℕ) → c < n → reached c ≡ true → free c ≡ false → (I c).high ≡ (J c).high)
      → Alike n reached (lows n top T free I) (lows n top Z free' J)
  unfolding lows
  lows_alike I J h = lfp_alike top (lift top T free I) (lift top Z free' J) (λ X Y g. lift_alike I J h X Y (floor_alike X Y g))

  pub turn_alike : (I J : Assign) → Alike n reached I J → Alike n reached (turn n top T free I) (turn n top Z free' J)
  unfolding turn
  turn_alike I J h =
      lows_alike (highs n top T free I) (highs n top Z free' J) (λ c l r e. ap (λ (p : Interval). p.high) (highs_alike I J (floor_alike I J h) c l r))

  pub turns_alike : (k : ℕ) → Alike n reached (turns n top T free k) (turns n top Z free' k)
  unfolding turns
  turns_alike = iter_alike top (turn n top T free) (turn n top Z free') turn_alike

-- what is not reached may be held at any J
either : (Q : Interval → Interval → Type 0) (t : Bool) (p q r : Interval) → Q p q → Q r r → Q (cond t p r) (cond t q r)
either Q true p q r h g = h
either Q false p q r h g = g

module _ (n : ℕ) (T : Assign → ℕ → Interval) (reached : ℕ → Bool) (J : Assign) where
  pub only_same : (I : Assign) → Alike n reached (T I) (only reached J T I)
  unfolding only
  only_same I c l r = rw r

  pub only_system : {top : ℕ} {names : ℕ → ℕ → Bool} → System n top T names → ((c : ℕ) → c < n → Within top (J c))
      → System n top (only reached J T) names
  unfolding only
  only_system {top} S w =
      record {
        local = λ I K a l h. ap (λ (p : Interval). cond (reached a) p (J a)) (S.local I K a l h);
        mono = λ I K h a l. either Under (reached a) (T I a) (T K a) (J a) (S.mono I K h a l) (under_refl (J a));
        bounded = λ I h a l. either (λ p q. Within top p) (reached a) (T I a) (T I a) (J a) (S.bounded I h a l) (w a l);
      }

  pub only_consistent : Consistent n T → ((c : ℕ) → c < n → Ordered (J c)) → Consistent n (only reached J T)
  unfolding only
  only_consistent F o = record { consistent = λ I h a l. either (λ p q. Ordered p) (reached a) (T I a) (T I a) (J a) (F.consistent I h a l) (o a l) }

  pub only_agrees : Agrees n T → ((c : ℕ) → c < n → Ordered (J c)) → Agrees n (only reached J T)
  unfolding only
  only_agrees G o = record { agrees = λ I K h g c l. either (λ p q. p.low ≤ q.high) (reached c) (T I c) (T K c) (J c) (G.agrees I K h g c l) (o c l) }

  pub closed_only : (free : ℕ → Bool) {top : ℕ} {names : ℕ → ℕ → Bool} → System n top T names → DependencyClosed n names reached
      → Alike n reached (closed n top T free) (closed n top (only reached J T) free)
  closed_only free S shut = closed_alike S shut only_same {free = free} (λ c l r. refl)

  pub plain_only : {top : ℕ} {names : ℕ → ℕ → Bool} → System n top T names → DependencyClosed n names reached
      → Alike n reached (lfp n top T) (lfp n top (only reached J T))
  plain_only S shut = plain_alike S shut only_same {free = λ c. false} (λ c l r. refl)

-- the support sees the high ends, and only the low ends that are negated
module _ {n : ℕ} (top : ℕ) {T : Assign → ℕ → Interval} {names negates : ℕ → ℕ → Bool} (N : HighLocal n T names negates)
    {reached : ℕ → Bool} (shut : DependencyClosed n names reached) (free : ℕ → Bool) where
  module _ (I J : Assign) (level : (a b : ℕ) → a < n → b < n → reached a ≡ true → free a ≡ false → names a b ≡ true → (I b).high ≡ (J b).high)
      (seen : (a b : ℕ) → a < n → b < n → reached a ≡ true → free a ≡ false → negates a b ≡ true → (I b).low ≡ (J b).low) where
    raise_seen : (X Y : Assign) → Alike n reached X Y → Alike n reached (raise top T free I X) (raise top T free J Y)
    unfolding raise roof
    raise_seen X Y g c l r =
        ap (λ (x : ℕ). record { low = x; high = top })
        (cond_eq (free c) (λ e. refl) (λ f. N.high_local (join I (roof X)) (join J (roof Y)) c l
        (λ b m e. ap₂ min (level c b l m r f e) (ap (λ (p : Interval). p.low) (g b m (shut c b l m r e))))
        (λ b m e. ap (λ (x : ℕ). max x 0) (seen c b l m r f e))))

    pub support_seen : Alike n reached (support n top T free I) (support n top T free J)
    unfolding support
    support_seen c l r = roof_eq _ _ c (lfp_alike top (raise top T free I) (raise top T free J) raise_seen c l r)

  pub highs_seen : (L M : Assign) → Unseen n names negates free reached L M → Alike n reached (highs n top T free L) (highs n top T free M)
  unfolding highs
  highs_seen L M u =
      support_seen (floor top free L) (floor top free M) (λ a b l m r f e. cond_eq (free b) (λ g. u.highs a b l m r f e g) (λ g. refl)) u.lows

-- rounds that are alike have one count
pub count_alike : {n top : ℕ} {U Z : Assign → ℕ → Interval} {reached : ℕ → Bool} → ((k : ℕ) → Alike n reached (iter top U k) (iter top Z k))
    → {k : ℕ} → IsCount n top U reached k → IsCount n top Z reached k
count_alike h {k} i =
    record {
      still = λ c l r. sym (h k c l r) ∙ i.still c l r ∙ h (suc k) c l r;
      moving = λ j m e. i.moving j m (λ c l r. h j c l r ∙ e c l r ∙ sym (h (suc j) c l r));
    }

pub count_only : {n top : ℕ} {T : Assign → ℕ → Interval} {names : ℕ → ℕ → Bool} → System n top T names → {reached : ℕ → Bool}
    → DependencyClosed n names reached → (free : ℕ → Bool) (J : Assign) {k : ℕ}
    → IsCount n top (close n top T free) reached k ↔ IsCount n top (close n top (only reached J T) free) reached k
count_only {n} {top} {T} S {reached} shut free J {k} = (count_alike both, count_alike (λ k c l r. sym (both k c l r)))
  where
    both : (k : ℕ) → Alike n reached (iter top (close n top T free) k) (iter top (close n top (only reached J T) free) k)
    both = iter_alike top (close n top T free) (close n top (only reached J T) free) (close_alike S shut (only_same n T reached J) {free = free} (λ c l r. refl))
