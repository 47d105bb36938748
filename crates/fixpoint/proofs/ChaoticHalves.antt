-- Each half of a round of the alternating fixed point by chaotic iteration. Assumes nothing.
--
-- The operators of both halves are systems, so any run over them ends in time and where it should. `lift` crosses nothing only where
-- its least fixed point is not crossed, which is why a run asks that of its goal and not of the operator.
use mathlib.Core.Path.{◌≡◌, refl, sym, ◌∙◌, ap}
use mathlib.Core.Logic.{◌≢◌}
use mathlib.Core.Bool.{Bool, true, false, not, ◌&&◌, ◌||◌, cond, true≢false, false≢true}
use Prim.Native.Nat.{ℕ, ◌≤◌, ◌<◌}
use native.Mathlib.Omega.{arith}
use lib.Dec.{eqb}
use Rattle.fixpoint.specs.Interval.{Interval, Within, Ordered, Assign, same}
use Rattle.fixpoint.specs.KnowledgeOrder.{join, unknown}
use Rattle.fixpoint.specs.System.{System}
use Rattle.fixpoint.specs.LeastFixpoint.{IsLeast, lfp}
use Rattle.fixpoint.specs.ChaoticIteration.{woken, DependencyClosed, Step, budget, Kept, Run}
use Rattle.fixpoint.specs.Support.{roof, raise, support}
use Rattle.fixpoint.specs.AlternatingFixpoint.{merge, clip, mix, floor, heard, IsHighs, IsLows, highs, lift, lows}
use Rattle.fixpoint.proofs.Cond.{cond_eq}
use Rattle.fixpoint.proofs.Merge.{merge_in, merge_join, clip_within}
use Rattle.fixpoint.proofs.LeastFixpoint.{lfp_within, lfp_fixed}
use Rattle.fixpoint.proofs.PlainReading.{operator, plain_least}
use Rattle.fixpoint.proofs.Evaluation.{put_other}
use Rattle.fixpoint.proofs.ChaoticIteration.{run_kept, in_time, done}
use Rattle.fixpoint.proofs.Support.{raise_operator}
use Rattle.fixpoint.proofs.AlternatingHalves.{LowIn, HighIn, lift_operator, lows_are, lows_unique, lows_floor, highs_are, highs_unique}

roof_eq : (I X Y : Assign) (b : ℕ) → X b ≡ Y b → join I (roof X) b ≡ join I (roof Y) b
unfolding roof
roof_eq I X Y b e = rw e

mix_eq : (free : ℕ → Bool) (X Y H : Assign) (b : ℕ) → X b ≡ Y b → mix free X H b ≡ mix free Y H b
mix_eq free X Y H b e = rw e

heard_names : (t u : Bool) → (not t && u) ≡ true → u ≡ true
heard_names true u e = absurd (false≢true e)
heard_names false u e = e

names_heard : (t u : Bool) → t ≡ false → u ≡ true → (not t && u) ≡ true
names_heard t u e h = rw (e, h)

-- what is reached is closed under hearing
pub heard_closed : {n : ℕ} (free : ℕ → Bool) (names : ℕ → ℕ → Bool) {reached : ℕ → Bool} → DependencyClosed n names reached
    → DependencyClosed n (heard free names) reached
heard_closed free names closed a b l m r e = closed a b l m r (heard_names (free a) (names a b) e)

module _ {n top : ℕ} {T : Assign → ℕ → Interval} {names : ℕ → ℕ → Bool} (S : System n top T names) (free : ℕ → Bool) where
  pub raise_system : (I : Assign) → ((c : ℕ) → c < n → Within top (I c)) → System n top (raise top T free I) (heard free names)
  unfolding raise
  raise_system I w =
      record {
        local = λ X Y a l h.
            ap (λ (x : ℕ). record { low = x; high = top })
            (cond_eq (free a) (λ f. refl) (λ f. ap (λ (p : Interval). p.high) (S.local (join I (roof X)) (join I (roof Y)) a l (λ b m e. roof_eq I X Y b (h b m (names_heard (free a) (names a b) f e))))));
        mono = (raise_operator (operator S) free I w).mono;
        bounded = (raise_operator (operator S) free I w).bounded;
      }

  pub lift_system : (H : Assign) → System n top (lift top T free H) names
  unfolding lift
  lift_system H =
      record {
        local = λ X Y a l h. ap (λ (p : Interval). merge (free a) (clip top p) (unknown top)) (S.local (mix free X H) (mix free Y H) a l (λ b m e. mix_eq free X Y H b (h b m e)));
        mono = (lift_operator (operator S) free H).mono;
        bounded = (lift_operator (operator S) free H).bounded;
      }

  -- what an evaluation computes
  pub raise_at : (L X : Assign) → LowIn (operator S) free L → ((c : ℕ) → c < n → (X c).low ≤ top)
      → ((c : ℕ) → c < n → free c ≡ true → (X c).low ≡ top) → (c : ℕ) → c < n
      → raise top T free (floor top free L) X c ≡ record { low = cond (free c) top (T (mix free L (roof X)) c).high; high = top }
  unfolding raise roof
  raise_at L X v w f c l =
      ap (λ (p : Interval). record { low = cond (free c) top p.high; high = top })
      (S.local (join (floor top free L) (roof X)) (mix free L (roof X)) c l (λ b m e. merge_join (free b) (L b) (unknown top) (roof X b) (v b m) (omega arith) (f b m) (λ d. w b m)))

  pub lift_at : (H X : Assign) → HighIn (operator S) free H → LowIn (operator S) free X → (c : ℕ) → c < n
      → lift top T free H X c ≡ floor top free (T (mix free X H)) c
  unfolding lift
  lift_at H X v w c l =
      ap (λ (p : Interval). merge (free c) p (unknown top)) (clip_within (S.bounded (mix free X H) (λ b m. merge_in (free b) (X b) (H b) (w b m) (v b m)) c l))

  -- a run to the high ends over the floor of L
  module _ (L : Assign) (w : LowIn (operator S) free L) where
    pub floor_system : System n top (raise top T free (floor top free L)) (heard free names)
    floor_system = raise_system (floor top free L) w

    pub floor_sane : (c : ℕ) → c < n → Ordered (lfp n top (raise top T free (floor top free L)) c)
    floor_sane c l = omega (arith, lfp_within (operator floor_system) c l, at c l)
      where
        at : (c : ℕ) → c < n → (lfp n top (raise top T free (floor top free L)) c).high ≡ top
        at c l = unfold raise in ap (λ (p : Interval). p.high) (lfp_fixed (operator floor_system) c l)

    abbrev pub KeptHighs : (ℕ → Bool) → Assign → (ℕ → Bool) → ℕ → Type 0
    KeptHighs reached X W k = Kept n top (raise top T free (floor top free L)) (heard free names) reached (lfp n top (raise top T free (floor top free L))) X W k

    module _ {reached : ℕ → Bool} (closed : DependencyClosed n names reached) {X : Assign} {W : ℕ → Bool} {k : ℕ} where
      pub highs_run : Run n top (raise top T free (floor top free L)) (heard free names) reached X W k → KeptHighs reached X W k
      highs_run r = run_kept floor_system (heard_closed free names closed) (plain_least floor_system) (λ c l e. floor_sane c l) r

      pub highs_time : KeptHighs reached X W k → k ≤ budget n top (heard free names) reached
      highs_time r = in_time floor_system (heard_closed free names closed) (plain_least floor_system) r

      pub highs_done : KeptHighs reached X W k → ((c : ℕ) → c < n → W c ≡ false) → (c : ℕ) → c < n → reached c ≡ true
          → (X c).low ≡ (highs n top T free L c).high
      unfolding highs support roof
      highs_done r q c l a = ap (λ (p : Interval). p.low) (done floor_system (heard_closed free names closed) (plain_least floor_system) r q c l a)

      pub highs_rest : {H : Assign} → IsHighs n top T free L H → KeptHighs reached X W k → ((c : ℕ) → c < n → W c ≡ false) → (c : ℕ) → c < n
          → reached c ≡ true → free c ≡ false → (X c).low ≡ (H c).high
      highs_rest p r q c l a e = highs_done r q c l a ∙ highs_unique (operator S) free (highs_are (operator S) free L w) p c l e

  -- a run to the floor over the high ends of H
  module _ (H : Assign) where
    abbrev pub KeptLows : (ℕ → Bool) → Assign → (ℕ → Bool) → ℕ → Type 0
    KeptLows reached X W k = Kept n top (lift top T free H) names reached (lows n top T free H) X W k

    pub lows_least_fixed : IsLeast n top (lift top T free H) (lows n top T free H)
    unfolding lows
    lows_least_fixed = plain_least (lift_system H)

    module _ {reached : ℕ → Bool} (closed : DependencyClosed n names reached) {X : Assign} {W : ℕ → Bool} {k : ℕ} where
      pub lows_run : ((c : ℕ) → c < n → reached c ≡ true → Ordered (lows n top T free H c))
          → Run n top (lift top T free H) names reached X W k → KeptLows reached X W k
      lows_run sane r = run_kept (lift_system H) closed lows_least_fixed sane r

      pub lows_time : KeptLows reached X W k → k ≤ budget n top names reached
      lows_time r = in_time (lift_system H) closed lows_least_fixed r

      pub lows_done : KeptLows reached X W k → ((c : ℕ) → c < n → W c ≡ false) → (c : ℕ) → c < n → reached c ≡ true
          → X c ≡ lows n top T free H c
      lows_done r = done (lift_system H) closed lows_least_fixed r

      pub lows_rest : {L : Assign} → HighIn (operator S) free H → IsLows n top T free H L → KeptLows reached X W k
          → ((c : ℕ) → c < n → W c ≡ false) → (c : ℕ) → c < n → reached c ≡ true → X c ≡ floor top free L c
      lows_rest w p r q c l a = lows_done r q c l a ∙ sym (lows_floor (operator S) free H c l) ∙ lows_unique (operator S) free (lows_are (operator S) free H w) p c l

-- while the high ends are computed, a free condition that holds top and does not wait stays so
module _ {n : ℕ} {U : Assign → ℕ → Interval} (free : ℕ → Bool) (names : ℕ → ℕ → Bool) {reached : ℕ → Bool} {A : ℕ} {X X' : Assign} {W W' : ℕ → Bool} (s : Step n U (heard free names) reached A X W X' W')
    (c : ℕ) (l : c < n) (f : free c ≡ true) (h : W c ≡ false) where
  not_now : c ≢ A
  not_now e = true≢false (sym s.waits ∙ sym (ap W e) ∙ h)

  pub free_kept : X' c ≡ X c
  free_kept = s.puts c l ∙ put_other X A (U X A) c not_now

  pub free_rests : W' c ≡ false
  unfolding woken
  free_rests = s.wakes c l ∙ quiet (W c) (not (eqb c A)) (not (same (X A) (U X A))) (reached c) (free c) (names c A) h f
    where
      quiet : (a b d r t u : Bool) → a ≡ false → t ≡ true → ((a && b) || (d && (r && (not t && u)))) ≡ false
      quiet false b true true true u e g = refl
      quiet false b true false true u e g = refl
      quiet false b false r true u e g = refl
      quiet true b d r t u e g = absurd (true≢false e)
      quiet false b d r false u e g = absurd (false≢true g)
