-- The floor over the high ends of a round: the low ends, and the high ends of the conditions that are unknown by default. Assumes nothing.
use mathlib.Core.Path.{◌≡◌, refl, sym, ◌∙◌, ap, subst}
use mathlib.Core.Logic.{◌⊎◌, inl, inr, ⊎_elim}
use mathlib.Core.Bool.{Bool, true, false, cond, true≢false, false≢true}
use mathlib.Core.List.{List}
use Prim.Native.Nat.{ℕ, ◌+◌, ◌*◌, ◌-◌, ◌≤◌, ◌<◌}
use native.Mathlib.Decide.{ℕ_discrete}
use native.Mathlib.Omega.{arith}
use lib.ListN.{length, get_or, drop}
use Rattle.fixpoint.specs.Interval.{Interval, Within}
use Rattle.fixpoint.specs.KnowledgeOrder.{Under, Alike}
use Rattle.fixpoint.specs.AlternatingFixpoint.{mix}
use Rattle.fixpoint.proofs.Cond.{by_bool, cond_true, cond_false, cond_most, cond_least, cond_le}
use Rattle.fixpoint.proofs.KnowledgeOrder.{pair_eq}
use Rattle.fixpoint.proofs.Merge.{floor_in}
use Rattle.fixpoint.proofs.PlainReading.{operator}
use Rattle.fixpoint.proofs.AlternatingHalves.{lows_anti}
use Rattle.fixpoint.proofs.Sum.{sum_le, sum_eq, sum_drop}
use Rattle.semantics.specs.Area.{page_of, top_of, conditions_of}
use Rattle.semantics.specs.Body.{T, unknown_by_default}
use Rattle.semantics.specs.Grade.{lower}
use Rattle.semantics.specs.Table.{member}
use Rattle.bits.specs.Words.{has}
use Rattle.settle.specs.Ends.{nobody, room}
use Rattle.settle.specs.Scratch.{held, room_at, Half, RestsAt, Settled}
use Rattle.settle.specs.Waiting.{WaitSet, MaybeWaiting}
use Rattle.settle.proofs.Halves.{settled_others}
use Rattle.settle.proofs.Raising.{S, E, room_less}
use Rattle.unknowns.specs.NextHighs.{NextHighs}
use Rattle.unknowns.proofs.Sought.{sought_here, sought_free}
use Rattle.rounds.specs.Round.{Refreshed, Fell, free_highs, to_learn, next_floor_at, FloorHalf, FloorKept, AllRest, SameIntervals, FloorStep, Floored}
use Rattle.rounds.proofs.Turns.{low_eq, high_eq, lows_under, highs_over, floor_done, lows_same}
use Rattle.page.specs.Solvable.{solvable}

-- the loop: from a floor whose low ends are settled, steps until none falls
pub record Flooring (a : List ℕ) (m : List Bool) (s₁ s words next₁ next : List ℕ) (moved₁ moved : Bool) : Type 0 where
  pub kept : FloorKept a m s₁ s
  pub half : FloorHalf a m s
  pub rests : AllRest a m s
  pub progress : ((moved ≡ moved₁) × SameIntervals a s₁ s) ⊎ ((moved ≡ true) × (to_learn a s < to_learn a s₁))
  pub set_in : WaitSet (conditions_of a) words
  pub room_for : length next ≡ length next₁

module _ (a : List ℕ) (ok : solvable a ≡ true) (m : List Bool) where
  abbrev n : ℕ
  n = conditions_of a

  abbrev free : ℕ → Bool
  free = unknown_by_default (page_of a)

  -- what is kept from one state to a third
  pub kept_same : {s : List ℕ} → FloorKept a m s s
  kept_same = record { same_length = refl; others = λ c l f. refl; apart = λ c l r. refl; less = omega arith; beyond = refl }

  pub kept_on : {s s' s'' : List ℕ} → FloorKept a m s s' → FloorKept a m s' s'' → FloorKept a m s s''
  kept_on u v =
      record {
        same_length = v.same_length ∙ u.same_length;
        others = λ c l f. v.others c l f ∙ u.others c l f;
        apart = λ c l r. v.apart c l r ∙ u.apart c l r;
        less = omega (arith, u.less, v.less);
        beyond = v.beyond ∙ u.beyond;
      }

  -- the goal stays while the other high ends do
  goal_same : {s s' : List ℕ} → FloorHalf a m s → FloorKept a m s s' → Alike n (member m) (next_floor_at a s') (next_floor_at a s)
  goal_same {s} {s'} F k = lows_same (S a ok) free F.half.shut (held n s') (held n s) (λ c l r f. k.others c l f)

  -- the floor held tells no more than the goal
  goal_mix : {s : List ℕ} → FloorHalf a m s → (c : ℕ) → c < n → member m c ≡ true → Under (held n s c) (mix free (next_floor_at a s) (held n s) c)
  goal_mix {s} F c l r =
      record {
        lows = (F.under c l r).lows;
        highs = cond_most (free c) (λ f. omega (arith, (F.under c l r).highs, cond_true (held n s c).high (top_of a) f)) (λ f. omega arith);
      }

  -- the same intervals
  module _ (s s' : List ℕ) (e : SameIntervals a s s') where
    T_same : (c : ℕ) → c < n → T (page_of a) (held n s') c ≡ T (page_of a) (held n s) c
    unfolding page_of
    T_same c l = (S a ok).local (held n s') (held n s) c l (λ b i r. e b i)

    pub rests_same : AllRest a m s → AllRest a m s'
    rests_same q c l r = omega (arith, low_eq (T_same c l), low_eq (e c l), q c l r)

    pub kept_intervals : length s' ≡ length s → drop (4 * n) s' ≡ drop (4 * n) s → FloorKept a m s s'
    unfolding room
    kept_intervals h g =
        record {
          same_length = h;
          others = λ c l f. high_eq (e c l);
          apart = λ c l r. low_eq (e c l);
          less = omega (
            arith,
            sum_eq n (λ c. top_of a - (held n s' c).low) (λ c. top_of a - (held n s c).low) (λ c l. ap (λ (x : ℕ). top_of a - x) (low_eq (e c l))),
            sum_eq n (λ c. cond (free c) (held n s' c).high 0) (λ c. cond (free c) (held n s c).high 0) (λ c l. ap (λ (x : ℕ). cond (free c) x 0) (high_eq (e c l))),
          );
          beyond = g;
        }

  -- the low ends are settled
  module _ {s s' : List ℕ} {t : Bool} (F : FloorHalf a m s) (w : Settled lower a m s s' t) where
    free_same : free_highs a s' ≡ free_highs a s
    free_same = sum_eq n _ _ (λ c l. ap (λ (x : ℕ). cond (free c) x 0) (w.steady.others c l))

    pub settled_kept : FloorKept a m s s'
    settled_kept =
        record {
          same_length = w.steady.same_length;
          others = λ c l f. w.steady.others c l;
          apart = w.steady.apart;
          less = omega (arith, free_same, room_less lower a s s' w.steady.rises);
          beyond = w.steady.beyond;
        }

    pub settled_less : t ≡ true → to_learn a s' < to_learn a s
    settled_less z = omega (arith, free_same, w.moves z)

    pub settled_half : FloorHalf a m s'
    settled_half =
        record {
          half = w.half;
          under = λ c l r. record {
            lows = omega (
              arith,
              w.ends c l r,
              lows_under (S a ok) free (held n s) F.half.shut (held n s) (goal_mix F) c l r,
              low_eq (goal_same F settled_kept c l r),
            );
            highs = omega (arith, (F.under c l r).highs, high_eq (goal_same F settled_kept c l r), ap (λ (x : ℕ). cond (free c) x (top_of a)) (w.steady.others c l));
          };
        }

  -- the negations are made fresh
  module _ {s s₁ : List ℕ} (F : FloorHalf a m s) (h : Refreshed a s s₁) where
    abbrev H : Half lower a m s
    H = F.half

    same₁ : SameIntervals a s s₁
    same₁ c l = pair_eq (h.under (2 * c) (omega arith)) (h.highs c l)

    kept₁ : FloorKept a m s s₁
    kept₁ = kept_intervals s s₁ same₁ h.same_length h.beyond

    half₁ : FloorHalf a m s₁
    half₁ =
        record {
          half = record {
            long = omega (arith, H.long, h.same_length);
            marked = H.marked;
            shut = H.shut;
            within = λ c l. subst (Within (top_of a)) (sym (same₁ c l)) (H.within c l);
            negated = λ c l. h.under (0 + (2 * c + 1)) (omega arith) ∙ H.negated c l ∙ ap (λ (p : Interval). top_of a - p.high) (sym (same₁ c l));
            below = λ c l. omega (
              arith,
              low_eq (same₁ c l),
              H.below c l,
              settled_others (S a ok) (E a ok) free lower (held n s₁) (held n s) (λ b i. high_eq (same₁ b i)) (λ b i f. absurd (false≢true f)) c l,
            );
            capped = λ c l r f. absurd (false≢true f);
          };
          under = λ c l r. record {
            lows = omega (arith, low_eq (same₁ c l), (F.under c l r).lows, low_eq (goal_same F kept₁ c l r));
            highs = omega (arith, (F.under c l r).highs, high_eq (goal_same F kept₁ c l r), ap (λ (p : Interval). cond (free c) p.high (top_of a)) (same₁ c l));
          };
        }

    rests₁ : AllRest a m s → AllRest a m s₁
    rests₁ = rests_same s s₁ same₁

  -- high ends of conditions that are unknown by default fall
  module _ {indexed : Bool} {next₀ next words s s₂ : List ℕ} {fell : Bool} (F : FloorHalf a m s) (x : NextHighs a m s next₀ next) (g : Fell a m indexed next s s₂ words fell) where
    high_fall : (c : ℕ) → c < n → (held n s₂ c).high ≤ (held n s c).high
    high_fall c l = ⊎_elim (λ e. omega arith) (λ e. omega (arith, e.0.1, e.1)) (g.falls c l)

    others₂ : (c : ℕ) → c < n → free c ≡ false → (held n s₂ c).high ≡ (held n s c).high
    others₂ c l f = ⊎_elim (λ e. e) (λ e. absurd (true≢false (sym (sought_free a m c e.0.0) ∙ f))) (g.falls c l)

    room₂ : room_at lower a s₂ ≡ room_at lower a s
    unfolding room
    room₂ = sum_eq n _ _ (λ c l. ap (λ (i : ℕ). top_of a - i) (g.lows c l))

    kept₂ : FloorKept a m s s₂
    kept₂ =
        record {
          same_length = g.same_length;
          others = others₂;
          apart = λ c l r. g.lows c l;
          less = omega (arith, room₂, sum_le n (λ c. cond (free c) (held n s₂ c).high 0) (λ c. cond (free c) (held n s c).high 0) (λ c l. cond_le (free c) (λ f. high_fall c l) (λ f. omega arith)));
          beyond = g.beyond;
        }

    less₂ : fell ≡ true → to_learn a s₂ < to_learn a s
    less₂ z =
        let p = g.moves z in
        let f : free p.0 ≡ true = sought_free a m p.0 p.2.0 in
        omega (
          arith,
          room₂,
          sum_drop n (λ c. cond (free c) (held n s₂ c).high 0) (λ c. cond (free c) (held n s c).high 0) 1 p.0 p.1 (λ c l o. cond_le (free c) (λ e. high_fall c l) (λ e. omega arith))
              (rw f (omega (arith, p.2.1, p.3))),
        )

    -- what the lines give is no lower than the goal
    over_goal : (c : ℕ) → c < n → member m c ≡ true → free c ≡ true → (next_floor_at a s c).high ≤ (held n s₂ c).high
    over_goal c l r f =
        ⊎_elim (λ e. omega (arith, e, (F.under c l r).highs, cond_true (held n s c).high (top_of a) f))
        (λ e. omega (arith, e.1, x.each c l e.0.0, highs_over (S a ok) free (held n s) F.half.shut (held n s) (goal_mix F) c l r f))
        (g.falls c l)

    half₂ : FloorHalf a m s₂
    half₂ =
        let H = F.half in
        record {
          half = record {
            long = omega (arith, H.long, g.same_length);
            marked = H.marked;
            shut = H.shut;
            within = λ c l. record { low_in = omega (arith, g.lows c l, H.within c l); high_in = omega (arith, high_fall c l, H.within c l) };
            negated = λ c l. ap (λ (i : ℕ). get_or s₂ i 0) (omega arith) ∙ g.negated c l;
            below = λ c l. omega (arith, g.lows c l, H.below c l, (lows_anti (operator (S a ok)) nobody (held n s₂) (held n s) (λ b i e. high_fall b i) c l).lows);
            capped = λ c l r f. absurd (false≢true f);
          };
          under = λ c l r. record {
            lows = omega (arith, g.lows c l, (F.under c l r).lows, low_eq (goal_same F kept₂ c l r));
            highs = cond_least (free c) (λ f. omega (arith, over_goal c l r f, high_eq (goal_same F kept₂ c l r)))
                (λ f. omega (arith, (F.under c l r).highs, cond_false (held n s c).high (top_of a) f, high_eq (goal_same F kept₂ c l r)));
          };
        }

    -- whoever does not wait negates nobody whose high end fell
    module _ (q : AllRest a m s) where
      rests₂ : indexed ≡ true → (c : ℕ) → c < n → member m c ≡ true → has words c ≡ false → RestsAt lower a s₂ c
      unfolding page_of
      rests₂ u c l r o =
          omega (
            arith,
            q c l r,
            g.lows c l,
            (E a ok).local_end lower (held n s₂) (held n s) c l (λ d i f. g.lows d i)
                (λ d i f. elim (ℕ_discrete (held n s₂ d).high (held n s d).high) [
                  | yes y ↦ y
                  | no y ↦ absurd (⊎_elim (λ z. true≢false (sym u ∙ z)) (λ p. true≢false (sym (p d i y c f) ∙ o)) g.woken)
                ]),
          )

      waiting₂ : MaybeWaiting lower a m indexed s₂ words
      waiting₂ = by_bool indexed (λ u. inr (record { set = g.set_in; rests = rests₂ u })) (λ z. inl z)

      -- none fell
      step_still : fell ≡ false → {s₀ : List ℕ} → SameIntervals a s₀ s → FloorKept a m s₀ s → FloorStep a m s₀ s₂ false
      step_still z same k =
          let e : SameIntervals a s s₂ = λ c l. pair_eq (g.lows c l) (g.still z c l) in
          record {
            kept = kept_on k kept₂;
            half = half₂;
            rests = rests_same s s₂ e q;
            still = λ y c l. e c l ∙ same c l;
            down = λ y c l r f. let o = sought_here a m c r f in omega (arith, g.down c l o, x.each c l o, high_eq (T_same s s₂ e c l));
            moves = λ y. absurd (false≢true y);
          }

    -- some fell, and the low ends are settled again
    step_fell : fell ≡ true → {s₀ s₃ : List ℕ} {t : Bool} → FloorKept a m s₀ s → Settled lower a m s₂ s₃ t → FloorStep a m s₀ s₃ true
    step_fell z k w =
        record {
          kept = kept_on k (kept_on kept₂ (settled_kept half₂ w));
          half = settled_half half₂ w;
          rests = w.rests;
          still = λ y. absurd (true≢false y);
          down = λ y. absurd (true≢false y);
          moves = λ y. omega (arith, less₂ z, k.less, (settled_kept half₂ w).less);
        }

  -- the whole step
  module _ {indexed : Bool} {next₀ next words s s₁ s₂ : List ℕ} {fell : Bool} (F : FloorHalf a m s) (q : AllRest a m s) (h : Refreshed a s s₁) (x : NextHighs a m s₁ next₀ next)
      (g : Fell a m indexed next s₁ s₂ words fell) where
    pub lows_again : Half lower a m s₂ × MaybeWaiting lower a m indexed s₂ words × WaitSet n words
    lows_again = ((half₂ (half₁ F h) x g).half, waiting₂ (half₁ F h) x g (rests₁ F h q), g.set_in)

    pub floor_still : fell ≡ false → FloorStep a m s s₂ false
    floor_still z = step_still (half₁ F h) x g (rests₁ F h q) z (same₁ F h) (kept₁ F h)

    pub floor_fell : fell ≡ true → {s₃ : List ℕ} {t : Bool} → Settled lower a m s₂ s₃ t → FloorStep a m s s₃ true
    floor_fell z w = step_fell (half₁ F h) x g z (kept₁ F h) w

  pub flooring_first : {s s₁ words next : List ℕ} {t : Bool} → FloorHalf a m s → Settled lower a m s s₁ t → WaitSet n words → Flooring a m s₁ s₁ words next next t t
  flooring_first F w q =
      record { kept = kept_same; half = settled_half F w; rests = w.rests; progress = inl (refl, λ c l. refl); set_in = q; room_for = refl }

  module _ {s₁ s s' words next₁ next : List ℕ} {moved₁ moved fell : Bool} (v : Flooring a m s₁ s words next₁ next moved₁ moved) (r : FloorStep a m s s' fell) where
    pub flooring_last : {s₀ : List ℕ} → FloorHalf a m s₀ → Settled lower a m s₀ s₁ moved₁ → fell ≡ false → Floored a m s₀ s' moved
    flooring_last {s₀} F₀ w z =
        let F = r.half in
        let k : FloorKept a m s₀ s' = kept_on (settled_kept F₀ w) (kept_on v.kept r.kept) in
        record {
          kept = k;
          half = F.half;
          rests = r.rests;
          ends = λ c l y.
              floor_done (S a ok) free (held n s') F.half.shut (held n s') (goal_mix F) (λ b i o f. refl) (λ b i o. floor_in (free b) (F.half.within b i)) r.rests (r.down z) c l y
              ∙ goal_same F₀ k c l y;
          still = λ y c l. ⊎_elim (λ p. r.still z c l ∙ p.1 c l ∙ ap (λ (x : List ℕ). held n x c) (w.still (sym p.0 ∙ y))) (λ p. absurd (true≢false (sym p.0 ∙ y))) v.progress;
          moves = λ y. ⊎_elim (λ p. omega (arith, settled_less F₀ w (sym p.0 ∙ y), v.kept.less, r.kept.less)) (λ p. omega (arith, p.1, (settled_kept F₀ w).less, r.kept.less)) v.progress;
        }

  -- where no reached condition is unknown by default the floor is the low ends
  pub floored_plain : ((c : ℕ) → c < n → member m c ≡ true → free c ≡ false) → {s s' : List ℕ} {t : Bool} → FloorHalf a m s → Settled lower a m s s' t → Floored a m s s' t
  floored_plain none {s} {s'} F w =
      let G = settled_half F w in
      record {
        kept = settled_kept F w;
        half = w.half;
        rests = w.rests;
        ends = λ c l y.
            floor_done (S a ok) free (held n s') G.half.shut (held n s') (goal_mix G) (λ b i o f. refl) (λ b i o. floor_in (free b) (G.half.within b i)) w.rests
            (λ b i o f. absurd (true≢false (sym f ∙ none b i o))) c l y
            ∙ goal_same F (settled_kept F w) c l y;
        still = λ z c l. ap (λ (x : List ℕ). held n x c) (w.still z);
        moves = settled_less F w;
      }
