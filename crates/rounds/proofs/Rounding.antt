-- A round in the code's own terms: what each settling asks, and what the round leaves. Assumes nothing.
use mathlib.Core.Path.{◌≡◌, refl, sym, ◌∙◌, ap, subst}
use mathlib.Core.Bool.{Bool, true, false, cond, ◌&&◌, true≢false, false≢true}
use mathlib.Core.Logic.{◌⊎◌, inl, inr, ⊎_elim}
use mathlib.Core.List.{List}
use Prim.Native.Nat.{ℕ, suc, ◌+◌, ◌*◌, ◌-◌, ◌<◌}
use native.Mathlib.Decide.{ℕ_discrete}
use native.Mathlib.Omega.{arith}
use lib.ListN.{length, get_or, drop}
use Rattle.fixpoint.specs.Interval.{Interval, Within}
use Rattle.fixpoint.proofs.Cond.{by_bool, cond_true, cond_false, cond_eq, cond_least}
use Rattle.fixpoint.proofs.KnowledgeOrder.{pair_eq}
use Rattle.fixpoint.proofs.Sum.{sum_eq}
use Rattle.semantics.specs.Area.{page_of, top_of, conditions_of}
use Rattle.semantics.specs.Body.{unknown_by_default}
use Rattle.semantics.specs.Grade.{lower, upper}
use Rattle.semantics.specs.Table.{member, any_below}
use Rattle.page.proofs.Head.{head_of}
use Rattle.bits.specs.Words.{has}
use Rattle.page.specs.Solvable.{solvable}
use Rattle.settle.specs.Ends.{reads, room}
use Rattle.settle.specs.Scratch.{held, Half, RestsAt, Settled}
use Rattle.settle.specs.Waiting.{WaitSet, MaybeWaiting}
use Rattle.unknowns.specs.NextHighs.{sought}
use Rattle.unknowns.proofs.Sought.{none_free}
use Rattle.rounds.specs.Round.{MarkedWait, HighsBegun, LowsBegun, Woke, past, LowsWait, TurnedAt, ToppedAt, closed_at, Fresh, Searched, LinesHave, to_learn, FloorHalf, Floored, RoundReady, Rounded}
use Rattle.settle.proofs.Halves.{settled_alike}
use Rattle.settle.proofs.Raising.{S, E}
use Rattle.rounds.proofs.Turns.{low_eq, high_eq, turned_same, topped_same, topped_by, capped_by, turned_by, lows_same, floor_first, lows_known, rounds_end}
use Rattle.rounds.proofs.Flooring.{floored_plain}

module _ (a : List ℕ) (ok : solvable a ≡ true) (m : List Bool) (s : List ℕ) (b : RoundReady a m s) where
  abbrev n : ℕ
  n = conditions_of a

  abbrev free : ℕ → Bool
  free = unknown_by_default (page_of a)

  -- the first half
  module _ {s₁ : List ℕ} (h : HighsBegun a s s₁) where
    free₁ : (c : ℕ) → c < n → free c ≡ true → (held n s₁ c).high ≡ (held n s c).high
    free₁ c l f = h.highs c l ∙ cond_true (held n s c).high 0 f

    none₁ : (c : ℕ) → c < n → free c ≡ false → (held n s₁ c).high ≡ 0
    none₁ c l f = h.highs c l ∙ cond_false (held n s c).high 0 f

    turned₁ : TurnedAt a (member m) b.round (held n s₁)
    turned₁ =
        turned_same (S a ok) free b.shut
        (λ c l r. pair_eq (h.lows c l) (cond_eq (free c) (λ f. free₁ c l f) (λ f. refl))) b.turned

    pub highs_half : Half upper a m s₁
    highs_half =
        record {
          long = omega (arith, b.long, h.same_length);
          marked = b.marked;
          shut = b.shut;
          within = λ c l. record {
            low_in = omega (arith, h.lows c l, b.within c l);
            high_in = by_bool (free c) (λ f. omega (arith, free₁ c l f, b.highs_in c l f)) (λ f. omega (arith, none₁ c l f));
          };
          negated = λ c l. h.negated c l ∙ ap (λ (x : ℕ). top_of a - x) (sym (h.lows c l));
          below = λ c l. cond_least (free c) (λ f. omega arith) (λ f. omega (arith, none₁ c l f));
          capped = λ c l r f. capped_by (S a ok) free b.shut turned₁ c l r f;
        }

    -- the second
    module _ {s₂ s₃ : List ℕ} {t : Bool} (v : Settled upper a m s₁ s₂ t) (g : LowsBegun a s₂ s₃) where
      lows₃ : (c : ℕ) → c < n → (held n s₃ c).low ≡ (held n s c).low
      lows₃ c l = low_eq (g.intervals c l) ∙ v.steady.others c l ∙ h.lows c l

      -- the high ends of the conditions that are unknown by default are as before
      free₃ : (c : ℕ) → c < n → free c ≡ true → (held n s₃ c).high ≡ (held n s c).high
      free₃ c l f = high_eq (g.intervals c l) ∙ v.steady.stayed c l f ∙ free₁ c l f

      turned₃ : TurnedAt a (member m) b.round (held n s₃)
      turned₃ =
          turned_same (S a ok) free b.shut (λ c l r. pair_eq (lows₃ c l) (cond_eq (free c) (λ f. free₃ c l f) (λ f. refl))) b.turned

      topped₃ : ToppedAt a (member m) b.round (held n s₃)
      topped₃ = topped_by (S a ok) free b.shut {L = held n s₁} turned₁ (λ c l r. high_eq (g.intervals c l) ∙ v.ends c l r)

      within₃ : (c : ℕ) → c < n → Within (top_of a) (held n s₃ c)
      within₃ c l = subst (Within (top_of a)) (sym (g.intervals c l)) (v.half.within c l)

      apart₃ : (c : ℕ) → c < n → member m c ≡ false → (held n s₃ c).low ≡ 0
      apart₃ c l r = lows₃ c l ∙ b.apart c l r

      lows_half : FloorHalf a m s₃
      lows_half =
          record {
            half = record {
              long = omega (arith, v.half.long, g.same_length);
              marked = b.marked;
              shut = b.shut;
              within = within₃;
              negated = λ c l. ap (λ (i : ℕ). get_or s₃ i 0) (omega arith) ∙ g.negated c l ∙ ap (λ (x : ℕ). top_of a - x) (sym (high_eq (g.intervals c l)));
              below = lows_known (S a ok) free b.shut turned₃ topped₃ apart₃;
              capped = λ c l r f. absurd (false≢true f);
            };
            under = floor_first (S a ok) free b.shut turned₃ topped₃;
          }

      learn₃ : to_learn a s₃ ≡ to_learn a s
      unfolding room
      learn₃ =
          omega (
            arith,
            sum_eq n (λ c. top_of a - (held n s₃ c).low) (λ c. top_of a - (held n s c).low) (λ c l. ap (λ (x : ℕ). top_of a - x) (lows₃ c l)),
            sum_eq n (λ c. cond (free c) (held n s₃ c).high 0) (λ c. cond (free c) (held n s c).high 0) (λ c l. cond_eq (free c) (λ f. free₃ c l f) (λ f. refl)),
          )

      -- whoever does not wait negates no condition whose number is another
      module _ {indexed : Bool} {lows lows' : List ℕ} (k : LowsWait a m indexed s lows) (o : Woke a indexed s₂ s₃ lows lows') where
        number_same : (b : ℕ) → b < n → get_or s₂ (2 * b + 1) 0 ≡ get_or s (2 * b + 1) 0
        number_same b k = ap (λ (i : ℕ). get_or s₂ i 0) (omega arith) ∙ v.steady.negations b k ∙ ap (λ (i : ℕ). get_or s₁ i 0) (omega arith) ∙ h.negations b k

        past_high : (b : ℕ) → b < n → get_or s₂ (2 * b + 1) 0 ≡ get_or s₃ (2 * b + 1) 0 → (held n s₃ b).high ≡ (past a s b).high
        past_high b k z = omega (arith, high_eq (g.intervals b k), g.negated b k, number_same b k, (v.half.within b k).high_in)

        rests₃ : indexed ≡ true → (c : ℕ) → c < n → member m c ≡ true → has lows' c ≡ false → RestsAt lower a s₃ c
        unfolding page_of
        rests₃ u c l r q =
            let few = (head_of a ok).few in
            let out : has lows c ≡ false = by_bool (has lows c) (λ y. absurd (true≢false (sym (o.kept c (omega arith) y) ∙ q))) (λ y. y) in
            omega (
              arith,
              k.rests u c l r out,
              lows₃ c l,
              (E a ok).local_end lower (held n s₃) (past a s) c l (λ d i f. lows₃ d i)
                  (λ d i f. past_high d i (elim (ℕ_discrete (get_or s₂ (2 * d + 1) 0) (get_or s₃ (2 * d + 1) 0)) [
                    | yes y ↦ y
                    | no y ↦ absurd (⊎_elim (λ z. true≢false (sym u ∙ z)) (λ p. true≢false (sym (p d i y c f) ∙ q)) o.woken)
                  ])),
            )

        lows_waiting : MaybeWaiting lower a m indexed s₃ lows'
        lows_waiting = by_bool indexed (λ u. inr (record { set = o.set_in; rests = rests₃ u })) (λ z. inl z)

        -- what settling the floor asks
        pub lows_ready : FloorHalf a m s₃ × MaybeWaiting lower a m indexed s₃ lows' × WaitSet n lows'
        lows_ready = (lows_half, lows_waiting, o.set_in)

      module _ {s₄ : List ℕ} {changed : Bool} (w : Floored a m s₃ s₄ changed) where
        turned₄ : TurnedAt a (member m) (suc b.round) (held n s₄)
        turned₄ = turned_by (S a ok) free b.shut topped₃ w.ends

        -- everybody rests, over the high ends held
        lows_wait : {indexed : Bool} {lows : List ℕ} → WaitSet n lows → LowsWait a m indexed s₄ lows
        unfolding page_of
        lows_wait q =
            record {
              set_in = q;
              rests = λ y c l r z. omega (
                arith,
                w.rests c l r,
                (E a ok).local_end lower (past a s₄) (held n s₄) c l (λ d k f. refl)
                    (λ d k f. omega (arith, ap (λ (i : ℕ). get_or s₄ i 0) {x = 2 * d + 1} {y = 0 + (2 * d + 1)} (omega arith), w.half.negated d k, (w.half.within d k).high_in)),
              );
            }

        rounded : {moved : Bool} → (moved ≡ false → (c : ℕ) → c < n → member m c ≡ true → held n s₄ c ≡ closed_at a c) → (moved ≡ true → changed ≡ true) → Rounded a m s s₄ moved
        rounded q z =
            record {
              same_length = w.kept.same_length ∙ g.same_length ∙ v.steady.same_length ∙ h.same_length;
              beyond = w.kept.beyond ∙ g.beyond ∙ v.steady.beyond ∙ h.beyond;
              next = record {
                long = w.half.long;
                marked = b.marked;
                shut = b.shut;
                within = λ c l. (w.half.within c l).low_in;
                highs_in = λ c l f. (w.half.within c l).high_in;
                apart = λ c l r. w.kept.apart c l r ∙ apart₃ c l r;
                round = suc b.round;
                turned = turned₄;
              };
              ends = q;
              moves = λ y. omega (arith, w.moves (z y), learn₃);
            }

        -- no end moved: both halves are the closed reading
        ended : changed ≡ false → (c : ℕ) → c < n → member m c ≡ true → held n s₄ c ≡ closed_at a c
        ended z =
            let e = w.still z in
            rounds_end (S a ok) free b.shut
            (turned_same (S a ok) free b.shut (λ c l r. pair_eq (low_eq (e c l)) (ap (λ (p : Interval). cond (free c) p.high (top_of a)) (e c l))) turned₃)
            (topped_same (S a ok) free b.shut (λ c l r f. high_eq (e c l)) topped₃) turned₄

        all_told : Rounded a m s s₄ changed
        all_told = rounded ended (λ y. y)

        pub rounded_told : {indexed : Bool} {lows : List ℕ} → WaitSet n lows → Rounded a m s s₄ changed × LowsWait a m indexed s₄ lows
        rounded_told q = (all_told, lows_wait q)

        -- no reached condition is unknown by default, and the low ends are as before wherever a rule of a reached condition negates them
        module _ (numbers : (c : ℕ) → c < n → get_or s₄ (2 * n + (2 * c + 1)) 0 ≡ get_or s₃ (2 * n + (2 * c + 1)) 0) (none : (c : ℕ) → c < n → member m c ≡ true → free c ≡ false)
            (fresh : (c : ℕ) → LinesHave (page_of a).lines (2 * c + 1) → Fresh a s₄ c) where
          number₄ : (c : ℕ) → c < n → get_or s₄ (2 * n + (2 * c + 1)) 0 ≡ top_of a - (held n s c).low
          number₄ c l = numbers c l ∙ g.negations c l ∙ v.half.negated c l ∙ ap (λ (x : ℕ). top_of a - x) (v.steady.others c l ∙ h.lows c l)

          low_same : (d e : ℕ) → d < n → e < n → member m d ≡ true → reads (page_of a) true d e ≡ true → (held n s₁ e).low ≡ (held n s₄ e).low
          low_same d e k i p f = omega (arith, h.lows e i, number₄ e i, fresh e (d, f), (w.half.within e i).low_in, b.within e i)

          -- then the high ends that are held are those over the floor held
          topped₄ : ToppedAt a (member m) (suc b.round) (held n s₄)
          unfolding page_of
          topped₄ =
              topped_by (S a ok) free b.shut {L = held n s₄} turned₄
              (λ c l r. w.kept.others c l (none c l r) ∙ high_eq (g.intervals c l) ∙ v.ends c l r
              ∙ settled_alike (S a ok) (E a ok) free b.shut upper (held n s₁) (held n s₄) low_same (λ d i p f. absurd (true≢false (sym f ∙ none d i p))) c l r)

          -- and the floor is that over these high ends, so both are the closed reading
          fresh_ended : (c : ℕ) → c < n → member m c ≡ true → held n s₄ c ≡ closed_at a c
          fresh_ended =
              rounds_end (S a ok) free b.shut turned₄ topped₄
              (turned_by (S a ok) free b.shut topped₄
              (λ c l r. w.ends c l r ∙ sym (lows_same (S a ok) free b.shut (held n s₄) (held n s₃) (λ d i p f. w.kept.others d i f) c l r)))

      -- no reached condition is unknown by default
      module _ {s₄ : List ℕ} {changed : Bool} (none : (c : ℕ) → c < n → member m c ≡ true → free c ≡ false) (w : Settled lower a m s₃ s₄ changed) where
        plain : Floored a m s₃ s₄ changed
        plain = floored_plain a ok m none lows_half w

        module _ {indexed : Bool} {lows : List ℕ} (q : WaitSet n lows) where
          -- no low end rose
          pub rounded_still : changed ≡ false → Rounded a m s s₄ false × LowsWait a m indexed s₄ lows
          rounded_still z = (subst (Rounded a m s s₄) z (all_told plain), lows_wait plain q)

          -- some low end rose; perhaps none that is negated
          pub rounded_rose : {moved : Bool} → changed ≡ true → Searched a s₄ (LinesHave (page_of a).lines) moved → Rounded a m s s₄ moved × LowsWait a m indexed s₄ lows
          rounded_rose z h = (rounded plain (λ y. fresh_ended plain w.steady.negations none (h.all y)) (λ y. z), lows_wait plain q)

-- the loop over the rounds
module _ (a : List ℕ) (m : List Bool) (s₀ : List ℕ) where
  pub record Alternating (s : List ℕ) : Type 0 where
    pub same_length : length s ≡ length s₀
    pub beyond : drop (4 * conditions_of a) s ≡ drop (4 * conditions_of a) s₀
    pub ready : RoundReady a m s

-- no reached condition is unknown by default
pub none_reached : (a : List ℕ) (m : List Bool) {t : Bool} → t ≡ any_below (conditions_of a) (sought a m) → t ≡ false
    → (c : ℕ) → c < conditions_of a → member m c ≡ true → unknown_by_default (page_of a) c ≡ false
none_reached a m e z c l r = sym (ap (λ (b : Bool). b && unknown_by_default (page_of a) c) r) ∙ none_free a m (sym e ∙ z) c l

-- at first everybody waits
pub all_lows : (a : List ℕ) (m : List Bool) (indexed : Bool) (s words : List ℕ) → WaitSet (conditions_of a) words → (indexed ≡ false) ⊎ MarkedWait (conditions_of a) m words → LowsWait a m indexed s words
all_lows a m indexed s words h w =
    record { set_in = h; rests = λ y c l r z. ⊎_elim (λ e. absurd (true≢false (sym y ∙ e))) (λ v. absurd (true≢false (sym (v.waits c l r) ∙ z))) w }
