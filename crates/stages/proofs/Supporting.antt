-- The support of an assignment: its high ends fall where they may be others, and are settled from there. Assumes nothing.
use mathlib.Core.Path.{◌≡◌, sym, ◌∙◌, ap, subst}
use mathlib.Core.Logic.{◌⊎◌, inl, inr, ⊎_elim}
use mathlib.Core.Bool.{Bool, true, false, true≢false, false≢true}
use mathlib.Core.List.{List}
use Prim.Native.Nat.{ℕ, suc, ◌+◌, ◌*◌, ◌-◌, ◌≤◌, ◌<◌}
use native.Mathlib.Decide.{ℕ_discrete}
use native.Mathlib.Omega.{arith}
use lib.ListN.{get_or}
use Rattle.fixpoint.specs.Interval.{Within}
use Rattle.fixpoint.proofs.Cond.{by_bool, cond_true, cond_false}
use Rattle.fixpoint.proofs.KnowledgeOrder.{pair_eq}
use Rattle.semantics.specs.Area.{page_of, top_of, conditions_of}
use Rattle.semantics.specs.Body.{T}
use Rattle.semantics.specs.Grade.{lower, upper}
use Rattle.semantics.specs.Table.{member}
use Rattle.page.proofs.Head.{head_of}
use Rattle.bits.specs.Words.{has}
use Rattle.settle.specs.Ends.{reads}
use Rattle.settle.specs.Scratch.{held, Half, RestsAt, Settled}
use Rattle.settle.specs.Waiting.{Waiting}
use Rattle.settle.proofs.Raising.{S, E, T_below}
use Rattle.rounds.specs.Round.{LowsBegun, Woke, past, closed_at}
use Rattle.stages.specs.Steps.{free_at, Unlooked, Lowered, FollowReady}
use Rattle.stages.specs.Stages.{stage_at, between_at, Tables, Older, AtStage, Supported}
use Rattle.stages.proofs.Assignments.{low_eq, high_eq}
use Rattle.stages.proofs.PageStages.{stage_over, between_falls, FloorOf, support_at, capped_at, KeepsTop, restart_at}
use Rattle.page.specs.Solvable.{solvable}

module _ {a : List ℕ} {m : List Bool} {indexed : Bool} {tops : List ℕ} {k : ℕ} {s look lows : List ℕ} (ok : solvable a ≡ true) (b : AtStage a m indexed tops k s look lows) where
  abbrev n : ℕ
  n = conditions_of a

  few : n ≤ 512
  few = (head_of a ok).few

  named : (c d : ℕ) → c < n → d < n → member m c ≡ true → reads (page_of a) false c d ≡ true → member m d ≡ true
  unfolding page_of
  named c d l i r f = b.tables.shut c d l i r ((E a ok).named false c d f)

  -- after the lowering
  module _ {s₁ look₂ lowered : List ℕ} {fell : Bool} (v : Lowered a m tops s s₁ look look₂ lowered fell) where
    lows₁ : (c : ℕ) → c < n → get_or s₁ (2 * c) 0 ≡ get_or s (2 * c) 0
    lows₁ c l = v.table (2 * c) (omega arith)

    -- who was not lowered holds its high end in assignment k
    stays : (c : ℕ) → c < n → has lowered c ≡ false → get_or s₁ (2 * n + 2 * c) 0 ≡ get_or s (2 * n + 2 * c) 0
    stays c l q = ⊎_elim (λ y. y.same) (λ y. absurd (true≢false (sym y.noted ∙ q))) (v.each c l)

    stays_at : (c : ℕ) → c < n → member m c ≡ true → has lowered c ≡ false → (held n s₁ c).high ≡ (stage_at a k c).high
    stays_at c l r q = stays c l q ∙ high_eq (b.staged c l r)

    -- a free condition has its high end as its entry, so it is not lowered
    unlowered : (c : ℕ) → c < n → free_at a c ≡ true → has lowered c ≡ false
    unlowered c l e =
        ⊎_elim (λ y. y.unnoted) (λ y. absurd (omega (arith, y.over, b.tops_in.free c l y.reached e, high_eq (b.staged c l y.reached)))) (v.each c l)

    floor₁ : FloorOf a ok m b.tables.shut k (held n s₁)
    floor₁ = record { lows = λ c l r. lows₁ c l ∙ low_eq (b.staged c l r); highs = λ c l r e. stays_at c l r (unlowered c l e) }

    -- not looked at
    keeps_top : (o : Older a m k look) (c : ℕ) → c < n → member m c ≡ true → has lowered c ≡ false → Unlooked a look lowered c → KeepsTop a ok m b.tables.shut o.before (held n s₁) c
    keeps_top o c l r q u =
        record {
          same = subst (λ (j : ℕ). (held n s₁ c).high ≡ (stage_at a j c).high) o.is (stays_at c l r q);
          plain = λ d i f. subst (λ (j : ℕ). (held n s₁ d).high ≡ (stage_at a j d).high) o.is (stays_at d i (named c d l i r f) (u.plain d i f));
          other = λ d i f. subst (λ (j : ℕ). (stage_at a o.before d).low ≡ (stage_at a j d).low) o.is (o.same c d l i r u.out f);
          unfallen = λ d i f e. subst (λ (j : ℕ). (stage_at a o.before d).high ≡ (stage_at a j d).high) o.is (o.unfallen c d l i r u.out f e);
        }

    -- at the closed reading, or not looked at
    either : (c : ℕ) → c < n → member m c ≡ true → free_at a c ≡ false → ((held n s₁ c).high ≡ (closed_at a c).high) ⊎ ((has lowered c ≡ false) × Unlooked a look lowered c)
    either c l r e =
        elim (v.each c l) [
          | inr y ↦ inl (y.fallen ∙ b.tops_in.closed c l r e)
          | inl y ↦ elim (v.out c l r y.unnoted) [
            | inl z ↦ inl (omega (arith, z, b.tops_in.closed c l r e, stays_at c l r y.unnoted, stage_over a ok m b.tables.shut k c l))
            | inr u ↦ inr (y.unnoted, u)
          ]
        ]

    known : (c : ℕ) → c < n → member m c ≡ true → free_at a c ≡ false → (held n s₁ c).high ≤ (stage_at a (suc k) c).high
    known =
        elim b.spread [
          | inl q ↦ λ c l r e. ⊎_elim (λ z. omega (arith, z, stage_over a ok m b.tables.shut (suc k) c l)) (λ u. absurd (true≢false (sym (q.waits c l r) ∙ u.1.out))) (either c l r e)
          | inr o ↦ λ c l r e. subst (λ (j : ℕ). (held n s₁ c).high ≤ (stage_at a (suc j) c).high) (sym o.is)
              (restart_at a ok m b.tables.shut o.before (held n s₁) (λ d i q f. ⊎_elim (λ z. inl z) (λ u. inr (keeps_top o d i q u.0 u.1)) (either d i q f)) c l r e)
        ]

    -- the high ends lie at or under those of the support
    known_all : (c : ℕ) → c < n → member m c ≡ true → (held n s₁ c).high ≤ (between_at a k c).high
    known_all c l r =
        by_bool (free_at a c)
        (λ e. omega (arith, stays_at c l r (unlowered c l e), cond_true (stage_at a k c).high (stage_at a (suc k) c).high e))
        (λ e. omega (arith, known c l r e, cond_false (stage_at a k c).high (stage_at a (suc k) c).high e))

    within₁ : (c : ℕ) → c < n → Within (top_of a) (held n s₁ c)
    within₁ c l =
        record {
          low_in = omega (arith, lows₁ c l, b.tables.within c l);
          high_in = ⊎_elim (λ y. omega (arith, y.same, b.tables.within c l)) (λ y. omega (arith, y.fallen, y.over, b.tables.within c l)) (v.each c l);
        }

    apart₁ : (c : ℕ) → c < n → member m c ≡ false → get_or s₁ (2 * n + 2 * c) 0 ≡ 0
    apart₁ c l r = ⊎_elim (λ y. y.same ∙ b.tables.apart c l r) (λ y. absurd (true≢false (sym y.reached ∙ r))) (v.each c l)

    pub tops_half : Half upper a m s₁
    tops_half =
        record {
          long = omega (arith, b.tables.long, v.same_length);
          marked = b.tables.marked;
          shut = b.tables.shut;
          within = within₁;
          negated = λ c l. v.negations c l ∙ b.tables.over_low c l ∙ ap (λ (x : ℕ). top_of a - x) (sym (lows₁ c l));
          below = λ c l. by_bool (member m c) (λ r. omega (arith, known_all c l r, support_at a ok m b.tables.shut k s₁ floor₁ c l r)) (λ r. omega (arith, apart₁ c l r));
          capped = λ c l r e. capped_at a ok m b.tables.shut k s₁ floor₁ c l r e;
        }

    rests₁ : (c : ℕ) → c < n → member m c ≡ true → has lowered c ≡ false → RestsAt upper a s₁ c
    rests₁ c l r q =
        omega (
          arith,
          T_below ok tops_half c l r,
          support_at a ok m b.tables.shut k s₁ floor₁ c l r,
          between_falls a ok m b.tables.shut k c l,
          stays_at c l r q,
        )

    pub tops_waiting : Waiting upper a m s₁ lowered
    tops_waiting = record { set = v.lowered_in; rests = rests₁ }

    -- nothing fell: the high ends are those of the support already
    module _ (z : fell ≡ false) where
      same₁ : (c : ℕ) → c < n → get_or s₁ (2 * n + 2 * c) 0 ≡ get_or s (2 * n + 2 * c) 0
      same₁ c l = stays c l (v.none z c l)

      tables₁ : Tables a m s₁
      tables₁ =
          record {
            long = tops_half.long;
            marked = b.tables.marked;
            shut = b.tables.shut;
            within = within₁;
            over_low = tops_half.negated;
            over_high = λ c l. v.table (2 * c + 1) (omega arith) ∙ b.tables.over_high c l ∙ ap (λ (i : ℕ). top_of a - i) (sym (same₁ c l));
            apart = apart₁;
          }

      tops₁ : (c : ℕ) → c < n → member m c ≡ true → get_or s₁ (2 * n + 2 * c) 0 ≡ (between_at a k c).high
      tops₁ c l r = omega (arith, known_all c l r, stays_at c l r (v.none z c l), between_falls a ok m b.tables.shut k c l)

      rests₁' : indexed ≡ true → (c : ℕ) → c < n → member m c ≡ true → has lows c ≡ false → (T (page_of a) (past a s₁) c).low ≤ get_or s₁ (2 * c) 0
      rests₁' d c l r q =
          omega (
            arith,
            b.lows_wait.rests d c l r q,
            lows₁ c l,
            low_eq ((S a ok).local (past a s₁) (past a s) c l (λ e i f. pair_eq (lows₁ e i) (ap (λ (x : ℕ). top_of a - x) (v.table (2 * e + 1) (omega arith))))),
          )

      pub supported_still : Supported a m indexed tops k s s₁ look₂ lows false
      supported_still =
          record {
            same_length = v.same_length;
            beyond = v.beyond;
            look_in = v.look_in;
            drained = v.drained;
            at = record {
              tables = tables₁;
              tops_in = b.tops_in;
              between = λ c l r. pair_eq (floor₁.lows c l r) (tops₁ c l r);
              lows_wait = record { set_in = b.lows_wait.set_in; rests = rests₁' };
            };
            none = λ y c l r e. omega (arith, tops₁ c l r, stays_at c l r (v.none z c l), cond_false (stage_at a k c).high (stage_at a (suc k) c).high e);
            one = λ y. absurd (false≢true y);
          }

    -- after the settling
    module _ {s₂ : List ℕ} {t : Bool} (x : Settled upper a m s₁ s₂ t) where
      tops₂ : (c : ℕ) → c < n → member m c ≡ true → get_or s₂ (2 * n + 2 * c) 0 ≡ (between_at a k c).high
      tops₂ c l r = x.ends c l r ∙ support_at a ok m b.tables.shut k s₁ floor₁ c l r

      -- who was not lowered has the high end it had
      same₂ : (c : ℕ) → c < n → has lowered c ≡ false → get_or s₂ (2 * n + 2 * c) 0 ≡ get_or s (2 * n + 2 * c) 0
      same₂ c l q =
          by_bool (member m c)
          (λ r. omega (arith, tops₂ c l r, known_all c l r, stays_at c l r q, stays c l q, between_falls a ok m b.tables.shut k c l))
          (λ r. x.steady.apart c l r ∙ stays c l q)

      negation₂ : (c : ℕ) → c < n → get_or s₂ (2 * c + 1) 0 ≡ get_or s (2 * c + 1) 0
      negation₂ c l = ap (λ (i : ℕ). get_or s₂ i 0) (omega arith) ∙ x.steady.negations c l ∙ ap (λ (i : ℕ). get_or s₁ i 0) (omega arith) ∙ v.table (2 * c + 1) (omega arith)

      lows₂ : (c : ℕ) → c < n → get_or s₂ (2 * c) 0 ≡ get_or s (2 * c) 0
      lows₂ c l = x.steady.others c l ∙ lows₁ c l

      pub follow_ready : FollowReady a s₂ lowered lows
      follow_ready =
          record {
            long = x.half.long;
            within = λ c l. (x.half.within c l).high_in;
            lowered_in = v.lowered_in;
            lows_in = b.lows_wait.set_in;
            others = λ c l q. negation₂ c l ∙ b.tables.over_high c l ∙ ap (λ (i : ℕ). top_of a - i) (sym (same₂ c l q));
          }

      -- after the negations
      module _ {s₃ lows' : List ℕ} (g : LowsBegun a s₂ s₃) (o : Woke a indexed s₂ s₃ lows lows') where
        lows₃ : (c : ℕ) → c < n → get_or s₃ (2 * c) 0 ≡ get_or s (2 * c) 0
        lows₃ c l = low_eq (g.intervals c l) ∙ lows₂ c l

        highs₃ : (c : ℕ) → c < n → get_or s₃ (2 * n + 2 * c) 0 ≡ get_or s₂ (2 * n + 2 * c) 0
        highs₃ c l = high_eq (g.intervals c l)

        tables₃ : Tables a m s₃
        tables₃ =
            record {
              long = omega (arith, x.half.long, g.same_length);
              marked = b.tables.marked;
              shut = b.tables.shut;
              within = λ c l. subst (Within (top_of a)) (sym (g.intervals c l)) (x.half.within c l);
              over_low = λ c l. g.negations c l ∙ x.half.negated c l ∙ ap (λ (i : ℕ). top_of a - i) (sym (low_eq (g.intervals c l)));
              over_high = λ c l. g.negated c l ∙ ap (λ (i : ℕ). top_of a - i) (sym (highs₃ c l));
              apart = λ c l r. highs₃ c l ∙ x.steady.apart c l r ∙ apart₁ c l r;
            }

        rests₃ : indexed ≡ true → (c : ℕ) → c < n → member m c ≡ true → has lows' c ≡ false → (T (page_of a) (past a s₃) c).low ≤ get_or s₃ (2 * c) 0
        unfolding page_of
        rests₃ d c l r q =
            let out : has lows c ≡ false = by_bool (has lows c) (λ y. absurd (true≢false (sym (o.kept c (omega (arith, few)) y) ∙ q))) (λ y. y) in
            omega (
              arith,
              b.lows_wait.rests d c l r out,
              lows₃ c l,
              (E a ok).local_end lower (past a s₃) (past a s) c l (λ e i f. lows₃ e i)
                  (λ e i f. ap (λ (y : ℕ). top_of a - y) (elim (ℕ_discrete (get_or s₂ (2 * e + 1) 0) (get_or s₃ (2 * e + 1) 0)) [
                    | yes y ↦ sym y ∙ negation₂ e i
                    | no y ↦ absurd (⊎_elim (λ j. true≢false (sym d ∙ j)) (λ h. true≢false (sym (h e i y c f) ∙ q)) o.woken)
                  ])),
            )

        pub supported : Supported a m indexed tops k s s₃ look₂ lows' fell
        supported =
            record {
              same_length = g.same_length ∙ x.steady.same_length ∙ v.same_length;
              beyond = g.beyond ∙ x.steady.beyond ∙ v.beyond;
              look_in = v.look_in;
              drained = v.drained;
              at = record {
                tables = tables₃;
                tops_in = b.tops_in;
                between = λ c l r. pair_eq (lows₃ c l ∙ low_eq (b.staged c l r)) (highs₃ c l ∙ tops₂ c l r);
                lows_wait = record { set_in = o.set_in; rests = rests₃ };
              };
              none = λ z c l r e. omega (arith, tops₂ c l r, same₂ c l (v.none z c l), high_eq (b.staged c l r), cond_false (stage_at a k c).high (stage_at a (suc k) c).high e);
              one = λ z. let y = v.one z in lowest y.0 y.1 y.2;
            }
          where
            bound : (c : ℕ) → c < n → has lowered c ≡ true → free_at a c ≡ false
            bound c l q = by_bool (free_at a c) (λ e. absurd (true≢false (sym q ∙ unlowered c l e))) (λ e. e)

            lowest : (c : ℕ) → c < n → has lowered c ≡ true → (d : ℕ) × (d < n) × (member m d ≡ true) × ((closed_at a d).high < (stage_at a k d).high)
            lowest c l q =
                elim (v.each c l) [
                  | inl y ↦ absurd (true≢false (sym q ∙ y.unnoted))
                  | inr y ↦ (c, l, y.reached, omega (arith, y.over, b.tops_in.closed c l y.reached (bound c l q), high_eq (b.staged c l y.reached)))
                ]
