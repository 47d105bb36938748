-- The high ends of the free conditions fall to their next ones, one condition after the other, and their negations follow. Assumes nothing.
use mathlib.Core.Path.{◌≡◌, sym, ◌∙◌, ap, subst}
use mathlib.Core.Logic.{◌≢◌, ◌⊎◌, inl, inr, ⊎_elim}
use mathlib.Core.Bool.{Bool, true, false, true≢false, ◌||◌, or-true, or-false}
use mathlib.Core.List.{List}
use Prim.Native.Nat.{ℕ, ◌+◌, ◌*◌, ◌-◌, ◌≤◌, ◌<◌}
use native.Mathlib.Decide.{ℕ_discrete}
use native.Mathlib.Omega.{arith}
use lib.ListN.{length, get_or, drop, length-set}
use lib.Seq.{get_or-set_same, get_or-set_other, drop-set-lt}
use Rattle.fixpoint.proofs.Cond.{by_bool}
use Rattle.semantics.specs.Area.{page_of, top_of, conditions_of}
use Rattle.semantics.specs.Table.{member}
use Rattle.page.specs.Solvable.{solvable}
use Rattle.page.proofs.Head.{head_of}
use Rattle.bits.specs.Words.{has}
use Rattle.index.specs.Readers.{lines_read}
use Rattle.index.proofs.Readers.{reads_below}
use Rattle.settle.proofs.Members.{joined, joins, joined_else}
use Rattle.rounds.specs.Round.{LowsBegun, Woke}
use Rattle.rounds.proofs.Starting.{upto}
use Rattle.stages.specs.Steps.{free_at, FellTop, LowerReady, FallsAt, StaysAt, LoweredFree, FreeLowered, HighsReady, HighStays, HighFalls, HighsTaken}
use Rattle.stages.proofs.Assignments.{low_eq, high_eq}

-- the conditions before c are done
pub record Freeing (a : List ℕ) (indexed : Bool) (m : List Bool) (tops s₀ s look₀ look lowered : List ℕ) (fell : Bool) (c : ℕ) : Type 0 where
  pub sound : solvable a ≡ true
  pub ready : LowerReady a m tops s look lowered
  pub within : c ≤ conditions_of a
  pub same_length : length s ≡ length s₀
  pub table : (i : ℕ) → i < 2 * conditions_of a → get_or s i 0 ≡ get_or s₀ i 0
  pub negations : (d : ℕ) → d < conditions_of a → get_or s (2 * conditions_of a + (2 * d + 1)) 0 ≡ get_or s₀ (2 * conditions_of a + (2 * d + 1)) 0
  pub beyond : drop (4 * conditions_of a) s ≡ drop (4 * conditions_of a) s₀
  pub each : (d : ℕ) → d < conditions_of a → StaysAt a s₀ s lowered d ⊎ (FallsAt a m tops s₀ s lowered d × (free_at a d ≡ true))
  pub stands : (d : ℕ) → d < c → member m d ≡ true → free_at a d ≡ true → get_or s (2 * conditions_of a + 2 * d) 0 ≤ get_or tops d 0
  pub woken : (indexed ≡ false) ⊎ ((d : ℕ) → d < conditions_of a → has lowered d ≡ true → (h : ℕ) → lines_read (2 * d) (page_of a).lines h ≡ true → has look h ≡ true)
  pub look_same : indexed ≡ false → look ≡ look₀
  pub none : fell ≡ false → (d : ℕ) → d < conditions_of a → has lowered d ≡ false
  pub one : fell ≡ true → (d : ℕ) × (d < conditions_of a) × (has lowered d ≡ true)

module _ {a : List ℕ} {indexed : Bool} {m : List Bool} {tops s₀ s look₀ look lowered : List ℕ} {fell : Bool} {c : ℕ} (v : Freeing a indexed m tops s₀ s look₀ look lowered fell c) where
  abbrev n : ℕ
  n = conditions_of a

  few : n ≤ 512
  few = (head_of a v.sound).few

  module _ (l : c < n) where
    -- nothing is done
    stay : (member m c ≡ true → free_at a c ≡ true → get_or s (2 * n + 2 * c) 0 ≤ get_or tops c 0) → Freeing a indexed m tops s₀ s look₀ look lowered fell (c + 1)
    stay g =
        record {
          sound = v.sound;
          ready = v.ready;
          within = omega arith;
          same_length = v.same_length;
          table = v.table;
          negations = v.negations;
          beyond = v.beyond;
          each = v.each;
          stands = upto (λ d. member m d ≡ true → free_at a d ≡ true → get_or s (2 * n + 2 * d) 0 ≤ get_or tops d 0) c v.stands g;
          woken = v.woken;
          look_same = v.look_same;
          none = v.none;
          one = v.one;
        }

    module _ {s' look' lowered' : List ℕ} where
      passed : s' ≡ s → look' ≡ look → lowered' ≡ lowered → (member m c ≡ true → free_at a c ≡ true → get_or s (2 * n + 2 * c) 0 ≤ get_or tops c 0)
          → Freeing a indexed m tops s₀ s' look₀ look' lowered' fell (c + 1)
      passed e f h g = rw (e, f, h) (stay g)

      -- the high end of c falls
      module _ {t : Bool} (o : free_at a c ≡ true) (k : FellTop a indexed m tops c s s' look look' lowered lowered' t) where
        else' : (j : ℕ) → j ≢ 2 * n + 2 * c → get_or s' j 0 ≡ get_or s j 0
        else' j z = ap (λ (w : List ℕ). get_or w j 0) k.stored ∙ get_or-set_other s (2 * n + 2 * c) j (get_or tops c 0) 0 z

        here : get_or s' (2 * n + 2 * c) 0 ≡ get_or tops c 0
        here = ap (λ (w : List ℕ). get_or w (2 * n + 2 * c) 0) k.stored ∙ get_or-set_same s (2 * n + 2 * c) (get_or tops c 0) 0 (omega (arith, v.ready.long))

        same_long : length s' ≡ length s
        same_long = ap length k.stored ∙ length-set s (2 * n + 2 * c) (get_or tops c 0)

        was_over : get_or tops c 0 < get_or s₀ (2 * n + 2 * c) 0
        was_over = ⊎_elim (λ q. omega (arith, q.same, k.over)) (λ q. q.0.over) (v.each c l)

        was : (d : ℕ) → d < n → d ≢ c → has lowered' d ≡ has lowered d
        was d i z = joined_else lowered lowered' c k.lowered_in d (omega (arith, few)) z

        each' : (d : ℕ) → d < n → StaysAt a s₀ s' lowered' d ⊎ (FallsAt a m tops s₀ s' lowered' d × (free_at a d ≡ true))
        each' d i =
            elim (ℕ_discrete d c) [
              | yes z ↦ inr (subst (λ (j : ℕ). FallsAt a m tops s₀ s' lowered' j × (free_at a j ≡ true)) (sym z)
                  (record { reached = k.reached; over = was_over; fallen = here; noted = joins lowered lowered' c (omega (arith, few)) k.lowered_in }, o))
              | no z ↦ ⊎_elim
                  (λ q. inl (record { same = else' (2 * n + 2 * d) (λ e. z (omega arith)) ∙ q.same; unnoted = was d i z ∙ q.unnoted }))
                  (λ q. inr (record { reached = q.0.reached; over = q.0.over; fallen = else' (2 * n + 2 * d) (λ e. z (omega arith)) ∙ q.0.fallen; noted = was d i z ∙ q.0.noted }, q.1))
                  (v.each d i)
            ]

        woken' : (indexed ≡ false) ⊎ ((d : ℕ) → d < n → has lowered' d ≡ true → (h : ℕ) → lines_read (2 * d) (page_of a).lines h ≡ true → has look' h ≡ true)
        woken' =
            elim v.woken [
              | inl z ↦ inl z
              | inr f ↦ elim k.woken [
                | inl z ↦ inl z
                | inr g ↦ inr (λ d i q h e. elim (ℕ_discrete d c) [
                  | yes z ↦ g h (subst (λ (j : ℕ). lines_read (2 * j) (page_of a).lines h ≡ true) z e)
                  | no z ↦ k.kept h (omega (arith, few, reads_below a v.sound (2 * d) h e)) (f d i (sym (was d i z) ∙ q) h e)
                ])
              ]
            ]

        falls : {fell' : Bool} → fell' ≡ true → Freeing a indexed m tops s₀ s' look₀ look' lowered' fell' (c + 1)
        falls e =
            record {
              sound = v.sound;
              ready = record {
                long = omega (arith, v.ready.long, same_long);
                marked = v.ready.marked;
                known = v.ready.known;
                look_in = k.look_in;
                lowered_in = joined v.ready.lowered_in l k.lowered_in;
              };
              within = omega arith;
              same_length = same_long ∙ v.same_length;
              table = λ i q. else' i (λ z. omega arith) ∙ v.table i q;
              negations = λ d i. else' (2 * n + (2 * d + 1)) (λ z. omega arith) ∙ v.negations d i;
              beyond = ap (drop (4 * n)) k.stored ∙ drop-set-lt (4 * n) s (2 * n + 2 * c) (get_or tops c 0) (omega arith) ∙ v.beyond;
              each = each';
              stands = upto (λ d. member m d ≡ true → free_at a d ≡ true → get_or s' (2 * n + 2 * d) 0 ≤ get_or tops d 0) c
                  (λ d i r f. omega (arith, else' (2 * n + 2 * d) (λ z. omega arith), v.stands d i r f)) (λ r f. omega (arith, here));
              woken = woken';
              look_same = λ z. k.look_same z ∙ v.look_same z;
              none = λ q. absurd (true≢false (sym e ∙ q));
              one = λ q. (c, l, joins lowered lowered' c (omega (arith, few)) k.lowered_in);
            }

      -- by what the code tells
      module _ {t : Bool} (k : LoweredFree a indexed m tops c s s' look look' lowered lowered' t) where
        pub freeing_next : Freeing a indexed m tops s₀ s' look₀ look' lowered' (fell || t) (c + 1)
        freeing_next =
            elim k [
              | inl q ↦ rw (q.told, or-false) (passed q.same q.look_same q.lowered_same (λ r f. absurd (true≢false (sym f ∙ q.bound))))
              | inr q ↦ elim q.1 [
                | inl y ↦ rw (y.told, or-false) (passed y.same y.look_same y.lowered_same (λ r f. y.stands r))
                | inr y ↦ falls q.0 y (rw (y.told, or-true))
              ]
            ]

-- the next high ends, taken over
module _ {a : List ℕ} {m : List Bool} {tops s look lows : List ℕ} (b : HighsReady a m tops s look lows) where
  abbrev size : ℕ
  size = conditions_of a

  module _ {indexed : Bool} {s₁ look' lowered : List ℕ} {fell : Bool} (v : FreeLowered a indexed m tops s s₁ look look' lowered fell) where
    stays : (c : ℕ) → c < size → has lowered c ≡ false → get_or s₁ (2 * size + 2 * c) 0 ≡ get_or s (2 * size + 2 * c) 0
    stays c l q = ⊎_elim (λ y. y.same) (λ y. absurd (true≢false (sym y.0.noted ∙ q))) (v.each c l)

    module _ {s₂ lows' : List ℕ} (g : LowsBegun a s₁ s₂) (o : Woke a indexed s₁ s₂ lows lows') where
      highs₂ : (c : ℕ) → c < size → get_or s₂ (2 * size + 2 * c) 0 ≡ get_or s₁ (2 * size + 2 * c) 0
      highs₂ c l = high_eq (g.intervals c l)

      -- whose high end is another fell, and so its negation is another
      changed : (c : ℕ) → c < size → get_or s₂ (2 * size + 2 * c) 0 ≢ get_or s (2 * size + 2 * c) 0 → has lowered c ≡ true
      changed c l d = by_bool (has lowered c) (λ q. q) (λ q. absurd (d (highs₂ c l ∙ stays c l q)))

      negation : (c : ℕ) → c < size → get_or s₂ (2 * size + 2 * c) 0 ≢ get_or s (2 * size + 2 * c) 0 → get_or s₁ (2 * c + 1) 0 ≢ get_or s₂ (2 * c + 1) 0
      negation c l d e =
          ⊎_elim (λ y. d (highs₂ c l ∙ y.same))
          (λ y. absurd (omega (arith, e, y.0.over, y.0.fallen, b.within c l, b.over_high c l, v.table (2 * c + 1) (omega arith), g.negated c l))) (v.each c l)

      each₂ : (c : ℕ) → c < size → HighStays a m tops s s₂ c ⊎ HighFalls a m tops s s₂ c
      each₂ c l =
          ⊎_elim (λ y. inl (record { same = highs₂ c l ∙ y.same; stands = λ r f. omega (arith, y.same, v.stands c l r f) }))
          (λ y. inr (record { reached = y.0.reached; free = y.1; over = y.0.over; fallen = highs₂ c l ∙ y.0.fallen })) (v.each c l)

      lowest : (c : ℕ) → c < size → has lowered c ≡ true → (d : ℕ) × (d < size) × HighFalls a m tops s s₂ d
      lowest c l q =
          elim (each₂ c l) [
            | inl y ↦ absurd (kept_not c l q y.same)
            | inr y ↦ (c, l, y)
          ]
        where
          kept_not : (c : ℕ) → c < size → has lowered c ≡ true → get_or s₂ (2 * size + 2 * c) 0 ≡ get_or s (2 * size + 2 * c) 0 → ⊥
          kept_not c l q e =
              ⊎_elim (λ y. true≢false (sym q ∙ y.unnoted)) (λ y. absurd (omega (arith, e, highs₂ c l, y.0.fallen, y.0.over))) (v.each c l)

      pub highs_taken : HighsTaken a indexed m tops s s₂ lows' look look' fell
      highs_taken =
          record {
            same_length = g.same_length ∙ v.same_length;
            lows = λ c l. low_eq (g.intervals c l) ∙ v.table (2 * c) (omega arith);
            negations = λ c l. g.negations c l ∙ v.negations c l;
            over_high = λ c l. g.negated c l ∙ ap (λ (x : ℕ). top_of a - x) (sym (highs₂ c l));
            beyond = g.beyond ∙ v.beyond;
            lows_in = o.set_in;
            look_in = v.look_in;
            each = each₂;
            lows_woken = ⊎_elim (λ z. inl z) (λ f. inr (λ c l d. f c l (negation c l d))) o.woken;
            look_woken = ⊎_elim (λ z. inl z) (λ f. inr (λ c l d. f c l (changed c l d))) v.woken;
            look_same = v.look_same;
            none = λ z c l. highs₂ c l ∙ stays c l (v.none z c l);
            one = λ z. let y = v.one z in lowest y.0 y.1 y.2;
          }
