-- The loop over the rounds: every assignment so far was changed by the next. Assumes nothing.
use mathlib.Core.Path.{◌≡◌, refl, sym, ◌∙◌, ap}
use mathlib.Core.Logic.{inl, inr}
use mathlib.Core.Bool.{Bool, true, false}
use mathlib.Core.List.{List}
use Prim.Native.Nat.{ℕ, suc, ◌+◌, ◌*◌, ◌-◌, ◌≤◌, ◌<◌}
use native.Mathlib.Numerals.{add-one}
use native.Mathlib.Omega.{arith}
use lib.ListN.{length, get_or, drop}
use Rattle.fixpoint.proofs.Cond.{by_bool, cond_true, cond_false}
use Rattle.fixpoint.proofs.KnowledgeOrder.{pair_eq}
use Rattle.semantics.specs.Area.{page_of, top_of, conditions_of}
use Rattle.semantics.specs.Table.{member}
use Rattle.rounds.specs.Round.{MarkedWait}
use Rattle.rounds.proofs.Rounding.{all_lows}
use Rattle.stages.specs.Counted.{CountReady, Counted}
use Rattle.stages.specs.Steps.{first_high, Begun, TopsCopied}
use Rattle.stages.specs.Stages.{Tables, Tops, AtStage, Supported, Advanced}
use Rattle.stages.proofs.Assignments.{high_eq}
use Rattle.stages.proofs.PageStages.{stage_first, closed_in, MovingAt, moving_on, rounds_few, counted_here, counted_after}
use Rattle.page.specs.Solvable.{solvable}
use Rattle.page.proofs.Solvable.{solvable_proper}

-- before the first round
module _ {a : List ℕ} {m : List Bool} {s : List ℕ} (ok : solvable a ≡ true) (b : CountReady a m s) where
  abbrev n : ℕ
  n = conditions_of a

  pub tops_small : (c : ℕ) → c < n → member m c ≡ true → get_or s (2 * n + 2 * c) 0 ≤ 200
  unfolding page_of
  tops_small c l r = omega (arith, high_eq (b.reads_closed c l r), closed_in a ok m b.shut c l, (solvable_proper a ok).top_most)

  pub tops_are : {tops₀ tops : List ℕ} → TopsCopied a m s tops₀ tops → Tops a m 0 tops
  tops_are v =
      record {
        known = v.long;
        closed = λ c l r e. v.copied c l r ∙ cond_false (top_of a) (get_or s (2 * n + 2 * c) 0) e ∙ high_eq (b.reads_closed c l r);
        free = λ c l r e. v.copied c l r ∙ cond_true (top_of a) (get_or s (2 * n + 2 * c) 0) e ∙ sym (high_eq (stage_first a ok m b.shut c));
      }

  module _ {s₁ : List ℕ} (v : Begun a m s s₁) where
    high_least : (c : ℕ) → first_high a m c ≤ top_of a
    high_least c = by_bool (member m c) (λ r. omega (arith, cond_true (top_of a) 0 r)) (λ r. omega (arith, cond_false (top_of a) 0 r))

    tables : Tables a m s₁
    tables =
        record {
          long = omega (arith, b.long, v.same_length);
          marked = b.marked;
          shut = b.shut;
          within = λ c l. record { low_in = omega (arith, (v.each c l).low); high_in = omega (arith, (v.each c l).high, high_least c) };
          over_low = λ c l. omega (arith, (v.each c l).over_low, (v.each c l).low);
          over_high = λ c l. (v.each c l).over_high ∙ ap (λ (x : ℕ). top_of a - x) (sym (v.each c l).high);
          apart = λ c l r. (v.each c l).high ∙ cond_false (top_of a) 0 r;
        }

    pub stage_begins : (indexed : Bool) {tops look lows : List ℕ} → Tops a m 0 tops → MarkedWait n m look → MarkedWait n m lows → AtStage a m indexed tops 0 s₁ look lows
    stage_begins indexed {tops} {look} {lows} p w z =
        record {
          tables = tables;
          tops_in = p;
          staged = λ c l r. pair_eq (v.each c l).low ((v.each c l).high ∙ cond_true (top_of a) 0 r) ∙ sym (stage_first a ok m b.shut c);
          look_in = w.set;
          spread = inl w;
          whole = λ e. inl w;
          lows_wait = all_lows a m indexed s₁ lows z.set (inr z);
        }

-- the loop, before the support of assignment k
pub record Rounding (a : List ℕ) (m : List Bool) (indexed : Bool) (tops₀ tops s₀ s look lows : List ℕ) (k : ℕ) : Type 0 where
  pub same_length : length s ≡ length s₀
  pub beyond : drop (4 * conditions_of a) s ≡ drop (4 * conditions_of a) s₀
  pub size : length tops ≡ length tops₀
  pub sound : solvable a ≡ true
  pub at : AtStage a m indexed tops k s look lows
  pub moving : MovingAt a sound m at.tables.shut k

pub rounding_first : {a : List ℕ} {m : List Bool} {indexed : Bool} {tops s look lows : List ℕ} → solvable a ≡ true → AtStage a m indexed tops 0 s look lows → Rounding a m indexed tops tops s s look lows 0
rounding_first ok v = record { same_length = refl; beyond = refl; size = refl; sound = ok; at = v; moving = λ j l. absurd (omega arith) }

-- the same from an earlier scratch
pub counted_from : {a : List ℕ} {m : List Bool} {s s₀ s' : List ℕ} {k : ℕ} → Counted a m s₀ s' k → length s₀ ≡ length s → drop (4 * conditions_of a) s₀ ≡ drop (4 * conditions_of a) s → Counted a m s s' k
counted_from v e f = record { same_length = v.same_length ∙ e; beyond = v.beyond ∙ f; is_count = v.is_count }

module _ {a : List ℕ} {m : List Bool} {indexed : Bool} {tops₀ tops s₀ s look lows : List ℕ} {k : ℕ} (v : Rounding a m indexed tops₀ tops s₀ s look lows k) where
  ok : solvable a ≡ true
  ok = v.sound

  pub rounds_small : k ≤ 102400
  rounds_small = rounds_few a ok m v.at.tables.shut k v.moving

  module _ {s₁ look₁ lows₁ : List ℕ} {fell : Bool} (x : Supported a m indexed tops k s s₁ look₁ lows₁ fell)
      {tops₁ s₂ look₂ lows₂ : List ℕ} {moved : Bool} (t : Advanced a m indexed tops tops₁ k s₁ s₂ look₂ lows₂ moved) where
    pub rounds_length : length s₂ ≡ length s₀
    rounds_length = t.same_length ∙ x.same_length ∙ v.same_length

    rounds_beyond : drop (4 * conditions_of a) s₂ ≡ drop (4 * conditions_of a) s₀
    rounds_beyond = t.beyond ∙ x.beyond ∙ v.beyond

    pub rounds_size : length tops₁ ≡ length tops₀
    rounds_size = t.size ∙ v.size

    -- one more round
    module _ (y : moved ≡ true) where
      moving' : MovingAt a ok m v.at.tables.shut (suc k)
      moving' = moving_on a ok m v.at.tables.shut k v.moving (t.one y)

      pub rounds_less : 102400 - (k + 1) < 102400 - k
      rounds_less = omega (arith, rounds_few a ok m v.at.tables.shut (suc k) moving')

      pub rounds_next : Rounding a m indexed tops₀ tops₁ s₀ s₂ look₂ lows₂ (k + 1)
      rounds_next = rw (add-one k) (record { same_length = rounds_length; beyond = rounds_beyond; size = rounds_size; sound = ok; at = t.next y; moving = moving' })

    -- the last
    module _ (y : moved ≡ false) where
      pub rounds_here : fell ≡ false → Counted a m s₀ s₂ k
      rounds_here z =
          record {
            same_length = rounds_length;
            beyond = rounds_beyond;
            is_count = counted_here a ok m v.at.tables.shut k (t.still y) v.moving (x.none z);
          }

      pub rounds_after : fell ≡ true → Counted a m s₀ s₂ (k + 1)
      rounds_after z =
          let o = x.one z in
          rw (add-one k) (record {
            same_length = rounds_length;
            beyond = rounds_beyond;
            is_count = counted_after a ok m v.at.tables.shut k (t.still y) v.moving o.0 o.1 o.2 o.3;
          })
