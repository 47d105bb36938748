-- From the support of an assignment to the next assignment. Assumes nothing.
use mathlib.Core.Path.{◌≡◌, refl, sym, ◌∙◌, ap, subst}
use mathlib.Core.Logic.{◌≢◌, ◌⊎◌, inl, inr, ⊎_elim}
use mathlib.Core.Bool.{Bool, true, false, ◌&&◌, true≢false, false≢true}
use mathlib.Core.List.{List}
use Prim.Native.Nat.{ℕ, suc, ◌+◌, ◌*◌, ◌-◌, ◌≤◌, ◌<◌}
use native.Mathlib.Decide.{ℕ_discrete}
use native.Mathlib.Omega.{arith}
use lib.ListN.{get_or, take, length-take}
use lib.Seq.{get_or-take}
use Rattle.fixpoint.specs.KnowledgeOrder.{Alike}
use Rattle.fixpoint.proofs.Cond.{by_bool, cond_true, cond_false}
use Rattle.fixpoint.proofs.KnowledgeOrder.{pair_eq}
use Rattle.semantics.specs.Area.{page_of, top_of, conditions_of}
use Rattle.semantics.specs.Body.{T}
use Rattle.semantics.specs.Grade.{lower}
use Rattle.semantics.specs.Table.{member, any_below}
use Rattle.semantics.proofs.Table.{any_true}
use Rattle.page.proofs.Head.{head_of}
use Rattle.bits.specs.Sets.{Nobody}
use Rattle.bits.specs.Words.{has}
use Rattle.value.specs.Table.{EndTable}
use Rattle.value.proofs.Tables.{table_of_lem, grades_of}
use Rattle.settle.specs.Ends.{reads}
use Rattle.settle.specs.Scratch.{held}
use Rattle.settle.specs.Waiting.{WaitSet}
use Rattle.settle.proofs.Raising.{S, E}
use Rattle.rounds.specs.Round.{MarkedWait, past, Comparable, Fresh, LinesHave}
use Rattle.rounds.proofs.AllWaiting.{nobody_waits}
use Rattle.unknowns.specs.NextHighs.{sought, Places, HighTable, NextHighs}
use Rattle.stages.specs.Steps.{free_at, FreeTold, ahead, seen, Notable, AllNoted, LowsRest, TakeReady, AllTaken, LookedAgain, HighsTaken}
use Rattle.stages.specs.Stages.{stage_at, Tables, Tops, Older, AtSupport, Advanced}
use Rattle.stages.proofs.Assignments.{low_eq, high_eq}
use Rattle.stages.proofs.Notes.{no_later}
use Rattle.stages.proofs.PageStages.{stage_rises, stage_falls, next_at}
use Rattle.page.specs.Solvable.{solvable}

-- reached and free, or not
both : (x y : Bool) → x ≡ true → y ≡ true → (x && y) ≡ true
both true true p q = refl
both true false p q = absurd (false≢true q)
both false y p q = absurd (false≢true p)

not_both : (x y : Bool) → (x ≡ true → y ≡ false) → (x && y) ≡ false
not_both true y f = f refl
not_both false y f = refl

-- what `any_free` tells
pub free_told : (a : List ℕ) (m : List Bool) {free : Bool} → free ≡ any_below (conditions_of a) (sought a m) → FreeTold a m free
free_told a m h z c l r =
    by_bool (free_at a c) (λ e. absurd (true≢false (sym (any_true (conditions_of a) (sought a m) c l (both (member m c) (free_at a c) r e)) ∙ sym h ∙ z))) (λ e. e)

module _ {a : List ℕ} {m : List Bool} {indexed : Bool} {tops : List ℕ} {k : ℕ} {s lows : List ℕ} (ok : solvable a ≡ true) (b : AtSupport a m indexed tops k s lows) where
  abbrev n : ℕ
  n = conditions_of a

  few : n ≤ 512
  few = (head_of a ok).few

  named : (negated : Bool) (c d : ℕ) → c < n → d < n → member m c ≡ true → reads (page_of a) negated c d ≡ true → member m d ≡ true
  unfolding page_of
  named t c d l i r e = b.tables.shut c d l i r ((E a ok).named t c d e)

  seen_at : (i : ℕ) → i < 2 * n → get_or (take (2 * n) s) i 0 ≡ get_or s i 0
  seen_at i l = get_or-take (2 * n) s i 0 l

  low_table : EndTable lower (top_of a) n (held n s) (take (2 * n) s)
  low_table =
      table_of_lem lower (top_of a) n (held n s) (take (2 * n) s)
      (λ c l. record { plain = seen_at (2 * c) (omega arith); negative = seen_at (2 * c + 1) (omega arith) ∙ b.tables.over_high c l })

  pub advance_notable : {moved : List ℕ} → ((c : ℕ) → has moved c ≡ false) → Notable a m s moved
  advance_notable z =
      record {
        long = b.tables.long;
        marked = b.tables.marked;
        grades = grades_of lower (top_of a) n (held n s) (take (2 * n) s) (simp length-take (omega (arith, b.tables.long))) (λ c l. (b.tables.within c l).low_in) low_table;
        set_in = nobody_waits z;
      }

  pub advance_places : Places a m tops
  advance_places = record { marked = b.tables.marked; long = b.tops_in.known }

  pub advance_table : HighTable a s
  advance_table = record { long = b.tables.long; within = b.tables.within; negated = b.tables.over_low }

  -- the low ends held, as next ones
  ahead_low : (c : ℕ) → c < n → ahead a s c ≡ get_or s (2 * c) 0
  ahead_low c l = omega (arith, b.tables.over_low c l, (b.tables.within c l).low_in)

  -- what the low table tells is what is held
  seen_low : (c : ℕ) → c < n → (seen a s c).low ≡ get_or s (2 * c) 0
  seen_low c l = seen_at (2 * c) (omega arith)

  seen_high : (c : ℕ) → c < n → (seen a s c).high ≡ get_or s (2 * n + 2 * c) 0
  seen_high c l = omega (arith, seen_at (2 * c + 1) (omega arith), b.tables.over_high c l, (b.tables.within c l).high_in)

  past_same : (c : ℕ) → c < n → T (page_of a) (seen a s) c ≡ T (page_of a) (past a s) c
  past_same c l =
      (S a ok).local (seen a s) (past a s) c l (λ d i f. pair_eq (seen_low d i) (ap (λ (x : ℕ). top_of a - x) (seen_at (2 * d + 1) (omega arith))))

  pub advance_rests : indexed ≡ true → LowsRest a m s lows
  advance_rests d c l r q = omega (arith, ahead_low c l, low_eq (past_same c l), b.lows_wait.rests d c l r q)

  -- T of what is held is the next assignment
  next_low : (c : ℕ) → c < n → member m c ≡ true → (T (page_of a) (seen a s) c).low ≡ (stage_at a (suc k) c).low
  next_low c l r =
      low_eq (next_at a ok m b.tables.shut k (seen a s) (λ d i e. pair_eq (seen_low d i) (seen_high d i) ∙ b.between d i e) c l r)

  next_high : (c : ℕ) → c < n → member m c ≡ true → (T (page_of a) (held n s) c).high ≡ (stage_at a (suc k) c).high
  next_high c l r = high_eq (next_at a ok m b.tables.shut k (held n s) b.between c l r)

  -- the floor held
  floors : (c : ℕ) → c < n → member m c ≡ true → get_or s (2 * c) 0 ≡ (stage_at a k c).low
  floors c l r = low_eq (b.between c l r)

  free_high : (c : ℕ) → c < n → member m c ≡ true → free_at a c ≡ true → get_or s (2 * n + 2 * c) 0 ≡ (stage_at a k c).high
  free_high c l r e = high_eq (b.between c l r) ∙ cond_true (stage_at a k c).high (stage_at a (suc k) c).high e

  bound_high : (c : ℕ) → c < n → member m c ≡ true → free_at a c ≡ false → get_or s (2 * n + 2 * c) 0 ≡ (stage_at a (suc k) c).high
  bound_high c l r e = high_eq (b.between c l r) ∙ cond_false (stage_at a k c).high (stage_at a (suc k) c).high e

  -- the next high ends are known
  module _ {tops' : List ℕ} (w : NextHighs a m s tops tops') where
    next_tops : Tops a m (suc k) tops'
    next_tops =
        record {
          known = omega (arith, b.tops_in.known, w.steady.same_length);
          closed = λ c l r e. w.steady.others c (λ h. not_both (member m c) (free_at a c) (λ q. e)) ∙ b.tops_in.closed c l r e;
          free = λ c l r e. w.each c l (both (member m c) (free_at a c) r e) ∙ next_high c l r;
        }

    -- the next low ends are noted
    module _ {s₁ moved₀ moved : List ℕ} (none₀ : (c : ℕ) → has moved₀ c ≡ false) (v : AllNoted a m s s₁ moved₀ moved) where
      grade₁ : (c : ℕ) → c < n → get_or s₁ (2 * n + (2 * c + 1)) 0 ≤ top_of a
      grade₁ c l = omega (arith, no_later a m v.noting c l, b.tables.over_low c l)

      table₁ : (i : ℕ) → i < 2 * n → get_or s₁ i 0 ≡ get_or s i 0
      table₁ i l = sym (get_or-take (2 * n) s₁ i 0 l) ∙ ap (λ (t : List ℕ). get_or t i 0) v.noting.table ∙ seen_at i l

      -- who did not move has its low end next, too
      unmoved₁ : (c : ℕ) → c < n → has moved c ≡ false → ahead a s₁ c ≡ get_or s (2 * c) 0
      unmoved₁ c l q =
          ⊎_elim (λ y. ap (λ (x : ℕ). top_of a - x) y.0 ∙ ahead_low c l) (λ y. absurd (true≢false (sym y.noted ∙ q))) (v.noting.each c l)

      ahead₁ : (c : ℕ) → c < n → member m c ≡ true → ahead a s₁ c ≡ (stage_at a (suc k) c).low
      ahead₁ c l r =
          ⊎_elim (λ y. omega (arith, y.0, ahead_low c l, floors c l r, stage_rises a ok m b.tables.shut k c l, v.rests c l r, next_low c l r))
          (λ y. omega (arith, y.below, v.rests c l r, next_low c l r)) (v.noting.each c l)

      -- the next high ends are taken over
      module _ {s₂ lows₂ look look₁ : List ℕ} {fell : Bool} (h : HighsTaken a indexed m tops' s₁ s₂ lows₂ look look₁ fell) where
        low₂ : (c : ℕ) → c < n → get_or s₂ (2 * c) 0 ≡ get_or s (2 * c) 0
        low₂ c l = h.lows c l ∙ table₁ (2 * c) (omega arith)

        ahead₂ : (c : ℕ) → c < n → ahead a s₂ c ≡ ahead a s₁ c
        ahead₂ c l = ap (λ (x : ℕ). top_of a - x) (h.negations c l)

        -- they are those of the next assignment
        high₂ : (c : ℕ) → c < n → member m c ≡ true → get_or s₂ (2 * n + 2 * c) 0 ≡ (stage_at a (suc k) c).high
        high₂ c l r =
            elim (h.each c l) [
              | inr y ↦ y.fallen ∙ next_tops.free c l r y.free
              | inl y ↦ by_bool (free_at a c)
                  (λ e. omega (arith, y.same, y.stands r e, next_tops.free c l r e, v.noting.highs c l, free_high c l r e, stage_falls a ok m b.tables.shut k c l))
                  (λ e. y.same ∙ v.noting.highs c l ∙ bound_high c l r e)
            ]

        apart₂ : (c : ℕ) → c < n → member m c ≡ false → get_or s₂ (2 * n + 2 * c) 0 ≡ 0
        apart₂ c l r = ⊎_elim (λ y. y.same ∙ v.noting.highs c l ∙ b.tables.apart c l r) (λ y. absurd (true≢false (sym y.reached ∙ r))) (h.each c l)

        -- a free condition whose high end is the same has that of this assignment
        unfallen₂ : (c : ℕ) → c < n → member m c ≡ true → free_at a c ≡ true → get_or s₂ (2 * n + 2 * c) 0 ≡ get_or s₁ (2 * n + 2 * c) 0 → (stage_at a k c).high ≡ (stage_at a (suc k) c).high
        unfallen₂ c l r e q = sym (free_high c l r e) ∙ sym (v.noting.highs c l) ∙ sym q ∙ high₂ c l r

        -- the floor did not move
        pub advanced_still : {look' lows' : List ℕ} → fell ≡ false → Nobody moved → Advanced a m indexed tops tops' k s s₂ look' lows' false
        advanced_still f y =
            record {
              same_length = h.same_length ∙ v.noting.same_length;
              beyond = h.beyond ∙ v.noting.beyond;
              size = w.steady.same_length;
              next = λ z. absurd (false≢true z);
              one = λ z. absurd (false≢true z);
              still = λ z. record {
                lows = λ c i r. sym (ahead₁ c i r) ∙ unmoved₁ c i (y c (omega (arith, few))) ∙ floors c i r;
                highs = λ c i r e. sym (unfallen₂ c i r e (h.none f c i));
              };
            }

        pub advance_comparable : Comparable a s₂
        advance_comparable =
            record {
              long = omega (arith, b.tables.long, v.noting.same_length, h.same_length);
              within = λ c l. omega (arith, low₂ c l, (b.tables.within c l).low_in);
            }

        abbrev Again : List ℕ → Type 0
        Again look₂ = LookedAgain a indexed m s₂ look₁ look₂ fell

        again_in : (look₂ : List ℕ) → Again look₂ → WaitSet n look₂
        again_in look₂ (inl d) = subst (WaitSet n) (sym d.1) h.look_in
        again_in look₂ (inr (inl q)) = q.set
        again_in look₂ (inr (inr q)) = subst (WaitSet n) (sym q.0) h.look_in

        pub take_ready : {look₂ : List ℕ} → Again look₂ → TakeReady a s₂ moved lows₂ look₂
        take_ready {look₂} x =
            record {
              long = advance_comparable.long;
              within = λ c l. omega (arith, h.negations c l, grade₁ c l);
              moved_in = v.noting.set_in;
              lows_in = h.lows_in;
              look_in = again_in look₂ x;
              unmoved = λ c l q. low₂ c l ∙ sym (unmoved₁ c l q) ∙ sym (ahead₂ c l);
            }

        -- the next low ends are taken over
        module _ {s₃ look₂ look' lows' : List ℕ} (t : AllTaken a indexed s₂ s₃ lows₂ lows' look₂ look') where
          lows₃ : (c : ℕ) → c < n → get_or s₃ (2 * c) 0 ≡ ahead a s₁ c
          lows₃ c l = t.next c l ∙ ahead₂ c l

          highs₃ : (c : ℕ) → c < n → get_or s₃ (2 * n + 2 * c) 0 ≡ get_or s₂ (2 * n + 2 * c) 0
          highs₃ c l = t.upper (2 * n + 2 * c) (omega arith)

          tables₃ : Tables a m s₃
          tables₃ =
              record {
                long = omega (arith, advance_comparable.long, t.same_length);
                marked = b.tables.marked;
                shut = b.tables.shut;
                within = λ c l. record {
                  low_in = omega (arith, lows₃ c l);
                  high_in = omega (arith, highs₃ c l, v.noting.highs c l, (b.tables.within c l).high_in, no_higher c l);
                };
                over_low = λ c l. omega (arith, t.upper (2 * n + (2 * c + 1)) (omega arith), h.negations c l, lows₃ c l, grade₁ c l);
                over_high = λ c l. t.negations c ∙ h.over_high c l ∙ ap (λ (x : ℕ). top_of a - x) (sym (highs₃ c l));
                apart = λ c l r. highs₃ c l ∙ apart₂ c l r;
              }
            where
              no_higher : (c : ℕ) → c < n → get_or s₂ (2 * n + 2 * c) 0 ≤ get_or s₁ (2 * n + 2 * c) 0
              no_higher c l = ⊎_elim (λ y. omega (arith, y.same)) (λ y. omega (arith, y.over, y.fallen)) (h.each c l)

          -- who is not looked at negates nobody whose low end moved, and names plainly no free condition whose high end fell
          older : ((c d : ℕ) → c < n → d < n → has look' c ≡ false → reads (page_of a) true c d ≡ true → get_or s₂ (2 * d) 0 ≡ ahead a s₂ d)
              → ((c d : ℕ) → c < n → d < n → has look' c ≡ false → reads (page_of a) false c d ≡ true → get_or s₂ (2 * n + 2 * d) 0 ≡ get_or s₁ (2 * n + 2 * d) 0) → Older a m (suc k) look'
          older f g =
              record {
                before = k;
                is = refl;
                same = λ c d l i r q e. let w = named true c d l i r e in sym (floors d i w) ∙ sym (low₂ d i) ∙ f c d l i q e ∙ ahead₂ d i ∙ ahead₁ d i w;
                unfallen = λ c d l i r q e o. unfallen₂ d i (named false c d l i r e) o (g c d l i q e);
              }

          -- with an index
          older_woken : ((c : ℕ) → c < n → get_or s₂ (2 * c) 0 ≢ ahead a s₂ c → (e : ℕ) → reads (page_of a) true e c ≡ true → has look' e ≡ true)
              → ((c : ℕ) → c < n → get_or s₂ (2 * n + 2 * c) 0 ≢ get_or s₁ (2 * n + 2 * c) 0 → (e : ℕ) → reads (page_of a) false e c ≡ true → has look₁ e ≡ true)
              → look₂ ≡ look₁ → Older a m (suc k) look'
          older_woken f g z =
              older
              (λ c d l i q e. elim (ℕ_discrete (get_or s₂ (2 * d) 0) (ahead a s₂ d)) [
                | yes y ↦ y
                | no y ↦ absurd (true≢false (sym (f d i y c e) ∙ q))
              ])
              (λ c d l i q e. elim (ℕ_discrete (get_or s₂ (2 * n + 2 * d) 0) (get_or s₁ (2 * n + 2 * d) 0)) [
                | yes y ↦ y
                | no y ↦ absurd (true≢false (sym (t.look_kept c (omega (arith, few)) (ap (λ (x : List ℕ). has x c) z ∙ g d i y c e)) ∙ q))
              ])

          -- without one, where no high end fell and no low end moved that a rule negates
          older_fresh : fell ≡ false → ((c : ℕ) → LinesHave (page_of a).lines (2 * c + 1) → Fresh a s₂ c) → Older a m (suc k) look'
          older_fresh z f =
              older (λ c d l i q e. omega (arith, f d (c, e), low₂ d i, (b.tables.within d i).low_in)) (λ c d l i q e. h.none z d i)

          spread : Again look₂ → MarkedWait n m look' ⊎ Older a m (suc k) look'
          spread (inl d) =
              inr (elim t.look_woken [
                | inl e ↦ absurd (true≢false (sym d.0 ∙ e))
                | inr f ↦ elim h.look_woken [
                  | inl e ↦ absurd (true≢false (sym d.0 ∙ e))
                  | inr g ↦ older_woken f g d.1
                ]
              ])
          spread (inr (inl q)) = inl (record { set = t.look_in; waits = λ c l r. t.look_kept c (omega (arith, few)) (q.waits c l r) })
          spread (inr (inr q)) = inr (older_fresh q.1 q.2)

          whole : Nobody look → Again look₂ → indexed ≡ false → MarkedWait n m look' ⊎ Nobody look'
          whole o (inl d) z = absurd (true≢false (sym d.0 ∙ z))
          whole o (inr (inl q)) z = inl (subst (MarkedWait n m) (sym (t.look_same z)) q)
          whole o (inr (inr q)) z = inr (subst Nobody (sym (t.look_same z ∙ q.0 ∙ h.look_same z)) o)

          negation₃ : indexed ≡ true → (c e : ℕ) → c < n → e < n → has lows' c ≡ false → reads (page_of a) true c e ≡ true → get_or s₃ (2 * e + 1) 0 ≡ get_or s (2 * e + 1) 0
          negation₃ d c e l i q f =
              elim (ℕ_discrete (get_or s₂ (2 * n + 2 * e) 0) (get_or s₁ (2 * n + 2 * e) 0)) [
                | yes z ↦ t.negations e ∙ h.over_high e i ∙ ap (λ (x : ℕ). top_of a - x) (z ∙ v.noting.highs e i) ∙ sym (b.tables.over_high e i)
                | no z ↦ absurd (⊎_elim (λ o. true≢false (sym d ∙ o)) (λ g. true≢false (sym (t.lows_kept c (omega (arith, few)) (g e i z c f)) ∙ q)) h.lows_woken)
              ]

          rests₃ : indexed ≡ true → (c : ℕ) → c < n → member m c ≡ true → has lows' c ≡ false → (T (page_of a) (past a s₃) c).low ≤ get_or s₃ (2 * c) 0
          unfolding page_of
          rests₃ d c l r q =
              omega (
                arith,
                v.rests c l r,
                lows₃ c l,
                (E a ok).local_end lower (past a s₃) (seen a s) c l
                    (λ e i f. elim (ℕ_discrete (get_or s₂ (2 * e) 0) (ahead a s₂ e)) [
                      | yes z ↦ t.next e i ∙ sym z ∙ low₂ e i ∙ sym (seen_low e i)
                      | no z ↦ absurd (⊎_elim (λ o. true≢false (sym d ∙ o)) (λ g. true≢false (sym (g e i z c f) ∙ q)) t.lows_woken)
                    ])
                    (λ e i f. ap (λ (x : ℕ). top_of a - x) (negation₃ d c e l i q f ∙ sym (seen_at (2 * e + 1) (omega arith)))),
              )

          -- a low end rose, or a high end fell
          changes : (fell ≡ true) ⊎ (Nobody moved → ⊥) → ¬ Alike n (member m) (stage_at a k) (stage_at a (suc k))
          changes (inl z) q =
              let o = h.one z in
              omega (
                arith,
                o.2.over,
                next_tops.free o.0 o.1 o.2.reached o.2.free,
                v.noting.highs o.0 o.1,
                free_high o.0 o.1 o.2.reached o.2.free,
                high_eq (q o.0 o.1 o.2.reached),
              )
          changes (inr f) q = f (λ c small. by_bool (has moved c) (λ y. absurd (none_moved c (v.noting.set_in.inside c small y) y)) (λ y. y))
            where
              none_moved : (c : ℕ) → c < n → has moved c ≡ true → ⊥
              none_moved c real y =
                  ⊎_elim (λ x. true≢false (sym y ∙ x.1 ∙ none₀ c))
                  (λ x. absurd (omega (arith, x.less, ahead_low c real, b.tables.over_low c real, ahead₁ c real x.reached, floors c real x.reached, low_eq (q c real x.reached)))) (v.noting.each c real)

          pub advanced : (fell ≡ true) ⊎ (Nobody moved → ⊥) → Nobody look → Again look₂ → Advanced a m indexed tops tops' k s s₃ look' lows' true
          advanced o drained again =
              record {
                same_length = t.same_length ∙ h.same_length ∙ v.noting.same_length;
                beyond = t.beyond ∙ h.beyond ∙ v.noting.beyond;
                size = w.steady.same_length;
                next = λ z. record {
                  tables = tables₃;
                  tops_in = next_tops;
                  staged = λ c l r. pair_eq (lows₃ c l ∙ ahead₁ c l r) (highs₃ c l ∙ high₂ c l r);
                  look_in = t.look_in;
                  spread = spread again;
                  whole = whole drained again;
                  lows_wait = record { set_in = t.lows_in; rests = rests₃ };
                };
                one = λ z. changes o;
                still = λ z. absurd (true≢false z);
              }
