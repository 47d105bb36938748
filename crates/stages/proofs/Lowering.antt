-- High ends fall to those of the closed reading, and whoever reads a fallen one is looked at. Assumes nothing.
use mathlib.Core.Path.{◌≡◌, sym, ◌∙◌, ap, subst}
use mathlib.Core.Logic.{◌≢◌, ◌⊎◌, inl, inr, ⊎_elim}
use mathlib.Core.Bool.{Bool, true, false, ◌||◌, or-true, or-false, true≢false}
use mathlib.Core.List.{List}
use Prim.Native.Nat.{ℕ, ◌+◌, ◌*◌, ◌≤◌, ◌<◌}
use native.Mathlib.Decide.{ℕ_discrete}
use native.Mathlib.Omega.{arith}
use lib.ListN.{length, get_or, drop, length-set}
use lib.Seq.{get_or-set_same, get_or-set_other, drop-set-lt}
use Rattle.fixpoint.specs.Sum.{sum}
use Rattle.fixpoint.proofs.Cond.{by_bool}
use Rattle.fixpoint.proofs.Sum.{sum_drop}
use Rattle.semantics.specs.Area.{page_of, conditions_of}
use Rattle.semantics.specs.Table.{member}
use Rattle.page.specs.Solvable.{solvable}
use Rattle.page.proofs.Head.{head_of}
use Rattle.bits.specs.Sets.{Nobody, Member}
use Rattle.bits.specs.Words.{has, Removed}
use Rattle.settle.specs.Ends.{reads}
use Rattle.stages.specs.Steps.{FellTop, KeptTop, LoweredTop, LowerReady, FallsAt, StaysAt, Unlooked, Lowered, Whole}
use Rattle.bits.proofs.Members.{waiters, was_in, else_same, fewer}
use Rattle.settle.proofs.Members.{few_wait, rest_in, joined, joins, joined_else}

-- the high ends, all together
abbrev pub tall : (a s : List ℕ) → ℕ
tall a s = sum (conditions_of a) (λ d. get_or s (2 * conditions_of a + 2 * d) 0)

abbrev pub to_lower : (a s look : List ℕ) → ℕ
to_lower a s look = tall a s * 513 + waiters look

pub record Lowering (a : List ℕ) (indexed : Bool) (m : List Bool) (tops s₀ s look₀ look lowered : List ℕ) (fell : Bool) : Type 0 where
  pub sound : solvable a ≡ true
  pub ready : LowerReady a m tops s look lowered
  pub whole : Whole indexed (conditions_of a) m look₀
  pub inside : indexed ≡ false → (d : ℕ) → d < 512 → has look d ≡ true → has look₀ d ≡ true
  pub same_length : length s ≡ length s₀
  pub table : (i : ℕ) → i < 2 * conditions_of a → get_or s i 0 ≡ get_or s₀ i 0
  pub negations : (d : ℕ) → d < conditions_of a → get_or s (2 * conditions_of a + (2 * d + 1)) 0 ≡ get_or s₀ (2 * conditions_of a + (2 * d + 1)) 0
  pub beyond : drop (4 * conditions_of a) s ≡ drop (4 * conditions_of a) s₀
  pub each : (d : ℕ) → d < conditions_of a → StaysAt a s₀ s lowered d ⊎ FallsAt a m tops s₀ s lowered d
  pub out : (d : ℕ) → d < conditions_of a → member m d ≡ true → has look d ≡ false → (get_or s (2 * conditions_of a + 2 * d) 0 ≤ get_or tops d 0) ⊎ Unlooked a look₀ lowered d
  pub none : fell ≡ false → (d : ℕ) → d < conditions_of a → has lowered d ≡ false
  pub one : fell ≡ true → (d : ℕ) × (d < conditions_of a) × (has lowered d ≡ true)

module _ {a : List ℕ} {indexed : Bool} {m : List Bool} {tops s₀ s look₀ look lowered : List ℕ} {fell : Bool} (v : Lowering a indexed m tops s₀ s look₀ look lowered fell) where
  abbrev n : ℕ
  n = conditions_of a

  few : n ≤ 512
  few = (head_of a v.sound).few

  pub lowering_last : Nobody look → Lowered a m tops s₀ s look₀ look lowered fell
  lowering_last l =
      record {
        same_length = v.same_length;
        table = v.table;
        negations = v.negations;
        beyond = v.beyond;
        look_in = v.ready.look_in;
        lowered_in = v.ready.lowered_in;
        drained = l;
        each = v.each;
        out = λ d k r q. v.out d k r (l d (omega (arith, few)));
        none = v.none;
        one = v.one;
      }

  module _ {c : ℕ} (waits : Member look c) where
    pub lowering_real : c < conditions_of a
    lowering_real = v.ready.look_in.inside c waits.within waits.found

    module _ (look₁ : List ℕ) (x : Removed c look look₁) where
      pub lowering_ready : LowerReady a m tops s look₁ lowered
      lowering_ready =
          record {
            long = v.ready.long;
            marked = v.ready.marked;
            known = v.ready.known;
            look_in = rest_in look look₁ c x v.ready.look_in;
            lowered_in = v.ready.lowered_in;
          }

      less_look : waiters look₁ < waiters look
      less_look = fewer look look₁ c x waits.within waits.found

      -- nothing is done
      module _ {s' look' lowered' : List ℕ} {t : Bool} (k : KeptTop a m tops c s s' look₁ look' lowered lowered' t) where
        stay : Lowering a indexed m tops s₀ s look₀ look₁ lowered fell
        stay =
            record {
              sound = v.sound;
              ready = lowering_ready;
              whole = v.whole;
              inside = λ e d l q. v.inside e d l (was_in look look₁ c x d l q);
              same_length = v.same_length;
              table = v.table;
              negations = v.negations;
              beyond = v.beyond;
              each = v.each;
              out = λ d l r q. elim (ℕ_discrete d c) [
                | yes z ↦ inl (subst (λ (j : ℕ). get_or s (2 * conditions_of a + 2 * j) 0 ≤ get_or tops j 0) (sym z) (k.stands (sym (ap (member m) z) ∙ r)))
                | no z ↦ v.out d l r (sym (else_same look look₁ c x d (omega (arith, few)) z) ∙ q)
              ];
              none = v.none;
              one = v.one;
            }

        pub lowering_stays : Lowering a indexed m tops s₀ s' look₀ look' lowered' fell
        lowering_stays = rw (k.same, k.look_same, k.lowered_same) stay

        pub stays_less : to_lower a s' look' < to_lower a s look
        stays_less = rw (k.same, k.look_same) (omega (arith, less_look))

      -- the high end of c falls
      module _ {s' look' lowered' : List ℕ} {t : Bool} (k : FellTop a indexed m tops c s s' look₁ look' lowered lowered' t) where
        else' : (j : ℕ) → j ≢ 2 * n + 2 * c → get_or s' j 0 ≡ get_or s j 0
        else' j z = ap (λ (w : List ℕ). get_or w j 0) k.stored ∙ get_or-set_other s (2 * n + 2 * c) j (get_or tops c 0) 0 z

        here : get_or s' (2 * n + 2 * c) 0 ≡ get_or tops c 0
        here = ap (λ (w : List ℕ). get_or w (2 * n + 2 * c) 0) k.stored ∙ get_or-set_same s (2 * n + 2 * c) (get_or tops c 0) 0 (omega (arith, v.ready.long, lowering_real))

        same_long : length s' ≡ length s
        same_long = ap length k.stored ∙ length-set s (2 * n + 2 * c) (get_or tops c 0)

        was_over : get_or tops c 0 < get_or s₀ (2 * n + 2 * c) 0
        was_over = ⊎_elim (λ q. omega (arith, q.same, k.over)) (λ q. q.over) (v.each c lowering_real)

        each' : (d : ℕ) → d < n → StaysAt a s₀ s' lowered' d ⊎ FallsAt a m tops s₀ s' lowered' d
        each' d l =
            elim (ℕ_discrete d c) [
              | yes z ↦ inr (subst (FallsAt a m tops s₀ s' lowered') (sym z) (record { reached = k.reached; over = was_over; fallen = here; noted = joins lowered lowered' c waits.within k.lowered_in }))
              | no z ↦ ⊎_elim
                  (λ q. inl (record { same = else' (2 * n + 2 * d) (λ e. z (omega arith)) ∙ q.same; unnoted = joined_else lowered lowered' c k.lowered_in d (omega (arith, few)) z ∙ q.unnoted }))
                  (λ q. inr (record { reached = q.reached; over = q.over; fallen = else' (2 * n + 2 * d) (λ e. z (omega arith)) ∙ q.fallen; noted = joined_else lowered lowered' c k.lowered_in d (omega (arith, few)) z ∙ q.noted }))
                  (v.each d l)
            ]

        was_out : (d : ℕ) → d < n → d ≢ c → has look' d ≡ false → has look d ≡ false
        was_out d l z q =
            sym (else_same look look₁ c x d (omega (arith, few)) z) ∙ by_bool (has look₁ d) (λ y. absurd (true≢false (sym (k.kept d (omega (arith, few)) y) ∙ q))) (λ y. y)

        -- who was not looked at does not read c
        unread : (d : ℕ) → d < n → member m d ≡ true → has look' d ≡ false → Unlooked a look₀ lowered d → reads (page_of a) false d c ≡ true → ⊥
        unread d l r q u f = ⊎_elim (λ z. ⊎_elim (λ w. true≢false (sym (w.waits d l r) ∙ u.out)) (λ w. true≢false (sym (v.inside z c waits.within waits.found) ∙ w c waits.within)) (v.whole z)) (λ w. true≢false (sym (w d f) ∙ q)) k.woken

        out' : (d : ℕ) → d < n → member m d ≡ true → has look' d ≡ false → (get_or s' (2 * n + 2 * d) 0 ≤ get_or tops d 0) ⊎ Unlooked a look₀ lowered' d
        out' d l r q =
            elim (ℕ_discrete d c) [
              | yes z ↦ inl (subst (λ (j : ℕ). get_or s' (2 * n + 2 * j) 0 ≤ get_or tops j 0) (sym z) (omega (arith, here)))
              | no z ↦ ⊎_elim (λ y. inl (omega (arith, else' (2 * n + 2 * d) (λ e. z (omega arith)), y)))
                  (λ u. inr (record {
                    out = u.out;
                    plain = λ b i f. elim (ℕ_discrete b c) [
                      | yes y ↦ absurd (unread d l r q u (subst (λ (j : ℕ). reads (page_of a) false d j ≡ true) y f))
                      | no y ↦ joined_else lowered lowered' c k.lowered_in b (omega (arith, few)) y ∙ u.plain b i f
                    ];
                  }))
                  (v.out d l r (was_out d l z q))
            ]

        pub lowering_falls : {fell' : Bool} → fell' ≡ true → Lowering a indexed m tops s₀ s' look₀ look' lowered' fell'
        lowering_falls e =
            record {
              sound = v.sound;
              ready = record {
                long = omega (arith, v.ready.long, same_long);
                marked = v.ready.marked;
                known = v.ready.known;
                look_in = k.look_in;
                lowered_in = joined v.ready.lowered_in lowering_real k.lowered_in;
              };
              whole = v.whole;
              inside = λ z d l q. v.inside z d l (was_in look look₁ c x d l (sym (ap (λ (w : List ℕ). has w d) (k.look_same z)) ∙ q));
              same_length = same_long ∙ v.same_length;
              table = λ i l. else' i (λ z. omega arith) ∙ v.table i l;
              negations = λ d l. else' (2 * n + (2 * d + 1)) (λ z. omega arith) ∙ v.negations d l;
              beyond = ap (drop (4 * n)) k.stored ∙ drop-set-lt (4 * n) s (2 * n + 2 * c) (get_or tops c 0) (omega (arith, lowering_real)) ∙ v.beyond;
              each = each';
              out = out';
              none = λ q. absurd (true≢false (sym e ∙ q));
              one = λ q. (c, lowering_real, joins lowered lowered' c waits.within k.lowered_in);
            }

        pub falls_less : to_lower a s' look' < to_lower a s look
        falls_less =
            omega (
              arith,
              few_wait look',
              sum_drop n (λ d. get_or s' (2 * n + 2 * d) 0) (λ d. get_or s (2 * n + 2 * d) 0) 1 c lowering_real (λ d l z. omega (arith, else' (2 * n + 2 * d) (λ e. z (omega arith)))) (omega (arith, here, k.over)),
            )

      -- by what the code tells
      module _ {s' look' lowered' : List ℕ} {t : Bool} (k : LoweredTop a indexed m tops c s s' look₁ look' lowered lowered' t) where
        pub lowering_next : Lowering a indexed m tops s₀ s' look₀ look' lowered' (fell || t)
        lowering_next =
            elim k [
              | inl q ↦ rw (q.told, or-false) (lowering_stays q)
              | inr q ↦ lowering_falls q (rw (q.told, or-true))
            ]

        pub lowering_less : to_lower a s' look' < to_lower a s look
        lowering_less = ⊎_elim (λ q. stays_less q) (λ q. falls_less q) k
