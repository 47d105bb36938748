-- The search in depth: what each step makes of the levels. Assumes nothing.
use mathlib.Core.Path.{◌≡◌, refl, sym, ◌∙◌, ap, subst}
use mathlib.Core.Logic.{◌≢◌, ◌⊎◌, inl, inr, ⊎_elim}
use mathlib.Core.Bool.{Bool, true, false, not, false≢true, true≢false}
use mathlib.Core.List.{List}
use Prim.Native.Nat.{ℕ, ◌+◌, ◌*◌, ◌-◌, ◌≤◌, ◌<◌}
use Rattle.std.specs.Prelude.{Option, None, Some, MatchOption, IfSome, IsSomeAnd}
use native.Mathlib.Decide.{ℕ_discrete, dec_le}
use native.Mathlib.Omega.{arith}
use lib.Dec.{eqb}
use lib.ListN.{length, set, length-set, get_or-eq_default}
use lib.Seq.{get_or-set_same, get_or-set_other}
use borrow.Author.Tests.{eq-eqb, ne_eqb, eqb-true}
use Rattle.fixpoint.specs.Sum.{bit, count}
use Rattle.fixpoint.proofs.Sum.{sum_le, sum_drop, sum_const}
use Rattle.semantics.specs.Layers.{Chain, empty, name, negate, Loops, LowestLoop}
use Rattle.semantics.specs.Page.{Page, names}
use Rattle.semantics.proofs.Layers.{or_left, or_right, negates_names, loop_inside}
use Rattle.semantics.proofs.Proper.{Proper}
use Rattle.semantics.proofs.Readings.{names_inside}
use Rattle.semantics.proofs.Table.{or_cases}
use Rattle.semantics.proofs.Walks.{bit_le}
use Rattle.layers.specs.Levels.{level_in, inside, met, Way, PartInside, PartLeaves, Relabelled, UpTo, Entered, Finished, Open, Explored, Begun, LoopFound}
use Rattle.layers.proofs.Ways.{way_here, way_join, way_name, way_loop}

-- of the part or done, or not
pub inside_cases : (level l : ℕ) → inside level l ≡ true → (l ≡ level) ⊎ (l ≡ 513)
inside_cases level l e = ⊎_elim (λ q. inl (eqb-true l level q)) (λ q. inr (eqb-true l 513 q)) (or_cases (eqb l level) (eqb l 513) e)

pub outside_cases : (level l : ℕ) → inside level l ≡ false → (l ≢ level) × (l ≢ 513)
outside_cases level l e =
    (λ q. true≢false (sym (or_left (eqb l level) (eqb l 513) (eq-eqb l level q)) ∙ e), λ q. true≢false (sym (or_right (eqb l level) (eqb l 513) (eq-eqb l 513 q)) ∙ e))

-- what is met
met_not : (levels : List ℕ) (c : ℕ) → level_in levels c ≡ 0 → bit (met levels c) ≡ 0
met_not levels c e = rw (eq-eqb (level_in levels c) 0 e)

met_some : (levels : List ℕ) (c : ℕ) → 1 ≤ level_in levels c → bit (met levels c) ≡ 1
met_some levels c l = rw (ne_eqb (level_in levels c) 0 (λ e. omega arith))

-- a condition with a level is one of the list
pub level_in_lem : (levels : List ℕ) (c : ℕ) → 1 ≤ level_in levels c → c < length levels
level_in_lem levels c l =
    elim (dec_le (length levels) c) [
      | yes m ↦ absurd (omega (arith, get_or-eq_default levels 0 m))
      | no m ↦ omega arith
    ]

module _ (n : ℕ) (levels levels' : List ℕ) where
  met_le : ((c : ℕ) → 1 ≤ level_in levels c → 1 ≤ level_in levels' c) → count n (met levels) ≤ count n (met levels')
  met_le f = sum_le n (λ c. bit (met levels c)) (λ c. bit (met levels' c)) one
    where
      one : (c : ℕ) → c < n → bit (met levels c) ≤ bit (met levels' c)
      one c l =
          elim (ℕ_discrete (level_in levels c) 0) [
            | yes e ↦ omega (arith, met_not levels c e)
            | no e ↦ omega (arith, met_some levels c (omega arith), met_some levels' c (f c (omega arith)))
          ]

  met_more : (d : ℕ) → d < n → level_in levels d ≡ 0 → 1 ≤ level_in levels' d → ((c : ℕ) → c ≢ d → level_in levels' c ≡ level_in levels c) → count n (met levels) + 1 ≤ count n (met levels')
  met_more d l z m h =
      sum_drop n (λ c. bit (met levels c)) (λ c. bit (met levels' c)) 1 d l
      (λ c i x. let e : bit (met levels' c) ≡ bit (met levels c) = ap (λ (k : ℕ). bit (not (eqb k 0))) (h c x) in omega arith)
      (omega (arith, met_not levels d z, met_some levels' d m))

met_most : (n : ℕ) (levels : List ℕ) → count n (met levels) ≤ n
met_most n levels = omega (arith, sum_le n (λ c. bit (met levels c)) (λ c. 1) (λ c l. bit_le (met levels c)), sum_const n 1)

met_fewer : (n : ℕ) (levels : List ℕ) (d : ℕ) → d < n → level_in levels d ≡ 0 → count n (met levels) + 1 ≤ n
met_fewer n levels d l z =
    omega (arith, sum_drop n (λ c. bit (met levels c)) (λ c. 1) 1 d l (λ c i x. bit_le (met levels c)) (omega (arith, met_not levels d z)), sum_const n 1)

-- how much of the search is left
abbrev pub measure : ℕ → List ℕ → ℕ → ℕ
measure n levels level = 2 * (n - count n (met levels)) + level

module _ (page : Page) (w : Proper page) where
  abbrev n : ℕ
  n = page.conditions

  -- a step of the search
  pub record Moved (levels levels' : List ℕ) (level level' : ℕ) (lowest : Option ℕ) : Type 0 where
    pub state : Open page levels' level' lowest
    pub less : measure n levels' level' < measure n levels level
    pub stays : (c : ℕ) → 1 ≤ level_in levels c → 1 ≤ level_in levels' c

  -- at the start no part is on the path
  pub open_begun : {levels : List ℕ} → Begun page levels → Open page levels 0 None
  open_begun {levels} s =
      record {
        size = s.size;
        within = λ c. ⊎_elim (λ p. inl (omega arith)) (λ p. inr p) (s.either c);
        ways = λ a b p q r. absurd (omega arith);
        closed = λ a b p e. absurd (omega (arith, s.named a b e));
        decided = λ c p v. absurd (omega (arith, begun_chain v refl));
        loops = tt;
        room = omega arith;
      }
    where
      -- a chain through a negation begins with a step
      begun_chain : {a b : ℕ} {t : Bool} → Chain page a b t → t ≡ true → level_in levels a ≡ 0
      begun_chain empty q = absurd (false≢true q)
      begun_chain (name {a = a} {b = b} e v) q = s.named a b e
      begun_chain (negate {a = a} {b = b} e v) q = s.named a b (negates_names page a b e)

  module _ {levels : List ℕ} {level : ℕ} {lowest : Option ℕ} (s : Open page levels level lowest) where
    abbrev at : ℕ → ℕ
    at c = level_in levels c

    level_most : level ≤ n
    level_most = omega (arith, s.room, met_most n levels)

    pub level_small : level ≤ 512
    level_small = omega (arith, level_most, w.conditions_most)

    -- what is not done is on the path, or not met
    near : (c : ℕ) → at c ≤ 512 → at c ≤ level
    near c l = ⊎_elim (λ p. p) (λ p. absurd (omega arith)) (s.within c)

    -- a condition that is not met becomes the next part
    module _ {d : ℕ} (l : d < n) (z : at d ≡ 0) (reach : (a : ℕ) → 1 ≤ at a → at a ≤ level → Way page a d) where
      abbrev levels₁ : List ℕ
      levels₁ = set levels d (level + 1)

      abbrev at₁ : ℕ → ℕ
      at₁ c = level_in levels₁ c

      pub fresh_small : level < 512
      fresh_small = omega (arith, s.room, met_fewer n levels d l z, w.conditions_most)

      here : at₁ d ≡ level + 1
      here = get_or-set_same levels d (level + 1) 0 (omega (arith, s.size))

      other : (c : ℕ) → c ≢ d → at₁ c ≡ at c
      other c q = get_or-set_other levels d c (level + 1) 0 q

      fresh_within : (c : ℕ) → (at₁ c ≤ level + 1) ⊎ (at₁ c ≡ 513)
      fresh_within c =
          elim (ℕ_discrete c d) [
            | yes q ↦ inl (omega (arith, ap at₁ q, here))
            | no q ↦ ⊎_elim (λ p. inl (omega (arith, other c q))) (λ p. inr (omega (arith, other c q))) (s.within c)
          ]

      fresh_ways : (a b : ℕ) → 1 ≤ at₁ a → at₁ a ≤ at₁ b → at₁ b ≤ level + 1 → Way page a b
      fresh_ways a b p q r =
          elim (ℕ_discrete a d) [
            | yes ea ↦
                elim (ℕ_discrete b d) [
                  | yes eb ↦ subst (λ (x : ℕ). Way page a x) (ea ∙ sym eb) (way_here a)
                  | no eb ↦ absurd (omega (arith, ap at₁ ea, here, other b eb, fresh_small, near b (omega (arith, other b eb, fresh_small))))
                ]
            | no ea ↦
                elim (ℕ_discrete b d) [
                  | yes eb ↦ subst (λ (x : ℕ). Way page a x) (sym eb) (reach a (omega (arith, other a ea)) (near a (omega (arith, other a ea, fresh_small))))
                  | no eb ↦ s.ways a b (omega (arith, other a ea)) (omega (arith, other a ea, other b eb)) (near b (omega (arith, other b eb, fresh_small)))
                ]
          ]

      -- what is done is not d
      done_old : (c : ℕ) → at₁ c ≡ 513 → at c ≡ 513
      done_old c q =
          elim (ℕ_discrete c d) [
            | yes e ↦ absurd (omega (arith, ap at₁ e, here, fresh_small))
            | no e ↦ omega (arith, other c e)
          ]

      done_new : (c : ℕ) → at c ≡ 513 → at₁ c ≡ 513
      done_new c q =
          elim (ℕ_discrete c d) [
            | yes e ↦ absurd (omega (arith, ap at e, z))
            | no e ↦ omega (arith, other c e)
          ]

      pub fresh_stays : (c : ℕ) → 1 ≤ at c → 1 ≤ at₁ c
      fresh_stays c p =
          elim (ℕ_discrete c d) [
            | yes e ↦ omega (arith, ap at₁ e, here)
            | no e ↦ omega (arith, other c e)
          ]

      fresh_more : count n (met levels) + 1 ≤ count n (met levels₁)
      fresh_more = met_more n levels levels₁ d l z (omega (arith, here)) other

      pub open_fresh : Open page levels₁ (level + 1) lowest
      open_fresh =
          record {
            size = length-set levels d (level + 1) ∙ s.size;
            within = fresh_within;
            ways = fresh_ways;
            closed = λ a b p e. done_new b (s.closed a b (done_old a p) e);
            decided = λ c p. s.decided c (done_old c p);
            loops = s.loops;
            room = omega (arith, s.room, fresh_more);
          }

      pub moved_fresh : Moved levels levels₁ level (level + 1) lowest
      moved_fresh = record { state = open_fresh; less = omega (arith, fresh_more, met_most n levels₁); stays = fresh_stays }

      pub fresh_here : 1 ≤ at₁ d
      fresh_here = omega (arith, here)

    -- the parts from that of d on, which the last one names, become one
    module _ (u d : ℕ) (hu : at u ≡ level) (e : names page u d ≡ true) (some : 1 ≤ at d) (below : at d < level) {levels' : List ℕ} (r : Relabelled (at d) level (at d) levels levels') where
      abbrev at₂ : ℕ → ℕ
      at₂ c = level_in levels' c

      -- in the new part, in an earlier one or not met, or done
      cases : (c : ℕ) → ((at d ≤ at c) × (at c ≤ level) × (at₂ c ≡ at d)) ⊎ (((at c < at d) × (at₂ c ≡ at c)) ⊎ ((at c ≡ 513) × (at₂ c ≡ 513)))
      cases c =
          elim (dec_le (at d) (at c)) [
            | yes p ↦
                ⊎_elim (λ q. inl (p, q, r.changed c (level_in_lem levels c (omega arith)) p q))
                (λ q. inr (inr (q, r.kept c (inr (omega (arith, level_small))) ∙ q))) (s.within c)
            | no p ↦ inr (inl (omega arith, r.kept c (inl (omega arith))))
          ]

      merged_within : (c : ℕ) → (at₂ c ≤ at d) ⊎ (at₂ c ≡ 513)
      merged_within c = ⊎_elim (λ p. inl (omega (arith, p.2))) (λ p. ⊎_elim (λ q. inl (omega (arith, q.0, q.1))) (λ q. inr q.1) p) (cases c)

      -- a condition whose level is at most that of the new part was on the path
      was : (c : ℕ) → 1 ≤ at₂ c → at₂ c ≤ at d → (1 ≤ at c) × (at c ≤ level)
      was c p q =
          ⊎_elim (λ k. omega (arith, k.0, k.1)) (λ k. ⊎_elim (λ m. omega (arith, m.0, m.1)) (λ m. absurd (omega (arith, m.1, level_small))) k) (cases c)

      merged_ways : (a b : ℕ) → 1 ≤ at₂ a → at₂ a ≤ at₂ b → at₂ b ≤ at d → Way page a b
      merged_ways a b p q m =
          ⊎_elim
          (λ k.
          let v = was a p (omega arith) in
          way_join (way_name (s.ways a u v.0 (omega (arith, v.1)) (omega arith)) e) (s.ways d b some k.0 k.1))
          (λ k. ⊎_elim
          (λ i. ⊎_elim (λ j. absurd (omega (arith, j.2, i.0, i.1)))
          (λ j. ⊎_elim (λ o. s.ways a b (omega (arith, o.1)) (omega (arith, o.1, i.1)) (omega (arith, i.0))) (λ o. absurd (omega (arith, o.1, level_small))) j)
          (cases a))
          (λ i. absurd (omega (arith, i.1, level_small)))
          k)
          (cases b)

      merged_old : (c : ℕ) → at₂ c ≡ 513 → at c ≡ 513
      merged_old c q =
          ⊎_elim (λ k. absurd (omega (arith, k.2, level_small))) (λ k. ⊎_elim (λ m. omega (arith, m.1)) (λ m. m.0) k) (cases c)

      merged_new : (c : ℕ) → at c ≡ 513 → at₂ c ≡ 513
      merged_new c q =
          ⊎_elim (λ k. absurd (omega (arith, k.1, level_small))) (λ k. ⊎_elim (λ m. absurd (omega (arith, m.0, level_small))) (λ m. m.1) k) (cases c)

      merged_stays : (c : ℕ) → 1 ≤ at c → 1 ≤ at₂ c
      merged_stays c p = ⊎_elim (λ k. omega (arith, k.2)) (λ k. ⊎_elim (λ m. omega (arith, m.1)) (λ m. omega (arith, m.1)) k) (cases c)

      pub moved_merged : Moved levels levels' level (at d) lowest
      moved_merged =
          record {
            state = record {
              size = r.size ∙ s.size;
              within = merged_within;
              ways = merged_ways;
              closed = λ a b p f. merged_new b (s.closed a b (merged_old a p) f);
              decided = λ c p. s.decided c (merged_old c p);
              loops = s.loops;
              room = omega (arith, s.room, met_le n levels levels' merged_stays);
            };
            less = omega (arith, met_le n levels levels' merged_stays);
            stays = merged_stays;
          }

    -- the part at `level` names d outside of it
    pub moved_entered : {d level' : ℕ} {levels' : List ℕ} → 1 ≤ level → PartLeaves page levels level d → Entered level d levels levels' level' → Moved levels levels' level level' lowest
    moved_entered {d} {level'} {levels'} one f h =
        let o = outside_cases level (at d) f.3 in
        let i = names_inside page w f.0 d f.2 in
        elim (ℕ_discrete (at d) 0) [
          | yes z ↦
              let g = h.fresh z in
              rw (g.0, g.1) (moved_fresh i z (λ a x y. way_name (s.ways a f.0 x (omega (arith, f.1)) (omega (arith, f.1))) f.2))
          | no z ↦
              let g = h.earlier z in
              rw g.0
              (moved_merged f.0 d f.1 f.2 (omega arith) (below d o.0 o.1) g.1)
        ]
      where
        below : (c : ℕ) → at c ≢ level → at c ≢ 513 → at c < level
        below c p q = ⊎_elim (λ k. omega arith) (λ k. absurd (q k)) (s.within c)

    -- the part at `level` names nothing outside of it
    module _ {negated : Bool} (p : PartInside page levels level negated) where
      -- from what is done a chain leads to what is done
      done_chain : {a b : ℕ} {t : Bool} → Chain page a b t → at a ≡ 513 → at b ≡ 513
      done_chain empty q = q
      done_chain (name {a = a} {b = b} e c) q = done_chain c (s.closed a b q e)
      done_chain (negate {a = a} {b = b} e c) q = done_chain c (s.closed a b q (negates_names page a b e))

      -- a chain within the part that does not negate itself has no negation
      free_chain : negated ≡ false → {a b : ℕ} {t : Bool} → Chain page a b t → at a ≡ level → at b ≡ level → t ≡ false
      free_chain c empty h g = refl
      free_chain c (name {a = a} {b = b} e v) h g =
          ⊎_elim (λ q. free_chain c v q g) (λ q. absurd (omega (arith, done_chain v q, level_small))) (inside_cases level (at b) (p.within a b h e))
      free_chain c (negate {a = a} {b = b} e v) h g =
          ⊎_elim (λ q. absurd (p.clear c a b h e q)) (λ q. absurd (omega (arith, done_chain v q, level_small))) (inside_cases level (at b) (p.within a b h (negates_names page a b e)))

      module _ (one : 1 ≤ level) {least : Option ℕ} {levels' : List ℕ} (f : Finished level negated lowest levels levels' least) where
        abbrev at₃ : ℕ → ℕ
        at₃ c = level_in levels' c

        -- of the part, of an earlier one or not met, or done before
        kinds : (c : ℕ) → ((at c ≡ level) × (at₃ c ≡ 513)) ⊎ (((at c < level) × (at₃ c ≡ at c)) ⊎ ((at c ≡ 513) × (at₃ c ≡ 513)))
        kinds c =
            ⊎_elim
            (λ q. elim (ℕ_discrete (at c) level) [
              | yes e ↦ inl (e, f.relabelled.changed c (level_in_lem levels c (omega arith)) (omega arith) q)
              | no e ↦ inr (inl (omega arith, f.relabelled.kept c (inl (omega arith))))
            ])
            (λ q. inr (inr (q, f.relabelled.kept c (inr (omega (arith, level_small))) ∙ q)))
            (s.within c)

        ended_within : (c : ℕ) → (at₃ c ≤ level - 1) ⊎ (at₃ c ≡ 513)
        ended_within c = ⊎_elim (λ k. inr k.1) (λ k. ⊎_elim (λ m. inl (omega (arith, m.0, m.1))) (λ m. inr m.1) k) (kinds c)

        -- a condition below the part is where it was
        lower : (c : ℕ) → at₃ c ≤ level - 1 → (at₃ c ≡ at c) × (at c < level)
        lower c q =
            ⊎_elim (λ k. absurd (omega (arith, k.1, level_small))) (λ k. ⊎_elim (λ m. (m.1, m.0)) (λ m. absurd (omega (arith, m.1, level_small))) k) (kinds c)

        ended_ways : (a b : ℕ) → 1 ≤ at₃ a → at₃ a ≤ at₃ b → at₃ b ≤ level - 1 → Way page a b
        ended_ways a b x y z =
            let i = lower a (omega arith) in
            let j = lower b z in
            s.ways a b (omega (arith, i.0)) (omega (arith, i.0, j.0)) (omega (arith, j.1))

        ended_new : (c : ℕ) → (at c ≡ level) ⊎ (at c ≡ 513) → at₃ c ≡ 513
        ended_new c q =
            ⊎_elim (λ k. k.1)
            (λ k. ⊎_elim (λ m. absurd (⊎_elim (λ x. omega (arith, m.0)) (λ x. omega (arith, m.0, level_small)) q)) (λ m. m.1) k)
            (kinds c)

        ended_old : (c : ℕ) → at₃ c ≡ 513 → (at c ≡ level) ⊎ (at c ≡ 513)
        ended_old c q = ⊎_elim (λ k. inl k.0) (λ k. ⊎_elim (λ m. inr (omega (arith, m.1))) (λ m. inr m.0) k) (kinds c)

        ended_closed : (a b : ℕ) → at₃ a ≡ 513 → names page a b ≡ true → at₃ b ≡ 513
        ended_closed a b q e =
            ⊎_elim (λ h. ended_new b (inside_cases level (at b) (p.within a b h e))) (λ h. ended_new b (inr (s.closed a b h e))) (ended_old a q)

        by_negation : (t : Bool) → negated ≡ t → (c : ℕ) → at c ≡ level → Loops page c → UpTo c least
        by_negation true t c h v = f.least t c (level_in_lem levels c (omega arith)) h
        by_negation false t c h v = absurd (true≢false (free_chain t v h h))

        ended_decided : (c : ℕ) → at₃ c ≡ 513 → Loops page c → UpTo c least
        ended_decided c q v = ⊎_elim (λ h. by_negation negated refl c h v) (λ h. f.below c (s.decided c h v)) (ended_old c q)

        -- a condition of the part is on a loop if the part negates itself
        part_loops : negated ≡ true → (least : Option ℕ) → IsSomeAnd least (λ c. (c < length levels) × (at c ≡ level)) → IfSome least (Loops page)
        part_loops t None q = tt
        part_loops t (Some c) q =
            let d = p.denied t in
            way_loop (s.ways c d.0 (omega (arith, q.1)) (omega (arith, q.1, d.2)) (omega (arith, d.2))) d.3
            (s.ways d.1 c (omega (arith, d.4)) (omega (arith, q.1, d.4)) (omega (arith, q.1)))

        ended_loops : IfSome least (Loops page)
        ended_loops = ⊎_elim (λ q. subst (λ (r : Option ℕ). IfSome r (Loops page)) (sym q) s.loops) (λ q. part_loops q.0 least q.1) f.from

        ended_stays : (c : ℕ) → 1 ≤ at c → 1 ≤ at₃ c
        ended_stays c l = ⊎_elim (λ k. omega (arith, k.1)) (λ k. ⊎_elim (λ m. omega (arith, m.1)) (λ m. omega (arith, m.1)) k) (kinds c)

        pub moved_finished : Moved levels levels' level (level - 1) least
        moved_finished =
            record {
              state = record {
                size = f.relabelled.size ∙ s.size;
                within = ended_within;
                ways = ended_ways;
                closed = ended_closed;
                decided = ended_decided;
                loops = ended_loops;
                room = omega (arith, s.room, met_le n levels levels' ended_stays);
              };
              less = omega (arith, met_le n levels levels' ended_stays);
              stays = ended_stays;
            }

  -- all below c are done, and what is told is not above c, or all are done
  pub loop_found : {levels : List ℕ} {c : ℕ} (lowest : Option ℕ) → Open page levels 0 lowest → ((i : ℕ) → i < c → level_in levels i ≡ 513) → (n ≤ c) ⊎ UpTo c lowest → LoopFound page levels lowest
  loop_found {levels} {c} lowest s h l = record { size = s.size; lowest = go lowest s.decided s.loops l }
    where
      go : (r : Option ℕ) → ((b : ℕ) → level_in levels b ≡ 513 → Loops page b → UpTo b r) → IfSome r (Loops page) → (n ≤ c) ⊎ UpTo c r → MatchOption r ((b : ℕ) → ¬ Loops page b) (LowestLoop page)
      go None d q m = λ b v. let i = loop_inside page w v in ⊎_elim (λ x. d b (h b (omega arith)) v) (λ x. x) m
      go (Some r) d q m =
          record {
            loops = q;
            lowest = λ b i v.
                let j = loop_inside page w v in
                let e : b < c = ⊎_elim (λ x. omega arith) (λ x. omega arith) m in
                omega (arith, d b (h b e) v);
          }

  -- the search from a root has come to its end
  pub explored : {levels₀ levels : List ℕ} {lowest least : Option ℕ} {level root : ℕ} → Open page levels₀ 0 lowest → root < n → level_in levels₀ root ≡ 0 → Open page levels level least → level ≤ 0
      → ((c : ℕ) → 1 ≤ level_in (set levels₀ root 1) c → 1 ≤ level_in levels c) → Explored page root levels₀ levels least
  explored {levels₀} {levels} {lowest} {least} {level} {root} s l z t e h =
      let none : (a : ℕ) → 1 ≤ level_in levels₀ a → level_in levels₀ a ≤ 0 → Way page a root = λ a p q. absurd (omega arith) in
      record {
        state = subst (λ (k : ℕ). Open page levels k least) {x = level} {y = 0} (omega arith) t;
        root_met = h root (fresh_here s l z none);
        stays_met = λ c p. h c (fresh_stays s l z none c p);
      }

  pub open_root : {levels : List ℕ} {lowest : Option ℕ} {root : ℕ} → Open page levels 0 lowest → root < n → level_in levels root ≡ 0 → Open page (set levels root 1) 1 lowest
  open_root s l z = open_fresh s l z (λ a p q. absurd (omega arith))
