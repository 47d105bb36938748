-- What the operations on areas keep: a refusal, a value call and a line call leave the area, a drive takes exactly its count. Assumes nothing.
use mathlib.Core.Path.{◌≡◌, refl, sym, ◌∙◌, ap, ap₂}
use mathlib.Core.Logic.{◌≢◌}
use mathlib.Core.Bool.{Bool, true, false, not, cond, or-true}
use mathlib.Core.List.{List, [], ◌∷◌, ◌++◌}
use mathlib.Core.Option.{Option, none, some}
use Prim.Native.Nat.{ℕ, zero, suc, ◌*◌, ◌≤◌, ◌<◌}
use native.Mathlib.Omega.{arith}
use lib.Dec.{leb}
use lib.ListN.{length, drop}
use borrow.Author.Tests.{not-false, eq-eqb}
use Rattle.fixpoint.specs.Interval.{Interval, Assign}
use Rattle.semantics.specs.Area.{sound, page_of, all_under}
use Rattle.semantics.specs.Call.{Call, evaluate, drive, value, line_held, Answer, refused, changed, unchanged, valued, held_by, Cause, cause, first_of, Outcome, unless, value_causes, outcome}
use Rattle.semantics.specs.Operation.{left_as, operation, ends, Closing, closed_after, ClosedAs, ClosedOf, closed_causes}
use Rattle.semantics.specs.Page.{Page}
use Rattle.semantics.specs.RunArea.{run_sound, run_of, reached_of, worklist_of}
use Rattle.semantics.specs.Table.{member, interval_of, listed}
use Rattle.semantics.specs.Worklist.{Worklist, changes, evaluated, holder, lowest, Status, rest, status, status_as, Driven, drive_from, driven}
use Rattle.semantics.proofs.Areas.{reencoded}
use Rattle.semantics.proofs.Demand.{under_listed}
use Rattle.semantics.proofs.Invariant.{no_cause_holds}
use Rattle.semantics.proofs.RoundCounts.{rounds_one}
use Rattle.semantics.proofs.Readings.{closed_one}
use Rattle.semantics.proofs.Soundness.{sound_proper}

-- b' is b after t evaluations, each of the lowest waiting condition
pub data After (page : Page) (m : List Bool) : ℕ → Worklist → Worklist → Type 0 where
  none_yet : {b : Worklist} → After page m 0 b b
  one_then : {t A : ℕ} {b b' : Worklist} → lowest b ≡ some A → After page m t (evaluated page m b A) b' → After page m (suc t) b b'

-- Drive: the state is the one after exactly as many evaluations as it counts; it counts no more than the allowance, and fewer only at rest
pub record Exact (page : Page) (m : List Bool) (k : ℕ) (b : Worklist) (d : Driven) : Type 0 where
  pub after : After page m d.taken b d.state
  pub allowed : d.taken ≤ k
  pub short : d.taken < k → status d.state ≡ rest

drive_from_exact : (page : Page) (m : List Bool) (k : ℕ) (o : Option ℕ) (b : Worklist) → lowest b ≡ o → Exact page m k b (drive_from page m k o b)
unfolding drive_from
drive_from_exact page m zero o b e = record { after = none_yet; allowed = omega arith; short = λ l. absurd (omega arith) }
drive_from_exact page m (suc k) none b e = record { after = none_yet; allowed = omega arith; short = λ l. ap status_as e }
drive_from_exact page m (suc k) (some A) b e =
    let r = drive_from_exact page m k (lowest (evaluated page m b A)) (evaluated page m b A) refl in
    record { after = one_then e r.after; allowed = omega (arith, r.allowed); short = λ l. r.short (omega arith) }

pub drive_exact : (page : Page) (m : List Bool) (k : ℕ) (b : Worklist) → Exact page m k b (driven page m k b)
drive_exact page m k b = drive_from_exact page m k (lowest b) b refl

-- A refusal changes no lent number, and a value call and a line call change none: the area is encoded again as it was.
kept_unless : (o : Option ℕ) (b : Worklist) (w : Outcome) (k : ℕ) → ((j : ℕ) → w.answer ≢ refused j) → (unless o b w).answer ≡ refused k → (unless o b w).state ≡ b
kept_unless none b w k h e = absurd (h k e)
kept_unless (some j) b w k h e = refl

not_refused : (t : Bool) (line k : ℕ) → cond t changed unchanged line ≢ refused k
not_refused true line k e = let z : ◌≡◌ {A = ℕ} 0 1 = cc in omega arith
not_refused false line k e = let z : ◌≡◌ {A = ℕ} 0 1 = cc in omega arith

valued_not : (p : Interval) (s : Status) (k : ℕ) → valued p s ≢ refused k
valued_not p s k e = let z : ◌≡◌ {A = ℕ} 0 1 = cc in omega arith

held_not : (line k : ℕ) → held_by line ≢ refused k
held_not line k e = let z : ◌≡◌ {A = ℕ} 0 1 = cc in omega arith

refused_state : (page : Page) (m : List Bool) (b : Worklist) (c : Call) (k : ℕ) → (outcome page m b c).answer ≡ refused k → (outcome page m b c).state ≡ b
unfolding outcome
refused_state page m b (evaluate A) k e =
    kept_unless (first_of (cause (leb page.conditions A) 15 ∷ cause (not (member b.waiting A)) 16 ∷ [])) b
    (record { answer = cond (changes page b A) changed unchanged (holder page b A); state = evaluated page m b A }) k (λ j. not_refused (changes page b A) (holder page b A) j) e
refused_state page m b (drive n) k e = absurd (let z : ◌≡◌ {A = ℕ} 0 1 = cc in omega arith)
refused_state page m b (value A) k e =
    kept_unless (first_of (value_causes page m A)) b
    (record { answer = valued (interval_of b.intervals A) (status b); state = b }) k (λ j. valued_not (interval_of b.intervals A) (status b) j) e
refused_state page m b (line_held A) k e =
    kept_unless (first_of (value_causes page m A)) b (record { answer = held_by (holder page b A); state = b }) k (λ j. held_not (holder page b A) j) e

-- a call that leaves the state where nothing refuses it leaves it always
stays : (o : Option ℕ) (b : Worklist) (x : Answer) → (unless o b (record { answer = x; state = b })).state ≡ b
stays none b x = refl
stays (some k) b x = refl

value_state : (page : Page) (m : List Bool) (b : Worklist) (c : ℕ) → (outcome page m b (value c)).state ≡ b
unfolding outcome
value_state page m b c = stays (first_of (value_causes page m c)) b _

line_state : (page : Page) (m : List Bool) (b : Worklist) (c : ℕ) → (outcome page m b (line_held c)).state ≡ b
unfolding outcome
line_state page m b c = stays (first_of (value_causes page m c)) b _

module _ (a r : List ℕ) (c : Call) where
  abbrev causes : List Cause
  causes = cause (not (sound a)) 10 ∷ cause (not (run_sound (page_of a) r)) 14 ∷ []

  abbrev done : Outcome
  done = outcome (page_of a) (reached_of (page_of a) r) (worklist_of (page_of a) r) c

  -- where the state is kept, so is the area
  keeps : (o : Option ℕ) → first_of causes ≡ o → (o ≡ none → done.state ≡ worklist_of (page_of a) r) → (left_as o (page_of a) r done).run ≡ r
  keeps (some k) e h = refl
  keeps none e h =
      ap (λ (b : Worklist). run_of (page_of a) (reached_of (page_of a) r) b ++ drop (3 * (page_of a).conditions) r) (h refl)
      ∙ reencoded (page_of a) r (not-false (run_sound (page_of a) r) (no_cause_holds causes e).1.0)

  answer_none : (o : Option ℕ) (k : ℕ) → (left_as o (page_of a) r done).answer ≡ refused k → o ≡ none → done.answer ≡ refused k
  answer_none none k e h = e
  answer_none (some j) k e h = absurd (let z : ◌≡◌ {A = ℕ} 0 1 = cc in omega arith)

  pub refused_keeps : (k : ℕ) → (operation a r c).answer ≡ refused k → (operation a r c).run ≡ r
  unfolding operation
  refused_keeps k e = keeps (first_of causes) refl (λ h. refused_state (page_of a) _ _ c k (answer_none (first_of causes) k e h))

pub value_keeps : (a r : List ℕ) (c : ℕ) → (operation a r (value c)).run ≡ r
unfolding operation
value_keeps a r c = keeps a r (value c) (first_of (causes a r (value c))) refl (λ h. value_state (page_of a) _ _ c)

pub line_keeps : (a r : List ℕ) (c : ℕ) → (operation a r (line_held c)).run ≡ r
unfolding operation
line_keeps a r c = keeps a r (line_held c) (first_of (causes a r (line_held c))) refl (λ h. line_state (page_of a) _ _ c)

-- figures of a list of queries
pub length_ends : (C : Assign) (qs : List ℕ) → length (ends C qs) ≡ 2 * length qs
length_ends C [] = omega arith
length_ends C (q ∷ qs) = omega (arith, length_ends C qs)

pub ends_listed : (C D : Assign) (qs : List ℕ) → ((c : ℕ) → listed c qs ≡ true → C c ≡ D c) → ends C qs ≡ ends D qs
unfolding listed
ends_listed C D [] h = refl
ends_listed C D (q ∷ qs) h =
    ap₂ {C = List ℕ} (λ (p : Interval) (l : List ℕ). p.low ∷ p.high ∷ l) (h q (rw (eq-eqb q q refl)))
    (ends_listed C D qs (λ c e. h c (rw (e, or-true))))

pub ends_same : (n : ℕ) (C D : Assign) → ((c : ℕ) → c < n → C c ≡ D c) → (qs : List ℕ) → all_under n qs ≡ true → ends C qs ≡ ends D qs
ends_same n C D h qs u = ends_listed C D qs (λ c e. h c (under_listed n qs u c e))

-- A closed call leaves one result and one content of each slice.
pub closed_call_one : (answer answer' : Closing) (a qs s w s₁ w₁ s₂ w₂ : List ℕ) → ClosedOf answer a qs s w s₁ w₁ → ClosedOf answer' a qs s w s₂ w₂
    → (answer ≡ answer') × (s₁ ≡ s₂) × (w₁ ≡ w₂)
unfolding ClosedOf
closed_call_one answer answer' a qs s w s₁ w₁ s₂ w₂ p q = go (first_of (closed_causes a qs s w)) refl p q
  where
    go : (o : Option ℕ) → first_of (closed_causes a qs s w) ≡ o → ClosedAs o answer a qs s w s₁ w₁ → ClosedAs o answer' a qs s w s₂ w₂
        → (answer ≡ answer') × (s₁ ≡ s₂) × (w₁ ≡ w₂)
    go (some k) e p q = (p.0 ∙ sym q.0, p.1 ∙ sym q.1, p.2 ∙ sym q.2)
    go none e p q =
        let h = no_cause_holds (closed_causes a qs s w) e in
        let v = sound_proper a (not-false (sound a) h.0) in
        let u = not-false (all_under (page_of a).conditions qs) h.1.1.0 in (
          p.told ∙ ap closed_after (rounds_one (page_of a) v qs p.is_rounds q.is_rounds) ∙ sym q.told,
          p.cleared ∙ sym q.cleared,
          p.written ∙ ap (λ (l : List ℕ). l ++ drop (2 * length qs) w) (ends_same (page_of a).conditions p.reading q.reading (closed_one (page_of a) v p.is_closed q.is_closed) qs u) ∙ sym q.written,
        )
