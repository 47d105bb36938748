-- A drive from the start of a run that is allowed more than R + top × E evaluations: every query, of a list of any length, then holds its plain
-- answer. Assumes nothing.
use mathlib.Core.Path.{◌≡◌, refl, sym, ◌∙◌, ap}
use mathlib.Core.Logic.{◌⊎◌, inl, inr}
use mathlib.Core.Bool.{Bool, true}
use mathlib.Core.List.{List, [], ◌∷◌, ◌++◌}
use mathlib.Core.Option.{Option, none, some}
use Prim.Native.Nat.{ℕ, zero, suc, ◌+◌, ◌≤◌, ◌<◌}
use native.Mathlib.Omega.{arith}
use Rattle.fixpoint.specs.ChaoticIteration.{DependencyClosed}
use Rattle.fixpoint.specs.Interval.{Assign}
use Rattle.fixpoint.specs.System.{System}
use Rattle.semantics.specs.Body.{T}
use Rattle.semantics.specs.Call.{drive, outcome, taken}
use Rattle.semantics.specs.Demand.{perform_from}
use Rattle.semantics.specs.Page.{Page, names}
use Rattle.semantics.specs.Reading.{IsPlain, queried, closure, bound}
use Rattle.semantics.specs.RunArea.{run_of, interval_at, worklist_of, reached_of, run_sound}
use Rattle.semantics.specs.Table.{listed, member, interval_of}
use Rattle.semantics.specs.Worklist.{Worklist, start, evaluated, lowest, rest, status_as, status, Driven, drive_from, driven}
use Rattle.fixpoint.proofs.ChaoticIteration.{in_time, done}
use Rattle.semantics.proofs.Areas.{Encodable, state_encodable, area_sound, reached_back, state_back, held_at}
use Rattle.semantics.proofs.Closure.{reached_closed, reached_complete, bound_is, reached_real}
use Rattle.semantics.proofs.Demand.{rest_iff}
use Rattle.semantics.proofs.Invariant.{Invariant, invariant_first, after}
use Rattle.semantics.proofs.Proper.{Proper}
use Rattle.semantics.proofs.Readings.{page_system, plain_is, names_inside}

-- a drive comes to rest or uses its allowance
pub drive_ends : (page : Page) (m : List Bool) (k : ℕ) (o : Option ℕ) (b : Worklist) → lowest b ≡ o
    → (status (drive_from page m k o b).state ≡ rest) ⊎ ((drive_from page m k o b).taken ≡ k)
unfolding drive_from
drive_ends page m zero o b e = inr refl
drive_ends page m (suc k) none b e = inl (ap status_as e)
drive_ends page m (suc k) (some A) b e =
    let b' = evaluated page m b A in
    elim (drive_ends page m k (lowest b') b' refl) [
      | inl q ↦ inl q
      | inr q ↦ inr (ap suc q)
    ]

module _ (page : Page) (w : Proper page) (qs : List ℕ) (asked : (c : ℕ) → listed c qs ≡ true → c < page.conditions) (P : Assign) (p : IsPlain page P) (k : ℕ) where
  abbrev m : List Bool
  m = closure page qs

  abbrev end : Driven
  end = driven page (closure page qs) k (start page (closure page qs))

  S : System page.conditions page.top (T page) (names page)
  S = page_system page w

  C : DependencyClosed page.conditions (names page) (member (closure page qs))
  C = reached_closed page qs

  kept : Invariant page w qs P p end.state (end.taken + 0)
  unfolding perform_from outcome taken
  kept = after page w qs P p (drive k ∷ [])

  few : end.taken + 0 ≤ bound page m
  few = rw (bound_is page qs) (in_time S C p kept.state)

  rests : bound page m < k → status end.state ≡ rest
  rests l =
      elim (drive_ends page m k (lowest (start page m)) (start page m) refl) [
        | inl q ↦ q
        | inr q ↦ absurd (omega (arith, few, q))
      ]

  pub driven_plain : bound page (closure page qs) < k → (c : ℕ) → listed c qs ≡ true
      → interval_of (driven page (closure page qs) k (start page (closure page qs))).state.intervals c ≡ P c
  driven_plain l c q =
      done S C p kept.state ((rest_iff page.conditions end.state kept.waiting_length).0 (rests l)) c
      (reached_real page qs (names_inside page w) asked (queried q)) (reached_complete page qs (names_inside page w) asked (queried q))

-- the run area of the start is sound, and a drive from it, allowed enough, leaves the plain answers in it
module _ (page : Page) (w : Proper page) (qs : List ℕ) (z : List ℕ) where
  fits : Encodable page (closure page qs) (start page (closure page qs))
  fits = state_encodable page w qs (start page (closure page qs)) 0 (invariant_first page w qs _ (plain_is page w))

  pub start_sound : run_sound page (run_of page (closure page qs) (start page (closure page qs)) ++ z) ≡ true
  start_sound = area_sound page (closure page qs) (start page (closure page qs)) fits z

  pub start_reached : reached_of page (run_of page (closure page qs) (start page (closure page qs)) ++ z) ≡ closure page qs
  start_reached = reached_back page (closure page qs) (start page (closure page qs)) fits z

  pub start_state : worklist_of page (run_of page (closure page qs) (start page (closure page qs)) ++ z) ≡ start page (closure page qs)
  start_state = state_back page (closure page qs) (start page (closure page qs)) fits z

  module _ (asked : (c : ℕ) → listed c qs ≡ true → c < page.conditions) (k : ℕ) (enough : bound page (closure page qs) < k) where
    pub plain_held : (P : Assign) → IsPlain page P → (c : ℕ) → listed c qs ≡ true
        → interval_at (run_of page (closure page qs) (driven page (closure page qs) k (start page (closure page qs))).state ++ z) c ≡ P c
    plain_held P p c l =
        let b = (driven page (closure page qs) k (start page (closure page qs))).state in
        let r = run_of page (closure page qs) b ++ z in
        let e = state_encodable page w qs b _ (kept page w qs asked _ (plain_is page w) k) in
        sym (held_at page r c (asked c l)) ∙ ap (λ (x : Worklist). interval_of x.intervals c) (state_back page (closure page qs) b e z)
        ∙ driven_plain page w qs asked P p k enough c l
