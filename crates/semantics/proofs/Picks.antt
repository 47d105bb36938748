-- The check of picks and figures has one outcome. It accepts exactly what a simulator makes that goes to rest and sends the plain answers, and
-- what such a simulator then holds is always accepted. Assumes nothing.
use mathlib.Core.Path.{◌≡◌, refl, sym, ◌∙◌, ap, subst}
use mathlib.Core.Logic.{◌↔◌, inl, inr}
use mathlib.Core.Bool.{Bool, true, false, not, cond, true≢false}
use mathlib.Core.List.{List, [], ◌∷◌, ◌++◌, map, map-append}
use mathlib.Core.Option.{Option, none, some}
use Prim.Native.Nat.{ℕ, zero, suc, ◌+◌, ◌*◌, ◌≤◌, ◌<◌}
use native.Mathlib.Decide.{dec_le}
use native.Mathlib.Omega.{arith}
use lib.Dec.{eqb, ltb}
use lib.ListN.{length, get_or, take, drop, replicate, length-replicate}
use lib.Seq.{take-suc}
use borrow.Author.Tests.{eq-eqb, ne_eqb, eqb-true, lt-ltb, ltb-true, lt-leb, le-leb, not-true, not-false}
use Rattle.fixpoint.specs.Interval.{Assign}
use Rattle.fixpoint.specs.LeastFixpoint.{lfp}
use Rattle.semantics.specs.Area.{all_under, sound, page_of}
use Rattle.semantics.specs.Body.{T}
use Rattle.semantics.specs.Call.{Call, evaluate, changed, unchanged, first_of, outcome, taken_by, taken}
use Rattle.semantics.specs.Demand.{perform, perform_from, perform_book, RunKeeps}
use Rattle.semantics.specs.Operation.{query_causes, open_causes, open_of, opened_with, ends}
use Rattle.semantics.specs.Page.{Page}
use Rattle.semantics.specs.Picks.{book_after, pick_waits, AllWait, FirstNotWaiting, PlainFigures, PicksAnswer, refused_queries, not_waiting, not_at_rest, wrong_figures, accepted_picks, PicksAs, PicksOf, area_after, GoesToRest}
use Rattle.semantics.specs.Reading.{IsPlain, queried, closure, pass_count, bound, count_r, count_e}
use Rattle.semantics.specs.RunArea.{worklist_of, interval_at, mark_at}
use Rattle.semantics.specs.Table.{interval_of, member}
use Rattle.semantics.specs.Worklist.{Worklist, start, changes, evaluated, holder, lowest as lowestOf, Status, rest, spent, status_as, status}
use Rattle.semantics.proofs.Areas.{state_encodable, state_back, waits_at, held_at}
use Rattle.semantics.proofs.Demand.{demand3, opened_none, under_listed}
use Rattle.semantics.proofs.Invariant.{lowest_some, lowest_none, NoCause, no_cause_holds, takes_one, after}
use Rattle.semantics.proofs.Keeps.{ends_listed}
use Rattle.semantics.proofs.Narrowing.{performed_on}
use Rattle.semantics.proofs.Proper.{Proper}
use Rattle.semantics.proofs.Readings.{plain_is}
use Rattle.semantics.proofs.Same.{same_numbers, same_numbers_lem, differ_numbers}
use Rattle.semantics.proofs.Soundness.{sound_proper, both_true}
use Rattle.semantics.proofs.Walks.{lowest}

-- the evaluation of a waiting condition
waiting_outcome : (page : Page) (m : List Bool) (b : Worklist) (c : ℕ) → c < page.conditions → member b.waiting c ≡ true
    → outcome page m b (evaluate c) ≡ record { answer = cond (changes page b c) changed unchanged (holder page b c); state = evaluated page m b c }
unfolding outcome
waiting_outcome page m b c l e = rw (lt-leb page.conditions c l, e)

-- the evaluations taken by more calls
taken_on : (page : Page) (m : List Bool) (cs ds : List Call) (b : Worklist)
    → taken (perform_from page m b (cs ++ ds)).answers ≡ taken (perform_from page m b cs).answers + taken (perform_from page m (perform_from page m b cs).state ds).answers
unfolding perform_from taken
taken_on page m [] ds b = omega arith
taken_on page m (c ∷ cs) ds b = omega (arith, taken_on page m cs ds (outcome page m b c).state)

module _ (page : Page) (qs picks : List ℕ) where
  abbrev m : List Bool
  m = closure page qs

  -- what a waiting pick is
  pub pick_is : (k : ℕ) → pick_waits page qs picks k ≡ true
      → (get_or picks k 0 < page.conditions) × (member (book_after page qs (take k picks)).waiting (get_or picks k 0) ≡ true)
  unfolding pick_waits
  pick_is k e =
      let h = both_true (ltb (get_or picks k 0) page.conditions) _ e in
      (ltb-true (get_or picks k 0) page.conditions h.0, h.1)

  pub pick_waits_lem : (k : ℕ) → get_or picks k 0 < page.conditions → member (book_after page qs (take k picks)).waiting (get_or picks k 0) ≡ true
      → pick_waits page qs picks k ≡ true
  unfolding pick_waits
  pick_waits_lem k l e = rw (lt-ltb (get_or picks k 0) page.conditions l) e

  module _ (k : ℕ) (l : k < length picks) where
    one_more : map evaluate (take (suc k) picks) ≡ map evaluate (take k picks) ++ (evaluate (get_or picks k 0) ∷ [])
    one_more = ap (map evaluate) (take-suc picks k 0 l) ∙ map-append evaluate (take k picks) (get_or picks k 0 ∷ [])

    -- the book fed one pick more
    pub book_next : pick_waits page qs picks k ≡ true
        → book_after page qs (take (suc k) picks) ≡ evaluated page (closure page qs) (book_after page qs (take k picks)) (get_or picks k 0)
    unfolding perform_from
    book_next e =
        let h = pick_is k e in
        ap (λ (cs : List Call). (perform_book page qs cs).state) one_more
        ∙ performed_on page m (map evaluate (take k picks)) (evaluate (get_or picks k 0) ∷ []) (start page m)
        ∙ ap (λ o. o.state) (waiting_outcome page m (book_after page qs (take k picks)) (get_or picks k 0) h.0 h.1)

    -- .. takes one evaluation more
    taken_next : pick_waits page qs picks k ≡ true
        → taken (perform_book page qs (map evaluate (take (suc k) picks))).answers ≡ suc (taken (perform_book page qs (map evaluate (take k picks))).answers)
    unfolding perform_from taken
    taken_next e =
        let h = pick_is k e in
        let b = book_after page qs (take k picks) in
        let c = get_or picks k 0 in
        omega (
          arith,
          ap (λ (cs : List Call). taken (perform_book page qs cs).answers) one_more,
          taken_on page m (map evaluate (take k picks)) (evaluate c ∷ []) (start page m),
          ap (λ o. taken_by o.answer) (waiting_outcome page m b c h.0 h.1),
          takes_one (changes page b c) (holder page b c),
        )

  -- k waiting picks take k evaluations
  taken_picks : (k : ℕ) → k ≤ length picks → ((j : ℕ) → j < k → pick_waits page qs picks j ≡ true) → taken (perform_book page qs (map evaluate (take k picks))).answers ≡ k
  unfolding perform_from taken
  taken_picks zero l h = refl
  taken_picks (suc k) l h = taken_next k (omega arith) (h k (omega arith)) ∙ ap suc (taken_picks k (omega arith) (λ j g. h j (omega arith)))

-- the status by who waits
pub waits_spent : (b : Worklist) (c : ℕ) → member b.waiting c ≡ true → status b ≡ spent
waits_spent b c e = go (lowestOf b) refl
  where
    go : (o : Option ℕ) → lowestOf b ≡ o → status_as o ≡ spent
    go none q = absurd (true≢false (sym e ∙ lowest_none 0 b.waiting q c))
    go (some k) q = refl

pub none_rests : (b : Worklist) → ((c : ℕ) → member b.waiting c ≡ false) → status b ≡ rest
none_rests b h = go (lowestOf b) refl
  where
    go : (o : Option ℕ) → lowestOf b ≡ o → status_as o ≡ rest
    go none q = refl
    go (some k) q = let f = lowest_some 0 b.waiting k q in absurd (true≢false (sym f.3 ∙ h f.0))

-- with no cause before 50 the opening is accepted on every run area that is long enough
module _ (a qs : List ℕ) (e : first_of (query_causes a qs) ≡ none) where
  causes : NoCause (query_causes a qs)
  causes = no_cause_holds (query_causes a qs) e

  pub picks_sound : sound a ≡ true
  picks_sound = not-false (sound a) causes.0

  pub picks_proper : Proper (page_of a)
  picks_proper = sound_proper a picks_sound

  pub picks_inside : all_under (page_of a).conditions qs ≡ true
  picks_inside = not-false (all_under (page_of a).conditions qs) causes.1.1.0

  pub opening_accepted : (r : List ℕ) → 3 * (page_of a).conditions ≤ length r
      → (open_of a qs r).answer ≡ opened_with (count_r (page_of a) (closure (page_of a) qs)) (count_e (page_of a) (closure (page_of a) qs)) (bound (page_of a) (closure (page_of a) qs)) (pass_count (page_of a) qs)
  unfolding open_of
  opening_accepted r l = rw (causes.0, causes.1.0, causes.1.1.0, le-leb (3 * (page_of a).conditions) (length r) l)

  abbrev some_area : List ℕ
  some_area = replicate (3 * (page_of a).conditions) 0

  -- so demand 3 holds of every list of calls
  keeps : (calls : List Call) → RunKeeps a qs some_area (count_r (page_of a) (closure (page_of a) qs)) (count_e (page_of a) (closure (page_of a) qs)) (bound (page_of a) (closure (page_of a) qs)) (pass_count (page_of a) qs) calls
  keeps = demand3 a qs some_area _ _ _ _ (opening_accepted some_area (omega (arith, length-replicate {A = ℕ} (3 * (page_of a).conditions) 0)))

  -- no more picks can wait than the bound R + top × E
  pub picks_in_time : (picks : List ℕ) (k : ℕ) → k ≤ length picks → ((j : ℕ) → j < k → pick_waits (page_of a) qs picks j ≡ true) → k ≤ bound (page_of a) (closure (page_of a) qs)
  picks_in_time picks k l h =
      let cs = map evaluate (take k picks) in
      omega (arith, (keeps cs).in_time, ap taken (keeps cs).answers, taken_picks (page_of a) qs picks k l h)

  -- at rest the book holds the plain answers of the queries
  pub plain_at_rest : (picks : List ℕ) → status (book_after (page_of a) qs picks) ≡ rest → (P : Assign) → IsPlain (page_of a) P
      → ends (interval_of (book_after (page_of a) qs picks).intervals) qs ≡ ends P qs
  plain_at_rest picks f P p =
      ends_listed (interval_of (book_after (page_of a) qs picks).intervals) P qs (λ c g. (keeps (map evaluate picks)).plain f P p c (queried g))

  -- so the figures are the plain answers exactly if they are the intervals then held
  pub plain_figures : (picks figures : List ℕ) → status (book_after (page_of a) qs picks) ≡ rest
      → (figures ≡ ends (interval_of (book_after (page_of a) qs picks).intervals) qs) ↔ PlainFigures (page_of a) qs figures
  plain_figures picks figures f = (
    λ q. record { reading = lfp (page_of a).conditions (page_of a).top (T (page_of a)); is_plain = plain_is (page_of a) picks_proper; figures_are = q ∙ plain_at_rest picks f _ (plain_is (page_of a) picks_proper) },
    λ q. q.figures_are ∙ sym (plain_at_rest picks f q.reading q.is_plain),
  )

-- the check answers, and has one answer
as_exists : (a qs picks figures : List ℕ) (o : Option ℕ) → first_of (query_causes a qs) ≡ o → (r : PicksAnswer) × PicksAs o r (page_of a) qs picks figures
as_exists a qs picks figures (some k) e = (refused_queries k, refl)
as_exists a qs picks figures none e =
    elim (lowest (λ k. not (waits k)) (length picks)) [
      | inl f ↦ (not_waiting (f.0 + 1), record { before = f.0; place_is = refl; inside = f.1; not_waiting = not-true (waits f.0) f.2; others_wait = λ k l. not-false (waits k) (f.3 k l) })
      | inr h ↦ by_status (λ k l. not-false (waits k) (h k l)) (status (book_after (page_of a) qs picks)) refl
    ]
  where
    waits : ℕ → Bool
    waits = pick_waits (page_of a) qs picks

    held : List ℕ
    held = ends (interval_of (book_after (page_of a) qs picks).intervals) qs

    by_figures : AllWait (page_of a) qs picks → status (book_after (page_of a) qs picks) ≡ rest → (t : Bool) → same_numbers figures held ≡ t
        → (r : PicksAnswer) × PicksAs none r (page_of a) qs picks figures
    by_figures h s true q = (accepted_picks, (h, s, (plain_figures a qs e picks figures s).0 (same_numbers_lem figures held q)))
    by_figures h s false q = (wrong_figures, (h, s, λ f. differ_numbers figures held q ((plain_figures a qs e picks figures s).1 f)))

    by_status : AllWait (page_of a) qs picks → (s : Status) → status (book_after (page_of a) qs picks) ≡ s
        → (r : PicksAnswer) × PicksAs none r (page_of a) qs picks figures
    by_status h rest s = by_figures h s (same_numbers figures held) refl
    by_status h spent s = (not_at_rest, (h, s))

pub picks_exists : (a qs picks figures : List ℕ) → (r : PicksAnswer) × PicksOf r a qs picks figures
unfolding PicksOf
picks_exists a qs picks figures = as_exists a qs picks figures (first_of (query_causes a qs)) refl

-- of two lists of picks told at 50 the places agree; picks that all wait are not told
same_place : {page : Page} {qs picks : List ℕ} {x y : ℕ} → FirstNotWaiting page qs picks x → FirstNotWaiting page qs picks y → x ≡ y
same_place f g =
    elim (dec_le (suc f.before) g.before) [
      | yes h ↦ absurd (true≢false (sym (g.others_wait f.before h) ∙ f.not_waiting))
      | no h ↦ elim (dec_le (suc g.before) f.before) [
        | yes k ↦ absurd (true≢false (sym (f.others_wait g.before k) ∙ g.not_waiting))
        | no k ↦ omega (arith, f.place_is, g.place_is)
      ]
    ]

all_or_one : {page : Page} {qs picks : List ℕ} {x : ℕ} → AllWait page qs picks → FirstNotWaiting page qs picks x → ⊥
all_or_one h f = true≢false (sym (h f.before f.inside) ∙ f.not_waiting)

rest_or_spent : {s : Status} → s ≡ rest → s ≡ spent → ⊥
rest_or_spent p q = let z : ◌≡◌ {A = ℕ} 0 1 = cc in omega arith

one_as : (o : Option ℕ) (r q : PicksAnswer) (page : Page) (qs picks figures : List ℕ) → PicksAs o r page qs picks figures → PicksAs o q page qs picks figures → r ≡ q
one_as (some k) r q page qs picks figures h g = h ∙ sym g
one_as none (refused_queries k) q page qs picks figures h g = absurd h
one_as none (not_waiting x) (refused_queries k) page qs picks figures h g = absurd g
one_as none (not_waiting x) (not_waiting y) page qs picks figures h g = ap not_waiting (same_place h g)
one_as none (not_waiting x) not_at_rest page qs picks figures h g = absurd (all_or_one g.0 h)
one_as none (not_waiting x) wrong_figures page qs picks figures h g = absurd (all_or_one g.0 h)
one_as none (not_waiting x) accepted_picks page qs picks figures h g = absurd (all_or_one g.0 h)
one_as none not_at_rest (refused_queries k) page qs picks figures h g = absurd g
one_as none not_at_rest (not_waiting y) page qs picks figures h g = absurd (all_or_one h.0 g)
one_as none not_at_rest not_at_rest page qs picks figures h g = refl
one_as none not_at_rest wrong_figures page qs picks figures h g = absurd (rest_or_spent g.1 h.1)
one_as none not_at_rest accepted_picks page qs picks figures h g = absurd (rest_or_spent g.1 h.1)
one_as none wrong_figures (refused_queries k) page qs picks figures h g = absurd g
one_as none wrong_figures (not_waiting y) page qs picks figures h g = absurd (all_or_one h.0 g)
one_as none wrong_figures not_at_rest page qs picks figures h g = absurd (rest_or_spent h.1 g.1)
one_as none wrong_figures wrong_figures page qs picks figures h g = refl
one_as none wrong_figures accepted_picks page qs picks figures h g = absurd (h.2 g.2)
one_as none accepted_picks (refused_queries k) page qs picks figures h g = absurd g
one_as none accepted_picks (not_waiting y) page qs picks figures h g = absurd (all_or_one h.0 g)
one_as none accepted_picks not_at_rest page qs picks figures h g = absurd (rest_or_spent h.1 g.1)
one_as none accepted_picks wrong_figures page qs picks figures h g = absurd (g.2 h.2)
one_as none accepted_picks accepted_picks page qs picks figures h g = refl

pub picks_one : (a qs picks figures : List ℕ) (r q : PicksAnswer) → PicksOf r a qs picks figures → PicksOf q a qs picks figures → r ≡ q
unfolding PicksOf
picks_one a qs picks figures r q h g = one_as (first_of (query_causes a qs)) r q (page_of a) qs picks figures h g

-- a simulator that works on a run area r, whose opening is accepted
module _ (a qs r : List ℕ) (R E B k : ℕ) (e : (open_of a qs r).answer ≡ opened_with R E B k) where
  abbrev page : Page
  page = page_of a

  opened : NoCause (open_causes a qs r)
  opened = no_cause_holds (open_causes a qs r) (opened_none a qs r R E B k e)

  -- no cause before 50
  pub opened_queries : first_of (query_causes a qs) ≡ none
  opened_queries = rw (opened.0, opened.1.0, opened.1.1.0)

  w : Proper (page_of a)
  w = sound_proper a (not-false (sound a) opened.0)

  -- the area holds the book
  module _ (calls : List Call) where
    abbrev b : Worklist
    b = (perform_book (page_of a) qs calls).state

    abbrev run : List ℕ
    run = (perform a (open_of a qs r).run calls).run

    state_in : worklist_of page run ≡ b
    state_in =
        ap (worklist_of page) (demand3 a qs r R E B k e calls).area
        ∙ state_back page (closure page qs) b (state_encodable page w qs b _ (after page w qs _ (plain_is page w) calls)) (drop (3 * page.conditions) r)

    waits_in : (c : ℕ) → c < page.conditions → member b.waiting c ≡ eqb (mark_at run c) 2
    waits_in c l = ap (λ (s : Worklist). member s.waiting c) (sym state_in) ∙ waits_at page run c l

    held_in : (c : ℕ) → c < page.conditions → interval_of b.intervals c ≡ interval_at run c
    held_in c l = ap (λ (s : Worklist). interval_of s.intervals c) (sym state_in) ∙ held_at page run c l

  module _ (picks : List ℕ) where
    -- by the book it goes to rest exactly if it does so on its area
    rests_on_area : AllWait page qs picks → status (book_after page qs picks) ≡ rest → GoesToRest a qs r picks
    rests_on_area h s =
        record {
          waiting = λ j l. let i = pick_is page qs picks j (h j l) in (i.0, eqb-true _ 2 (sym (waits_in (map evaluate (take j picks)) (get_or picks j 0) i.0) ∙ i.1));
          at_rest = λ c l q. true≢false (sym (waits_in (map evaluate picks) c l ∙ eq-eqb _ 2 q) ∙ (demand3 a qs r R E B k e (map evaluate picks)).rests.0 s c l);
        }

    rests_in_book : GoesToRest a qs r picks → AllWait page qs picks × (status (book_after page qs picks) ≡ rest)
    rests_in_book g = (
      λ j l. let i = g.waiting j l in pick_waits_lem page qs picks j i.0 (waits_in (map evaluate (take j picks)) (get_or picks j 0) i.0 ∙ eq-eqb _ 2 i.1),
      (demand3 a qs r R E B k e (map evaluate picks)).rests.1 (λ c l. waits_in (map evaluate picks) c l ∙ ne_eqb _ 2 (g.at_rest c l)),
    )

    -- "We accept exactly if the picks, made from an accepted opening, are each of a waiting condition, leave the run at rest, and the figures
    -- equal the plain answers."
    pub accepted_exactly : (figures : List ℕ) → PicksOf accepted_picks a qs picks figures ↔ (GoesToRest a qs r picks × PlainFigures (page_of a) qs figures)
    unfolding PicksOf
    accepted_exactly figures = (
      λ h. let i = subst (λ (o : Option ℕ). PicksAs o accepted_picks page qs picks figures) opened_queries h in (rests_on_area i.0 i.1, i.2),
      λ g. let i = rests_in_book g.0 in subst (λ (o : Option ℕ). PicksAs o accepted_picks page qs picks figures) (sym opened_queries) (i.0, i.1, g.1),
    )

    -- "So a simulator that from an accepted opening picks only waiting conditions, goes on to rest and sends the intervals then held is always
    -- accepted."
    pub simulator_accepted : GoesToRest a qs r picks → PicksOf accepted_picks a qs picks (ends (interval_at (area_after a qs r picks)) qs)
    simulator_accepted g =
        (accepted_exactly (ends (interval_at (area_after a qs r picks)) qs)).1 (
          g,
          (plain_figures a qs opened_queries picks (ends (interval_at (area_after a qs r picks)) qs) (rests_in_book g).1).0
              (ends_listed (interval_at (area_after a qs r picks)) (interval_of (book_after page qs picks).intervals) qs
              (λ c q. sym (held_in (map evaluate picks) c (under_listed page.conditions qs (picks_inside a qs opened_queries) c q)))),
        )
