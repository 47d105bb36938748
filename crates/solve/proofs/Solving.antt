-- Both readings of the queries of a page: what a drive from the start leaves, and what is written of it. Assumes nothing.
use mathlib.Core.Path.{◌≡◌, refl, ◌∙◌, ap}
use mathlib.Core.Bool.{Bool, true}
use mathlib.Core.List.{List, [], ◌∷◌, ◌++◌}
use Prim.Native.Nat.{ℕ, zero, suc, ◌+◌, ◌*◌, ◌-◌, ◌≤◌, ◌<◌}
use native.Mathlib.Omega.{arith}
use lib.ListN.{length, get_or, set, take, drop}
use lib.Dec.{ltb}
use borrow.Rule.Slice.PartMut.{mid_of, put_mid}
use lib.Seq.{length-take-le, drop-cons}
use Rattle.std.proofs.lemmas.List.{take-append-drop}
use borrow.Author.Tests.{ltb-true, lt-ltb}
use Rattle.fixpoint.specs.Interval.{Assign}
use Rattle.semantics.specs.Area.{page_of, top_of, conditions_of, all_under}
use Rattle.semantics.specs.Call.{Answer, outcome}
use Rattle.semantics.specs.Operation.{ends}
use Rattle.semantics.specs.Output.{Answers, AreAnswers}
use Rattle.semantics.specs.Page.{Reading, K, W, Page}
use Rattle.semantics.specs.Reading.{IsPlain, IsClosed, closure}
use Rattle.semantics.specs.RunArea.{run_of, interval_at, run_sound}
use Rattle.semantics.specs.Table.{listed}
use Rattle.semantics.specs.Worklist.{start, driven}
use Rattle.semantics.proofs.Demand.{under_listed}
use Rattle.semantics.proofs.Keeps.{ends_listed}
use Rattle.semantics.proofs.PlainRuns.{start_sound, start_reached, start_state, plain_held}
use Rattle.semantics.proofs.Proper.{Proper}
use Rattle.semantics.proofs.Soundness.{both_true}
use Rattle.semantics.proofs.Readings.{closed_is, closed_one}
use Rattle.page.specs.Solvable.{solvable}
use Rattle.page.proofs.Head.{conditions_is}
use Rattle.page.proofs.Solvable.{solvable_proper}
use Rattle.reach.specs.Marks.{ClosureMarks}
use Rattle.reach.specs.Opening.{Written}
use Rattle.reach.proofs.Bounds.{bound_few}
use Rattle.reach.proofs.Writing.{accepted_run}
use Rattle.rounds.specs.Round.{closed_at}
use Rattle.closed.specs.Solving.{ends_at, SolveReady, Solved}
use Rattle.fixpoint.proofs.KnowledgeOrder.{pair_eq}
use Rattle.closed.proofs.Answering.{Answering, answering_next}
use Rattle.run.specs.Answers.{Answered}
use Rattle.run.specs.Steps.{drive_left}
use Rattle.solve.proofs.Queries.{asked_under}
use Rattle.solve.specs.Figures.{asked_by, NotedAll, PlainSolved, figures_in, Figures}

-- the conditions of a list that are all below n, one by one
pub under_at : (n : ℕ) (qs : List ℕ) → all_under n qs ≡ true → (k : ℕ) → k < length qs → get_or qs k 0 < n
unfolding all_under
under_at n [] u k l = absurd (omega arith)
under_at n (q ∷ qs) u zero l = ltb-true q n (both_true (ltb q n) (all_under n qs) u).0
under_at n (q ∷ qs) u (suc k) l = under_at n qs (both_true (ltb q n) (all_under n qs) u).1 k (omega arith)

-- low and high of the query at a place
ends_low : (I : Assign) (qs z : List ℕ) (i : ℕ) → i < length qs → get_or (ends I qs ++ z) (2 * i) 0 ≡ (I (get_or qs i 0)).low
ends_low I [] z i l = absurd (omega arith)
ends_low I (q ∷ qs) z zero l = refl
ends_low I (q ∷ qs) z (suc i) l =
    let e : 2 * suc i ≡ suc (suc (2 * i)) = omega arith in
    ap (λ (k : ℕ). get_or (ends I (q ∷ qs) ++ z) k 0) e ∙ ends_low I qs z i (omega arith)

ends_high : (I : Assign) (qs z : List ℕ) (i : ℕ) → i < length qs → get_or (ends I qs ++ z) (2 * i + 1) 0 ≡ (I (get_or qs i 0)).high
ends_high I [] z i l = absurd (omega arith)
ends_high I (q ∷ qs) z zero l = refl
ends_high I (q ∷ qs) z (suc i) l =
    let e : 2 * suc i + 1 ≡ suc (suc (2 * i + 1)) = omega arith in
    ap (λ (k : ℕ). get_or (ends I (q ∷ qs) ++ z) k 0) e ∙ ends_high I qs z i (omega arith)

-- a run of the queries, opened and driven
module _ (a : List ℕ) (ok : solvable a ≡ true) (qs : List ℕ) (under : all_under (conditions_of a) qs ≡ true) (run : List ℕ) (long : 3 * conditions_of a ≤ length run) where
  abbrev page : Page
  page = page_of a

  abbrev m : List Bool
  m = closure (page_of a) qs

  w : Proper (page_of a)
  w = solvable_proper a ok

  asked : (c : ℕ) → listed c qs ≡ true → c < (page_of a).conditions
  asked c l = rw (conditions_is a) (under_listed (conditions_of a) qs under c l)

  module _ {marks : List Bool} (h : ClosureMarks (page_of a) qs marks) {run₁ : List ℕ} (v : Written (conditions_of a) (top_of a) marks run run₁) where
    opened : run₁ ≡ run_of page m (start page m) ++ drop (3 * page.conditions) run
    opened = accepted_run a qs run h long v

    pub opened_sound : run_sound (page_of a) run₁ ≡ true
    opened_sound = rw opened (start_sound page w qs (drop (3 * page.conditions) run))

    pub driven_answers : {x : Answer} {run₂ : List ℕ} → Answered (drive_left a run₁ 4294967295) x run₂ → (P : Assign) → IsPlain (page_of a) P
        → (c : ℕ) → listed c qs ≡ true → interval_at run₂ c ≡ P c
    unfolding drive_left outcome
    driven_answers {run₂ = run₂} d P p c l =
        let z = drop (3 * page.conditions) run in
        let r = run_of page m (start page m) ++ z in
        let e : run₂ ≡ run_of page m (driven page m 4294967295 (start page m)).state ++ drop (3 * page.conditions) run₁ =
        d.run_is ∙ rw (opened) (rw (start_reached page w qs z, start_state page w qs z)) in
        rw e (plain_held page w qs (drop (3 * page.conditions) run₁) asked 4294967295 (omega (arith, bound_few page w m)) P p c l)

    pub plain_solved : {x : Answer} {run₂ : List ℕ} (answers answers' : List ℕ) → Answered (drive_left a run₁ 4294967295) x run₂ → answers' ≡ ends (ends_at run₂ 3 1) qs ++ drop (2 * length qs) answers
        → PlainSolved (page_of a) qs answers answers'
    plain_solved {run₂ = run₂} answers answers' d e P p =
        e ∙ ap (λ (l : List ℕ). l ++ drop (2 * length qs) answers)
        (ends_listed (ends_at run₂ 3 1) P qs (λ c l. pair_eq refl (ap (λ (i : ℕ). get_or run₂ i 0) {x = 1 + 3 * c} {y = 3 * c + 1} (omega arith)) ∙ driven_answers d P p c l))

-- a run for each query: the first i are answered
pub record Apart (page : Page) (qs answers₀ answers : List ℕ) (i : ℕ) : Type 0 where
  pub answered : (P : Assign) → IsPlain page P → Answering P qs answers₀ answers i

-- the list of the query at a place alone
pub one_query : (qs : List ℕ) (i : ℕ) → i < length qs → take (i + 1 - i) (drop i qs) ≡ get_or qs i 0 ∷ []
one_query qs i l =
    let e : i + 1 - i ≡ 1 = omega arith in
    ap (λ (k : ℕ). take k (drop i qs)) e ∙ ap (λ (p : List ℕ). take 1 p) (drop-cons qs i 0 l)

pub one_under : (n : ℕ) (qs : List ℕ) → all_under n qs ≡ true → (i : ℕ) → i < length qs → all_under n (take (i + 1 - i) (drop i qs)) ≡ true
unfolding all_under
one_under n qs u i l = rw (one_query qs i l, lt-ltb (get_or qs i 0) n (under_at n qs u i l))

-- two numbers written over the part from a place on
put_two : (l : List ℕ) (k : ℕ) (x y : ℕ) → k + 1 < length l → put_mid k (length l - k) l (x ∷ y ∷ drop 2 (mid_of k (length l - k) l)) ≡ set (set l k x) (k + 1) y
put_two [] k x y h = absurd (omega arith)
put_two (u ∷ []) k x y h = absurd (omega arith)
put_two (u ∷ v ∷ l) zero x y h =
    let n : length (u ∷ v ∷ l) - 0 ≡ suc (suc (length l)) = omega arith in
    rw n (ap (λ (t : List ℕ). x ∷ y ∷ t) (take-append-drop (length l) l))
put_two (u ∷ v ∷ l) (suc k) x y h =
    let n : length (u ∷ v ∷ l) - suc k ≡ length (v ∷ l) - k = omega arith in
    let m : suc k + 1 ≡ suc (k + 1) = omega arith in
    rw (n, m) (ap (λ (t : List ℕ). u ∷ t) (put_two (v ∷ l) k x y (omega arith)))

pub apart_next : (page : Page) (qs answers₀ : List ℕ) {answers : List ℕ} {i : ℕ} → Apart page qs answers₀ answers i → i < length qs → 2 * length qs ≤ length answers → {part : List ℕ}
    → PlainSolved page (take (i + 1 - i) (drop i qs)) (mid_of (2 * i) (length answers - 2 * i) answers) part → Apart page qs answers₀ (put_mid (2 * i) (length answers - 2 * i) answers part) (i + 1)
apart_next page qs answers₀ {answers} {i} s l long {part} h =
    record {
      answered = λ P p.
          let q : ℕ = get_or qs i 0 in
          let e : part ≡ (P q).low ∷ (P q).high ∷ drop 2 (mid_of (2 * i) (length answers - 2 * i) answers) =
          h P p ∙ ap (λ (t : List ℕ). ends P t ++ drop (2 * length t) (mid_of (2 * i) (length answers - 2 * i) answers)) (one_query qs i l) in
          answering_next P qs answers₀ (s.answered P p) l (ap (put_mid (2 * i) (length answers - 2 * i) answers) e ∙ put_two answers (2 * i) (P q).low (P q).high (omega arith));
    }

-- the closed answers, whatever closed reading is meant
pub closed_solved : (a : List ℕ) → solvable a ≡ true → {qs s answers s' answers' : List ℕ} {counting : Bool} {k : ℕ} → all_under (conditions_of a) qs ≡ true → Solved a qs s answers s' answers' counting k
    → (C : Assign) → IsClosed (page_of a) C → answers' ≡ ends C qs ++ drop (2 * length qs) answers
unfolding page_of
closed_solved a ok {qs} {answers = answers} under v C i =
    let w = solvable_proper a ok in
    v.written ∙ ap (λ (l : List ℕ). l ++ drop (2 * length qs) answers)
    (ends_listed (closed_at a) C qs (λ c l. closed_one (page_of a) w (closed_is (page_of a) w) i c (rw (conditions_is a) (under_listed (conditions_of a) qs under c l))))

-- the queries of a page, noted and solved
module _ (a : List ℕ) {queries : List ℕ} {k : ℕ} (q : NotedAll a queries k) where
  -- as many as are noted, each below C
  pub noted_length : length (take k queries) ≡ k
  noted_length = length-take-le k queries (omega (arith, q.size, q.within))

  pub noted_under : solvable a ≡ true → all_under (conditions_of a) (take k queries) ≡ true
  unfolding page_of
  noted_under ok = rw q.front (asked_under (top_of a) (conditions_of a) (page_of a).lines (solvable_proper a ok).ranged)

  pub ready : solvable a ≡ true → (s w : List ℕ) → 4 * conditions_of a ≤ length s → 3072 ≤ length w → SolveReady a (take k queries) s w
  ready ok s w l m = record { under = noted_under ok; long = l; room = omega (arith, noted_length, q.within) }

  module _ (plain₀ plain closed₀ closed : List ℕ) (p : PlainSolved (page_of a) (take k queries) plain₀ plain)
      (c : (C : Assign) → IsClosed (page_of a) C → closed ≡ ends C (take k queries) ++ drop (2 * length (take k queries)) closed₀) (l : length plain ≡ 3072) (j : length closed ≡ 3072) where
    in_reading : (A : Answers) → AreAnswers (page_of a) A → (r : Reading) → (z : List ℕ) × (figures_in r plain closed ≡ ends (A r) (asked_by (page_of a).lines) ++ z)
    in_reading A h K = (_, p (A K) (h K) ∙ ap (λ (t : List ℕ). ends (A K) t ++ drop (2 * length (take k queries)) plain₀) q.front)
    in_reading A h W = (_, c (A W) (h W) ∙ ap (λ (t : List ℕ). ends (A W) t ++ drop (2 * length (take k queries)) closed₀) q.front)

    pub figures_solved : Figures (page_of a) plain closed
    figures_solved =
        record {
          plain_size = l;
          closed_size = j;
          low = λ A h r i m. let e = in_reading A h r in rw e.1 (ends_low (A r) (asked_by (page_of a).lines) e.0 i m);
          high = λ A h r i m. let e = in_reading A h r in rw e.1 (ends_high (A r) (asked_by (page_of a).lines) e.0 i m);
        }
