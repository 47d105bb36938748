-- The operation as a whole: the start from the closure, the answers in list order, the cleared scratch, and the refusals. Assumes nothing.
use mathlib.Core.Path.{◌≡◌, refl, sym, ◌∙◌, ap, ap₂}
use mathlib.Core.Bool.{Bool, true, false, not, true≢false}
use mathlib.Core.List.{List, [], ◌∷◌, ◌++◌, append_assoc}
use mathlib.Core.Option.{none, some}
use Prim.Native.Nat.{ℕ, suc, ◌+◌, ◌*◌, ◌≤◌, ◌<◌}
use native.Mathlib.Numerals.{add-one}
use native.Mathlib.Omega.{arith}
use lib.Dec.{leb}
use lib.ListN.{length, get_or, set, take, drop, length-append, length-take}
use lib.Seq.{drop-cons, take-suc, set_at}
use borrow.Author.Tests.{le-leb, lt-leb, leb-true, not-false}
use Rattle.fixpoint.specs.ChaoticIteration.{DependencyClosed}
use Rattle.fixpoint.specs.Interval.{Assign}
use Rattle.fixpoint.proofs.Cond.{by_bool, cond_true, cond_false}
use Rattle.fixpoint.proofs.KnowledgeOrder.{pair_eq}
use Rattle.fixpoint.proofs.Tables.{turned_first}
use Rattle.semantics.specs.Area.{sound, page_of, top_of, conditions_of}
use Rattle.semantics.specs.Body.{unknown_by_default}
use Rattle.semantics.specs.Call.{Cause, cause, first_of}
use Rattle.semantics.specs.Operation.{ends, zeros, scratch_length, closed_causes, used_workspace, closed_workspace, refused_closing, closed_after, ClosedOf}
use Rattle.semantics.specs.Page.{names}
use Rattle.semantics.specs.Reading.{queried, closure}
use Rattle.semantics.specs.Table.{listed, member}
use Rattle.semantics.proofs.Closure.{reached_closed, reached_complete}
use Rattle.semantics.proofs.Demand.{under_listed}
use Rattle.semantics.proofs.Invariant.{no_cause_holds}
use Rattle.semantics.proofs.Keeps.{length_ends, ends_listed}
use Rattle.semantics.proofs.Readings.{names_inside, closed_is}
use Rattle.page.proofs.Head.{head_of}
use Rattle.reach.specs.Marks.{Marks}
use Rattle.reach.specs.Queries.{list_causes}
use Rattle.reach.proofs.Refusals.{first_before, first_after}
use Rattle.settle.specs.Scratch.{held}
use Rattle.closed.specs.Answer.{FirstCause}
use Rattle.rounds.specs.Round.{closed_at, RoundReady, Alternated}
use Rattle.closed.specs.Solving.{Begun, SolveReady, Solved}
use Rattle.stages.specs.Counted.{CountReady, Counted}
use Rattle.semantics.proofs.RoundsReached.{count_over}
use Rattle.settle.proofs.Raising.{S}
use Rattle.page.specs.Solvable.{solvable}
use Rattle.page.proofs.Solvable.{sound_solvable, solvable_proper}

-- the loop that begins: the conditions before c have [0;top]
module _ (n top : ℕ) (s₀ : List ℕ) where
  pub record Beginning (s : List ℕ) (c : ℕ) : Type 0 where
    pub long : 4 * n ≤ length s₀
    pub within : c ≤ n
    pub same_length : length s ≡ length s₀
    pub lows : (d : ℕ) → d < c → get_or s (2 * d) 0 ≡ 0
    pub highs : (d : ℕ) → d < c → get_or s (2 * n + 2 * d) 0 ≡ top
    pub beyond : drop (4 * n) s ≡ drop (4 * n) s₀

-- the start: the marks are those of the closure
module _ (a qs s w : List ℕ) (ok : solvable a ≡ true) (r : SolveReady a qs s w) {marks : List Bool} (m : Marks (closure (page_of a) qs) marks) {s₁ : List ℕ} (b : Begun (conditions_of a) (top_of a) s s₁) where
  shut : DependencyClosed (page_of a).conditions (names (page_of a)) (member marks)
  shut c d l k p q = m.same d ∙ reached_closed (page_of a) qs c d l k (sym (m.same c) ∙ p) q

  pub rounds_begin : RoundReady a marks s₁
  unfolding page_of
  rounds_begin =
      record {
        long = omega (arith, r.long, b.same_length);
        marked = omega (arith, m.size, (head_of a ok).few);
        shut = shut;
        within = λ c l. omega (arith, b.lows c l);
        highs_in = λ c l e. omega (arith, b.highs c l);
        apart = λ c l q. b.lows c l;
        round = 0;
        turned = turned_first (S a ok) shut (unknown_by_default (page_of a))
            (λ c l q. pair_eq (b.lows c l) (by_bool (unknown_by_default (page_of a) c) (λ e. cond_true (get_or s₁ (2 * conditions_of a + 2 * c) 0) (top_of a) e ∙ b.highs c l)
            (λ e. cond_false (get_or s₁ (2 * conditions_of a + 2 * c) 0) (top_of a) e)));
      }

-- the answers: the first i queries are answered
module _ (I : Assign) (qs answers₀ : List ℕ) where
  pub record Answering (answers : List ℕ) (i : ℕ) : Type 0 where
    pub long : 2 * length qs ≤ length answers₀
    pub in_list : i ≤ length qs
    pub is : answers ≡ ends I (take i qs) ++ drop (2 * i) answers₀

  ends_append : (xs ys : List ℕ) → ends I (xs ++ ys) ≡ ends I xs ++ ends I ys
  ends_append [] ys = refl
  ends_append (x ∷ xs) ys = ap (λ (t : List ℕ). (I x).low ∷ (I x).high ∷ t) (ends_append xs ys)

  -- two stores behind p
  two_stores : (p d : List ℕ) (k x y : ℕ) → length p ≡ k → k + 1 < length d → set (set (p ++ drop k d) k x) (k + 1) y ≡ (p ++ (x ∷ y ∷ [])) ++ drop (k + 2) d
  two_stores p d k x y e l =
      let f : suc k ≡ k + 1 = omega arith in
      let g : suc (suc k) ≡ k + 2 = omega arith in
      let t : List ℕ = drop (suc (suc k)) d in
      ap (λ (q : List ℕ). set (set (p ++ q) k x) (k + 1) y) (drop-cons d k 0 (omega arith) ∙ ap (λ (q : List ℕ). get_or d k 0 ∷ q) (drop-cons d (suc k) 0 (omega arith)))
      ∙ ap (λ (q : List ℕ). set q (k + 1) y) (set_at p (get_or d k 0) (get_or d (suc k) 0 ∷ t) x k e)
      ∙ ap (λ (q : List ℕ). set q (k + 1) y) (sym (append_assoc p (x ∷ []) (get_or d (suc k) 0 ∷ t)))
      ∙ set_at (p ++ (x ∷ [])) (get_or d (suc k) 0) t y (k + 1) (length-append p (x ∷ []) ∙ omega (arith, e))
      ∙ append_assoc p (x ∷ []) (y ∷ t) ∙ sym (append_assoc p (x ∷ y ∷ []) t) ∙ ap (λ (j : ℕ). (p ++ (x ∷ y ∷ [])) ++ drop j d) g

  module _ {answers : List ℕ} {i : ℕ} (s : Answering answers i) where
    pub answering_next : i < length qs → {answers' : List ℕ} → answers' ≡ set (set answers (2 * i) (I (get_or qs i 0)).low) (2 * i + 1) (I (get_or qs i 0)).high → Answering answers' (i + 1)
    answering_next l w =
        let q : ℕ = get_or qs i 0 in
        let e : 2 * i + 2 ≡ 2 * (i + 1) = omega arith in
        record {
          long = s.long;
          in_list = omega arith;
          is = w ∙ ap (λ (t : List ℕ). set (set t (2 * i) (I q).low) (2 * i + 1) (I q).high) s.is
              ∙ two_stores (ends I (take i qs)) answers₀ (2 * i) (I q).low (I q).high (length_ends I (take i qs) ∙ omega (arith, length-take i qs, s.in_list)) (omega (arith, s.long))
              ∙ ap₂ {C = List ℕ} (λ x y. x ++ y) (sym (ap (ends I) (ap (λ (j : ℕ). take j qs) (add-one i) ∙ take-suc qs i 0 l) ∙ ends_append (take i qs) (q ∷ []))) (ap (λ (j : ℕ). drop j answers₀) e);
        }

-- the answers are written over the closed reading, and then the rounds are counted
module _ (a qs s w : List ℕ) (ok : solvable a ≡ true) (r : SolveReady a qs s w) {marks : List Bool} (m : Marks (closure (page_of a) qs) marks) {s₁ : List ℕ} (b : Begun (conditions_of a) (top_of a) s s₁)
    {s₂ : List ℕ} (v : Alternated a marks s₁ s₂) where
  real : (c : ℕ) → listed c qs ≡ true → c < conditions_of a
  real c l = under_listed (conditions_of a) qs r.under c l

  answer : (c : ℕ) → listed c qs ≡ true → held (conditions_of a) s₂ c ≡ closed_at a c
  unfolding page_of
  answer c l =
      v.reads_closed c (real c l)
      (m.same c ∙ reached_complete (page_of a) qs (names_inside (page_of a) (solvable_proper a ok)) real (queried l))

  pub count_ready : CountReady a marks s₂
  unfolding page_of
  count_ready =
      record {
        long = omega (arith, r.long, b.same_length, v.same_length);
        marked = omega (arith, m.size, (head_of a ok).few);
        shut = shut a qs s w ok r m b;
        reads_closed = v.reads_closed;
      }

  module _ {w' : List ℕ} (d : w' ≡ ends (held (conditions_of a) s₂) qs ++ drop (2 * length qs) w) where
    written : w' ≡ ends (closed_at a) qs ++ drop (2 * length qs) w
    written = d ∙ ap (λ (t : List ℕ). t ++ drop (2 * length qs) w) (ends_listed (held (conditions_of a) s₂) (closed_at a) qs answer)

    pub solved_uncounted : (k : ℕ) → Solved a qs s w s₂ w' false k
    solved_uncounted k =
        record {
          same_length = v.same_length ∙ b.same_length;
          beyond = v.beyond ∙ b.beyond;
          written = written;
          rounds = λ e. absurd (true≢false (sym e));
        }

    pub solved_counted : {s' : List ℕ} {k : ℕ} (counting : Bool) → Counted a marks s₂ s' k → Solved a qs s w s' w' counting k
    unfolding page_of
    solved_counted counting h =
        record {
          same_length = h.same_length ∙ v.same_length ∙ b.same_length;
          beyond = h.beyond ∙ v.beyond ∙ b.beyond;
          written = written;
          rounds = λ e.
              count_over (S a ok) (shut a qs s w ok r m b) (reached_closed (page_of a) qs) (unknown_by_default (page_of a)) (λ c l. m.same c) h.is_count;
        }

-- the causes of a refusal, in the order of the code's tests
module _ (a qs s w : List ℕ) where
  abbrev behind : List Cause
  behind = cause (not (leb (scratch_length (page_of a)) (length s))) 18 ∷ cause (not (leb (2 * length qs) (length w))) 19 ∷ []

  -- p is the page and n its number of conditions
  module _ {p : List ℕ} (e : (sound a ≡ true) × (p ≡ a)) {n : ℕ} (z : n ≡ conditions_of p) where
    size : n ≡ conditions_of a
    size = z ∙ ap conditions_of e.1

    -- past 10 the causes of the list come first
    causes_are : first_of (closed_causes a qs s w) ≡ first_of (list_causes n qs ++ behind)
    unfolding page_of
    causes_are = rw (e.0, size)

    pub causes_list : {k : ℕ} → some k ≡ first_of (list_causes n qs) → FirstCause (some k) a qs s w
    causes_list {k} f = record { is = sym (causes_are ∙ first_before (list_causes n qs) behind (sym f)) }

    module _ (f : none ≡ first_of (list_causes n qs)) where
      past_list : first_of (closed_causes a qs s w) ≡ first_of behind
      past_list = causes_are ∙ first_after (list_causes n qs) behind (sym f)

      pub causes_18 : length s < 4 * n → FirstCause (some 18) a qs s w
      unfolding page_of
      causes_18 l = record { is = sym (past_list ∙ rw (lt-leb (4 * conditions_of a) (length s) (omega (arith, size, l)))) }

      module _ (long : 4 * n ≤ length s) where
        long_is : leb (4 * conditions_of a) (length s) ≡ true
        long_is = le-leb (4 * conditions_of a) (length s) (omega (arith, size, long))

        pub causes_19 : length w < 2 * length qs → FirstCause (some 19) a qs s w
        unfolding page_of
        causes_19 l = record { is = sym (past_list ∙ rw (long_is, lt-leb (2 * length qs) (length w) l)) }

        pub causes_none : 2 * length qs ≤ length w → FirstCause none a qs s w
        unfolding page_of
        causes_none l = record { is = sym (past_list ∙ rw (long_is, le-leb (2 * length qs) (length w) l)) }

  -- a refusal
  pub refused_by : {k : ℕ} → FirstCause (some k) a qs s w → ClosedOf (refused_closing k) a qs s w s w
  unfolding ClosedOf
  refused_by {k} e = rw (← e.is) (refl, refl, refl)

  -- none of the causes holds
  module _ (e : FirstCause none a qs s w) where
    sound_page : solvable a ≡ true
    sound_page = sound_solvable a (not-false _ (no_cause_holds (closed_causes a qs s w) (sym e.is)).0)

    pub solve_ready : SolveReady a qs s w
    unfolding page_of
    solve_ready =
        let h = no_cause_holds (closed_causes a qs s w) (sym e.is) in
        record {
          under = not-false _ h.1.1.0;
          long = leb-true (4 * conditions_of a) (length s) (not-false _ h.1.1.1.0);
          room = leb-true (2 * length qs) (length w) (not-false _ h.1.1.1.1.0);
        }

    -- solved and counted, and the scratch erased
    pub accepted : {s₁ s' w' : List ℕ} {k : ℕ} → Solved a qs s w s₁ w' true k → s' ≡ zeros (4 * conditions_of a) ++ drop (4 * conditions_of a) s₁
        → ClosedOf (closed_after k) a qs s w s' w'
    unfolding ClosedOf page_of
    accepted {s₁} {s'} {w'} {k} v d =
        rw (← e.is) (
        record {
          reading = closed_at a;
          is_closed = closed_is (page_of a) (solvable_proper a sound_page);
          rounds = k;
          is_rounds = v.rounds refl;
          told = refl;
          written = v.written;
          cleared = d ∙ ap (λ (t : List ℕ). zeros (4 * conditions_of a) ++ t) v.beyond;
        }
        )

    -- the workspace of an accepted call
    pub workspace_used : (x : List ℕ) {x' : List ℕ} → x' ≡ used_workspace a x → x' ≡ closed_workspace a qs s w x
    unfolding closed_workspace
    workspace_used x h = rw (← e.is) h

  -- and of a refused one
  pub workspace_kept : {k : ℕ} {x : List ℕ} → FirstCause (some k) a qs s w → x ≡ closed_workspace a qs s w x
  unfolding closed_workspace
  workspace_kept {k} {x} e = rw (← e.is)
