-- The closure marks exactly the reached conditions. Assumes nothing.
use mathlib.Core.Path.{◌≡◌, refl, sym, ◌∙◌, ap}
use mathlib.Core.Logic.{◌⊎◌, inl, inr, ◌↔◌}
use mathlib.Core.Bool.{Bool, true, false, not, ◌&&◌, ◌||◌, false≢true, true≢false, or-true}
use mathlib.Core.List.{List, [], ◌∷◌}
use Prim.Native.Nat.{ℕ, zero, suc, ◌+◌, ◌-◌, ◌*◌, ◌≤◌, ◌<◌}
use native.Mathlib.Nat.{mul_comm}
use native.Mathlib.Decide.{dec_le}
use native.Mathlib.Omega.{arith}
use lib.ListN.{length, get_or-eq_default}
use lib.Seq.{ext_get_or}
use borrow.Author.Tests.{eq-eqb}
use Rattle.fixpoint.specs.ChaoticIteration.{DependencyClosed, budget, edges}
use Rattle.fixpoint.specs.Sum.{sum, bit, count}
use Rattle.semantics.specs.Page.{Page, names}
use Rattle.semantics.specs.Reading.{Reached, queried, named, pass, passes, queried_set, closure, adds, IsPassCount, pass_count, count_r, count_e, bound, reached}
use Rattle.semantics.specs.Table.{member, any_below, listed}
use Rattle.fixpoint.proofs.ChaoticIteration.{edges_pairs}
use Rattle.fixpoint.proofs.Sum.{sum_le, sum_eq, sum_const, sum_tight, sum_entry}
use Rattle.semantics.proofs.Soundness.{both_true}
use Rattle.semantics.proofs.Table.{length_from, get_d_table, or_cases, any_true, any_found}

bit_le : (a b : Bool) → (a ≡ true → b ≡ true) → bit a ≤ bit b
bit_le true b h = rw (h refl) (omega arith)
bit_le false b h = omega arith

bit_one : (a : Bool) → bit a ≤ 1
bit_one true = omega arith
bit_one false = omega arith

bit_eq : (a b : Bool) → bit a ≡ bit b → a ≡ b
bit_eq true true e = refl
bit_eq true false e = absurd (omega arith)
bit_eq false true e = absurd (omega arith)
bit_eq false false e = refl

-- a list that is not empty has an entry
first_asked : (qs : List ℕ) → 1 ≤ length qs → (c : ℕ) × (listed c qs ≡ true)
unfolding listed
first_asked [] l = absurd (omega arith)
first_asked (q ∷ qs) l = (q, rw (eq-eqb q q refl))

-- where p does not come back once it fails: the count of those where it holds is the first where it fails
module _ (p : ℕ → Bool) (on : (i : ℕ) → p i ≡ false → p (suc i) ≡ false) where
  record First (n k : ℕ) : Type 0 where
    few : k ≤ n
    holds : (i : ℕ) → i < k → p i ≡ true
    fails : k < n → p k ≡ false

  -- once p fails, it fails later too
  past : (i d : ℕ) → p i ≡ false → p (i + d) ≡ false
  past i zero e = ap p (omega arith) ∙ e
  past i (suc d) e = ap p (omega arith) ∙ on (i + d) (past i d e)

  first_one : (n : ℕ) → First n (count n p)
  unfolding sum
  first_one zero = record { few = omega arith; holds = λ i l. absurd (omega arith); fails = λ l. absurd (omega arith) }
  first_one (suc n) = go (first_one n) (p n) refl
    where
      go : First n (count n p) → (t : Bool) → p n ≡ t → First (suc n) (count n p + bit t)
      go f true e =
          elim (dec_le n (count n p)) [
            | yes l ↦
                record {
                  few = omega (arith, f.few);
                  holds = λ i m. elim (dec_le n i) [ yes q ↦ ap p (omega (arith, f.few)) ∙ e | no q ↦ f.holds i (omega arith) ];
                  fails = λ m. absurd (omega arith);
                }
            | no l ↦ absurd (true≢false (sym e ∙ ap p (omega arith) ∙ past (count n p) (n - count n p) (f.fails (omega arith))))
          ]
      go f false e =
          record {
            few = omega (arith, f.few);
            holds = λ i m. f.holds i (omega arith);
            fails = λ m.
                elim (dec_le n (count n p)) [
                  | yes l ↦ ap p (omega (arith, f.few)) ∙ e
                  | no l ↦ ap p (omega arith) ∙ f.fails (omega arith)
                ];
          }

module _ (page : Page) (qs : List ℕ) where
  abbrev n : ℕ
  n = page.conditions

  -- what is found after k passes
  abbrev pub at : ℕ → List Bool
  at k = passes page k (queried_set page qs)

  pub at_first : (c : ℕ) → c < n → member (at 0) c ≡ listed c qs
  unfolding passes
  at_first c l = get_d_table n (λ c. listed c qs) c false l

  pub at_next : (k b : ℕ) → b < n → member (at (suc k)) b ≡ (member (at k) b || any_below n (λ a. member (at k) a && names page a b))
  unfolding passes pass
  at_next k b l = get_d_table n (λ b. member (at k) b || any_below n (λ a. member (at k) a && names page a b)) b false l

  pub at_length : (k : ℕ) → length (at k) ≡ n
  unfolding passes pass
  at_length zero = length_from n 0 (λ c. listed c qs)
  at_length (suc k) = length_from n 0 (λ b. member (at k) b || any_below n (λ a. member (at k) a && names page a b))

  at_sound : (k c : ℕ) → c < n → member (at k) c ≡ true → Reached page qs c
  at_sound zero c l e = queried (sym (at_first c l) ∙ e)
  at_sound (suc k) c l e =
      elim (or_cases (member (at k) c) (any_below n (λ a. member (at k) a && names page a c)) (sym (at_next k c l) ∙ e)) [
        | inl h ↦ at_sound k c l h
        | inr h ↦
            let f = any_found n (λ a. member (at k) a && names page a c) h in
            let g = both_true (member (at k) f.0) (names page f.0 c) f.2 in
            named (at_sound k f.0 f.1 g.0) g.1
      ]

  grows : (k c : ℕ) → c < n → member (at k) c ≡ true → member (at (suc k)) c ≡ true
  grows k c l e = at_next k c l ∙ rw e

  abbrev size : ℕ → ℕ
  size k = count n (member (at k))

  progress : (k : ℕ) → (at (suc k) ≡ at k) ⊎ (size k < size (suc k))
  progress k =
      elim (dec_le (size (suc k)) (size k)) [
        | yes q ↦ inl (sym (ext_get_or false (at k) (at (suc k)) (at_length k ∙ sym (at_length (suc k)))
            (λ i l. bit_eq _ _ (sum_tight n (λ c. bit (member (at k) c)) (λ c. bit (member (at (suc k)) c)) (λ c m. bit_le _ _ (grows k c m)) q i (omega (arith, at_length k))))))
        | no q ↦ inr (omega arith)
      ]

  stays : (k : ℕ) → at (suc k) ≡ at k → at (suc (suc k)) ≡ at (suc k)
  unfolding passes
  stays k e = ap (pass page) e

  rounds : (k : ℕ) → (at (suc k) ≡ at k) ⊎ (suc k ≤ size (suc k))
  rounds zero = elim (progress zero) [ inl e ↦ inl e | inr h ↦ inr (omega arith) ]
  rounds (suc k) =
      elim (rounds k) [
        | inl e ↦ inl (stays k e)
        | inr b ↦ elim (progress (suc k)) [ inl e ↦ inl e | inr h ↦ inr (omega arith) ]
      ]

  full : (k : ℕ) → size k ≤ n
  full k = omega (arith, sum_const n 1, sum_le n (λ c. bit (member (at k) c)) (λ c. 1) (λ c l. bit_one (member (at k) c)))

  settles : at (suc n) ≡ at n
  settles = elim (rounds n) [ inl e ↦ e | inr h ↦ absurd (omega (arith, full (suc n))) ]

  -- the count of passes
  more : ℕ → Bool
  more k = adds page (at k)

  none_more : (k : ℕ) → at (suc k) ≡ at k → more k ≡ false
  unfolding more adds passes
  none_more k e = go (more k) refl
    where
      go : (t : Bool) → more k ≡ t → t ≡ false
      go false h = refl
      go true h =
          let f = any_found n (λ b. member (at (suc k)) b && not (member (at k) b)) h in
          let g = both_true (member (at (suc k)) f.0) (not (member (at k) f.0)) f.2 in
          absurd (true≢false (sym g.1 ∙ ap not (ap (λ (m : List Bool). member m f.0) (sym e) ∙ g.0)))

  some_more : (k : ℕ) → more k ≡ true → size k < size (suc k)
  some_more k e = elim (progress k) [ inl h ↦ absurd (true≢false (sym e ∙ none_more k h)) | inr h ↦ h ]

  all_found : (k : ℕ) → more k ≡ false → at (suc k) ≡ at k
  unfolding more adds passes
  all_found k e =
      ext_get_or false (at (suc k)) (at k) (at_length (suc k) ∙ sym (at_length k))
      (λ b l. go b (omega (arith, at_length (suc k))) (member (at (suc k)) b) refl (member (at k) b) refl)
    where
      go : (b : ℕ) → b < n → (s : Bool) → member (at (suc k)) b ≡ s → (t : Bool) → member (at k) b ≡ t → s ≡ t
      go b l true p true q = refl
      go b l true p false q = absurd (true≢false (sym (any_true n (λ b. member (at (suc k)) b && not (member (at k) b)) b l (rw (p, q))) ∙ e))
      go b l false p true q = absurd (false≢true (sym p ∙ grows k b l q))
      go b l false p false q = refl

  pub adds_still : (k : ℕ) → adds page (at k) ≡ false → adds page (at (suc k)) ≡ false
  unfolding more
  adds_still k e = none_more (suc k) (stays k (all_found k e))

  pub pass_count_is : IsPassCount page qs (pass_count page qs)
  unfolding pass_count more
  pass_count_is =
      let f = first_one more adds_still n in
      let e : suc (count n more) - 1 ≡ count n more = omega arith in
      let last : more (count n more) ≡ false = elim (dec_le n (count n more)) [ yes l ↦ ap more (omega (arith, f.few)) ∙ none_more n settles | no l ↦ f.fails (omega arith) ] in
      record {
        some_pass = omega arith;
        last = ap more e ∙ last;
        before = λ i l. f.holds i (omega arith);
      }

  -- each pass that adds some leaves one condition more
  grown : (k : ℕ) → ((i : ℕ) → i < k → more i ≡ true) → k + size 0 ≤ size k
  grown zero h = omega arith
  grown (suc k) h = omega (arith, grown k (λ i m. h i (omega arith)), some_more k (h k (omega arith)))

  -- so no more than C passes add some
  pub adding_few : (k : ℕ) → ((i : ℕ) → i < k → adds page (at i) ≡ true) → k ≤ n
  unfolding more
  adding_few k h = omega (arith, grown k h, full k)

  -- a pass that adds none has found the closure
  pub found_all : (k : ℕ) → adds page (at k) ≡ false → at k ≡ closure page qs
  unfolding closure more
  found_all k e = elim (dec_le k n) [ yes l ↦ sym (same_later k (n - k) e) ∙ ap at (omega arith) | no l ↦ ap at (omega arith) ∙ same_later n (k - n) (none_more n settles) ]
    where
      same_later : (k d : ℕ) → more k ≡ false → at (k + d) ≡ at k
      same_later k zero e = ap at (omega arith)
      same_later k (suc d) e = ap at (omega arith) ∙ all_found (k + d) (past more adds_still k d e) ∙ same_later k d e

  no_fewer : (k d : ℕ) → size k ≤ size (k + d)
  no_fewer k zero = let e : k + 0 ≡ k = omega arith in omega (arith, ap size e)
  no_fewer k (suc d) =
      let e : k + suc d ≡ suc (k + d) = omega arith in
      omega (arith, ap size e, no_fewer k d, sum_le n (λ c. bit (member (at (k + d)) c)) (λ c. bit (member (at (suc (k + d))) c)) (λ c l. bit_le _ _ (grows (k + d) c l)))

  pub pass_count_one : (j k : ℕ) → IsPassCount page qs j → IsPassCount page qs k → j ≡ k
  pass_count_one j k a b =
      elim (dec_le j k) [
        | yes l ↦ elim (dec_le k j) [ yes m ↦ omega arith | no m ↦ absurd (differ j k a b (omega arith)) ]
        | no l ↦ absurd (differ k j b a (omega arith))
      ]
    where
      differ : (j k : ℕ) → IsPassCount page qs j → IsPassCount page qs k → j < k → ⊥
      differ j k a b l = true≢false (sym (b.before (j - 1) (omega (arith, a.some_pass))) ∙ a.last)

  pub closure_length : length (closure page qs) ≡ n
  unfolding closure
  closure_length = at_length n

  -- past C the closure holds nothing
  inside_closure : (c : ℕ) → reached page qs c ≡ true → c < n
  inside_closure c e =
      elim (dec_le (suc c) n) [
        | yes q ↦ q
        | no q ↦ absurd (false≢true (sym (get_or-eq_default (closure page qs) false (omega (arith, closure_length))) ∙ e))
      ]

  pub reached_sound : (c : ℕ) → c < n → reached page qs c ≡ true → Reached page qs c
  unfolding closure
  reached_sound = at_sound n

  pub reached_closed : DependencyClosed n (names page) (reached page qs)
  unfolding closure
  reached_closed a b l m r e =
      ap (λ (w : List Bool). member w b) (sym settles) ∙ at_next n b m
      ∙ rw (any_true n (λ a. member (at n) a && names page a b) a l (rw (r, e)), or-true)

  later : (k c : ℕ) → c < n → listed c qs ≡ true → member (at k) c ≡ true
  later zero c l e = at_first c l ∙ e
  later (suc k) c l e = grows k c l (later k c l e)

  -- for a page whose rules name only conditions, and queries that are conditions
  module _ (inside : (a b : ℕ) → names page a b ≡ true → b < n) (asked : (c : ℕ) → listed c qs ≡ true → c < n) where
    pub reached_real : {c : ℕ} → Reached page qs c → c < n
    reached_real {c} (queried m) = asked c m
    reached_real {c} (named {a = a} r e) = inside a c e

    pub reached_complete : {c : ℕ} → Reached page qs c → reached page qs c ≡ true
    unfolding closure
    reached_complete {c} (queried m) = later n c (asked c m) m
    reached_complete {c} (named {a = a} r e) = reached_closed a c (reached_real r) (inside a c e) (reached_complete r) e

    -- with a query there are at most R passes
    pub passes_few : 1 ≤ length qs → pass_count page qs ≤ count_r page (closure page qs)
    unfolding count_r closure more
    passes_few l =
        let f = pass_count_is in
        let k = pass_count page qs in
        let q = first_asked qs l in
        let some : 1 ≤ size 0 = omega (arith, ap bit (at_first q.0 (asked q.0 q.1) ∙ q.1), sum_entry n (λ c. bit (member (at 0) c)) q.0 (asked q.0 q.1)) in
        let g = grown (k - 1) (λ i m. f.before i (omega arith)) in
        let e : k - 1 + (n - (k - 1)) ≡ n = omega (arith, f.some_pass, full (k - 1)) in
        omega (arith, f.some_pass, no_fewer (k - 1) (n - (k - 1)), ap size e)

    -- the computed closure is exactly what is reached
    pub closure_is : (c : ℕ) → (reached page qs c ≡ true) ↔ Reached page qs c
    closure_is c = (λ e. reached_sound c (inside_closure c e) e, reached_complete)

  -- the bound is that of chaotic iteration
  pub bound_is : bound page (closure page qs) ≡ budget n page.top (names page) (reached page qs)
  unfolding bound count_r count_e
  bound_is =
      let e : count_e page (closure page qs) ≡ edges n (names page) (reached page qs)
      = sum_eq n _ _ (λ a l. sum_eq n _ _ (λ b m. ap bit (go a b l m (reached page qs a) refl (names page a b) refl))) ∙ sym (edges_pairs n (names page) (reached page qs)) in
      omega (arith, e, mul_comm page.top (count_e page (closure page qs)), ap (λ (x : ℕ). x * page.top) e)
    where
      go : (a b : ℕ) → a < n → b < n → (s : Bool) → reached page qs a ≡ s → (t : Bool) → names page a b ≡ t → (s && (reached page qs b && t)) ≡ (s && t)
      go a b l m true p true q = rw (reached_closed a b l m p q)
      go a b l m true p false q = go2 (reached page qs b)
        where
          go2 : (r : Bool) → (r && false) ≡ false
          go2 true = refl
          go2 false = refl
      go a b l m false p t q = refl
