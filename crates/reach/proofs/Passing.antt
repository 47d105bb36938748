-- The passes of an opening: each follows what the one before it added, with one scan for each condition. Assumes nothing.
use mathlib.Core.Path.{◌≡◌, refl, sym, ◌∙◌, ap}
use mathlib.Core.Logic.{◌≢◌, inl, inr}
use mathlib.Core.Bool.{Bool, true, false, cond, not, ◌&&◌, ◌||◌, or-true, or-false, and-true, and-false, and-not_self, true≢false, false≢true}
use mathlib.Core.List.{List}
use Prim.Native.Nat.{ℕ, zero, suc, ◌+◌, ◌-◌, ◌*◌, ◌≤◌, ◌<◌}
use native.Mathlib.Decide.{dec_le, ℕ_discrete}
use native.Mathlib.Omega.{arith}
use lib.Dec.{eqb}
use lib.ListN.{get_or-eq_default}
use borrow.Author.Tests.{eq-eqb, ne_eqb}
use Rattle.fixpoint.specs.Sum.{sum, bit, count}
use Rattle.fixpoint.proofs.Sum.{sum_eq, sum_add, sum_zero}
use Rattle.semantics.specs.Area.{all_under}
use Rattle.semantics.specs.Page.{Page, names}
use Rattle.semantics.specs.Reading.{adds, passes, closure}
use Rattle.semantics.specs.Table.{member, listed, any_below}
use Rattle.semantics.proofs.Closure.{at, at_first, at_next, at_length, adds_still, adding_few, found_all}
use Rattle.semantics.proofs.Proper.{Proper}
use Rattle.semantics.proofs.Readings.{names_inside}
use Rattle.semantics.proofs.Soundness.{both_true}
use Rattle.semantics.proofs.Table.{or_cases, iff_eq, any_true, any_found}
use Rattle.bits.specs.Sets.{Nobody}
use Rattle.bits.specs.Words.{has, Removed}
use Rattle.reach.specs.Sets.{Joins, Inside, Followed, named_by, Passed, FoundIn, Counted}
use Rattle.reach.proofs.Closing.{queries_in, asked_in}
use Rattle.reach.proofs.Counting.{set_few}
use Rattle.reach.proofs.Inserting.{sum_grown, size_most}

-- one more is followed
any_more : (n c : ℕ) (p p' q : ℕ → Bool) → c < n → p c ≡ false → p' c ≡ true → ((k : ℕ) → k < n → k ≢ c → p' k ≡ p k)
    → any_below n (λ a. p' a && q a) ≡ (q c || any_below n (λ a. p a && q a))
any_more n c p p' q l no-c yes-c other = iff_eq _ _ there back
  where
    there : any_below n (λ a. p' a && q a) ≡ true → (q c || any_below n (λ a. p a && q a)) ≡ true
    there e =
        let f = any_found n (λ a. p' a && q a) e in
        let b = both_true (p' f.0) (q f.0) f.2 in
        elim (ℕ_discrete f.0 c) [
          | yes i ↦ rw (ap q (sym i) ∙ b.1)
          | no i ↦ rw (any_true n (λ a. p a && q a) f.0 f.1 (rw (sym (other f.0 f.1 i) ∙ b.0, b.1)), or-true)
        ]

    back : (q c || any_below n (λ a. p a && q a)) ≡ true → any_below n (λ a. p' a && q a) ≡ true
    back e =
        elim (or_cases (q c) (any_below n (λ a. p a && q a)) e) [
          | inl h ↦ any_true n (λ a. p' a && q a) c l (rw (yes-c, h))
          | inr h ↦
              let f = any_found n (λ a. p a && q a) h in
              let b = both_true (p f.0) (q f.0) f.2 in
              any_true n (λ a. p' a && q a) f.0 f.1 (rw (other f.0 f.1 (λ i. true≢false (sym b.0 ∙ ap p i ∙ no-c)) ∙ b.0, b.1))
        ]

-- what is not empty has some
pub some_has : (n : ℕ) (p : ℕ → Bool) → (((c : ℕ) → c < n → p c ≡ false) → ⊥) → (c : ℕ) × (c < n) × (p c ≡ true)
some_has zero p h = absurd (h (λ c l. absurd (omega arith)))
some_has (suc n) p h = go (p n) refl (some_has n p)
  where
    go : (t : Bool) → p n ≡ t → ((((c : ℕ) → c < n → p c ≡ false) → ⊥) → (c : ℕ) × (c < n) × (p c ≡ true)) → (c : ℕ) × (c < suc n) × (p c ≡ true)
    go true e below = (n, omega arith, e)
    go false e below =
        let r = below (λ f. h (λ c l. elim (ℕ_discrete c n) [ yes q ↦ ap p q ∙ e | no q ↦ f c (omega arith) ])) in
        (r.0, omega arith, r.2)

any_none : (n : ℕ) (p : ℕ → Bool) → ((x : ℕ) → p x ≡ false) → any_below n p ≡ false
any_none n p h = iff_eq _ _ (λ e. let f = any_found n p e in absurd (true≢false (sym f.2 ∙ h f.0))) (λ e. absurd (false≢true e))

-- with f, n and m for whether a condition was found before the pass, is named by one that was followed, and by the next one
found_more : (f n m : Bool) → ((f || n) || m) ≡ (f || (m || n))
found_more true n m = refl
found_more false true true = refl
found_more false true false = refl
found_more false false m = sym (or-false m)

new_more : (f n m : Bool) → ((n && not f) || (m && not (f || n))) ≡ ((m || n) && not f)
new_more true n m = rw (and-false n, and-false m, and-false (m || n))
new_more false true true = refl
new_more false true false = refl
new_more false false true = refl
new_more false false false = refl

-- a condition is done if it was fresh and is so no longer
abbrev done : List ℕ → List ℕ → ℕ → Bool
done fresh rest c = has fresh c && not (has rest c)

-- the loop of a pass: r conditions are done, which name e
module _ (page : Page) (fresh found₀ : List ℕ) where
  abbrev degree : ℕ → ℕ
  degree c = count page.conditions (names page c)

  -- what those name that are done
  abbrev reaching : List ℕ → ℕ → Bool
  reaching rest b = any_below page.conditions (λ a. done fresh rest a && names page a b)

  pub record Following (rest found new : List ℕ) (r e : ℕ) : Type 0 where
    pub most : page.conditions ≤ 512
    pub inside : (c : ℕ) → c < 512 → has rest c ≡ true → has fresh c ≡ true
    pub found_is : (c : ℕ) → c < 512 → has found c ≡ (has found₀ c || reaching rest c)
    pub new_is : (c : ℕ) → c < 512 → has new c ≡ (reaching rest c && not (has found₀ c))
    pub reached_is : r ≡ count page.conditions (done fresh rest)
    pub edges_is : e ≡ sum page.conditions (λ c. cond (done fresh rest c) (degree c) 0)

  pub following_first : {blank : List ℕ} → page.conditions ≤ 512 → Nobody blank → Following fresh found₀ blank 0 0
  following_first {blank} few z =
      record {
        most = few;
        inside = λ c l e. e;
        found_is = λ c l. rw (nobody c, or-false (has found₀ c));
        new_is = λ c l. rw (z c l, nobody c);
        reached_is = sym (sum_eq page.conditions _ (λ c. 0) (λ c l. ap bit (and-not_self (has fresh c))) ∙ sum_zero page.conditions);
        edges_is = sym (sum_eq page.conditions _ (λ c. 0) (λ c l. ap (λ (t : Bool). cond t (degree c) 0) (and-not_self (has fresh c))) ∙ sum_zero page.conditions);
      }
    where
      nobody : (b : ℕ) → reaching fresh b ≡ false
      nobody b = any_none page.conditions _ (λ x. rw (and-not_self (has fresh x)))

  module _ {rest found new : List ℕ} {r e : ℕ} (f : Following rest found new r e) where
    pub following_few : (r ≤ page.conditions) × (e ≤ 512 * 512)
    following_few = (omega (arith, f.reached_is, size_most page.conditions (done fresh rest)), omega (arith, f.edges_is, (set_few page (done fresh rest) f.most).1))

    -- one of the fresh ones is followed
    module _ (c d : ℕ) (rest' found' new' : List ℕ) (l : c < page.conditions) (h : has rest c ≡ true) (x : Removed c rest rest') (v : Followed page c found new found' new' d) where
      few : {k : ℕ} → k < page.conditions → k < 512
      few m = omega (arith, f.most)

      not_done : done fresh rest c ≡ false
      not_done = rw (h, and-false)

      now_done : done fresh rest' c ≡ true
      now_done = rw (x.1 c (few l), eq-eqb c c refl, f.inside c (few l) h, and-false (has rest c))

      as_before : (k : ℕ) → k < page.conditions → k ≢ c → done fresh rest' k ≡ done fresh rest k
      as_before k m i = rw (x.1 k (few m), ne_eqb k c i, and-true (has rest k))

      reaching_more : (b : ℕ) → reaching rest' b ≡ (names page c b || reaching rest b)
      reaching_more b = any_more page.conditions c (done fresh rest) (done fresh rest') (λ a. names page a b) l not_done now_done as_before

      pub following_next : Following rest' found' new' (r + 1) (e + d)
      following_next =
          record {
            most = f.most;
            inside = λ k m q. f.inside k m (both_true (has rest k) (not (eqb k c)) (sym (x.1 k m) ∙ q)).0;
            found_is = λ k m. rw (v.found_is k m, f.found_is k m, reaching_more k) (found_more (has found₀ k) (reaching rest k) (names page c k));
            new_is = λ k m. rw (v.new_is k m, f.new_is k m, f.found_is k m, reaching_more k) (new_more (has found₀ k) (reaching rest k) (names page c k));
            reached_is = omega (arith, f.reached_is, sum_grown page.conditions (λ k. bit (done fresh rest k)) (λ k. bit (done fresh rest' k)) c 1 l (rw (now_done, not_done)) (λ k m i. ap bit (as_before k m i)));
            edges_is = omega (
              arith,
              f.edges_is,
              sum_grown page.conditions (λ k. cond (done fresh rest k) (degree k) 0) (λ k. cond (done fresh rest' k) (degree k) 0) c d l
                  (rw (now_done, not_done) (omega (arith, v.edges_is))) (λ k m i. ap (λ (t : Bool). cond t (degree k) 0) (as_before k m i)),
            );
          }

    -- none is left
    module _ (none : (c : ℕ) → c < 512 → has rest c ≡ false) where
      all_done : (c : ℕ) → c < page.conditions → done fresh rest c ≡ has fresh c
      all_done c l = let m : c < 512 = omega (arith, f.most) in rw (none c m, and-true (has fresh c))

      all_reaching : (b : ℕ) → reaching rest b ≡ named_by page fresh b
      all_reaching b = iff_eq _ _ (λ q. moved (done fresh rest) (has fresh) (λ k m. all_done k m) q) (λ q. moved (has fresh) (done fresh rest) (λ k m. sym (all_done k m)) q)
        where
          moved : (p q : ℕ → Bool) → ((k : ℕ) → k < page.conditions → p k ≡ q k) → any_below page.conditions (λ a. p a && names page a b) ≡ true → any_below page.conditions (λ a. q a && names page a b) ≡ true
          moved p q same i =
              let g = any_found page.conditions (λ a. p a && names page a b) i in
              any_true page.conditions (λ a. q a && names page a b) g.0 g.1 (ap (λ (t : Bool). t && names page g.0 b) (sym (same g.0 g.1)) ∙ g.2)

      pub following_last : Passed page fresh found₀ found new × Counted page fresh r e
      following_last = (
        record {
          found_is = λ c l. f.found_is c l ∙ ap (λ (t : Bool). has found₀ c || t) (all_reaching c);
          fresh_is = λ c l. f.new_is c l ∙ ap (λ (t : Bool). t && not (has found₀ c)) (all_reaching c);
        },
        record {
          reached_is = f.reached_is ∙ sum_eq page.conditions _ _ (λ c l. ap bit (all_done c l));
          edges_is = f.edges_is ∙ sum_eq page.conditions _ _ (λ c l. ap (λ (t : Bool). cond t (degree c) 0) (all_done c l));
        },
      )

-- of those with p, those with q and the others
sum_split : (n : ℕ) (h : ℕ → Bool → ℕ) (p q s : ℕ → Bool) → ((c : ℕ) → h c false ≡ 0) → ((c : ℕ) → c < n → s c ≡ (p c && not (q c))) → ((c : ℕ) → c < n → q c ≡ true → p c ≡ true)
    → sum n (λ c. h c (p c)) ≡ sum n (λ c. h c (q c)) + sum n (λ c. h c (s c))
sum_split n h p q s zeros is sub = sum_eq n _ _ (λ c l. rw (is c l) (go c (p c) (q c) (sub c l))) ∙ sum_add n (λ c. h c (q c)) (λ c. h c (s c))
  where
    go : (c : ℕ) (x y : Bool) → (y ≡ true → x ≡ true) → h c x ≡ h c y + h c (x && not y)
    go c true true k = omega (arith, zeros c)
    go c true false k = omega (arith, zeros c)
    go c false true k = absurd (false≢true (k refl))
    go c false false k = omega (arith, zeros c)

-- what is found after k passes, and what the last of them added
module _ (page : Page) (qs : List ℕ) where
  abbrev n : ℕ
  n = page.conditions

  -- what was found before pass k
  abbrev earlier : ℕ → ℕ → Bool
  earlier zero c = false
  earlier (suc k) c = member (at page qs k) c

  -- r and e are R and E of those that were followed
  pub record Finding (found fresh : List ℕ) (k r e : ℕ) : Type 0 where
    pub proper : Proper page
    pub found_is : (c : ℕ) → c < 512 → has found c ≡ member (at page qs k) c
    pub fresh_is : (c : ℕ) → c < 512 → has fresh c ≡ (member (at page qs k) c && not (earlier k c))
    pub adding : (i : ℕ) → i < k → adds page (at page qs i) ≡ true
    pub reached_is : r ≡ count n (earlier k)
    pub edges_is : e ≡ sum n (λ c. cond (earlier k c) (count n (names page c)) 0)

  -- past C nothing is found
  beyond : (k c : ℕ) → n ≤ c → member (at page qs k) c ≡ false
  beyond k c l = get_or-eq_default (at page qs k) false (omega (arith, at_length page qs k))

  pub finding_first : Proper page → all_under page.conditions qs ≡ true → (blank found : List ℕ) → ((c : ℕ) → has blank c ≡ false) → Joins (λ c. listed c qs) (has blank) (has found) → Finding found found 0 0 0
  finding_first w asked blank found z h =
      record {
        proper = w;
        found_is = is;
        fresh_is = λ c l. is c l ∙ sym (and-true (member (at page qs 0) c));
        adding = λ i l. absurd (omega arith);
        reached_is = sym (sum_zero n);
        edges_is = sym (sum_zero n);
      }
    where
      is : (c : ℕ) → c < 512 → has found c ≡ member (at page qs 0) c
      is c l =
          elim (dec_le n c) [
            | yes m ↦ queries_in page qs w asked blank found z h c l ∙ none c m (listed c qs) refl ∙ sym (beyond 0 c m)
            | no m ↦ queries_in page qs w asked blank found z h c l ∙ sym (at_first page qs c (omega arith))
          ]
        where
          none : (c : ℕ) → n ≤ c → (t : Bool) → listed c qs ≡ t → t ≡ false
          none c m true e = absurd (omega (arith, asked_in n qs asked c e))
          none c m false e = refl

  module _ {found fresh found' fresh' : List ℕ} {k r e r' e' : ℕ} (f : Finding found fresh k r e) (p : Passed page fresh found found' fresh') (h : Counted page fresh r' e') where
    small : {c : ℕ} → c < n → c < 512
    small l = omega (arith, f.proper.conditions_most)

    -- what was found before pass k named only what is found now
    followed : (k : ℕ) (a b : ℕ) → a < n → b < n → earlier k a ≡ true → names page a b ≡ true → member (at page qs k) b ≡ true
    followed zero a b l m e q = absurd (false≢true e)
    followed (suc k) a b l m e q = at_next page qs k b m ∙ rw (any_true n (λ a. member (at page qs k) a && names page a b) a l (rw (e, q)), or-true)

    -- so the fresh ones alone tell what the next pass adds
    grows_by : (b : ℕ) → b < n → (member (at page qs k) b || named_by page fresh b) ≡ member (at page qs (suc k)) b
    grows_by b m = iff_eq _ _ there back
      where
        there : (member (at page qs k) b || named_by page fresh b) ≡ true → member (at page qs (suc k)) b ≡ true
        there e =
            elim (or_cases (member (at page qs k) b) (named_by page fresh b) e) [
              | inl h ↦ at_next page qs k b m ∙ rw h
              | inr h ↦
                  let g = any_found n (λ a. has fresh a && names page a b) h in
                  let i = both_true (has fresh g.0) (names page g.0 b) g.2 in
                  let j = both_true (member (at page qs k) g.0) (not (earlier k g.0)) (sym (f.fresh_is g.0 (small g.1)) ∙ i.0) in
                  at_next page qs k b m ∙ rw (any_true n (λ a. member (at page qs k) a && names page a b) g.0 g.1 (rw (j.0, i.1)), or-true)
            ]

        back : member (at page qs (suc k)) b ≡ true → (member (at page qs k) b || named_by page fresh b) ≡ true
        back e =
            elim (or_cases (member (at page qs k) b) (any_below n (λ a. member (at page qs k) a && names page a b)) (sym (at_next page qs k b m) ∙ e)) [
              | inl h ↦ rw h
              | inr h ↦
                  let g = any_found n (λ a. member (at page qs k) a && names page a b) h in
                  let i = both_true (member (at page qs k) g.0) (names page g.0 b) g.2 in
                  go g.0 g.1 i.0 i.1 (earlier k g.0) refl
            ]
          where
            go : (a : ℕ) → a < n → member (at page qs k) a ≡ true → names page a b ≡ true → (t : Bool) → earlier k a ≡ t → (member (at page qs k) b || named_by page fresh b) ≡ true
            go a l h q true e = rw (followed k a b l m e q)
            go a l h q false e = rw (any_true n (λ a. has fresh a && names page a b) a l (rw (f.fresh_is a (small l), h, e, q)), or-true)

    -- nobody past C is named
    none_named : (b : ℕ) → n ≤ b → named_by page fresh b ≡ false
    none_named b l = any_none n _ (λ x. go x (names page x b) refl)
      where
        go : (x : ℕ) (t : Bool) → names page x b ≡ t → (has fresh x && t) ≡ false
        go x true e = absurd (omega (arith, names_inside page f.proper x b e))
        go x false e = and-false (has fresh x)

    found_next : (c : ℕ) → c < 512 → has found' c ≡ member (at page qs (suc k)) c
    found_next c l =
        elim (dec_le n c) [
          | yes m ↦ p.found_is c l ∙ rw (f.found_is c l, beyond k c m, none_named c m) (sym (beyond (suc k) c m))
          | no m ↦ p.found_is c l ∙ ap (λ (t : Bool). t || named_by page fresh c) (f.found_is c l) ∙ grows_by c (omega arith)
        ]

    fresh_next : (c : ℕ) → c < 512 → has fresh' c ≡ (member (at page qs (suc k)) c && not (member (at page qs k) c))
    fresh_next c l =
        p.fresh_is c l ∙ ap (λ (t : Bool). named_by page fresh c && not t) (f.found_is c l)
        ∙ new_ones (member (at page qs k) c) (named_by page fresh c)
        ∙ ap (λ (t : Bool). t && not (member (at page qs k) c)) (sym (p.found_is c l ∙ ap (λ (t : Bool). t || named_by page fresh c) (f.found_is c l)) ∙ found_next c l)
      where
        new_ones : (s t : Bool) → (t && not s) ≡ ((s || t) && not s)
        new_ones true true = refl
        new_ones true false = refl
        new_ones false t = refl

    -- whether the pass adds some
    adds_next : (c : ℕ) → c < 512 → has fresh' c ≡ true → adds page (at page qs k) ≡ true
    unfolding adds passes
    adds_next c l e =
        let h = sym (fresh_next c l) ∙ e in
        any_true n (λ b. member (at page qs (suc k)) b && not (member (at page qs k) b)) c (real c h) h
      where
        real : (c : ℕ) → (member (at page qs (suc k)) c && not (member (at page qs k) c)) ≡ true → c < n
        real c h =
            elim (dec_le n c) [
              | yes m ↦ absurd (false≢true (sym (beyond (suc k) c m) ∙ (both_true (member (at page qs (suc k)) c) (not (member (at page qs k) c)) h).0))
              | no m ↦ omega arith
            ]

    -- who was followed earlier is found
    earlier_found : (k c : ℕ) → c < n → earlier k c ≡ true → member (at page qs k) c ≡ true
    earlier_found zero c l q = absurd (false≢true q)
    earlier_found (suc k) c l q = at_next page qs k c l ∙ rw q

    -- this pass followed the others of those found before it
    reached_now : r + r' ≡ count n (member (at page qs k))
    reached_now = omega (arith, f.reached_is, h.reached_is, sum_split n (λ c t. bit t) (member (at page qs k)) (earlier k) (has fresh) (λ c. refl) (λ c l. f.fresh_is c (small l)) (earlier_found k))

    edges_now : e + e' ≡ sum n (λ c. cond (member (at page qs k) c) (count n (names page c)) 0)
    edges_now = omega (arith, f.edges_is, h.edges_is, sum_split n (λ c t. cond t (count n (names page c)) 0) (member (at page qs k)) (earlier k) (has fresh) (λ c. refl) (λ c l. f.fresh_is c (small l)) (earlier_found k))

    -- it does if the set of those that it added tests as not empty
    pub finding_next : {t : Bool} → (Nobody fresh' → t ≡ true) → t ≡ false → Finding found' fresh' (k + 1) (r + r') (e + e')
    finding_next i z =
        let m = some_has 512 (has fresh') (λ x. true≢false (sym (i x) ∙ z)) in
        let s : k + 1 ≡ suc k = omega arith in
        rw s
        (record {
          proper = f.proper;
          found_is = found_next;
          fresh_is = fresh_next;
          adding = λ i l. elim (dec_le k i) [ yes j ↦ ap (λ (j : ℕ). adds page (at page qs j)) (omega arith) ∙ adds_next m.0 m.1 m.2 | no j ↦ f.adding i (omega arith) ];
          reached_is = reached_now;
          edges_is = edges_now;
        })

    pub finding_last : ((c : ℕ) → c < 512 → has fresh' c ≡ false) → FoundIn page qs found' (k + 1) × Counted page found' (r + r') (e + e')
    finding_last none =
        let s : k + 1 - 1 ≡ k = omega arith in (
          record {
            set = record { same = λ c l. found_next c l ∙ ap (λ (m : List Bool). member m c) settled };
            counted = record { some_pass = omega arith; last = ap (λ (j : ℕ). adds page (at page qs j)) s ∙ no_more; before = λ i l. f.adding i (omega arith) };
          },
          record {
            reached_is = reached_now ∙ sum_eq n _ _ (λ c l. ap bit (sym (same c l)));
            edges_is = edges_now ∙ sum_eq n _ _ (λ c l. ap (λ (t : Bool). cond t (count n (names page c)) 0) (sym (same c l)));
          },
        )
      where
        no_more : adds page (at page qs k) ≡ false
        no_more = unfold adds passes in iff_eq _ _ (λ e. let g = any_found n (λ b. member (at page qs (suc k)) b && not (member (at page qs k) b)) e in absurd (true≢false (sym (fresh_next g.0 (small g.1) ∙ g.2) ∙ none g.0 (small g.1)))) (λ e. absurd (false≢true e))

        -- nothing was added
        same : (c : ℕ) → c < n → has found' c ≡ member (at page qs k) c
        same c l = found_next c (small l) ∙ go (member (at page qs (suc k)) c) (member (at page qs k) c) (sym (fresh_next c (small l)) ∙ none c (small l)) (earlier_found (suc k) c l)
          where
            go : (x y : Bool) → (x && not y) ≡ false → (y ≡ true → x ≡ true) → x ≡ y
            go true true q i = refl
            go true false q i = absurd (true≢false q)
            go false true q i = i refl
            go false false q i = refl

        settled : at page qs (suc k) ≡ closure page qs
        settled = found_all page qs (suc k) (adds_still page qs k no_more)

  module _ {found fresh : List ℕ} {k r e : ℕ} (f : Finding found fresh k r e) where
    pub finding_few : k ≤ n
    finding_few = adding_few page qs k f.adding

    pub finding_counts : (r ≤ 512) × (e ≤ 512 * 512)
    finding_counts = let g = set_few page (earlier k) f.proper.conditions_most in (omega (arith, f.reached_is, g.0), omega (arith, f.edges_is, g.1))

    -- the fresh ones are conditions
    pub fresh_inside : Inside n fresh
    fresh_inside c l q = real c (both_true (member (at page qs k) c) (not (earlier k c)) (sym (f.fresh_is c l) ∙ q)).0
      where
        real : (c : ℕ) → member (at page qs k) c ≡ true → c < n
        real c q = elim (dec_le n c) [ yes m ↦ absurd (false≢true (sym (beyond k c m) ∙ q)) | no m ↦ omega arith ]
