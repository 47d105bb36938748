-- Ticket 14: each of a season's figures is what the paper calls it; the first bad pair is told. Assumes nothing.
use mathlib.Core.Path.{◌≡◌, refl, sym, ap, ◌∙◌}
use mathlib.Core.Bool.{Bool, true, false, not, cond, ◌||◌, false≢true}
use mathlib.Core.List.{List, [], ◌∷◌, map}
use mathlib.Core.Option.{none, some}
use Prim.Native.Nat.{ℕ, zero, suc, ◌+◌, ◌*◌, ◌/◌, ◌%◌, ◌≤◌, ◌<◌, min, max}
use native.Mathlib.Nat.{div-add-mod', mod-lt}
use native.Mathlib.Omega.{arith}
use lib.Dec.{eqb, ltb}
use lib.IntN.{ℤ, pos, nat_abs}
use lib.ListN.{length, get_or}
use borrow.Author.Tests.{ltb-true, ltb-false, le-ltb, eqb-true}
use Rattle.fixpoint.specs.Interval.{Interval}
use Rattle.semantics.specs.Call.{cause, first_of}
use Rattle.semantics.specs.ReadPage.{Fault, placed, or_else, outside, leftmost}
use Rattle.semantics.specs.Season.{pairs_in, lows_of, total, lowest, highest, larger, greatest_change, figures_of, list_causes, bad_pair, pair_causes, season_refusal}
use Rattle.semantics.proofs.FieldRanges.{some_none, else_none, inside, not_outside, no_cause_placed}

pub pairs_length : (s : List ℕ) → length (pairs_in s) ≡ length s / 2
unfolding pairs_in
pairs_length [] = refl
pairs_length (l ∷ []) = refl
pairs_length (l ∷ h ∷ s) = ap suc (pairs_length s) ∙ omega arith

-- the smallest of some numbers is one of them and no more than any
pub record IsLowest (xs : List ℕ) (m : ℕ) : Type 0 where
  pub at : ℕ
  pub within : at < length xs
  pub is : get_or xs at 0 ≡ m
  pub least : (k : ℕ) → k < length xs → m ≤ get_or xs k 0

lowest_more : (x : ℕ) {xs : List ℕ} {m : ℕ} → IsLowest xs m → IsLowest (x ∷ xs) (min x m)
lowest_more x {xs} {m} w = go (ltb x m) refl
  where
    least : (k : ℕ) → k < length (x ∷ xs) → min x m ≤ get_or (x ∷ xs) k 0
    least zero h = omega arith
    least (suc k) h = omega (arith, w.least k (omega arith))

    go : (t : Bool) → ltb x m ≡ t → IsLowest (x ∷ xs) (min x m)
    go true e = record { at = 0; within = omega arith; is = omega (arith, ltb-true x m e); least = least }
    go false e = record { at = suc w.at; within = omega (arith, w.within); is = omega (arith, w.is, ltb-false x m e); least = least }

pub lowest_is : (x : ℕ) (xs : List ℕ) → IsLowest (x ∷ xs) (lowest (x ∷ xs))
unfolding lowest
lowest_is x [] = record { at = 0; within = omega arith; is = refl; least = least }
  where
    least : (k : ℕ) → k < 1 → x ≤ get_or (x ∷ []) k 0
    least zero h = omega arith
    least (suc k) h = absurd (omega arith)
lowest_is x (y ∷ xs) = lowest_more x (lowest_is y xs)

-- the largest of some numbers is one of them and no less than any
pub record IsHighest (xs : List ℕ) (m : ℕ) : Type 0 where
  pub at : ℕ
  pub within : at < length xs
  pub is : get_or xs at 0 ≡ m
  pub greatest : (k : ℕ) → k < length xs → get_or xs k 0 ≤ m

highest_more : (x : ℕ) {xs : List ℕ} {m : ℕ} → IsHighest xs m → IsHighest (x ∷ xs) (max x m)
highest_more x {xs} {m} w = go (ltb x m) refl
  where
    greatest : (k : ℕ) → k < length (x ∷ xs) → get_or (x ∷ xs) k 0 ≤ max x m
    greatest zero h = omega arith
    greatest (suc k) h = omega (arith, w.greatest k (omega arith))

    go : (t : Bool) → ltb x m ≡ t → IsHighest (x ∷ xs) (max x m)
    go true e = record { at = suc w.at; within = omega (arith, w.within); is = omega (arith, w.is, ltb-true x m e); greatest = greatest }
    go false e = record { at = 0; within = omega arith; is = omega (arith, ltb-false x m e); greatest = greatest }

pub highest_is : (x : ℕ) (xs : List ℕ) → IsHighest (x ∷ xs) (highest (x ∷ xs))
unfolding highest
highest_is x [] = record { at = 0; within = omega arith; is = omega arith; greatest = greatest }
  where
    greatest : (k : ℕ) → k < 1 → get_or (x ∷ []) k 0 ≤ max x 0
    greatest zero h = omega arith
    greatest (suc k) h = absurd (omega arith)
highest_is x (y ∷ xs) = highest_more x (highest_is y xs)

-- z is a change greatest in size, and every earlier one is smaller in size
pub record Earliest (zs : List ℤ) (z : ℤ) : Type 0 where
  pub at : ℕ
  pub within : at < length zs
  pub is : get_or zs at (pos 0) ≡ z
  pub before : (k : ℕ) → k < at → nat_abs (get_or zs k (pos 0)) < nat_abs z
  pub greatest : (k : ℕ) → k < length zs → nat_abs (get_or zs k (pos 0)) ≤ nat_abs z

pub larger_zero : (z : ℤ) → larger z (pos 0) ≡ z
larger_zero z = rw (le-ltb (nat_abs z) 0 (omega arith))

earliest_more : (z : ℤ) {zs : List ℤ} {g : ℤ} → Earliest zs g → Earliest (z ∷ zs) (larger z g)
earliest_more z {zs} {g} w = go (ltb (nat_abs z) (nat_abs g)) refl
  where
    go : (t : Bool) → ltb (nat_abs z) (nat_abs g) ≡ t → Earliest (z ∷ zs) (cond t g z)
    go true e = record { at = suc w.at; within = omega (arith, w.within); is = w.is; before = before; greatest = greatest }
      where
        before : (k : ℕ) → k < suc w.at → nat_abs (get_or (z ∷ zs) k (pos 0)) < nat_abs g
        before zero h = ltb-true (nat_abs z) (nat_abs g) e
        before (suc k) h = w.before k (omega arith)

        greatest : (k : ℕ) → k < length (z ∷ zs) → nat_abs (get_or (z ∷ zs) k (pos 0)) ≤ nat_abs g
        greatest zero h = omega (arith, ltb-true (nat_abs z) (nat_abs g) e)
        greatest (suc k) h = w.greatest k (omega arith)
    go false e = record { at = 0; within = omega arith; is = refl; before = λ k h. absurd (omega arith); greatest = greatest }
      where
        greatest : (k : ℕ) → k < length (z ∷ zs) → nat_abs (get_or (z ∷ zs) k (pos 0)) ≤ nat_abs z
        greatest zero h = omega arith
        greatest (suc k) h = omega (arith, w.greatest k (omega arith), ltb-false (nat_abs z) (nat_abs g) e)

pub greatest_earliest : (z : ℤ) (zs : List ℤ) → Earliest (z ∷ zs) (greatest_change (z ∷ zs))
unfolding greatest_change
greatest_earliest z [] = rw (larger_zero z) (record { at = 0; within = omega arith; is = refl; before = λ k h. absurd (omega arith); greatest = greatest })
  where
    greatest : (k : ℕ) → k < 1 → nat_abs (get_or (z ∷ []) k (pos 0)) ≤ nat_abs z
    greatest zero h = omega arith
    greatest (suc k) h = absurd (omega arith)
greatest_earliest z (y ∷ zs) = earliest_more z (greatest_earliest y zs)

-- there is one such change
pub earliest_one : {zs : List ℤ} {z y : ℤ} → Earliest zs z → Earliest zs y → z ≡ y
earliest_one {zs} {z} {y} a b = go (ltb a.at b.at) refl (ltb b.at a.at) refl
  where
    go : (t : Bool) → ltb a.at b.at ≡ t → (u : Bool) → ltb b.at a.at ≡ u → z ≡ y
    go true e u f = absurd (omega (arith, rw a.is at (b.before a.at (ltb-true a.at b.at e)), rw b.is at (a.greatest b.at b.within)))
    go false e true f = absurd (omega (arith, rw b.is at (a.before b.at (ltb-true b.at a.at f)), rw a.is at (b.greatest a.at a.within)))
    go false e false f =
        let q : a.at ≡ b.at = omega (arith, ltb-false a.at b.at e, ltb-false b.at a.at f) in
        sym a.is ∙ ap (λ (k : ℕ). get_or zs k (pos 0)) q ∙ b.is

-- the mean is the sum over the count: whole part and remainder
pub mean_is : (ps : List Interval) → 0 < length ps → ((figures_of ps).mean * (figures_of ps).count + (figures_of ps).remainder ≡ (figures_of ps).sum_low) × ((figures_of ps).remainder < (figures_of ps).count)
unfolding figures_of
mean_is ps h = (div-add-mod' (total (lows_of ps)) (length ps), mod-lt (total (lows_of ps)) h)

-- No pair is bad.
abbrev pub GoodPairs : List Interval → Type 0
GoodPairs [] = Unit {0}
GoodPairs (p ∷ ps) = (bad_pair p ≡ false) × GoodPairs ps

pub good_ends : (p : Interval) → bad_pair p ≡ false → (p.low ≤ p.high) × (p.high ≤ 200)
good_ends p e = go (ltb p.high p.low) refl e
  where
    go : (t : Bool) → ltb p.high p.low ≡ t → (t || ltb 200 p.high) ≡ false → (p.low ≤ p.high) × (p.high ≤ 200)
    go true f e = absurd (false≢true (sym e))
    go false f e = (ltb-false p.high p.low f, ltb-false 200 p.high e)

-- what a list is that is not refused, and only such a list
pub record Accepted (s : List ℕ) : Type 0 where
  pub even : length s % 2 ≡ 0
  pub least : 1 ≤ length s / 2
  pub most : length s / 2 ≤ 4096
  pub good : GoodPairs (pairs_in s)

no_bad : (k : ℕ) (ps : List Interval) → leftmost k (map pair_causes ps) ≡ none → GoodPairs ps
unfolding leftmost
no_bad k [] e = tt
no_bad k (p ∷ ps) e =
    let w = else_none (placed k (first_of (pair_causes p))) (leftmost (suc k) (map pair_causes ps)) e in
    ((no_cause_placed k (pair_causes p) w.0).0, no_bad (suc k) ps w.1)

-- n numbers that make m pairs
pub right_length : (n m : ℕ) → (not (eqb (n % 2) 0) || outside 1 4096 m) ≡ false → (n % 2 ≡ 0) × (1 ≤ m) × (m ≤ 4096)
right_length n m e = go (eqb (n % 2) 0) refl e
  where
    go : (t : Bool) → eqb (n % 2) 0 ≡ t → (not t || outside 1 4096 m) ≡ false → (n % 2 ≡ 0) × (1 ≤ m) × (m ≤ 4096)
    go true q e = let w = inside 1 4096 m e in (eqb-true (n % 2) 0 q, w.0, w.1)
    go false q e = absurd (false≢true (sym e))

pub season_accepted : (s : List ℕ) → season_refusal s ≡ none → Accepted s
unfolding season_refusal
season_accepted s e =
    let w = else_none (placed 0 (first_of (list_causes s))) (leftmost 1 (map pair_causes (pairs_in s))) e in
    let l = right_length (length s) (length (pairs_in s)) (no_cause_placed 0 (list_causes s) w.0).0 in
    record { even = l.0; least = omega (arith, l.1, pairs_length s); most = omega (arith, l.2, pairs_length s); good = no_bad 1 (pairs_in s) w.1 }

all_pass : (k : ℕ) (ps : List Interval) → GoodPairs ps → leftmost k (map pair_causes ps) ≡ none
unfolding leftmost
all_pass k [] g = refl
all_pass k (p ∷ ps) g = rw g.0 (all_pass (suc k) ps g.1)

pub accepted_season : (s : List ℕ) → Accepted s → season_refusal s ≡ none
unfolding season_refusal
accepted_season s a =
    rw (a.even, not_outside 1 4096 (length (pairs_in s)) (omega (arith, a.least, pairs_length s)) (omega (arith, a.most, pairs_length s)))
    (all_pass 1 (pairs_in s) a.good)

-- "the place of the first such pair": of the pairs from place k on
pub record FirstBad (k : ℕ) (ps : List Interval) (f : Fault) : Type 0 where
  pub number_is : f.number ≡ 81
  pub at : ℕ
  pub place_is : f.place ≡ k + at
  pub within : at < length ps
  pub bad : bad_pair (get_or ps at (record { low = 0; high = 0 })) ≡ true
  pub before : (j : ℕ) → j < at → bad_pair (get_or ps j (record { low = 0; high = 0 })) ≡ false

pub told_first : (k : ℕ) (ps : List Interval) (f : Fault) → leftmost k (map pair_causes ps) ≡ some f → FirstBad k ps f
unfolding leftmost
told_first k [] f e = some_none (sym e)
told_first k (p ∷ ps) f e = go (bad_pair p) refl e (told_first (suc k) ps f)
  where
    go : (t : Bool) → bad_pair p ≡ t → or_else (placed k (first_of (cause t 81 ∷ []))) (leftmost (suc k) (map pair_causes ps)) ≡ some f
        → (leftmost (suc k) (map pair_causes ps) ≡ some f → FirstBad (suc k) ps f) → FirstBad k (p ∷ ps) f
    go true q e more =
        let z : record { number = 81; place = k } ≡ f = cc in
        record { number_is = ap (λ (g : Fault). g.number) (sym z); at = 0; place_is = omega (arith, ap (λ (g : Fault). g.place) z); within = omega arith; bad = q; before = λ j h. absurd (omega arith) }
    go false q e more =
        let w = more e in
        record { number_is = w.number_is; at = suc w.at; place_is = omega (arith, w.place_is); within = omega (arith, w.within); bad = w.bad; before = before w }
      where
        before : (w : FirstBad (suc k) ps f) (j : ℕ) → j < suc w.at → bad_pair (get_or (p ∷ ps) j (record { low = 0; high = 0 })) ≡ false
        before w zero h = q
        before w (suc j) h = w.before j (omega arith)
