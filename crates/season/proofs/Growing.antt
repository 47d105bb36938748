-- Sums that grow by one answer at a time are those of the whole list. Assumes nothing.
use mathlib.Core.Path.{◌≡◌, refl, sym, ap, ◌∙◌}
use mathlib.Core.List.{List, [], ◌∷◌, ◌++◌}
use mathlib.Core.Option.{none}
use Prim.Native.Nat.{ℕ, ◌+◌, ◌/◌, ◌≤◌, ◌<◌, min, max}
use native.Mathlib.Omega.{arith}
use lib.ListN.{length, get_or, drop, length-drop, length-append}
use lib.IntN.{ℤ, pos, ◌-ℤ◌}
use Rattle.fixpoint.specs.Interval.{Interval}
use Rattle.semantics.specs.Season.{pairs_in, lows_of, highs_of, widths_of, total, lowest, highest, low_changes, larger, greatest_change, season_refusal}
use Rattle.semantics.proofs.Season.{larger_zero, GoodPairs, good_ends, Accepted, season_accepted}
use Rattle.season.specs.Sums.{sums_of, begun, grown, grown_by, Small}
use Rattle.season.specs.declared.Sums.{Sums}
use Rattle.season.proofs.Pairs.{pair_of, pairs_on, pairs_front, pairs_end}
use Rattle.season.proofs.Signs.{size_most, larger_most, larger_from_zero, larger_assoc}

-- the sums s and those of more answers, where the low end before them is x
abbrev with_more : Sums → ℕ → List Interval → Sums
with_more s x ps =
    record {
      lows = s.lows + total (lows_of ps);
      widths = s.widths + total (widths_of ps);
      smallest = lowest (s.smallest ∷ lows_of ps);
      largest = highest (s.largest ∷ highs_of ps);
      change = larger s.change (greatest_change (low_changes (x ∷ lows_of ps)));
    }

lowest_two : (x y : ℕ) (ys : List ℕ) → lowest (min x y ∷ ys) ≡ lowest (x ∷ y ∷ ys)
unfolding lowest
lowest_two x y [] = refl
lowest_two x y (z ∷ ys) = omega arith

highest_two : (x y : ℕ) (ys : List ℕ) → highest (max x y ∷ ys) ≡ highest (x ∷ y ∷ ys)
unfolding highest
highest_two x y ys = omega arith

same : {l w s g l' w' s' g' : ℕ} {z z' : ℤ} → l ≡ l' → w ≡ w' → s ≡ s' → g ≡ g' → z ≡ z'
    → ◌≡◌ {A = Sums} (record { lows = l; widths = w; smallest = s; largest = g; change = z }) (record { lows = l'; widths = w'; smallest = s'; largest = g'; change = z' })
same e f g h i = rw (e, f, g, h, i)

grown_more : (s : Sums) (x : ℕ) (ps : List Interval) → grown_by s x ps ≡ with_more s x ps
unfolding grown_by total greatest_change low_changes lowest highest
grown_more s x [] = same (omega arith) (omega arith) refl (omega arith) (sym (larger_zero s.change))
grown_more s x (p ∷ ps) =
    grown_more (grown s x p) p.low ps
    ∙ same (omega arith) (omega arith) (lowest_two s.smallest p.low (lows_of ps)) (highest_two s.largest p.high (highs_of ps))
    (sym (larger_assoc s.change (pos p.low -ℤ pos x) (greatest_change (low_changes (p.low ∷ lows_of ps)))))

grown_all : (p : Interval) (ps : List Interval) → grown_by (begun p) p.low ps ≡ sums_of (p ∷ ps)
unfolding total
grown_all p ps = grown_more (begun p) p.low ps ∙ same refl refl refl refl (larger_from_zero (greatest_change (low_changes (p.low ∷ lows_of ps))))

grown_small : (n : ℕ) (s : Sums) (x : ℕ) (p : Interval) → Small n s → x ≤ 200 → p.low ≤ p.high → p.high ≤ 200 → Small (n + 1) (grown s x p)
grown_small n s x p w h l u =
    record {
      lows_most = omega (arith, w.lows_most);
      widths_most = omega (arith, w.widths_most);
      change_most = larger_most s.change (pos p.low -ℤ pos x) 200 w.change_most (size_most x p.low 200 h (omega arith));
    }

begun_small : (p : Interval) → p.low ≤ p.high → p.high ≤ 200 → Small 1 (begun p)
begun_small p l u = record { lows_most = omega arith; widths_most = omega arith; change_most = omega arith }

small_more : (n m : ℕ) (s : Sums) → n ≤ m → Small n s → Small m s
small_more n m s h w = record { lows_most = omega (arith, w.lows_most); widths_most = omega (arith, w.widths_most); change_most = w.change_most }

-- The answers that the numbers `rest` hold are still to come. They are good, and with them the sums are those of all answers.
pub record Summing (all : List Interval) (rest : List ℕ) (before : ℕ) (t : Sums) : Type 0 where
  pub count : ℕ
  pub small : Small count t
  pub few : count + length rest / 2 ≤ 4096
  pub grade : before ≤ 200
  pub good : GoodPairs (pairs_in rest)
  pub sums : sums_of all ≡ grown_by t before (pairs_in rest)

-- a list that is not refused has an answer
pub some_answer : (s : List ℕ) → season_refusal s ≡ none → 2 ≤ length s
some_answer s e = omega (arith, (season_accepted s e).least)

module _ (s : List ℕ) (a : Accepted s) where
  pub first_good : (pair_of s).low ≤ (pair_of s).high × (pair_of s).high ≤ 200
  first_good = good_ends (pair_of s) (rw (pairs_front s (omega (arith, a.least))) at a.good).0

  pub summing_first : Summing (pairs_in s) (drop 2 s) (get_or s 0 0) (begun (pair_of s))
  summing_first =
      let e = pairs_front s (omega (arith, a.least)) in
      record {
        count = 1;
        small = begun_small (pair_of s) first_good.0 first_good.1;
        few = omega (arith, a.least, a.most, length-drop 2 s);
        grade = omega (arith, first_good.0, first_good.1);
        good = (rw e at a.good).1;
        sums = ap sums_of e ∙ sym (grown_all (pair_of s) (pairs_in (drop 2 s)));
      }

module _ {all : List Interval} {rest : List ℕ} {before : ℕ} {t : Sums} (w : Summing all rest before t) where
  module _ (part rest' : List ℕ) (e : rest ≡ part ++ rest') (f : length part ≡ 2) where
    next_good : GoodPairs (pair_of part ∷ pairs_in rest')
    next_good = rw (pairs_on rest part rest' e f) at w.good

    next_few : w.count + 1 + length rest' / 2 ≤ 4096
    next_few = omega (arith, w.few, f, ap length e, length-append part rest')

    pub summing_fits : Small 4095 t × (before ≤ 200) × ((pair_of part).low ≤ (pair_of part).high) × ((pair_of part).high ≤ 200)
    summing_fits = let g = good_ends (pair_of part) next_good.0 in (small_more w.count 4095 t (omega (arith, next_few)) w.small, w.grade, g.0, g.1)

    pub summing_next : Summing all rest' (get_or part 0 0) (grown t before (pair_of part))
    unfolding grown_by
    summing_next =
        let g = good_ends (pair_of part) next_good.0 in
        record {
          count = w.count + 1;
          small = grown_small w.count t before (pair_of part) w.small w.grade g.0 g.1;
          few = next_few;
          grade = omega (arith, g.0, g.1);
          good = next_good.1;
          sums = w.sums ∙ rw (pairs_on rest part rest' e f);
        }

  pub summing_last : length rest < 2 → (t ≡ sums_of all) × Small 4096 t
  unfolding grown_by
  summing_last h = (sym (w.sums ∙ rw (pairs_end rest h)), small_more w.count 4096 t (omega (arith, w.few)) w.small)
