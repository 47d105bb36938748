-- The high ends that a table of low ends stands for. Assumes nothing.
use mathlib.Core.Path.{◌≡◌, ◌∙◌, ap}
use mathlib.Core.List.{List}
use Prim.Native.Nat.{ℕ, ◌+◌, ◌*◌, ◌-◌, ◌/◌, ◌%◌, ◌≤◌, ◌<◌}
use native.Mathlib.Decide.{ℕ_discrete}
use native.Mathlib.Omega.{arith}
use lib.Bits.{xor_step, xor_zero_r, differ}
use lib.ListN.{length, get_or}
use Rattle.fixpoint.specs.Interval.{Within, Assign}
use Rattle.semantics.specs.Grade.{lower, upper}
use Rattle.semantics.proofs.Table.{length_from, get_d_table}
use Rattle.value.specs.Table.{EndTable}
use Rattle.value.proofs.Tables.{table_at_lem, table_of_lem, grades_of}
use Rattle.ends.specs.Mirror.{flip, mirrored, Mirrored}

-- the two codes of a condition
flip_is : (code : ℕ) → flip code ≡ (code / 2) * 2 + differ (code % 2) 1
unfolding flip
flip_is code = xor_step code 1 ∙ ap (λ (x : ℕ). x * 2 + differ (code % 2) 1) (xor_zero_r (code / 2))

pub flip_plain : (c : ℕ) → flip (2 * c) ≡ 2 * c + 1
flip_plain c =
    let h : (2 * c) / 2 ≡ c = omega arith in
    let r : (2 * c) % 2 ≡ 0 = omega arith in
    flip_is (2 * c) ∙ rw (h, r) (omega arith)

pub flip_negated : (c : ℕ) → flip (2 * c + 1) ≡ 2 * c
flip_negated c =
    let h : (2 * c + 1) / 2 ≡ c = omega arith in
    let r : (2 * c + 1) % 2 ≡ 1 = omega arith in
    flip_is (2 * c + 1) ∙ rw (h, r) (omega arith)

pub flip_below : (n code : ℕ) → code < 2 * n → flip code < 2 * n
flip_below n code l =
    elim (ℕ_discrete (code % 2) 0) [
      | yes z ↦ let q : code ≡ 2 * (code / 2) = omega arith in omega (arith, ap flip q, flip_plain (code / 2))
      | no z ↦ let q : code ≡ 2 * (code / 2) + 1 = omega arith in omega (arith, ap flip q, flip_negated (code / 2))
    ]

pub mirrored_length : (top : ℕ) (values : List ℕ) → length (mirrored top values) ≡ length values
unfolding mirrored
mirrored_length top values = length_from (length values) 0 (λ code. top - get_or values (flip code) 0)

pub mirrored_at : (top : ℕ) (values : List ℕ) (code : ℕ) → code < length values → get_or (mirrored top values) code 0 ≡ top - get_or values (flip code) 0
unfolding mirrored
mirrored_at top values code l = get_d_table (length values) (λ k. top - get_or values (flip k) 0) code 0 l

-- a table of the low ends of grades is one of the high ends
module _ (top n : ℕ) (I : Assign) (values : List ℕ) (long : 2 * n ≤ length values) (within : (c : ℕ) → c < n → Within top (I c)) (t : EndTable lower top n I values) where
  pub high_table : EndTable upper top n I (mirrored top values)
  high_table =
      table_of_lem upper top n I (mirrored top values)
      (λ c l.
      let s = table_at_lem lower top n I values t c l in
      record {
        plain = mirrored_at top values (2 * c) (omega arith) ∙ rw (flip_plain c) (omega (arith, s.negative, (within c l).high_in));
        negative = mirrored_at top values (2 * c + 1) (omega arith) ∙ rw (flip_negated c) (omega (arith, s.plain));
      })

  pub both_grades : Mirrored top n values
  both_grades =
      record {
        low = grades_of lower top n I values long (λ c l. (within c l).low_in) t;
        high = grades_of upper top n I (mirrored top values) (omega (arith, mirrored_length top values)) (λ c l. (within c l).high_in) high_table;
      }
