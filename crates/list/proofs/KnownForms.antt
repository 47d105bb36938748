-- A line of a list that is known to have the form: what stands at its places. Assumes nothing.
use mathlib.Core.Path.{◌≡◌, sym, ◌∙◌}
use mathlib.Core.Bool.{true, false, false≢true}
use mathlib.Core.List.{List}
use Prim.Native.Nat.{ℕ, ◌+◌, ◌≤◌}
use native.Mathlib.Omega.{arith}
use native.Mathlib.Decide.{ℕ_discrete}
use lib.ListN.{length, get_or, drop}
use Rattle.semantics.specs.Text.{is_number}
use Rattle.semantics.specs.Trials.{is_trial}
use Rattle.fields.specs.Cursor.{InText, fields_at, field_at, NumberTo}
use Rattle.fields.proofs.Fields.{some_field}
use Rattle.fields.proofs.Letters.{LetterThen, plain}
use Rattle.fields.proofs.Tokens.{NumberThen, number_more, number_only}
use Rattle.reader.proofs.KnownForms.{neither, letter_unless}
use Rattle.list.specs.Lines.{FrontThen, Says}
use Rattle.list.proofs.Forms.{gone_letter, other_letter_lem, no_trial, no_condition, front_then, no_low, no_high, a_trial}

-- a number that is not the last field
more : (s : List ℕ) (at : ℕ) → InText s at → (length (fields_at (drop at s)) ≡ 1 → ⊥) → {v e : ℕ} → NumberTo s at v e → NumberThen s at v (e + 1)
more s at p m n = number_more s at p n (omega (arith, some_field (drop at s)))

module _ (s : List ℕ) (at : ℕ) (p : InText s at) (form : is_trial (fields_at (drop at s)) ≡ true) where
  never : is_trial (fields_at (drop at s)) ≡ false → ⊥
  never e = false≢true (sym e ∙ form)

  first_byte : get_or s at 10 ≡ 84
  first_byte = go (ℕ_discrete (get_or s at 10) 84)
    where
      go : Dec (get_or s at 10 ≡ 84) → get_or s at 10 ≡ 84
      go (yes e) = e
      go (no n) = absurd (never (other_letter_lem s at n))

  letter : LetterThen s at 84
  letter = letter_unless s at p first_byte (plain 84 (omega arith)) (λ z. never (gone_letter (fields_at (drop at s)) z))

  pub trial_place : InText s (at + 2)
  trial_place = letter.place

  pub trial_known : (is_number (field_at s (at + 2)) ≡ true) × (length (fields_at (drop (at + 2) s)) ≡ 1 → ⊥)
  trial_known = neither (no_trial s at letter) form

  module _ {v a : ℕ} (t : NumberTo s (at + 2) v a) where
    trial_then : NumberThen s (at + 2) v (a + 1)
    trial_then = more s (at + 2) trial_place trial_known.1 t

    pub condition_place : InText s (a + 1)
    condition_place = trial_then.place

    pub condition_known : (is_number (field_at s (a + 1)) ≡ true) × (length (fields_at (drop (a + 1) s)) ≡ 1 → ⊥)
    condition_known = neither (no_condition s at letter trial_then) form

    module _ {w b : ℕ} (c : NumberTo s (a + 1) w b) where
      front : FrontThen s at v w (b + 1)
      front = front_then s at letter trial_then (more s (a + 1) condition_place condition_known.1 c)

      pub low_place : InText s (b + 1)
      low_place = front.place

      pub low_known : (is_number (field_at s (b + 1)) ≡ true) × (length (fields_at (drop (b + 1) s)) ≡ 1 → ⊥)
      low_known = neither (no_low s at front) form

      module _ {x d : ℕ} (l : NumberTo s (b + 1) x d) where
        low_then : NumberThen s (b + 1) x (d + 1)
        low_then = more s (b + 1) low_place low_known.1 l

        pub high_place : InText s (d + 1)
        high_place = low_then.place

        pub high_known : (is_number (field_at s (d + 1)) ≡ true) × (2 ≤ length (fields_at (drop (d + 1) s)) → ⊥)
        high_known = neither (no_high s at front low_then) form

        pub says_known : {y e : ℕ} → NumberTo s (d + 1) y e → Says s at (record { trial = v; condition = w; low = x; high = y }) (e + 1)
        says_known {y} {e} h =
            let m : 2 ≤ length (fields_at (drop (d + 1) s)) → ⊥ = high_known.1 in
            a_trial s at front low_then p (number_only s (d + 1) h (omega (arith, some_field (drop (d + 1) s)))) (omega (arith, h.numbered.end))
