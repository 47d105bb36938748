-- A list as a whole: its ended lines, and the line that is not ended. Assumes nothing.
use mathlib.Core.Path.{◌≡◌, refl, sym, ◌∙◌, ap, subst}
use mathlib.Core.Logic.{◌≢◌}
use mathlib.Core.List.{List, [], ◌∷◌, ◌++◌}
use mathlib.Core.Option.{some}
use Prim.Native.Nat.{ℕ, zero, suc, ◌+◌, ◌-◌, ◌≤◌, ◌<◌}
use native.Mathlib.Omega.{arith}
use lib.ListN.{length, get_or, take, drop, length-drop, drop_of_length-le, take-append-drop}
use lib.Seq.{drop-cons, take_all, length-take-le, get_or-take}
use Rattle.std.specs.Prelude.{Some, None, MatchOption}
use Rattle.std.specs.Prelude as code
use Rattle.semantics.specs.Text.{text_lines}
use Rattle.semantics.specs.Trials.{bad_trial}
use Rattle.fields.specs.Cursor.{lines_after}
use Rattle.fields.proofs.Places.{byte_here}
use Rattle.reader.proofs.LinePlaces.{line_here, other_front}
use Rattle.list.specs.Lines.{line_at}
use Rattle.list.specs.Checks.{Ended, refusal, LinesGood, EndedPart, bad_in, Accepted}
use Rattle.list.proofs.EndedTexts.{lines_append}
use Rattle.list.proofs.Faults.{unended_line}

-- The last byte 10 of a list, and the bytes behind it.
module _ (s : List ℕ) where
  -- no byte from a place on is 10
  abbrev pub NoneFrom : ℕ → Type 0
  NoneFrom end = (k : ℕ) → end ≤ k → k < length s → get_or s k 0 ≢ 10

  behind_next : (end : ℕ) → end < length s → NoneFrom end → line_at s (end + 1) ≡ drop (end + 1) s → line_at s end ≡ drop end s
  behind_next end h a e =
      let k : suc end ≡ end + 1 = omega arith in
      let m : get_or s end 10 ≢ 10 = λ e. a end (omega arith) h (byte_here s end h ∙ e) in
      other_front s end m ∙ ap (λ (t : List ℕ). get_or s end 10 ∷ t) e ∙ sym (drop-cons s end 10 h ∙ ap (λ (i : ℕ). get_or s end 10 ∷ drop i s) k)

  -- they form one line, if there are any
  line_behind : (n end : ℕ) → n + end ≡ length s → NoneFrom end → line_at s end ≡ drop end s
  unfolding text_lines
  line_behind zero end e a = let h : length s ≤ end = omega arith in rw (drop_of_length-le s h)
  line_behind (suc n) end e a = behind_next end (omega arith) a (line_behind n (end + 1) (omega arith) (λ k l. a k (omega arith)))

  part_behind : (at : ℕ) → at < length s → get_or s at 0 ≡ 10 → NoneFrom (at + 1) → EndedPart s (at + 1)
  part_behind at h e a =
      let l : at + 1 ≤ length s = omega arith in
      let z : length (take (at + 1) s) - 1 ≡ at = omega (arith, length-take-le (at + 1) s l) in
      record {
        inside = l;
        ended = rw z (get_or-take (at + 1) s at 10 (omega arith) ∙ sym (byte_here s at h) ∙ e);
        line = line_behind (length s - (at + 1)) (at + 1) (omega arith) a;
      }

  part_none : NoneFrom 0 → EndedPart s 0
  part_none a = record { inside = omega arith; ended = refl; line = line_behind (length s) 0 (omega arith) a }

  -- what a search from the end finds, and the length that it comes to
  pub part_found : (r : code.Option ℕ) (end : ℕ) → MatchOption r (NoneFrom 0) (λ at. (at < length s) × (get_or s at 0 ≡ 10) × NoneFrom (at + 1)) → MatchOption r (end ≡ 0) (λ at. end ≡ at + 1) → EndedPart s end
  part_found None end a e = rw e (part_none a)
  part_found (Some at) end a e = rw e (part_behind at a.0 a.1 a.2)

-- The list by its ended part.
module _ (s : List ℕ) (top n : ℕ) {end : ℕ} (p : EndedPart s end) where
  part_size : length (take end s) ≡ end
  part_size = length-take-le end s p.inside

  part_lines : text_lines s ≡ text_lines (take end s) ++ text_lines (drop end s)
  part_lines = ap text_lines (sym (take-append-drop end s)) ∙ lines_append (take end s) (drop end s) p.ended

  pub part_refused : {number line : ℕ} → ((size : ℕ) (ls : List (List ℕ)) → length (take end s) ≤ size → bad_trial top n size 1 0 0 (text_lines (take end s) ++ ls) ≡ some (refusal number line))
      → bad_in s top n ≡ some (refusal number line)
  part_refused q =
      ap (bad_trial top n (length s) 1 0 0) part_lines
      ∙ q (length s) (text_lines (drop end s)) (omega (arith, part_size, p.inside))

  module _ {k : ℕ} (part_good : LinesGood (take end s) top n k) where
    rest_bad : bad_in s top n ≡ bad_trial top n (length s) (k + 1) (length (take end s)) part_good.before (text_lines (drop end s))
    rest_bad =
        ap (bad_trial top n (length s) 1 0 0) part_lines
        ∙ part_good.rest (length s) (text_lines (drop end s)) (omega (arith, part_size, p.inside))

    pub part_unended : end < length s → bad_in s top n ≡ some (refusal 40 (k + 1))
    part_unended h =
        rest_bad
        ∙ ap (bad_trial top n (length s) (k + 1) (length (take end s)) part_good.before) (line_here s end h)
        ∙ unended_line top n (length s) (k + 1) (length (take end s)) part_good.before (line_at s end) (lines_after (drop end s))
        (omega (arith, part_size, ap length p.line, length-drop end s))

    pub part_whole : length s ≤ end → Accepted s top n k
    unfolding text_lines bad_trial
    part_whole h =
        let z : text_lines (drop end s) ≡ [] = rw (drop_of_length-le s h) in
        let same : take end s ≡ s = take_all end s h in
        record {
          good = rest_bad ∙ rw z;
          count = part_good.count ∙ ap (λ (u : List ℕ). length (text_lines u)) same;
          few = part_good.few;
          ended = subst Ended same p.ended;
        }
