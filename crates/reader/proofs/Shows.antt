-- Where a line ends, and which line is reached. Assumes nothing.
use mathlib.Core.Path.{◌≡◌, refl, sym, ◌∙◌, ap}
use mathlib.Core.Logic.{◌≢◌}
use mathlib.Core.List.{List, [], ◌∷◌, ◌++◌, append_assoc, append-nil}
use Prim.Native.Nat.{ℕ, zero, suc, ◌+◌, ◌-◌, ◌≤◌, ◌<◌}
use native.Mathlib.Omega.{arith}
use native.Mathlib.Nat.{sub_self}
use lib.ListN.{length, get_or, take, drop, length-drop, drop_of_length-le}
use lib.Seq.{take-suc, get_or-drop}
use Rattle.std.specs.Prelude.{Option, None, Some, MatchOption}
use Rattle.std.specs.List.{AllWithin, HoldsAt}
use Rattle.std.specs.Option.{unwrap_or}
use Rattle.semantics.specs.Text.{text_lines}
use Rattle.semantics.specs.ReadPage.{line_of, start_from, start_of}
use Rattle.fields.specs.Cursor.{lines_after}
use Rattle.reader.specs.Shown.{LineStop, NextLine, LineAt}
use Rattle.fields.proofs.Places.{byte_here}
use Rattle.reader.proofs.LinePlaces.{byte_past, line_here, newline_front, newline_lines, other_front, other_lines, other_start, newline_start, end_start, first_start}

-- The line at a place has been followed as far as the place i.
record Following (s : List ℕ) (at i : ℕ) : Type 0 where
  pub line : get_or (text_lines (drop at s)) 0 [] ≡ take (i - at) (drop at s) ++ get_or (text_lines (drop i s)) 0 []
  pub lines : lines_after (drop at s) ≡ lines_after (drop i s)
  pub ahead : at ≤ i
  pub inside : i ≤ length s
  pub starts : (k : ℕ) → start_from (drop at s) (suc k) ≡ i - at + start_from (drop i s) (suc k)

following_first : (s : List ℕ) (at : ℕ) → at ≤ length s → Following s at at
following_first s at h = record { line = rw sub_self; lines = refl; ahead = omega arith; inside = h; starts = λ k. omega arith }

module _ (s : List ℕ) (at i : ℕ) (w : Following s at i) where
  following_next : i < length s → (get_or s i 0 ≡ 10 → ⊥) → Following s at (i + 1)
  following_next h n =
      let b = byte_here s i h in
      let m : get_or s i 10 ≡ 10 → ⊥ = λ e. n (b ∙ e) in
      let d : i + 1 - at ≡ suc (i - at) = omega (arith, w.ahead) in
      let k : i - at < length (drop at s) = omega (arith, w.ahead, length-drop at s) in
      let e : at + (i - at) ≡ i = omega (arith, w.ahead) in
      let x : get_or (drop at s) (i - at) 10 ≡ get_or s i 10 = get_or-drop at s (i - at) 10 ∙ ap (λ (j : ℕ). get_or s j 10) e in
      record {
        line = w.line ∙ rw (other_front s i m, d, take-suc (drop at s) (i - at) 10 k, x, append_assoc (take (i - at) (drop at s)) (get_or s i 10 ∷ []) (get_or (text_lines (drop (i + 1) s)) 0 []));
        lines = w.lines ∙ other_lines s i m;
        ahead = omega (arith, w.ahead);
        inside = omega arith;
        starts = λ k. omega (arith, w.ahead, w.starts k, other_start s i m k);
      }

  line_ends : get_or s i 10 ≡ 10 → LineStop s at i
  line_ends e =
      record {
        line = w.line ∙ rw (newline_front s i e, append-nil (take (i - at) (drop at s)));
        ahead = w.ahead;
        inside = w.inside;
        lines = w.lines;
        ends = e;
        starts = w.starts;
      }

  at_newline : i < length s → get_or s i 0 ≡ 10 → LineStop s at i
  at_newline h e = line_ends (sym (byte_here s i h) ∙ e)

  at_end : length s ≤ i → LineStop s at i
  at_end h = line_ends (sym (byte_past s i h))

-- n bytes from the place `at` on are not 10
module _ (s : List ℕ) (at : ℕ) (h : at ≤ length s) where
  following_to : (n : ℕ) → n ≤ length (drop at s) → AllWithin (λ b. b ≢ 10) (drop at s) 0 n → Following s at (at + n)
  following_to zero l a = let e : at + 0 ≡ at = omega arith in rw e (following_first s at h)
  following_to (suc n) l a =
      let w = following_to n (omega arith) (λ k d x y. a k d x (omega arith)) in
      let b : get_or s (at + n) 0 ≢ 10 = λ e. a n 0 (omega arith) (omega arith) (get_or-drop at s n 0 ∙ e) in
      let e : at + n + 1 ≡ at + suc n = omega arith in
      rw e at (following_next s at (at + n) w (omega (arith, length-drop at s)) b)

  -- the bytes from the place on, and the first byte 10 among them, or their end
  module _ {rest : List ℕ} (is : rest ≡ drop at s) where
    pub line_stops : (r : Option ℕ) → MatchOption r (AllWithin (λ b. b ≢ 10) rest 0 (length rest)) (λ n. (n < length rest) × HoldsAt (λ b. b ≡ 10) rest n × AllWithin (λ b. b ≢ 10) rest 0 n)
        → LineStop s at (at + unwrap_or r (length rest))
    line_stops None a =
        rw is (at_end s at (at + length (drop at s)) (following_to (length (drop at s)) (omega arith) (rw is at a)) (omega (arith, length-drop at s)))
    line_stops (Some n) p =
        let q = rw is at p in
        at_newline s at (at + n) (following_to n (omega (arith, q.0)) q.2) (omega (arith, q.0, length-drop at s)) (sym (get_or-drop at s n 0) ∙ q.1 0)

module _ (s : List ℕ) (at e : ℕ) (w : LineStop s at e) where
  pub next_line : e < length s → NextLine s at (e + 1)
  next_line h =
      record {
        lines = w.lines ∙ newline_lines s e w.ends;
        ahead = omega (arith, w.ahead);
        inside = omega arith;
        starts = λ k. omega (arith, w.ahead, w.starts k, newline_start s e h w.ends k);
      }

  pub no_next_line : length s ≤ e → NextLine s at e
  no_next_line h =
      let k : length s ≤ e + 1 = omega arith in
      record {
        lines = w.lines ∙ newline_lines s e w.ends ∙ ap text_lines (drop_of_length-le s k ∙ sym (drop_of_length-le s h));
        ahead = w.ahead;
        inside = w.inside;
        starts = λ j. omega (arith, w.starts j, end_start s e h (suc j), end_start s e h j);
      }

-- The line with a number is `left` lines on, counted from 1, from the place `at`.
pub record Seeking (s : List ℕ) (number at left : ℕ) : Type 0 where
  pub line : line_of s number ≡ get_or (text_lines (drop at s)) (left - 1) []
  pub begins : start_of s number ≡ at + start_from (drop at s) (left - 1)
  pub inside : at ≤ length s
  pub least : 1 ≤ left

pub no_line : (s : List ℕ) (number : ℕ) → number ≡ 0 → LineAt s number 0 0
unfolding line_of
no_line s number e = rw e (record { begins = sym (first_start s); line = refl; ahead = omega arith; inside = omega arith })

pub seeking_first : (s : List ℕ) (number : ℕ) → (number ≡ 0 → ⊥) → Seeking s number 0 number
unfolding line_of
seeking_first s zero n = absurd (n refl)
seeking_first s (suc k) n =
    let e : suc k - 1 ≡ k = omega arith in
    record { line = rw e; begins = omega arith; inside = omega arith; least = omega arith }

module _ (s : List ℕ) (number at left : ℕ) (w : Seeking s number at left) where
  pub seeking_past : length s ≤ at → LineAt s number at at
  unfolding text_lines
  seeking_past h =
      record {
        begins = omega (arith, w.begins, end_start s at h (left - 1));
        line = rw sub_self (sym (w.line ∙ rw (drop_of_length-le s h)));
        ahead = omega arith;
        inside = w.inside;
      }

  pub seeking_next : 1 < left → at < length s → {e : ℕ} → NextLine s at e → Seeking s number e (left - 1)
  seeking_next l h {e} q =
      let k : left - 1 ≡ suc (left - 1 - 1) = omega arith in
      record {
        line = w.line ∙ ap (λ (j : ℕ). get_or (text_lines (drop at s)) j []) k ∙ rw (line_here s at h, q.lines);
        begins = w.begins ∙ ap (λ (j : ℕ). at + start_from (drop at s) j) k ∙ omega (arith, q.ahead, q.starts (left - 1 - 1));
        inside = q.inside;
        least = omega arith;
      }

  pub seeking_last : left ≤ 1 → {e : ℕ} → LineStop s at e → LineAt s number at e
  seeking_last l {e} q =
      let k : left - 1 ≡ 0 = omega (arith, w.least) in
      record {
        begins = sym (w.begins ∙ rw k (omega (arith, first_start (drop at s))));
        line = sym (w.line ∙ rw k q.line);
        ahead = q.ahead;
        inside = q.inside;
      }
