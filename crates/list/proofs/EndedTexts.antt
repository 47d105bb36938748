-- A text that ends with byte 10, or is empty: its lines, and where they end. Assumes nothing.
use mathlib.Core.Path.{◌≡◌, refl, sym, ◌∙◌, ap}
use mathlib.Core.Bool.{Bool, true, false}
use mathlib.Core.List.{List, [], ◌∷◌, ◌++◌}
use Prim.Native.Nat.{ℕ, suc, ◌+◌, ◌-◌, ◌≤◌, ◌<◌}
use native.Mathlib.Omega.{arith}
use native.Mathlib.Decide.{dec_lt}
use lib.Dec.{eqb}
use lib.ListN.{length, get_or, drop, length-append, length-drop, drop_of_length-le}
use lib.Seq.{get_or-drop}
use Rattle.semantics.specs.Text.{parted, text_lines}
use Rattle.semantics.specs.Fields.{ended_lines}
use Rattle.semantics.specs.Trials.{line_end}
use Rattle.semantics.proofs.TextParts.{some_line, ended_lines_of}
use Rattle.fields.specs.Cursor.{lines_after}
use Rattle.fields.proofs.Places.{byte_here}
use Rattle.reader.proofs.LinePlaces.{line_here}
use Rattle.list.specs.Lines.{line_at}
use Rattle.list.specs.Checks.{Ended}

-- its lines make it
pub ended_lines_lem : (s : List ℕ) → Ended s → ended_lines (text_lines s) ≡ s
unfolding text_lines
ended_lines_lem [] e = refl
ended_lines_lem (b ∷ s) e =
    let h : length (b ∷ s) - 1 < length (b ∷ s) = omega arith in
    ended_lines_of (b ∷ s) (λ z. omega arith) (byte_here (b ∷ s) (length (b ∷ s) - 1) h ∙ e)

-- from a place on it is ended too
pub ended_drop : (s : List ℕ) (at : ℕ) → at ≤ length s → Ended s → Ended (drop at s)
ended_drop s at h e = go (dec_lt at (length s))
  where
    go : Dec (at < length s) → Ended (drop at s)
    go (yes l) =
        let n = length (drop at s) - 1 in
        let k : at + n ≡ length s - 1 = omega (arith, length-drop at s) in
        get_or-drop at s n 10 ∙ ap (λ (i : ℕ). get_or s i 10) k ∙ e
    go (no m) = let l : length s ≤ at = omega arith in rw (drop_of_length-le s l)

-- The line at a place, with its byte 10, and the lines behind it.
module _ (s : List ℕ) (at : ℕ) (h : at < length s) (e : Ended s) where
  line_size : length s - at ≡ length (line_at s at) + 1 + length (ended_lines (lines_after (drop at s)))
  line_size =
      let l = line_at s at in
      let ls = lines_after (drop at s) in
      let w : ended_lines (l ∷ ls) ≡ drop at s = ap ended_lines (sym (line_here s at h)) ∙ ended_lines_lem (drop at s) (ended_drop s at (omega arith) e) in
      omega (arith, ap length w, length-append l (10 ∷ ended_lines ls), length-drop at s)

  pub line_inside : line_end at (line_at s at) ≤ length s
  line_inside = omega (arith, line_size)

  -- the place where those lines begin is behind that byte
  pub line_ends : {next : ℕ} → lines_after (drop at s) ≡ text_lines (drop next s) → next ≤ length s → next ≡ line_end at (line_at s at)
  line_ends {next} l k =
      let w : ended_lines (lines_after (drop at s)) ≡ drop next s = ap ended_lines l ∙ ended_lines_lem (drop next s) (ended_drop s next k e) in
      omega (arith, line_size, ap length w, length-drop next s)

-- The lines of an ended text and those of a text behind it.
parted_append : (t : Bool) (b : ℕ) (l : List ℕ) (ls ms : List (List ℕ)) → parted t b ((l ∷ ls) ++ ms) ≡ parted t b (l ∷ ls) ++ ms
parted_append true b l ls ms = refl
parted_append false b l ls ms = refl

pub lines_append : (s t : List ℕ) → Ended s → text_lines (s ++ t) ≡ text_lines s ++ text_lines t
unfolding text_lines
lines_append [] t e = refl
lines_append (b ∷ []) t e = let z : b ≡ 10 = e in rw z
lines_append (b ∷ c ∷ s) t e =
    let k : suc (suc (length s)) - 1 ≡ suc (suc (length s) - 1) = omega arith in
    let e' : Ended (c ∷ s) = sym (ap (λ (i : ℕ). get_or (b ∷ c ∷ s) i 10) k) ∙ e in
    let f = get_or (text_lines (c ∷ s)) 0 [] in
    let fs = drop 1 (text_lines (c ∷ s)) in
    ap (parted (eqb b 10) b) (lines_append (c ∷ s) t e' ∙ ap (λ (ls : List (List ℕ)). ls ++ text_lines t) (some_line c s))
    ∙ parted_append (eqb b 10) b f fs (text_lines t)
    ∙ ap (λ (ls : List (List ℕ)). parted (eqb b 10) b ls ++ text_lines t) (sym (some_line c s))
