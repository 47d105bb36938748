-- Where a line stands, where it ends, and where the next begins. Assumes nothing.
use Rattle.std.specs.Prelude.{◌≡◌, List, [], ℕ, suc, ◌+◌, ◌-◌, ◌≤◌, length, get_or, take, drop}
use Rattle.semantics.specs.Text.{text_lines}
use Rattle.semantics.specs.ReadPage.{line_of, start_from, start_of}
use Rattle.fields.specs.Cursor.{lines_after}

-- the line at a place goes up to the place e, and the lines after it are those behind byte 10
pub record LineStop (s : List ℕ) (at e : ℕ) : Type 0 where
  pub line : get_or (text_lines (drop at s)) 0 [] ≡ take (e - at) (drop at s)
  pub ahead : at ≤ e
  pub inside : e ≤ length s
  pub lines : lines_after (drop at s) ≡ lines_after (drop e s)
  pub ends : get_or s e 10 ≡ 10
  pub starts : (k : ℕ) → start_from (drop at s) (suc k) ≡ e - at + start_from (drop e s) (suc k)

pub record NextLine (s : List ℕ) (at e : ℕ) : Type 0 where
  pub lines : lines_after (drop at s) ≡ text_lines (drop e s)
  pub ahead : at ≤ e
  pub inside : e ≤ length s
  pub starts : (k : ℕ) → start_from (drop at s) (suc k) ≡ e - at + start_from (drop e s) k

-- the line with a number stands from `start` up to `end`
pub record LineAt (s : List ℕ) (number start end : ℕ) : Type 0 where
  pub begins : start ≡ start_of s number
  pub line : take (end - start) (drop start s) ≡ line_of s number
  pub ahead : start ≤ end
  pub inside : end ≤ length s
