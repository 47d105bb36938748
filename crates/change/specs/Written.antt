-- Lines that are written to a page area. Assumes nothing.
use Rattle.std.specs.Prelude.{◌≡◌, List, ℕ, ◌+◌, ◌*◌, ◌≤◌, length}
use Rattle.semantics.specs.Page.{Line}
use Rattle.semantics.specs.Area.{line_codes, page_of, used_of}
use Rattle.semantics.specs.Trials.{TrialLine, kept_lines, tried_facts}
use Rattle.print.specs.Wrote.{Wrote}
use Rattle.change.specs.declared.Entries.{Entries}

-- the entries of the lines stand from `end` up to `end'`, and are counted
pub record LinesWrote (area : List ℕ) (end count : ℕ) (ls : List Line) (area' : List ℕ) (end' count' : ℕ) : Type 0 where
  pub codes : Wrote area end (line_codes ls) area' end'
  pub counted : count' ≡ count + length ls

-- one entry is written behind the others, to the same area
pub record PutsEntry (e : Entries) (entry : List ℕ) (e' : Entries) : Type 0 where
  pub same : e'.area.ghost_name ≡ e.area.ghost_name
  pub wrote : Wrote e.area.now e.end entry e'.area.now e'.end
  pub counted : e'.count ≡ e.count + 1

-- the entries of the lines are
pub record PutsLines (e : Entries) (ls : List Line) (e' : Entries) : Type 0 where
  pub same : e'.area.ghost_name ≡ e.area.ghost_name
  pub wrote : LinesWrote e.area.now e.end e.count ls e'.area.now e'.end e'.count

-- there is room for a fact of each of n conditions
pub record FactsFit (n : ℕ) (e : Entries) : Type 0 where
  pub room : e.end + 4 * n ≤ length e.area.now
  pub counts : e.count + n ≤ 65535

-- the lines of the page that stay are written
pub record LinesKept (a : List ℕ) (ts : List TrialLine) (e e' : Entries) : Type 0 where
  pub puts : PutsLines e (kept_lines ts (page_of a).lines) e'
  pub short : e'.end ≤ used_of a
  pub few : e'.count ≤ 1024

-- the facts of n conditions are written
pub record FactsWrote (ts : List TrialLine) (n : ℕ) (e e' : Entries) : Type 0 where
  pub puts : PutsLines e (tried_facts ts n 0) e'
  pub short : e'.end ≤ e.end + 4 * n
