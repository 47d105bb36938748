-- The scratch on n conditions, and what each step of a half leaves in it. Assumes nothing.
--
-- Low ends by the code of the literal in [0, 2 × n), high ends in [2 × n, 4 × n). Which conditions are reached is told by marks beside it, m.
-- So the tables are the assignment: the end of c stands at 2 × c of its table, and behind it top less the other end of c as it was when
-- the half began.
use Rattle.std.specs.Prelude.{◌≡◌, ◌≢◌, Bool, true, false, List, [], ◌∷◌, ℕ, ◌+◌, ◌*◌, ◌-◌, ◌≤◌, ◌<◌, length, get_or, take, drop}
use Rattle.fixpoint.specs.Interval.{Interval, Within, Assign}
use Rattle.fixpoint.specs.ChaoticIteration.{DependencyClosed}
use Rattle.semantics.specs.Area.{line_at, page_of, top_of, conditions_of}
use Rattle.semantics.specs.Body.{line_body, T, unknown_by_default}
use Rattle.semantics.specs.Grade.{End, lower, upper}
use Rattle.semantics.specs.Page.{names}
use Rattle.semantics.specs.Table.{member}
use Rattle.index.specs.Readers.{lines_read}
use Rattle.page.specs.Places.{LineIn}
use Rattle.value.specs.Table.{end_of, other}
use Rattle.settle.specs.Ends.{stays, settled_all, settled_end, room}

-- where the table of an end begins, and the table
abbrev pub base_of : ℕ → End → ℕ
base_of n lower = 0
base_of n upper = 2 * n

abbrev pub table_of : ℕ → End → List ℕ → List ℕ
table_of n e s = take (2 * n) (drop (base_of n e) s)

-- the interval held
abbrev pub held : ℕ → List ℕ → Assign
held n s c = record { low = get_or s (2 * c) 0; high = get_or s (2 * n + 2 * c) 0 }

-- whether the end e of c stays while the others are settled
abbrev pub stays_at : End → (a : List ℕ) → ℕ → Bool
stays_at e a = stays e (unknown_by_default (page_of a))

-- what the end e of c comes to while the other ends stay as they are held, and how far all are from top
abbrev pub settled_at : End → (a s : List ℕ) → ℕ → ℕ
settled_at e a s c = settled_end e (conditions_of a) (top_of a) (T (page_of a)) (unknown_by_default (page_of a)) (held (conditions_of a) s) c

abbrev pub room_at : End → (a s : List ℕ) → ℕ
room_at e a s = room e (conditions_of a) (top_of a) (held (conditions_of a) s)

-- T makes, of the ends e as they come to be, no more at c than c holds
abbrev pub CappedAt : End → (a s : List ℕ) → ℕ → Type 0
CappedAt e a s c =
    end_of e (T (page_of a) (settled_all e (conditions_of a) (top_of a) (T (page_of a)) (unknown_by_default (page_of a)) (held (conditions_of a) s)) c) ≤ end_of e (held (conditions_of a) s c)

-- a half under way: grades, the negations of the other ends, no end above what it comes to, and no line that would raise an end that stays
pub record Half (e : End) (a : List ℕ) (m : List Bool) (s : List ℕ) : Type 0 where
  pub long : 4 * conditions_of a ≤ length s
  pub marked : conditions_of a ≤ length m
  pub shut : DependencyClosed (conditions_of a) (names (page_of a)) (member m)
  pub within : (c : ℕ) → c < conditions_of a → Within (top_of a) (held (conditions_of a) s c)
  pub negated : (c : ℕ) → c < conditions_of a
      → get_or s (base_of (conditions_of a) e + (2 * c + 1)) 0 ≡ top_of a - end_of (other e) (held (conditions_of a) s c)
  pub below : (c : ℕ) → c < conditions_of a → end_of e (held (conditions_of a) s c) ≤ settled_at e a s c
  pub capped : (c : ℕ) → c < conditions_of a → member m c ≡ true → stays_at e a c ≡ true → CappedAt e a s c

-- what every step of a half keeps; no end falls
pub record Steady (e : End) (a : List ℕ) (m : List Bool) (s s' : List ℕ) : Type 0 where
  pub same_length : length s' ≡ length s
  pub others : (c : ℕ) → c < conditions_of a → end_of (other e) (held (conditions_of a) s' c) ≡ end_of (other e) (held (conditions_of a) s c)
  pub apart : (c : ℕ) → c < conditions_of a → member m c ≡ false → end_of e (held (conditions_of a) s' c) ≡ end_of e (held (conditions_of a) s c)
  pub stayed : (c : ℕ) → c < conditions_of a → stays_at e a c ≡ true → end_of e (held (conditions_of a) s' c) ≡ end_of e (held (conditions_of a) s c)
  pub rises : (c : ℕ) → c < conditions_of a → end_of e (held (conditions_of a) s c) ≤ end_of e (held (conditions_of a) s' c)
  pub negations : (c : ℕ) → c < conditions_of a
      → get_or s' (base_of (conditions_of a) (other e) + (2 * c + 1)) 0 ≡ get_or s (base_of (conditions_of a) (other e) + (2 * c + 1)) 0
  pub beyond : drop (4 * conditions_of a) s' ≡ drop (4 * conditions_of a) s

-- The line at a place is looked at between s and s': if what it names plainly holds in s' what it held in s, it adds to no reached
-- condition more than that holds.
abbrev pub Covered : End → List ℕ → List Bool → (s s' : List ℕ) → ℕ → Type 0
Covered e a m s s' at =
    (c : ℕ) → c < conditions_of a → member m c ≡ true
    → ((b : ℕ) → b < conditions_of a → lines_read (2 * b) (line_at (drop at a) ∷ []) c ≡ true → end_of e (held (conditions_of a) s' b) ≡ end_of e (held (conditions_of a) s b))
    → (p : Interval) → line_body (top_of a) (held (conditions_of a) s') c (line_at (drop at a)) ≡ p ∷ [] → end_of e p ≤ end_of e (held (conditions_of a) s' c)

-- the end of the head of the line at a place is raised, or nothing is done
pub record Raised (e : End) (a : List ℕ) (m : List Bool) (at : ℕ) (s s' : List ℕ) (rose : Bool) : Type 0 where
  pub half : Half e a m s'
  pub steady : Steady e a m s s'
  pub still : rose ≡ false → s' ≡ s
  pub moves : rose ≡ true → room_at e a s' < room_at e a s
  pub covered : Covered e a m s s' at
  pub only : (c : ℕ) → c < conditions_of a → get_or a at 0 ≢ c → end_of e (held (conditions_of a) s' c) ≡ end_of e (held (conditions_of a) s c)

-- lines stand at the places of a list
abbrev pub Lookable : (a places : List ℕ) → Type 0
Lookable a places = (i : ℕ) → i < length places → LineIn a (get_or places i 0)

-- the lines at the first places, below a number, were looked at
pub record Looked (e : End) (a : List ℕ) (m : List Bool) (place : ℕ → ℕ) (to : ℕ) (s s' : List ℕ) (rose : Bool) : Type 0 where
  pub half : Half e a m s'
  pub steady : Steady e a m s s'
  pub still : rose ≡ false → s' ≡ s
  pub moves : rose ≡ true → room_at e a s' < room_at e a s
  pub covered : (i : ℕ) → i < to → Covered e a m s s' (place i)
  pub only : (c : ℕ) → c < conditions_of a → ((i : ℕ) → i < to → get_or a (place i) 0 ≢ c) → end_of e (held (conditions_of a) s' c) ≡ end_of e (held (conditions_of a) s c)

-- T makes no more of the end e of c than c holds
abbrev pub RestsAt : End → (a s : List ℕ) → ℕ → Type 0
RestsAt e a s c = end_of e (T (page_of a) (held (conditions_of a) s) c) ≤ end_of e (held (conditions_of a) s c)

-- the ends e are settled
pub record Settled (e : End) (a : List ℕ) (m : List Bool) (s s' : List ℕ) (changed : Bool) : Type 0 where
  pub half : Half e a m s'
  pub steady : Steady e a m s s'
  pub still : changed ≡ false → s' ≡ s
  pub moves : changed ≡ true → room_at e a s' < room_at e a s
  pub rests : (c : ℕ) → c < conditions_of a → member m c ≡ true → RestsAt e a s' c
  pub ends : (c : ℕ) → c < conditions_of a → member m c ≡ true → end_of e (held (conditions_of a) s' c) ≡ settled_at e a s c
