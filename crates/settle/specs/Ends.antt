-- Which ends of which conditions an end of a body value reads, and what the ends come to. Assumes nothing.
use Rattle.std.specs.Prelude.{Bool, true, false, ◌≡◌, ℕ, ◌+◌, ◌*◌, ◌-◌, ◌<◌}
use Rattle.fixpoint.specs.Interval.{Interval, Assign}
use Rattle.fixpoint.specs.AlternatingFixpoint.{mix, highs, lows}
use Rattle.fixpoint.specs.Sum.{sum}
use Rattle.semantics.specs.Grade.{End, lower, upper}
use Rattle.semantics.specs.Page.{Page}
use Rattle.index.specs.Readers.{lines_read}
use Rattle.value.specs.Table.{end_of, other}

-- "a literal is 2 × condition, plus 1 if negated"
abbrev pub literal_code : Bool → ℕ → ℕ
literal_code true c = 2 * c + 1
literal_code false c = 2 * c

-- some R line of a has c, or where `negated` holds the negation of c, among its literals
abbrev pub reads : Page → Bool → ℕ → ℕ → Bool
reads page negated a c = lines_read (literal_code negated c) page.lines a

-- an end of A's body value sees the same end of what A names plainly, and the other end of what A negates
pub record EndLocal (n : ℕ) (T : Assign → ℕ → Interval) (names : ℕ → ℕ → Bool) (reads : Bool → ℕ → ℕ → Bool) : Type 0 where
  pub named : (negated : Bool) (A B : ℕ) → reads negated A B ≡ true → names A B ≡ true
  pub local_end : (e : End) (I J : Assign) (A : ℕ) → A < n → ((B : ℕ) → B < n → reads false A B ≡ true → end_of e (I B) ≡ end_of e (J B))
      → ((B : ℕ) → B < n → reads true A B ≡ true → end_of (other e) (I B) ≡ end_of (other e) (J B)) → end_of e (T I A) ≡ end_of e (T J A)

abbrev pub nobody : ℕ → Bool
nobody c = false

-- the ends e that stay while the others are settled: the high ends of the free conditions
abbrev pub stays : End → (ℕ → Bool) → ℕ → Bool
stays upper free c = free c
stays lower free c = false

-- K, with what its ends e come to while the other ends stay as K has them: the least high ends of those not free over the floor of K, or the
-- least low ends over its high ends
abbrev pub settled_all : End → (n top : ℕ) → (Assign → ℕ → Interval) → (ℕ → Bool) → Assign → Assign
settled_all upper n top T free K = mix free K (highs n top T free K)
settled_all lower n top T free K = mix nobody (lows n top T nobody K) K

-- what the end e of c comes to
abbrev pub settled_end : End → (n top : ℕ) → (Assign → ℕ → Interval) → (ℕ → Bool) → Assign → ℕ → ℕ
settled_end e n top T free K c = end_of e (settled_all e n top T free K c)

-- how far the ends e are from top, all together
unfoldable pub room : End → ℕ → ℕ → Assign → ℕ
room e n top I = sum n (λ c. top - end_of e (I c))
