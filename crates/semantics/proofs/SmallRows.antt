-- Worked rows of the small pages: one list, one claim (`small_bench`). Assumes nothing.
use mathlib.Core.Path.{◌≡◌, refl}
use mathlib.Core.List.{List, [], ◌∷◌, map, flat_map}
use Prim.Native.Nat.{ℕ}
use lib.ListN.{replicate}
use Rattle.semantics.specs.Fields.{number_within, number_text}
use Rattle.semantics.specs.Written.{text_of}
use Rattle.semantics.specs.SmallPages.{small_lines, small_pages_of, small_pages, refused_small, wrote_small, SmallOutcome, small_of}

-- a number and a buffer, and what the call answers and leaves
pub record SmallRow : Type 0 where
  pub number : ℕ
  pub buffer : List ℕ
  pub outcome : SmallOutcome

abbrev pub SmallsHold : List SmallRow → Type 0
SmallsHold rows = map (λ (r : SmallRow). small_of r.number r.buffer) rows ≡ map (λ (r : SmallRow). r.outcome) rows

-- n bytes 255
abbrev spare : ℕ → List ℕ
spare n = replicate n 255

abbrev writes : ℕ → List ℕ → ℕ → List ℕ → SmallRow
writes number buffer length buffer' = record { number = number; buffer = buffer; outcome = record { answer = wrote_small length; buffer = buffer' } }

abbrev refuses : ℕ → List ℕ → ℕ → SmallRow
refuses number buffer k = record { number = number; buffer = buffer; outcome = record { answer = refused_small k; buffer = buffer } }

unfoldable pub small_rows : List SmallRow
small_rows =
    -- the first page, in a buffer of its length; a byte after the text stays; a buffer too short by one, and an empty one
    writes 0 (spare 6) 6 (71 ∷ 44 ∷ 49 ∷ 44 ∷ 49 ∷ 10 ∷ spare 0)
    ∷ writes 0 (spare 7) 6 (71 ∷ 44 ∷ 49 ∷ 44 ∷ 49 ∷ 10 ∷ spare 1)
    ∷ refuses 0 (spare 5) 71
    ∷ refuses 0 (spare 0) 71
    -- the facts on one condition, in the order of their ends
    ∷ writes 1 (spare 14) 14 (71 ∷ 44 ∷ 49 ∷ 44 ∷ 49 ∷ 10 ∷ 70 ∷ 44 ∷ 48 ∷ 44 ∷ 48 ∷ 44 ∷ 48 ∷ 10 ∷ spare 0)
    ∷ writes 2 (spare 14) 14 (71 ∷ 44 ∷ 49 ∷ 44 ∷ 49 ∷ 10 ∷ 70 ∷ 44 ∷ 48 ∷ 44 ∷ 48 ∷ 44 ∷ 49 ∷ 10 ∷ spare 0)
    ∷ writes 3 (spare 14) 14 (71 ∷ 44 ∷ 49 ∷ 44 ∷ 49 ∷ 10 ∷ 70 ∷ 44 ∷ 48 ∷ 44 ∷ 49 ∷ 44 ∷ 49 ∷ 10 ∷ spare 0)
    ∷ refuses 1 (spare 13) 71
    -- F before R, `!` before digits
    ∷ writes 4 (spare 17) 17 (71 ∷ 44 ∷ 49 ∷ 44 ∷ 49 ∷ 10 ∷ 82 ∷ 44 ∷ 48 ∷ 44 ∷ 49 ∷ 44 ∷ 77 ∷ 44 ∷ 33 ∷ 48 ∷ 10 ∷ spare 0)
    ∷ writes 5 (spare 16) 16 (71 ∷ 44 ∷ 49 ∷ 44 ∷ 49 ∷ 10 ∷ 82 ∷ 44 ∷ 48 ∷ 44 ∷ 49 ∷ 44 ∷ 77 ∷ 44 ∷ 48 ∷ 10 ∷ spare 0)
    -- two lines, which may be equal; a fact and a rule
    ∷ writes 6 (spare 22) 22 (71 ∷ 44 ∷ 49 ∷ 44 ∷ 49 ∷ 10 ∷ 70 ∷ 44 ∷ 48 ∷ 44 ∷ 48 ∷ 44 ∷ 48 ∷ 10 ∷ 70 ∷ 44 ∷ 48 ∷ 44 ∷ 48 ∷ 44 ∷ 48 ∷ 10 ∷ spare 0)
    ∷ writes 20 (spare 24) 24 (71 ∷ 44 ∷ 49 ∷ 44 ∷ 49 ∷ 10 ∷ 70 ∷ 44 ∷ 48 ∷ 44 ∷ 49 ∷ 44 ∷ 49 ∷ 10 ∷ 82 ∷ 44 ∷ 48 ∷ 44 ∷ 49 ∷ 44 ∷ 77 ∷ 44 ∷ 48 ∷ 10 ∷ spare 0)
    -- the last page of one condition, and the first of two
    ∷ writes 30 (spare 26) 26 (71 ∷ 44 ∷ 49 ∷ 44 ∷ 49 ∷ 10 ∷ 82 ∷ 44 ∷ 48 ∷ 44 ∷ 49 ∷ 44 ∷ 77 ∷ 44 ∷ 48 ∷ 10 ∷ 82 ∷ 44 ∷ 48 ∷ 44 ∷ 49 ∷ 44 ∷ 77 ∷ 44 ∷ 48 ∷ 10 ∷ spare 0)
    ∷ writes 31 (spare 6) 6 (71 ∷ 44 ∷ 49 ∷ 44 ∷ 50 ∷ 10 ∷ spare 0)
    -- the rules on two conditions
    ∷ writes 38 (spare 17) 17 (71 ∷ 44 ∷ 49 ∷ 44 ∷ 50 ∷ 10 ∷ 82 ∷ 44 ∷ 48 ∷ 44 ∷ 49 ∷ 44 ∷ 77 ∷ 44 ∷ 33 ∷ 48 ∷ 10 ∷ spare 0)
    ∷ writes 40 (spare 16) 16 (71 ∷ 44 ∷ 49 ∷ 44 ∷ 50 ∷ 10 ∷ 82 ∷ 44 ∷ 48 ∷ 44 ∷ 49 ∷ 44 ∷ 77 ∷ 44 ∷ 48 ∷ 10 ∷ spare 0)
    ∷ writes 45 (spare 16) 16 (71 ∷ 44 ∷ 49 ∷ 44 ∷ 50 ∷ 10 ∷ 82 ∷ 44 ∷ 49 ∷ 44 ∷ 49 ∷ 44 ∷ 77 ∷ 44 ∷ 49 ∷ 10 ∷ spare 0)
    ∷ writes 46 (spare 22) 22 (71 ∷ 44 ∷ 49 ∷ 44 ∷ 50 ∷ 10 ∷ 70 ∷ 44 ∷ 48 ∷ 44 ∷ 48 ∷ 44 ∷ 48 ∷ 10 ∷ 70 ∷ 44 ∷ 48 ∷ 44 ∷ 48 ∷ 44 ∷ 48 ∷ 10 ∷ spare 0)
    -- the longest text, the first and the last of them; in a buffer too short by one
    ∷ writes 24 (spare 28) 28 (71 ∷ 44 ∷ 49 ∷ 44 ∷ 49 ∷ 10 ∷ 82 ∷ 44 ∷ 48 ∷ 44 ∷ 49 ∷ 44 ∷ 77 ∷ 44 ∷ 33 ∷ 48 ∷ 10 ∷ 82 ∷ 44 ∷ 48 ∷ 44 ∷ 49 ∷ 44 ∷ 77 ∷ 44 ∷ 33 ∷ 48 ∷ 10 ∷ spare 0)
    ∷ writes 211 (spare 28) 28 (71 ∷ 44 ∷ 49 ∷ 44 ∷ 50 ∷ 10 ∷ 82 ∷ 44 ∷ 49 ∷ 44 ∷ 49 ∷ 44 ∷ 77 ∷ 44 ∷ 33 ∷ 49 ∷ 10 ∷ 82 ∷ 44 ∷ 49 ∷ 44 ∷ 49 ∷ 44 ∷ 77 ∷ 44 ∷ 33 ∷ 49 ∷ 10 ∷ spare 0)
    ∷ refuses 24 (spare 27) 71
    -- the last page; bytes after the text stay
    ∷ writes 241 (spare 26) 26 (71 ∷ 44 ∷ 49 ∷ 44 ∷ 50 ∷ 10 ∷ 82 ∷ 44 ∷ 49 ∷ 44 ∷ 49 ∷ 44 ∷ 77 ∷ 44 ∷ 49 ∷ 10 ∷ 82 ∷ 44 ∷ 49 ∷ 44 ∷ 49 ∷ 44 ∷ 77 ∷ 44 ∷ 49 ∷ 10 ∷ spare 0)
    ∷ writes 241 (spare 40) 26 (71 ∷ 44 ∷ 49 ∷ 44 ∷ 50 ∷ 10 ∷ 82 ∷ 44 ∷ 49 ∷ 44 ∷ 49 ∷ 44 ∷ 77 ∷ 44 ∷ 49 ∷ 10 ∷ 82 ∷ 44 ∷ 49 ∷ 44 ∷ 49 ∷ 44 ∷ 77 ∷ 44 ∷ 49 ∷ 10 ∷ spare 14)
    ∷ refuses 241 (spare 25) 71
    -- a number over 241, with room and with none: 70 before 71
    ∷ refuses 242 (spare 28) 70
    ∷ refuses 242 (spare 0) 70
    ∷ refuses 4294967295 (spare 28) 70
    ∷ []

pub small_bench : SmallsHold small_rows
unfolding small_rows small_of small_pages small_pages_of small_lines flat_map text_of number_text number_within
small_bench = refl
