-- Texts of lines and pages, part by part, and the outcome for a number and a buffer. Assumes nothing.
use mathlib.Core.Path.{◌≡◌, sym, ◌∙◌, ap}
use mathlib.Core.List.{List, [], ◌∷◌, ◌++◌, append_assoc}
use Prim.Native.Nat.{ℕ, zero, suc, ◌+◌, ◌*◌, ◌-◌, ◌/◌, ◌%◌, ◌≤◌, ◌<◌}
use native.Mathlib.Omega.{arith}
use native.Mathlib.Decide.{dec_le}
use lib.ListN.{length, take, drop}
use borrow.Author.Tests.{lt-ltb, le-ltb}
use Rattle.semantics.specs.Grade.{M}
use Rattle.semantics.specs.Page.{positive, negative, Line, fact, rule}
use Rattle.semantics.specs.Fields.{joined, ended_lines}
use Rattle.semantics.specs.Written.{head_fields, line_fields, line_texts, text_of}
use Rattle.semantics.specs.SmallPages.{page_with, small_text, refused_small, wrote_small, small_of}
use Rattle.semantics.proofs.TextNumbers.{number_one}
use Rattle.print.specs.Wrote.{Wrote}
use Rattle.print.specs.declared.Text.{Text}
use Rattle.print.specs.Texts.{Puts}
use Rattle.print.proofs.Writing.{wrote_as, wrote_front, puts_as, puts_front}
use Rattle.small.specs.Numbers.{kinds, fact_ranked, rule_ranked, line_ranked, lines_numbered, page_numbered}
use Rattle.small.proofs.Numbers.{page_at}

-- The text of a page's lines.
abbrev pub lines_text : List Line → List ℕ
lines_text ls = ended_lines (line_texts ls)

pub head_text : (n : ℕ) → n < 10 → ended_lines (joined (head_fields 1 n) ∷ []) ≡ 71 ∷ 44 ∷ 49 ∷ 44 ∷ (48 + n) ∷ 10 ∷ []
head_text n h = rw (number_one 1 (omega arith), number_one n h)

pub fact_text : (c l h : ℕ) → c < 10 → l < 10 → h < 10 → lines_text (fact c l h ∷ []) ≡ 70 ∷ 44 ∷ (48 + c) ∷ 44 ∷ (48 + l) ∷ 44 ∷ (48 + h) ∷ 10 ∷ []
fact_text c l h i j k = rw (number_one c i, number_one l j, number_one h k)

pub negative_text : (c d : ℕ) → c < 10 → d < 10 → lines_text (rule c 1 M (negative d ∷ []) ∷ []) ≡ 82 ∷ 44 ∷ (48 + c) ∷ 44 ∷ 49 ∷ 44 ∷ 77 ∷ 44 ∷ 33 ∷ (48 + d) ∷ 10 ∷ []
negative_text c d i j = rw (number_one c i, number_one 1 (omega arith), number_one d j)

pub positive_text : (c d : ℕ) → c < 10 → d < 10 → lines_text (rule c 1 M (positive d ∷ []) ∷ []) ≡ 82 ∷ 44 ∷ (48 + c) ∷ 44 ∷ 49 ∷ 44 ∷ 77 ∷ 44 ∷ (48 + d) ∷ 10 ∷ []
positive_text c d i j = rw (number_one c i, number_one 1 (omega arith), number_one d j)

-- The parts of a rule's rank are digits.
pub rule_digits : (n r : ℕ) → 1 ≤ n → n ≤ 2 → r < 2 * n * n → (r / (2 * n) < 10) × (r % n < 10)
rule_digits zero r a b h = absurd (omega arith)
rule_digits (suc zero) r a b h = (omega arith, omega arith)
rule_digits (suc (suc zero)) r a b h = (omega arith, omega arith)
rule_digits (suc (suc (suc n))) r a b h = absurd (omega arith)

pub rule_negative : (n r : ℕ) → r / (2 * n) < 10 → r % n < 10 → r % (2 * n) < n
    → 82 ∷ 44 ∷ (48 + r / (2 * n)) ∷ 44 ∷ 49 ∷ 44 ∷ 77 ∷ 44 ∷ 33 ∷ (48 + r % n) ∷ 10 ∷ [] ≡ lines_text (rule_ranked n r ∷ [])
rule_negative n r i j h = rw (lt-ltb (r % (2 * n)) n h) (sym (negative_text (r / (2 * n)) (r % n) i j))

pub rule_positive : (n r : ℕ) → r / (2 * n) < 10 → r % n < 10 → n ≤ r % (2 * n)
    → 82 ∷ 44 ∷ (48 + r / (2 * n)) ∷ 44 ∷ 49 ∷ 44 ∷ 77 ∷ 44 ∷ (48 + r % n) ∷ 10 ∷ [] ≡ lines_text (rule_ranked n r ∷ [])
rule_positive n r i j h = rw (le-ltb (r % (2 * n)) n h) (sym (positive_text (r / (2 * n)) (r % n) i j))

-- The line with a rank.
line_fact : (n r : ℕ) → r < 3 * n → lines_text (fact_ranked r ∷ []) ≡ lines_text (line_ranked n r ∷ [])
line_fact n r h = rw (lt-ltb r (3 * n) h)

line_rule : (n r : ℕ) → 3 * n ≤ r → lines_text (rule_ranked n (r - 3 * n) ∷ []) ≡ lines_text (line_ranked n r ∷ [])
line_rule n r h = rw (le-ltb r (3 * n) h)

-- it has at most 11 bytes
rule_short : (n r : ℕ) → 1 ≤ n → n ≤ 2 → r < 2 * n * n → length (lines_text (rule_ranked n r ∷ [])) ≤ 11
rule_short n r a b h =
    let w = rule_digits n r a b h in
    elim (dec_le (suc (r % (2 * n))) n) [
      | yes k ↦ omega (arith, ap length (rule_negative n r w.0 w.1 k))
      | no k ↦ omega (arith, ap length (rule_positive n r w.0 w.1 (omega arith)))
    ]

pub line_short : (n r : ℕ) → 1 ≤ n → n ≤ 2 → r < kinds n → length (lines_text (line_ranked n r ∷ [])) ≤ 11
line_short n r a b h =
    elim (dec_le (suc r) (3 * n)) [
      | yes k ↦ omega (arith, ap length (line_fact n r k), ap length (fact_text (r / 3) (r % 3 / 2) ((r % 3 + 1) / 2) (omega arith) (omega arith) (omega arith)))
      | no k ↦ omega (arith, ap length (line_rule n r (omega arith)), rule_short n (r - 3 * n) a b (omega arith))
    ]

-- The lines with a number that has two.
pub pair_ranks : (n k : ℕ) → 1 ≤ n → n ≤ 2 → 1 + kinds n ≤ k → k < 1 + kinds n + kinds n * kinds n
    → ((k - 1 - kinds n) / kinds n < kinds n) × ((k - 1 - kinds n) % kinds n < kinds n)
pair_ranks zero k a b i j = absurd (omega arith)
pair_ranks (suc zero) k a b i j = (omega arith, omega arith)
pair_ranks (suc (suc zero)) k a b i j = (omega arith, omega arith)
pair_ranks (suc (suc (suc n))) k a b i j = absurd (omega arith)

-- a text with lines behind it
ended_then : (l : List ℕ) (ls : List (List ℕ)) → ended_lines (l ∷ []) ++ ended_lines ls ≡ ended_lines (l ∷ ls)
ended_then l ls = append_assoc l (10 ∷ []) (ended_lines ls)

pub lines_two : (n k : ℕ) → 1 ≤ k → 1 + kinds n ≤ k
    → lines_text (line_ranked n ((k - 1 - kinds n) / kinds n) ∷ []) ++ lines_text (line_ranked n ((k - 1 - kinds n) % kinds n) ∷ []) ≡ lines_text (lines_numbered n k)
lines_two n k h i =
    rw (le-ltb k 1 h, le-ltb k (1 + kinds n) i)
    (ended_then (joined (line_fields (line_ranked n ((k - 1 - kinds n) / kinds n)))) (line_texts (line_ranked n ((k - 1 - kinds n) % kinds n) ∷ [])))

-- The page with a number.
text_parts : (n : ℕ) (ls : List Line) → ended_lines (joined (head_fields 1 n) ∷ []) ++ lines_text ls ≡ text_of (page_with n ls)
unfolding text_of
text_parts n ls = ended_then (joined (head_fields 1 n)) (line_texts ls)

pub page_of_one : (k : ℕ) → k < 31 → ended_lines (joined (head_fields 1 1) ∷ []) ++ lines_text (lines_numbered 1 k) ≡ text_of (page_numbered k)
page_of_one k h = rw (lt-ltb k 31 h) (text_parts 1 (lines_numbered 1 k))

pub page_of_two : (k : ℕ) → 31 ≤ k → ended_lines (joined (head_fields 1 2) ∷ []) ++ lines_text (lines_numbered 2 (k - 31)) ≡ text_of (page_numbered k)
page_of_two k h = rw (le-ltb k 31 h) (text_parts 2 (lines_numbered 2 (k - 31)))

-- The outcome.
module _ (number : ℕ) (buffer : List ℕ) where
  pub small_70 : 241 < number → small_of number buffer ≡ record { answer = refused_small 70; buffer = buffer }
  unfolding small_of
  small_70 h = rw (lt-ltb 241 number h)

  module _ (h : number ≤ 241) where
    pub small_71 : length buffer < length (small_text number) → small_of number buffer ≡ record { answer = refused_small 71; buffer = buffer }
    unfolding small_of
    small_71 l = rw (le-ltb 241 number h, lt-ltb (length buffer) (length (small_text number)) l)

    pub small_wrote : length (small_text number) ≤ length buffer
        → small_of number buffer ≡ record { answer = wrote_small (length (small_text number)); buffer = small_text number ++ drop (length (small_text number)) buffer }
    unfolding small_of
    small_wrote l = rw (le-ltb 241 number h, le-ltb (length buffer) (length (small_text number)) l)

-- A text made in an array, and copied.
module _ {t t' : Text} (number : ℕ) (h : number ≤ 241) (z : t.at ≡ 0) (w : Puts t (text_of (page_numbered number)) t') where
  made : Puts t (small_text number) t'
  made = puts_as (ap text_of (page_at number (omega arith))) w

  pub made_length : t'.at ≡ length (small_text number)
  made_length = omega (arith, made.wrote.behind, z)

  pub copied : {buffer buffer' bytes : List ℕ} {m : ℕ} → bytes ≡ take t'.at t'.out.now → Wrote buffer 0 bytes buffer' m
      → buffer' ≡ small_text number ++ drop (length (small_text number)) buffer
  copied e v = wrote_front (wrote_as (e ∙ puts_front z made) v)
