-- Lines and pages by arithmetic on their numbers: a means of proof. The list that they make is `small_pages` (`page_at`). Assumes nothing.
use Rattle.std.specs.Prelude.{cond, List, [], ◌∷◌, ℕ, ◌+◌, ◌*◌, ◌-◌, ◌/◌, ◌%◌, ltb}
use Rattle.semantics.specs.Grade.{M}
use Rattle.semantics.specs.Page.{Literal, positive, negative, Line, fact, rule, Page}
use Rattle.semantics.specs.SmallPages.{page_with}

-- how many lines a page of n conditions has to choose from
abbrev pub kinds : ℕ → ℕ
kinds n = n * (3 + 2 * n)

-- the fact with rank r; the rule with rank r on a page of n conditions; the line with rank r
abbrev pub fact_ranked : ℕ → Line
fact_ranked r = fact (r / 3) (r % 3 / 2) ((r % 3 + 1) / 2)

abbrev pub literal_ranked : (n r : ℕ) → Literal
literal_ranked n r = cond (ltb (r % (2 * n)) n) (negative (r % n)) (positive (r % n))

abbrev pub rule_ranked : (n r : ℕ) → Line
rule_ranked n r = rule (r / (2 * n)) 1 M (literal_ranked n r ∷ [])

abbrev pub line_ranked : (n r : ℕ) → Line
line_ranked n r = cond (ltb r (3 * n)) (fact_ranked r) (rule_ranked n (r - 3 * n))

-- no line; one; two
abbrev pub pair_numbered : (n k : ℕ) → List Line
pair_numbered n k = line_ranked n (k / kinds n) ∷ line_ranked n (k % kinds n) ∷ []

abbrev pub lines_numbered : (n k : ℕ) → List Line
lines_numbered n k = cond (ltb k 1) [] (cond (ltb k (1 + kinds n)) (line_ranked n (k - 1) ∷ []) (pair_numbered n (k - 1 - kinds n)))

-- the page with number k: 31 pages of one condition, then those of two
abbrev pub page_numbered : ℕ → Page
page_numbered k = cond (ltb k 31) (page_with 1 (lines_numbered 1 k)) (page_with 2 (lines_numbered 2 (k - 31)))
