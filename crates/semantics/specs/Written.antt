-- Document 01, "The page": the text that says a page, the one text that the reader takes for it (`Written-Read`, `read_written`). Assumes nothing.
use Rattle.std.specs.Prelude.{List, [], ◌∷◌, map, ℕ}
use Rattle.semantics.specs.Grade.{Op, M, X, L, B, P}
use Rattle.semantics.specs.Page.{Literal, positive, negative, Line, fact, rule, query, default, Page}
use Rattle.semantics.specs.Fields.{number_text, reading_letter, joined, ended_lines}

abbrev pub literal_text : Literal → List ℕ
literal_text (positive c) = number_text c
literal_text (negative c) = 33 ∷ number_text c

abbrev pub op_letter : Op → ℕ
op_letter M = 77
op_letter X = 88
op_letter L = 76
op_letter B = 66
op_letter P = 80

-- `F,cond,low,high`, `R,cond,weight,op,literal,...`, `Q,reading,cond`, `D,cond,U`, by their fields
abbrev pub line_fields : Line → List (List ℕ)
line_fields (fact c l h) = (70 ∷ []) ∷ number_text c ∷ number_text l ∷ number_text h ∷ []
line_fields (rule c w op lits) = (82 ∷ []) ∷ number_text c ∷ number_text w ∷ (op_letter op ∷ []) ∷ map literal_text lits
line_fields (query r c) = (81 ∷ []) ∷ (reading_letter r ∷ []) ∷ number_text c ∷ []
line_fields (default c) = (68 ∷ []) ∷ number_text c ∷ (85 ∷ []) ∷ []

-- `G,top,C`
abbrev pub head_fields : ℕ → ℕ → List (List ℕ)
head_fields top n = (71 ∷ []) ∷ number_text top ∷ number_text n ∷ []

abbrev pub line_texts : List Line → List (List ℕ)
line_texts [] = []
line_texts (l ∷ ls) = joined (line_fields l) ∷ line_texts ls

unfoldable pub text_of : Page → List ℕ
text_of page = ended_lines (joined (head_fields page.top page.conditions) ∷ line_texts page.lines)
