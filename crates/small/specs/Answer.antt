-- What the answer says. Assumes nothing.
use Rattle.std.specs.Prelude.{ℕ, Result, Ok, Err}
use Rattle.semantics.specs.SmallPages.{SmallAnswer, refused_small, wrote_small}
use Rattle.small.specs.declared.SmallError.{SmallError}
use Rattle.small.specs.declared.SmallError.TheVariants.{Number, Buffer}

-- "70, a number over 241", "71, a lent buffer too short for the text"
abbrev pub number_of : SmallError → ℕ
number_of Number = 70
number_of Buffer = 71

-- the text's length; or a refusal's number
abbrev pub answer_of : Result ℕ SmallError → SmallAnswer
answer_of (Ok length) = wrote_small length
answer_of (Err error) = refused_small (number_of error)
