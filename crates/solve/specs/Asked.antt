-- What a Q line asks. Assumes nothing.
use Rattle.std.specs.Prelude.{cond, ℕ, eqb}
use Rattle.semantics.specs.Page.{Reading, K, W}

-- "0 for K or 1 for W"
abbrev pub reading_of : ℕ → Reading
reading_of x = cond (eqb x 0) K W
