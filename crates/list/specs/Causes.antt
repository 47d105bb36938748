-- Why a list is refused. Assumes nothing.
use Rattle.std.specs.Prelude.{ℕ, Result, Ok, Err}
use Rattle.std.proofs.Math.Option.{Option, none, some}
use Rattle.list.specs.declared.Cause.{Cause}
use Rattle.list.specs.declared.Cause.TheVariants.{Form, Range, Order}

-- the number of each cause
abbrev pub number_of : Cause → ℕ
number_of Form = 40
number_of Range = 41
number_of Order = 42

-- the number that a check tells, if it refuses
abbrev pub told : {A : Type 0} → Result A Cause → Option ℕ
told (Ok a) = none
told (Err c) = some (number_of c)
