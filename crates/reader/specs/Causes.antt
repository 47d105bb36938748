-- Why a page is refused, in document 01. Assumes nothing.
use Rattle.std.specs.Prelude.{ℕ}
use Rattle.semantics.specs.ReadPage.{Refusal as PageRefusal, Fault as LineFault}
use Rattle.reader.specs.declared.Cause.{Cause}
use Rattle.reader.specs.declared.Cause.TheVariants.{TooLong, Unended, Form, Range, TooManyLines, AreaShort, Weight, OverTop, Crossed, SecondDefault}
use Rattle.reader.specs.declared.Refusal.{Refusal}
use Rattle.reader.specs.declared.check.Fault.{Fault}

-- the number of each cause
abbrev pub number_of : Cause → ℕ
number_of TooLong = 1
number_of Unended = 2
number_of Form = 3
number_of Range = 4
number_of TooManyLines = 5
number_of AreaShort = 6
number_of Weight = 21
number_of OverTop = 22
number_of Crossed = 23
number_of SecondDefault = 24

-- what is wrong with a line, and a refusal
abbrev pub fault_told : Fault → LineFault
fault_told f = record { number = number_of f.cause; place = f.place }

abbrev pub refusal_told : Refusal → PageRefusal
refusal_told r = record { number = number_of r.cause; line = r.line; place = r.place }
