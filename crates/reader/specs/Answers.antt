-- What the answers of the crate's functions are in document 01. Assumes nothing.
use Rattle.std.specs.Prelude.{ℕ, Result, Ok, Err}
use Rattle.semantics.specs.ReadPage.{ReadAnswer, read_page, refused_page}
use Rattle.reader.specs.declared.Refusal.{Refusal}
use Rattle.reader.specs.Causes.{number_of}

-- Read a page: the used length, or a refusal's number, line and place
abbrev pub answer_of : Result ℕ Refusal → ReadAnswer
answer_of (Ok used) = read_page used
answer_of (Err r) = refused_page (number_of r.cause) r.line r.place
