-- the forms of the lines
pub mod LetterCodes
pub mod Forms
pub mod Pairs
pub mod LiteralFields
