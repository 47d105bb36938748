-- what stands at a place of a text
pub mod Places
pub mod Fields
-- the number, the literal and the letter at a place
pub mod Numbers
pub mod Tokens
pub mod ReadDigits
pub mod Letters
