-- What the contracts of `refusal` cite.
-- the numbers of the refusals
pub mod Numbers
