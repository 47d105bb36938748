-- both ends of a body value
pub mod Body
-- the first line with a low end
pub mod FirstLine
