-- the largest ends over lines seen
pub mod Gathering
-- the search for the first line with a low end
pub mod Searching
