-- what is held beside the areas
pub mod Beside
-- which line an evaluation tells
pub mod Before
