-- one table for both ends
pub mod Mirror
