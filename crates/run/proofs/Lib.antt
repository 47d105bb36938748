-- answers, cause by cause
pub mod Answering
-- a drive, evaluation by evaluation
pub mod Driving
