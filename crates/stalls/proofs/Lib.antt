-- the calls on the shared area, cause by cause
pub mod Refusals
-- what is lent from a beginning on
pub mod Lent
-- a turn by three drives
pub mod ThreeDrives
pub mod Turning
