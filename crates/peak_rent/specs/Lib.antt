pub mod Refusals
pub mod Rents
