pub mod Holds
pub mod View
