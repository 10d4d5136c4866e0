pub mod Earlier
pub mod Settles
