pub mod Asked
pub mod Keeps
