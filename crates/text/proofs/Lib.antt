pub mod Codecs
pub mod Numerals
pub mod Pastes
pub mod Pieces
pub mod Repeats
pub mod Rows
pub mod Signs
pub mod Tokens
