pub mod Accepted
pub mod Ends
pub mod Grows
pub mod Sections
