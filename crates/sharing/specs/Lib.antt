pub mod Floor
pub mod Shares
pub mod Fair
