pub mod Lines
pub mod Messages
pub mod Months
pub mod Reports
