pub mod Giving
pub mod Printing
pub mod Lining
pub mod Single
pub mod Reporting
