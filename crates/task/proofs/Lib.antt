pub mod Flattened
pub mod Steps
pub mod Obeying
pub mod Holding
pub mod Leaving
