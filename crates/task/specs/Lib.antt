-- Tasks and their tables, in the order in which to read them.
pub mod Names
pub mod Refusals
pub mod Rules
pub mod Tables
pub mod Theorems
