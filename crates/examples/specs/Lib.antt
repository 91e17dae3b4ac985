-- The worked examples, in the order in which to read them.
pub mod Policies
pub mod Kinds
pub mod Rows
pub mod Client
