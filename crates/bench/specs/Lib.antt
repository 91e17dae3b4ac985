-- The bench, its calls and their law, in the order in which to read them.
pub mod Calls
pub mod Modes
pub mod Lines
pub mod Steps
pub mod Refusing
pub mod EachCall
pub mod Book
pub mod Judged
pub mod Law
