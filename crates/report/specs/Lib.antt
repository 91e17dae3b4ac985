-- What is printed for the bytes of a sheet, in the order in which to read it; the last two serve private functions.
pub mod Prints
pub mod Reports
pub mod Prepares
pub mod Writes
