-- What is printed for the lines of an input: which of them spell a sheet, and what an output gets.
pub mod Spelling
pub mod Printing
