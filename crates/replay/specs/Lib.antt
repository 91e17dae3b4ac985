-- What the contracts of the program say; what it reads and prints is tested.
pub mod Denials
pub mod Printing
