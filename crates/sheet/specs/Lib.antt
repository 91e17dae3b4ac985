-- Timing sheets, in the order in which to read them; the last serves the private functions of the decoder.
pub mod Format
pub mod Faults
pub mod Decoding
pub mod Buffers
pub mod Encoding
pub mod Theorems
pub mod Reading
