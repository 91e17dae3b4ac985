-- Lemmas of the proofs in this folder.
pub mod Spelled
pub mod Told
pub mod Single
