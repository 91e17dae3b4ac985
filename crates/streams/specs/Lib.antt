-- What the programs share at their edge.
pub mod Failures
