-- The endless schedule and its theorems, in the order in which to read them.
pub mod Counting
pub mod Plan
pub mod Hyperperiod
pub mod Schedule
pub mod Verdict
pub mod Judgement
pub mod Claims
