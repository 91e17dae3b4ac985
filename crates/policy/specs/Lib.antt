-- Policies, and the jobs of a slot, in the order in which to read them; the last three are proofs that a type and three impls name.
pub mod Order
pub mod Keys
pub mod Plans
pub mod Ages
pub mod Sets
pub mod Members
pub mod Releases
pub mod Dispatch
pub mod Slots
pub mod Settled
pub mod Numbers
pub mod Groups
