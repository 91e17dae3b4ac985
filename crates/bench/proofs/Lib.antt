pub mod Placing
pub mod Refusing
pub mod Sheeting
pub mod Judging
pub mod Answering
pub mod Booking
pub mod Keeping
pub mod Writing
