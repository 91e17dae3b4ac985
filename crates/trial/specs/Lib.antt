-- The slots of a trial, in the order in which to read them; the last four serve what a run knows from slot to slot.
pub mod Cycles
pub mod Places
pub mod Trials
pub mod LastSet
pub mod Slots
pub mod Arriving
pub mod Calendars
pub mod Settled
