pub mod Lists
pub mod Order
pub mod Readings
pub mod NodeLaws
pub mod EntryLaws
pub mod EntryLoop
pub mod WalkLaws
pub mod Lengths
