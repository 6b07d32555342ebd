pub mod WildCard
pub mod WildCardFront
pub mod Range
pub mod Matches
pub mod Prepared
