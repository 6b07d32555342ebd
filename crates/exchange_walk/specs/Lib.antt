pub mod Answers
pub mod Splits
pub mod Hearing
pub mod Laws
pub mod WholeWalks
