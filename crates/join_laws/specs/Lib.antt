pub mod Laws
pub mod Least
pub mod Greatest
pub mod Proved
pub mod GrowSet
pub mod PairOf
pub mod MapOf
pub mod Journal
