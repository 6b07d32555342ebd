-- The proofs of the laws, which the implementations of the traits name. No clause cites them.
pub mod Options
pub mod Orders
pub mod Sets
pub mod Pairs
pub mod Ascending
pub mod Maps
pub mod Exact
