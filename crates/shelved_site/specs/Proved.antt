-- The proofs of the laws, which the implementations of the traits name. No clause cites them.
pub mod Logs
pub mod Shelves
