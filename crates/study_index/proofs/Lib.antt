pub mod Corrected
pub mod Definitions
pub mod Doubles
pub mod Flagged
pub mod Visits
pub mod LeadLaws
mod Folded
pub mod MarkLaws
pub mod KeyLaws
pub mod Studies
pub mod Trees
pub mod Walks
