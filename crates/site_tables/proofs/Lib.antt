pub mod AlignedLaws
pub mod ConflictLaws
pub mod InstanceLaws
pub mod OrderLaws
pub mod RejectedLaws
pub mod ShownLaws
pub mod StudyLaws
pub mod UnderLaws
