pub mod Alike
mod AnswerLaws
pub mod AuditLaws
pub mod CoercionLaws
pub mod GetLaws
pub mod Keeping
pub mod Latest
pub mod MemberLaws
pub mod ModelLaws
pub mod PreparedLaws
pub mod RowLaws
