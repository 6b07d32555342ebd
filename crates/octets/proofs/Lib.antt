pub mod ByteLaws
pub mod JoinedLaws
pub mod PaddingLaws
pub mod TextLemmas
