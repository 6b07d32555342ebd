pub mod StandInLaws
pub mod StringLaws
