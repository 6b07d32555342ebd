pub mod CutLaws
pub mod DeedLaws
pub mod Fronts
pub mod HandLaws
pub mod OutboxLaws
pub mod PieceLaws
pub mod StepLaws
pub mod TurnLaws
