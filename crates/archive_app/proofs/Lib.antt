mod CauseLaws
mod HeldLaws
