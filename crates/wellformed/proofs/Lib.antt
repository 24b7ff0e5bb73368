pub mod LimitLaws
pub mod EndLaws
pub mod WordLaws
pub mod SoundLaws
pub mod SoundWhole
pub mod AnswerLaws
