mod CurveLemmas
mod InPlaceLemmas
pub mod KindLaws
pub mod LengthLemmas
