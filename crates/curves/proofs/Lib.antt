pub mod CurveLemmas
