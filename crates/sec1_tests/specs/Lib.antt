-- Keys and points of the tests, and the contents of their records.
pub mod Examples
pub mod Nested
