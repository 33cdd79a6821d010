pub mod AnnotatedRows
pub mod ChangedStates
pub mod Filtered
pub mod OtherRows
pub mod OwnBookLaws
pub mod OwnBooks
pub mod ReadBooks
pub mod ValidStates
