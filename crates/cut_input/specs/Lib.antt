pub mod PieceLaws
pub mod Pieces
pub mod RestLaws
