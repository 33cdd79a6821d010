pub mod FillLaws
pub mod Forms
pub mod KeyLaws
pub mod Numbers
pub mod Numerals
pub mod RunLaws
