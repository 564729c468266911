pub mod GroupLaws
pub mod FamilyLaws
pub mod Demands
pub mod Example
