pub mod Engine
pub mod Wrong
pub mod Retaping
pub mod WrongReads
pub mod WrongRuns
pub mod WrongTexts
pub mod WrongForC
