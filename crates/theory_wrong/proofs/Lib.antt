pub mod Promise
pub mod PromiseForC
pub mod Right
pub mod ShutOut
pub mod RetapingShutOut
pub mod AnswersShutOut
pub mod TextsShutOut
pub mod ForCShutOut
