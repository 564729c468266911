pub mod RefusalLaws
pub mod FoundLaws
