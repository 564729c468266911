pub mod GateLaws
pub mod GatesLaws
