pub mod FaultLaws
pub mod GateLaws
pub mod HeaderLaws
pub mod Hears
pub mod PassLaws
pub mod FileLaws
