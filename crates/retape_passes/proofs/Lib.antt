pub mod StepLaws
pub mod StateLaws
pub mod GateLaw
pub mod BothPasses
