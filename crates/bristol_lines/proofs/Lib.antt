pub mod SeenLaws
pub mod CountsLaws
pub mod WidthsLaws
pub mod WiresLaws
pub mod GateLaws
pub mod LineLaws
pub mod LoopLaws
