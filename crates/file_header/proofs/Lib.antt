pub mod Opens
pub mod HeaderLaws
pub mod OpenLaws
pub mod LimitLaws
