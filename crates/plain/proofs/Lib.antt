pub mod ValueLaws
pub mod PlainCall
