pub mod RetapeCall
