pub mod DiffersLaws
