pub mod OwnInputs
pub mod DeliveredLaws
