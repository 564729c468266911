-- What the listing's writers leave in a lent room.
pub mod Mirror
