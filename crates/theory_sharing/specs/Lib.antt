-- The sharing over any group with a product, from what must be believed first to what is built on it.
pub mod Ops
pub mod Sites
pub mod Circuit
pub mod Values
pub mod Order
pub mod Published
pub mod Steps
pub mod First
pub mod Run
pub mod Senders
pub mod Tapes
pub mod Line
pub mod Store
pub mod View
pub mod Retape
pub mod Traffic
