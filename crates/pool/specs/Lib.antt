pub mod Order
pub mod Model
pub mod Static
pub mod Layout
pub mod Dynamic
pub mod Soundness
