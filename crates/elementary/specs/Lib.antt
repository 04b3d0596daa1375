pub mod Ids
pub mod Refusals
pub mod Settings
pub mod Handlers
