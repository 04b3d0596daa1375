pub mod Pools
pub mod Nexts
pub mod Statics
pub mod Layouts
pub mod Dynamics
