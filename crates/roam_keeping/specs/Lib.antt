pub mod Obstacles
pub mod Turns
