pub mod Building
pub mod Refusals
pub mod Shelves
pub mod State
pub mod Asking
pub mod Closing
pub mod Changing
