pub mod Keeping
pub mod Joins
pub mod Naming
pub mod Parts
pub mod Lining
pub mod Stacking
pub mod Allowing
pub mod Reporting
