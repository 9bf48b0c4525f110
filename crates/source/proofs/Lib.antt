pub mod Bits
pub mod Slips
pub mod Asked
