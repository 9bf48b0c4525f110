pub mod Meanings
pub mod Sets
pub mod Slip
pub mod Card
pub mod Joint
pub mod Shutter
pub mod Strainer
