pub mod Filling
pub mod Appended
