-- What the looks of an abort ask and come to.
pub mod Looks
