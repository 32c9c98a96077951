pub mod Words
pub mod Course
pub mod Rows
pub mod Steps
