pub mod Steps
pub mod Met
