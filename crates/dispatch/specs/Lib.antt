-- What is asked of a call before it is carried out, and what it comes to.
pub mod Steps
