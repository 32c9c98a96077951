-- What the call's own abort asks and comes to.
pub mod Own
