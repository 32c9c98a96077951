-- The lemmas of whom the walks meet and of the walks, in the order to read them. The proof of a function stands in a
-- folder of its module's and its name.
pub mod Meeting
pub mod Walking
pub mod Queues
pub mod Aborting
pub mod Waiting
pub mod Placing
