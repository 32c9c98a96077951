-- The call that six plain numbers name, and the six numbers of a call; such a call in a journal.
pub mod Numbers
pub mod Journal
