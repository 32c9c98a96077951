-- The specification: the text of a call, and of what stops a journal, in each form.
pub mod Forms
