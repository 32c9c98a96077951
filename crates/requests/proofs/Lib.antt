-- Facts about requests, in the order to read them.
-- The proof of each function stands in the folder of its name.
pub mod Fits
