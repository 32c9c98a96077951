-- The functions: what they hold, answer and write.
pub mod Taking
pub mod Holding
-- For every division of the bytes the text is that of the whole.
pub mod Enough
pub mod Texts
pub mod Behind
pub mod Feeding
pub mod Streams
pub mod Division
