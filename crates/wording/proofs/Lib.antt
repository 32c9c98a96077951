-- Facts about sentences, in the order to read them: causes; the parts of a line; its length; that it is one line; that
-- call and answer can be read back; the entry; lines computed. The proof of each function stands in the folder of its
-- name.
pub mod Causes
pub mod Parts
pub mod Lengths
pub mod OneLine
pub mod Requests
pub mod Apart
pub mod Entry
pub mod Examples
