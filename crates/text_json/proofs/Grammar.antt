-- The law of `specs/Read.antt`: what it reads is what RFC 8259's grammar in `specs/Grammar.antt` says.
--     Agree      a whole text is read as a tree exactly where the grammar gives it that tree; a text has one tree
--     Sound      what is read is in the grammar
--     Complete   what is in the grammar is read, where the text after it does not go on as a number does
--     ReadEnds   the rest of every reading function is an end of its text
--     AsBytes    a text of the grammar stays one where numbers that are no bytes are replaced by a byte
--     Start      where reading is stuck, the longest start ends that some JSON text begins with
pub mod Ends
pub mod Answer
pub mod Rests
pub mod Bytes
pub mod Sound
pub mod Complete
pub mod Agree
pub mod ReadEnds
pub mod Local
pub mod Open
pub mod AsBytes
pub mod Start
