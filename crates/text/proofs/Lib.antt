pub mod Decoder
pub mod Forms
pub mod Places
pub mod Glyphs
pub mod Letters
pub mod Leads
pub mod Glue
pub mod Damage
pub mod Joining
pub mod Rows
pub mod Asciis
pub mod Cuts
pub mod Eights
mod Printable
mod Worked
pub mod Extents
pub mod Spelling
pub mod Blanks
pub mod NoBreaks
pub mod Edges
