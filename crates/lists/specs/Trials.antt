-- What tables of worked texts are written and compared with: no part of what must be believed.
pub mod Bytes
