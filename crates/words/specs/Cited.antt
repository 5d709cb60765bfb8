-- What the contracts of the code cite: no part of what must be believed of the call.
pub mod Places
pub mod Scan
pub mod Split
pub mod Spaced
pub mod Taken
