-- What the contracts of the code cite: no part of what must be believed of the call.
pub mod Course
pub mod Alone
pub mod Texts
