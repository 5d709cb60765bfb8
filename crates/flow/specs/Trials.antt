-- Worked texts: no part of what must be believed, they show that the definition says what RULES says.
pub mod Sent
