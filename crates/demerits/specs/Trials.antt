-- Texts and numbers of RULES, computed.
pub mod Examples
