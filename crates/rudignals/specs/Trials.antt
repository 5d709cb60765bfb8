-- Texts and numbers of RULES, computed.
pub mod Computing
pub mod MarkedTexts
pub mod Indexes
pub mod Reasons
pub mod Checked
pub mod Lent
