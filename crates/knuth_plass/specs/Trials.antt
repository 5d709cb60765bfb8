-- Words of RULES, broken by computing.
pub mod Widthless
