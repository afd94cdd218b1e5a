pub mod Objects
pub mod NodeRows
pub mod Spellable
pub mod Texts
pub mod InitialWords
