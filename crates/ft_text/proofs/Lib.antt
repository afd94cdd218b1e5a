pub mod Texts
pub mod FirstWords
pub mod Decided
pub mod LineWordLaws
pub mod NumberWords
