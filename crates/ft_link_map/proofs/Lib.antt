mod Spaces
mod OneLine
mod FoundLines
mod NamedSets
mod Soundness
mod Walked
