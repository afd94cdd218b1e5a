mod Spaces
mod One
mod Found
