mod Bounds
mod Commands
mod Given
mod Numbers
mod One
