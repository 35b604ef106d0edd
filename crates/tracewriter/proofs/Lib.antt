mod Counting
mod Ending
mod Leaving
