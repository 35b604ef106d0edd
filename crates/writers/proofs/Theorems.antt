pub mod SmallestLength
