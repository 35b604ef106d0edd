mod Masks
mod Methods
mod Stops
