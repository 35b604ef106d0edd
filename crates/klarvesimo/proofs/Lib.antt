mod Calling
mod Holding
