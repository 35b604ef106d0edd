mod Order
mod Asking
