mod Taking
mod Standing
mod Changing
mod Asking
mod Coming
