mod Loading
mod Settings
