pub mod Sends
mod Heard
