mod Ends
mod Notes
mod Steps
mod Walked
