mod Answered
mod Pairs
