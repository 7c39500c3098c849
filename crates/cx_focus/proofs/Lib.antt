mod Answered
mod Put
