mod Sizes
mod Bounds
