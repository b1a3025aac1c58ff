mod Counting
mod Parts
