mod Recounted
mod Tallied
mod Opened
