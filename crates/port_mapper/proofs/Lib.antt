mod Appends
mod Heard
mod Streams
