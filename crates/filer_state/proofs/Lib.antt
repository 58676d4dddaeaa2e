mod FileidMaps
mod Laid
mod Begun
mod Counted
mod Places
