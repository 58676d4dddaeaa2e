mod Crossing
mod Lending
mod Heirs
mod Told
