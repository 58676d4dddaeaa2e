mod Apart
mod Counted
mod Right
mod Stocked
