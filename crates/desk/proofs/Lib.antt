mod Made
mod Slots
mod Worked
