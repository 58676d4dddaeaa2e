mod Getting
mod Runs
mod Handed
mod InHand
mod Once
mod Remembered
mod Allowed
