mod Remaining
mod Ended
mod Headline
