mod Cut
mod OneRead
mod OneWrite
mod UnderKeys
