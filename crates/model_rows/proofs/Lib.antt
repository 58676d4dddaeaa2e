mod Cases
mod Access
mod Mounting
mod Opening
mod Pages
mod HandlesOfARun
