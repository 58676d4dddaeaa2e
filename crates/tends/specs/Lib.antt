pub mod Rests
pub mod Refusals
pub mod Even
pub mod Shares
pub mod Gathered
pub mod Ends
