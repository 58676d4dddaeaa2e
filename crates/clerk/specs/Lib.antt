pub mod Quotas
pub mod Times
pub mod Periods
