pub mod Kind
pub mod Counts
pub mod Wrapping
pub mod Buckets
pub mod Histogram
pub mod Totals
