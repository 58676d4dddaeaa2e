pub mod Shapes
pub mod Stable
pub mod Device
pub mod Arguments
pub mod Results
pub mod lemmas
