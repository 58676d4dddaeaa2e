pub mod Inode
pub mod Links
