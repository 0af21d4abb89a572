pub mod Made
pub mod Marks
pub mod Grown
pub mod Linked
