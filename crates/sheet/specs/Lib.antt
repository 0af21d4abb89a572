pub mod Format
pub mod Line
pub mod Sheet
pub mod Output
