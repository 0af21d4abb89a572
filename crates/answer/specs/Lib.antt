pub mod Answer
pub mod Cut
