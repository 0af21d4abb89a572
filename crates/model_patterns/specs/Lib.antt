pub mod Pat
