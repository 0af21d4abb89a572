pub mod Closure
pub mod ClosureLaws
pub mod Ones
pub mod OnesLaws
