pub mod Left
pub mod Emit
pub mod Filling
pub mod EmitLaws
pub mod CodeLaws
