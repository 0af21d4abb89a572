pub mod Emit
pub mod EmitLaws
pub mod LinkedLaws
pub mod PutLaws
pub mod StepLaws
