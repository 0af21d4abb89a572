pub mod SubstLaws
pub mod FormLaws
pub mod Nodes
pub mod NodesLaws
pub mod Forms
pub mod FormsLaws
pub mod TableLaws
pub mod BoundLaws
