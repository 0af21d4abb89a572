pub mod Params
pub mod ParamsLaws
pub mod Nodes
pub mod NodesLaws
