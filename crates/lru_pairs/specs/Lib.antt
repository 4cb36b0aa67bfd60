pub mod Pairs
pub mod Representation
pub mod Beside
pub mod NodesLends
pub mod PairsLends
