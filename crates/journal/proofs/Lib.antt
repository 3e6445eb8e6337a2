pub mod Extents
pub mod Groups
pub mod Names
pub mod Edges
pub mod WriteEdges
