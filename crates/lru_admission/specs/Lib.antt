pub mod Admission
pub mod Laws
pub mod Sketch
pub mod SketchLaws
pub mod Representation
