pub mod Policies
pub mod Traces
pub mod Representation
pub mod TraceLines
pub mod Numbers
pub mod Limits
pub mod Tasks
pub mod Plots
