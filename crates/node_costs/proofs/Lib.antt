pub mod Totals
pub mod Conditions
pub mod Sets
pub mod States
pub mod Tests
pub mod Nodes
