pub mod Zipped
pub mod NodeMeaning
pub mod EqualNodes
pub mod Literals
pub mod MoreNodes
pub mod NodeCopies
pub mod NodesBelow
pub mod Rules
