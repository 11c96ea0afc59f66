mod Examples
mod Limits
pub mod WordLemmas
pub mod GraphsBy
pub mod FewBits
pub mod AnsweredScripts
pub mod ShownEnds
pub mod ServedDevices
pub mod Services
pub mod AskedServices
pub mod ServedFrames
pub mod ServedSearches
pub mod Unread
pub mod Scripts
pub mod Endings
pub mod Headline
pub mod Details
pub mod WholeGraphs
pub mod LoadedAdders
pub mod GateDevices
