mod Lookups
mod SessionSearch
mod MappedSessions
mod NotedEvidence
mod KeptBlocks
mod Changes
mod FittingCases
mod Rules
