mod NextStates
mod BitModels
mod ProbedCases
pub mod Asked
mod TakenWords
pub mod ClauseAnswers
