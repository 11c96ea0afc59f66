pub mod CallSequences
