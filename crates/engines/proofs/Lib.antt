pub mod TakenUp
