-- Definitions that only private contracts cite.
pub mod Gathering
pub mod Desks
pub mod Texts
pub mod Telling
pub mod Holding
pub mod Obeying
