-- Definitions that only private contracts cite.
pub mod Outside
pub mod Leaving
pub mod Settled
