-- What only private contracts cite.
pub mod Held
pub mod Swept
pub mod Outside
