pub mod Call
pub mod Ledger
pub mod Model
