-- `Scan` for the search of an entry beyond; `Rule` for what the length rule tells where it is kept.
pub mod Scan
pub mod Rule
