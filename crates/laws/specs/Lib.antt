-- Words that the definitions of every layer share.
pub mod Integers
pub mod Lists
pub mod Refusals
