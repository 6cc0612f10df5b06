-- 01, "The record", and 02, C-11: the forms of a record, the header and its test, the section calls, and the bytes of a record.
pub mod Forms
pub mod Headers
pub mod Sections
pub mod Sizes
