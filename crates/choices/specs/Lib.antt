-- 01, "Response": the sign choices.
pub mod Choices
pub mod Signs
