-- 01, "Ring arithmetic": the table of powers, and the transform that the product is made by.
pub mod Powers
pub mod Transform
