-- 01, "Key".
pub mod Key
