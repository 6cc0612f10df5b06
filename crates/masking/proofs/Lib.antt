-- What is bound of v (`Chosen`) and of z (`Numbers`), and the inner product of both (`Inner`).
pub mod Chosen
pub mod Numbers
pub mod Inner
