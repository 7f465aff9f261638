pub mod Carry
pub mod Global
pub mod Taking
