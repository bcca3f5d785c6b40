pub mod ByteOrder
pub mod Alike
