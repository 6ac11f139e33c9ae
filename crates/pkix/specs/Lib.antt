pub mod EcKeys
pub mod InPlace
pub mod Records
pub mod Versions
pub mod TbsParts
