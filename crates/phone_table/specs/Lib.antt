pub mod Lends
pub mod Phones
pub mod Usable
pub mod Views
