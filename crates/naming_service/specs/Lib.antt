pub mod Ends
pub mod Naming
pub mod NamingHistory
pub mod Registrations
