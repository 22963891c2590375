pub mod Leads
pub mod PhoneLaw
pub mod PhoneHistory
