pub mod Sessions
pub mod SessionLaws
pub mod ExchangeOrder
pub mod ExchangeGroups
