pub mod AskedMessages
pub mod LiveWaits
pub mod PhoneCauses
pub mod ScheduleLines
pub mod TaskPrograms
pub mod TasksInTurn
pub mod ToldPhones
