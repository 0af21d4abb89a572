pub mod Records
pub mod RecordsLaws
