pub mod Sheets
pub mod SheetsLaws
