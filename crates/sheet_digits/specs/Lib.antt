pub mod SixLaws
