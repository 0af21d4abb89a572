pub mod KeptLaws
pub mod StatesLaws
