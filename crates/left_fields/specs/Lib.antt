pub mod Fields
pub mod FieldsLaws
