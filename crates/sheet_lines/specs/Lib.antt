pub mod Text
pub mod TextLaws
pub mod Shape
pub mod ShapeLaws
