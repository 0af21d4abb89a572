pub mod Bits
pub mod BitsLaws
pub mod Outside
pub mod OutsideLaws
