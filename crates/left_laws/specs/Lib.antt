pub mod Lefts
pub mod NumbersLaws
pub mod ReadyLaws
pub mod RoomLaws
pub mod BodyLaws
