pub mod Search
pub mod SearchLaws
pub mod QueueLaws
pub mod TurnLaws
pub mod Loops
pub mod LoopsLaws
