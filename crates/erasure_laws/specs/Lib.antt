pub mod Bodies
pub mod BodiesLaws
pub mod Rounds
pub mod RoundsLaws
pub mod Fixpoint
pub mod FixpointLaws
