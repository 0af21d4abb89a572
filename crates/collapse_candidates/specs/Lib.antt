pub mod Payloads
pub mod PayloadsLaws
pub mod Candidates
pub mod CandidatesLaws
