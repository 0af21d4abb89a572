pub mod Guard
pub mod Chosen
pub mod Laying
pub mod Screening
