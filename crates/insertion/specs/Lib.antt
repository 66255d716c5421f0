pub mod Growth
pub mod GrowAnswers
pub mod Keeps
