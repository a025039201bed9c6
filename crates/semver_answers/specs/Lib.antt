pub mod Lines
pub mod Names
pub mod Replies
pub mod Commands
pub mod Answers
pub mod Outcome
pub mod Internal
