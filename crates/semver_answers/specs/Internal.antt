pub mod Ahead
pub mod CommandWords
pub mod KindWords
pub mod Parts
pub mod Puts
pub mod Results
pub mod Steps
