pub mod CommonReads
pub mod Intervals
pub mod RangeReads
pub mod WordLoop
