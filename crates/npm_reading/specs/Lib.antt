pub mod Alike
pub mod Internal
pub mod Messages
pub mod RangeFlaws
pub mod Ranges
pub mod Readings
