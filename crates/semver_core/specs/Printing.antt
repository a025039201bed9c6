pub mod Text
pub mod RoundTrip
