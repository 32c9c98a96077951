-- That the six numbers of a call name it.
pub mod RoundTrip
