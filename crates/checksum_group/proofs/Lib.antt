pub mod SlotLaws
pub mod RoundTrips
