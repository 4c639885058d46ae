pub mod TestLaws
pub mod RecordLaws
pub mod CardWords
pub mod RoundTrips
pub mod RefusalLaws
