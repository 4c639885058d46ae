pub mod MapTests
