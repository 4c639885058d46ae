pub mod BookTests
