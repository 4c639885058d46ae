pub mod Triple
