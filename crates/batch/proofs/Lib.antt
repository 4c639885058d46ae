pub mod BatchLaws
