pub mod ListStringsLaws
