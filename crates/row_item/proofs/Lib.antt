pub mod AfterLaws
