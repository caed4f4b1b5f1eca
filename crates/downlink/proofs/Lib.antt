pub mod DownLaws
