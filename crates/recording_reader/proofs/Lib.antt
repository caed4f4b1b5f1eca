pub mod ScanLaws
pub mod CallLaws
