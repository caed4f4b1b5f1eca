pub mod CarryLaws
pub mod FrontLaws
