pub mod CombinationLaws
