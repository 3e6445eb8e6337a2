pub mod WakingLaws
