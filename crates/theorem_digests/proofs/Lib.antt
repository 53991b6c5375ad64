pub mod OwnRecords
pub mod FewRecords
pub mod Spellings
pub mod Telling
pub mod ByDigests
pub mod SmallSettle
