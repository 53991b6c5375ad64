pub mod HeadlineOfRuns
pub mod WorkedHeadline
