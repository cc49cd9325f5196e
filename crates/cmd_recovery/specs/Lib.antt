-- The content of a state directory, the journal for which it stands, and the finding of a start there.
pub mod Feeds
pub mod Histories
pub mod Directories
pub mod Pieces
pub mod Replays
pub mod Updates
pub mod Finds
pub mod Resumes
pub mod Assigns
pub mod Checkpoints
pub mod CheckpointLaws
pub mod Starts
pub mod Laws
pub mod FeedStarts
pub mod Ever
pub mod Lives
