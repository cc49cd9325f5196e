-- Who is notified, and when: a file a subject.
pub mod Letters
pub mod Viable
pub mod Objects
pub mod Escalations
pub mod Interval
pub mod Recipients
pub mod Custom
pub mod Ends
pub mod Places
