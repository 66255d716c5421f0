-- A deletion leaves the largest consistent part: by ids, by links, by members and values.
pub mod LeftLargest
pub mod Roles
pub mod DeletedIds
pub mod KindsGone
pub mod Between
pub mod Leads
pub mod DeletedLinks
pub mod DeletedMembers
pub mod DeletedExclusive
pub mod DeletionLargest
pub mod DeletionLaws
pub mod DeletionSteps
pub mod ExclusiveTaken
