-- The clash of an insertion by lookups: where they find none a lawful graph is made, where they find one there is none.
pub mod Hierarchy
pub mod OneRole
pub mod Schema
pub mod Full
pub mod SharedValues
pub mod MoreRoles
pub mod MoreLinks
pub mod LookupTests
pub mod Wanted
pub mod Possible
pub mod PossibleLinks
pub mod PossibleExclusive
pub mod Impossible
pub mod LookedUp
pub mod LookupClash
