-- The cases of document 01, computed; the rooms of laws, from lists to lists of tickets; the theorems.
pub mod Cases
pub mod Lists
pub mod Words
pub mod Consistency
pub mod Tickets
pub mod Insertion
pub mod Deletion
pub mod Clash
pub mod Register
pub mod Operators
pub mod Theorems
pub mod ExclusiveTheorems
pub mod OperatorTheorems
