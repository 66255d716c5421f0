-- Facts and their words, which facts are allowed, how a table is laid out.
pub mod FactLaws
pub mod Digits
pub mod Allowed
pub mod Tables
pub mod LaidOut
