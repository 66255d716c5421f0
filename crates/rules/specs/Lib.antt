pub mod RuleOf
pub mod Earlier
pub mod Tested
