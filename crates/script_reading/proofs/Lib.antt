mod Allowances
mod Lists
mod Names
mod Openings
mod Passes
mod RuleOrder
pub mod Refused
