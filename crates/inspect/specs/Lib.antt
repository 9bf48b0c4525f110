pub mod Plain
pub mod Written
pub mod Names
pub mod Trees
pub mod Kinds
pub mod Formulas
pub mod Lines
pub mod Reports
