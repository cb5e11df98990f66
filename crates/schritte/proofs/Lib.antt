pub mod Rules
pub mod IndexRules
pub mod TestedRules
