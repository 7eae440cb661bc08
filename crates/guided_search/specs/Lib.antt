pub mod ClosedTableau
pub mod TableauExamples
pub mod Laws
