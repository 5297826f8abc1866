-- laws of the common vocabulary, handed on
pub mod ElementsLaws
-- counts, levels and wanted lists of P and S, handed on
pub mod NetworksLaws
-- when the calls succeed, handed on
pub mod CallsLaws
-- P and S are blocks as promised, and the calls leave such blocks
pub mod PromisesLaws
