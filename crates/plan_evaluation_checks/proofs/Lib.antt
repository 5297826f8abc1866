-- what holds where the checks of evaluation pass
pub mod EvaluationChecksLaws
