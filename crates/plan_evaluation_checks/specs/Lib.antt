-- Document 01, "Refusal table".
-- "Plan evaluation: plan faults, 12, 11": the checks, and when they pass
pub mod EvaluationChecks
