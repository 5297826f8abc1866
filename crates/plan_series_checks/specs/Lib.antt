-- Document 02, W6, "Checks: 16, hold, .. after the plan, fabric and program faults; then 12, .. then 11".
-- the checks in their order
pub mod SeriesChecks
