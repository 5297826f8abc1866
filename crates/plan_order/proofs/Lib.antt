-- The laws of taking gates.
-- what is left over is a ring, and what is taken is in order
pub mod OrderLaws
-- the plan of a drawing is accepted, and gives what the drawing gives
pub mod DrawingLaws
