-- Document 02, W1: gates in the order in which they were drawn.
-- taking gates: the order, what is left over, and when there is a ring
pub mod Order
-- a drawing, the plan that its order makes of it, and that the two give the same
pub mod Drawing
