-- lists whose stretches are written in turn
pub mod StretchesLaws
-- the rows and wires that the parts of U write
pub mod BlockLaws
-- writing U, in the code's order
pub mod UniversalWriteLaws
-- writing the fabric, in the code's order
pub mod WritingLaws
-- after success the lent table begins with the fabric's
pub mod FabricWriteLaws
