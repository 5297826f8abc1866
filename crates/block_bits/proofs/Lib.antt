-- Laws of program bits in lent bytes.
-- storing bits one after another, in any order, in a part of the bytes, and in cleared bytes
pub mod StoreLaws
-- storing several bits of one byte at once
pub mod FieldLaws
-- storing the lowest bits of many bytes
pub mod PackingLaws
