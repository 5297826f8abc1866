-- Laws of sizes.
-- sizes that are allowed, and the counts of P and S, which are small then
pub mod SizesLaws
