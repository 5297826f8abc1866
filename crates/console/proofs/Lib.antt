-- text that is put behind text
pub mod TextLaws
-- the kit's decimal digits are those of a number
pub mod DecimalLaws
-- what the programs take
pub mod PlansLaws
