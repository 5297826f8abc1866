-- what a field gives in each of its cases, items read one after another, and what holds of what was parsed
pub mod ParsingLaws
-- the table of a table byte
pub mod FieldsLaws
