-- which text each case has, and that it fits
pub mod SheetTextLaws
