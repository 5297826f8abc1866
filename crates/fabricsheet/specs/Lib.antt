-- what the program writes for a file
pub mod SheetText
