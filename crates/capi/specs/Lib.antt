-- what the exports' structs say
pub mod Exports
