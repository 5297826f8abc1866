-- packed bits are an exact program
pub mod RunFaultLaws
