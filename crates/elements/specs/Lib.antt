-- the limit of wires, the kinds' numbers, what counting says, also by kind
pub mod Elements
