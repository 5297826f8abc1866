-- counts grow with the limit; the n-th number that passes; sums, and counts of classes that add up
pub mod CountingLaws
-- the length and the elements of a list given place by place, and when two are equal; what holds at each place after a store
pub mod ListsLaws
