-- lists given place by place
pub mod Lists
-- counting the numbers that pass a test
pub mod Counting
