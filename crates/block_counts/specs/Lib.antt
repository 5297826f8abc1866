-- what counting P and S answers
pub mod BlockCounting
