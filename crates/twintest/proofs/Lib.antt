-- how long line one is at most
pub mod CountsLineLaws
