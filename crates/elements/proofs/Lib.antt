-- what counting answers, refused or not
pub mod CountLaws
