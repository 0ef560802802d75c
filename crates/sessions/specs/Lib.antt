-- What any list of calls comes to.
pub mod Session
