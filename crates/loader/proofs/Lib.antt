-- Laws of loading.
pub mod Loads
