-- Laws of places.
pub mod Places
