-- Laws of the work slice.
pub mod Places
pub mod Regions
pub mod Words
pub mod Appending
pub mod Shifting
pub mod Fronts
pub mod Holds
pub mod Stands
pub mod Views
pub mod Falls
