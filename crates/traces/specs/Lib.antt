-- Each tag with its rule (document 02, W6).
pub mod Trace
pub mod Last
pub mod Note
