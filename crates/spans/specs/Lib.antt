-- The proof sheet.
pub mod Span
