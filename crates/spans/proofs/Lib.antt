-- Laws of the proof sheet.
pub mod Span
