-- Typing: what each call hands back.
pub mod Typing
