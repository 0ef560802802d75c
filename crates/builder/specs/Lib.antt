-- From rules to the bytes of a table.
pub mod Rules
pub mod Rows
