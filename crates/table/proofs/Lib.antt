-- Rows: what a right table says of each row, and the test row by row.
pub mod Rows
