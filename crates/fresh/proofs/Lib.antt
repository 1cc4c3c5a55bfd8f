-- Opened: what a host is left with, by what an opening gives.
pub mod Opened
