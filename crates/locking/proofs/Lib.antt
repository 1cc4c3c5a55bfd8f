-- Search: a loop that looks for the eldest desk.
pub mod Search
