-- Tests: cases on a test. First: laws of `first`. Digits: a number's binary digits. Laws: what callers use of sets of items.
pub mod Tests
pub mod First
pub mod Digits
pub mod Laws
pub mod Examples
pub mod Counted
