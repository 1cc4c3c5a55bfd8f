-- What holds of desks, whatever board they belong to.
--   Eldest            the laws of `eldest`
--   Locking           the locks way by way
--   Ages              no two desks have the same age
pub mod Eldest
pub mod Locking
pub mod Ages
