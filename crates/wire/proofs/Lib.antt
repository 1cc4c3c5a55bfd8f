-- Checks: lists of checks. Forms: a request's bytes. Records: an answer's bytes.
pub mod Checks
pub mod Forms
pub mod Records
