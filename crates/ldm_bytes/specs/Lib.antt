pub mod Places
pub mod Numbers
pub mod Guid
pub mod Tables
