-- Readiness by the place where a station stands.
pub mod Places
