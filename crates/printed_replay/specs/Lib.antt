pub mod Quotas
pub mod Word
