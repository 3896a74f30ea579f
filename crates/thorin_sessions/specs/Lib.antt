pub mod Sessions
pub mod MemorySession
pub mod ArenaSession
