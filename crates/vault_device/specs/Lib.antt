pub mod Disk
pub mod Memory
pub mod MemoryView
pub mod MemoryLaws
pub mod MemDevice
pub mod RawFile
pub mod SettledByte
pub mod Picks
