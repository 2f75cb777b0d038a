mod Fronts
mod Disks
pub mod Busy
mod Renewals
pub mod Asides
mod Rests
mod Kept
mod Placed
pub mod Left
mod Sounds
mod Advances
mod Failed
mod Renewed
mod Exchanged
mod New
pub mod Creating
mod Sized
mod Exact
mod OneFault
pub mod Begun
pub mod Growing
pub mod TwoVaults
mod Passes
mod Companions
mod Headed
mod Pieces
mod Made
pub mod Behind
mod Stepped
pub mod Steps
pub mod Wholes
mod Bodies
mod Opened
mod HandedOn
mod Looked
mod SnapshotRead
mod InPieces
mod NotInPieces
pub mod Sends
