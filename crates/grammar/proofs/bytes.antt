-- The machine on bytes.
pub mod Decimal
pub mod Fixed
pub mod ByteRuns
pub mod Pendings
pub mod ByteSound
pub mod TokenBytes
pub mod ByteComplete
pub mod TokenLaw
pub mod InRange
pub mod ByteFinish
pub mod OneReading
