-- What a depot's call answers, and what it leaves in the stores and the room, for every input.
pub mod Depot
pub mod DepotSays
pub mod inside
