-- Each export promises what the call behind it promises.
pub mod Same
