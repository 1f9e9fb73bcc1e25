mod Standing
mod Playing
mod Rounds
mod ClientTurns
mod Kept
mod PageTurns
