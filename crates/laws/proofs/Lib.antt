-- Tests: what is chosen by one, several joined, and over the numbers below a bound.

pub mod Bools
pub mod Iterated
pub mod Joined
pub mod All
pub mod Count
pub mod Sum
pub mod First
pub mod Firsts
pub mod Table
pub mod Fractions
-- Lists: what they hold, in which order, once each; with an element put, moved or taken out.

pub mod Sequence
pub mod FirstOf
pub mod Keep
pub mod Move
pub mod Order
pub mod MoveOrder
pub mod Once
pub mod Falling
pub mod Newest
pub mod ChosenTimes
-- Chains of links.

pub mod Chain
pub mod ChainChange
pub mod ChainAmong
pub mod ChainSkip
pub mod Onto
pub mod Walk
-- Columns: read by places, written at a place, filled from the front.

pub mod Places
pub mod Update
pub mod Index
pub mod Fill
pub mod Front
pub mod Building
pub mod Writing
