pub mod Trips
mod Pieces
mod Stamped
