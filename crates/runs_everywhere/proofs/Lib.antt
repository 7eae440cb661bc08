mod Worlds
mod Carried
mod Sets
mod Classes
mod Decided
mod Listed
mod Individuals
mod Told
