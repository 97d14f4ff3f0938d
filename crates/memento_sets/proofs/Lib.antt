pub mod Semilattice
pub mod Maps
pub mod Sets
pub mod Ordered
pub mod Rising
pub mod UnitedLemmas
pub mod Searched
pub mod Same
