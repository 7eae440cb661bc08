pub mod Listed
pub mod Filed
pub mod Found
pub mod Made
pub mod Positions
pub mod Meets
pub mod Carried
pub mod Lacking
pub use Rattle.row_cache.proofs.NumberedParts
pub use Rattle.tableau_specs.proofs.Listed as ListedTrails
pub use Rattle.tableau_specs.proofs.Moved
