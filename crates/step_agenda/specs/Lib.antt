pub use Rattle.blocking.specs.Followed
pub use Rattle.blocking.specs.Changed
pub use Rattle.blocking.specs.Trail
pub use Rattle.blocking.specs.Entry
pub use Rattle.blocking.specs.Entries
pub use Rattle.blocking.specs.By
pub use Rattle.blocking.specs.Marks
