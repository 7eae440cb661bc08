pub use Rattle.blocking.proofs.BlockLists
