pub mod Alone
pub use Rattle.hitting_set_tree.specs.Found
pub use Rattle.hitting_set_tree.specs.Open
pub use Rattle.hitting_set_tree.specs.declared.tree.Found as TreeFound
pub use Rattle.hitting_set_tree.specs.Tree
