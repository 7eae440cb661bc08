-- The items of a group nest less deep than the group.
use Rattle.std.specs.Prelude.{◌+◌, ◌≤◌, max, List, [], ◌∷◌}
use Rattle.std.proofs.Common.{arith}
use denote.Param.Weighed.{most}
use Rattle.ofn_tree.specs.Items.{Item, items_of, nesting, nesting_all}
use Rattle.ofn_tree.specs.Form.{form_item}
use Rattle.ofn_tree.specs.declared.form.Form.{Form}
use Rattle.ofn_tree.specs.declared.form.Form.TheVariants.{Name, Iri, Literal, Sign, Group}
use Rattle.ofn_tree.specs.declared.form.Tree.TheDeep.{deep-Form}

pub most_le-nesting_all : (is : List Item) → most (λ i. nesting i + 1) is ≤ nesting_all (items_of is) + 1
most_le-nesting_all [] = omega arith
most_le-nesting_all (i ∷ is) = omega (arith, most_le-nesting_all is)

pub deep_le-nesting : (f : Form) → max (deep-Form f) 0 ≤ nesting (form_item f)
deep_le-nesting (Name text line) = omega arith
deep_le-nesting (Iri text line) = omega arith
deep_le-nesting (Literal line) = omega arith
deep_le-nesting (Sign kind line) = omega arith
deep_le-nesting (Group head is line) = omega (arith, most_le-nesting_all is.items)
