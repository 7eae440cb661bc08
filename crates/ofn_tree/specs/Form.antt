-- The plain tree that a form stands for.
use Rattle.std.specs.Prelude.{ℕ, List, Option, Some, None}
use Rattle.ofn_tree.specs.Items.{Item, name_item, iri_item, literal_item, sign_item, group_item, items_of}
use Rattle.ofn_tree.specs.declared.form.Form.{Form}
use Rattle.ofn_tree.specs.declared.form.Form.TheVariants.{Name, Iri, Literal, Sign, Group}
use denote.Ref.{Bor}

-- the bytes of a group's name, if it has one
abbrev pub head_text : Option (Bor (List ℕ)) → Option (List ℕ)
head_text None = None
head_text (Some text) = Some text.now

-- the item that a form of the code stands for
abbrev pub form_item : Form → Item
form_item (Name text line) = name_item text.now line
form_item (Iri text line) = iri_item text.now line
form_item (Literal line) = literal_item line
form_item (Sign kind line) = sign_item kind line
form_item (Group head is line) = group_item (head_text head) (items_of is.items) line
