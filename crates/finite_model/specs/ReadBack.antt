-- The text of a model is read back.
use Rattle.std.specs.Prelude.{◌≡◌, ◌^◌, ◌<◌, ◌≤◌, IsTrue, Some}
use Rattle.std.specs.List.Sorted.{IsStrictlySortedBy}
use Rattle.std.specs.Map.{keys_of}
use Rattle.std.specs.Ordering.{nat_cmp}
use Rattle.certificate_lines.specs.Lines.{lines}
use Rattle.certificate_lines.specs.Names.{AreNames}
use Rattle.shq_terms.specs.Listed.{Listed}
use Rattle.finite_model.specs.ModelLists.{ModelLists, members_below, links_below, individuals_below, member_cmp}
use Rattle.finite_model.specs.ModelLists.{link_cmp}
use Rattle.finite_model.specs.ModelText.{model_of}
use Rattle.finite_model.specs.Written.{uses_listed_names, model_text}

-- an interpretation of listed classes, roles and individuals, as its members, pairs and individuals are kept
pub record IsKept (o : Listed) (k : ModelLists) : Type 0 where
  pub some : 1 ≤ k.size
  pub small : k.size < 2 ^ 32
  pub listed : IsTrue (uses_listed_names o k)
  pub members_ascend : IsStrictlySortedBy member_cmp k.members
  pub members_inside : IsTrue (members_below k.size k.members)
  pub links_ascend : IsStrictlySortedBy link_cmp k.links
  pub links_inside : IsTrue (links_below k.size k.links)
  pub individuals_ascend : IsStrictlySortedBy nat_cmp (keys_of k.individuals)
  pub individuals_inside : IsTrue (individuals_below k.size k.individuals)

-- the lines of a model's text stand for this model
abbrev pub ModelsAreReadBack : Type 0
ModelsAreReadBack =
    (o : Listed) (k : ModelLists) → AreNames o.classes → AreNames o.roles → AreNames o.individuals → IsKept o k
    → model_of o (lines (model_text o k)) ≡ Some k
