-- What an interpretation keeps, and what it stands for. Members, pairs and individuals are kept in ascending order,
-- each once.
use Rattle.std.specs.Prelude.{ℕ, ◌≤◌, Bool, ◌&&◌, nat_eq, nat_lt, IsTrue, List, Option, slice_get, unwrap_or}
use Rattle.std.specs.Prelude.{if◌then◌else◌}
use Rattle.std.specs.List.{list_any, list_all, filter}
use Rattle.std.specs.BTreeSet.{insert_key}
use Rattle.std.specs.BTreeMap.{insert_entry, is_at}
use Rattle.std.specs.Map.{lookup, remove_entry}
use Rattle.std.specs.BTreeMap.Range.{range_contains}
use Rattle.std.specs.declared.ops.Bound.TheVariants.{Included}
use Rattle.std.specs.declared.cmp.Ordering.{Ordering}
use Rattle.std.specs.Ordering.{nat_cmp, ordering_then}
use Rattle.shq_meaning.specs.Truth.{Interpretation}

-- each class with each of its elements, each role with each of its pairs, and each individual that is another element
-- than 0 with its element
pub record ModelLists : Type 0 where
  pub size : ℕ
  pub members : List (ℕ × ℕ)
  pub links : List (ℕ × ℕ × ℕ)
  pub individuals : List (ℕ × ℕ)

-- the element of each member is one of the domain, which has that many, and so are both elements of each pair
abbrev pub members_below : ℕ → List (ℕ × ℕ) → Bool
members_below size ms = list_all (λ m. nat_lt m.1 size) ms

-- both elements of each pair are below the size
abbrev pub links_below : ℕ → List (ℕ × ℕ × ℕ) → Bool
links_below size ls = list_all (λ l. nat_lt l.1 size && nat_lt l.2 size) ls

-- the element of each individual is one of the domain, and is not 0
abbrev pub individuals_below : ℕ → List (ℕ × ℕ) → Bool
individuals_below size ps = list_all (λ p. nat_lt 0 p.1 && nat_lt p.1 size) ps

-- some elements, members and pairs of them, and individuals that are some of them
pub record IsDomain (size : ℕ) (members : List (ℕ × ℕ)) (links : List (ℕ × ℕ × ℕ)) (individuals : List (ℕ × ℕ)) :
    Type 0 where
  pub some : 1 ≤ size
  pub members_inside : IsTrue (members_below size members)
  pub links_inside : IsTrue (links_below size links)
  pub individuals_inside : IsTrue (individuals_below size individuals)

-- the class and the element of a member
abbrev pub is_member : ℕ → ℕ → ℕ × ℕ → Bool
is_member a x m = nat_eq m.0 a && nat_eq m.1 x

-- the role and the pair of a link
abbrev pub is_link : ℕ → ℕ → ℕ → ℕ × ℕ × ℕ → Bool
is_link r x y l = nat_eq l.0 r && nat_eq l.1 x && nat_eq l.2 y

-- the pair begins with the element, in the role
abbrev pub is_from : ℕ → ℕ → ℕ × ℕ × ℕ → Bool
is_from r x l = nat_eq l.0 r && nat_eq l.1 x

-- some pair of the role begins with the element
abbrev pub begins : ModelLists → ℕ → ℕ → Bool
begins k r x = list_any (is_from r x) k.links

-- the element that stands with the individual, or else 0
abbrev pub element_at : List (ℕ × ℕ) → ℕ → ℕ
element_at ps a = unwrap_or (lookup (is_at (nat_cmp a)) ps) 0

-- the interpretation that the lists of a model stand for
abbrev pub meaning : ModelLists → Interpretation
meaning k = record {
  size = k.size;
  in_class = λ a x. list_any (is_member a x) k.members;
  in_role = λ r x y. list_any (is_link r x y) k.links;
  individual = element_at k.individuals;
}

-- by class, and then by element
abbrev pub member_cmp : ℕ × ℕ → ℕ × ℕ → Ordering
member_cmp a b = ordering_then (nat_cmp a.0 b.0) (nat_cmp a.1 b.1)

-- by role, then by the first of the pair, and then by the second
abbrev pub link_cmp : ℕ × ℕ × ℕ → ℕ × ℕ × ℕ → Ordering
link_cmp a b = ordering_then (nat_cmp a.0 b.0) (ordering_then (nat_cmp a.1 b.1) (nat_cmp a.2 b.2))

-- the same order, as a set of triples keeps it
abbrev pub tuple_cmp : ℕ × ℕ × ℕ → ℕ × ℕ × ℕ → Ordering
tuple_cmp a b = ordering_then (ordering_then (nat_cmp a.0 b.0) (nat_cmp a.1 b.1)) (nat_cmp a.2 b.2)

-- one member more, and one pair more
abbrev pub with_member : ℕ → ℕ → ModelLists → ModelLists
with_member a x k = record k { members = insert_key member_cmp k.members (a, x) }

-- the model with one pair of a role more
abbrev pub with_link : ℕ → ℕ → ℕ → ModelLists → ModelLists
with_link r x y k = record k { links = insert_key link_cmp k.links (r, x, y) }

-- the individuals, where one is that element, whatever it was before
abbrev pub placed : ℕ → ℕ → List (ℕ × ℕ) → List (ℕ × ℕ)
placed a x ps = if nat_eq x 0 then remove_entry (is_at (nat_cmp a)) ps else insert_entry nat_cmp ps a x

-- the model with an individual placed at an element
abbrev pub with_individual : ℕ → ℕ → ModelLists → ModelLists
with_individual a x k = record k { individuals = placed a x k.individuals }

-- the first of a list between two bounds
abbrev pub first_between : {T : Type 0} → (T → T → Ordering) → T → T → List T → Option T
first_between cmp low high ts = slice_get (filter (range_contains cmp (Included low) (Included high)) ts) 0
