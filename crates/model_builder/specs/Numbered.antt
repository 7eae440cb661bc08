-- The elements of facts by their numbers, as they are found node by node. There are `first` first nodes.
use Rattle.std.specs.Prelude.{◌≡◌, ℕ, List, [], ◌∷◌, map, length, filter, Option, Some, None, unwrap_or, slice_index_or}
use Rattle.std.specs.Prelude.{if◌then◌else◌}
use Rattle.std.specs.List.{range_with_len}
use Rattle.calculus_specs.specs.declared.facts.Fact.{Fact}
use Rattle.tableau_specs.specs.declared.Block.{Block}
use Rattle.tableau_specs.specs.declared.Block.TheVariants.{Clear, By, Under}
use Rattle.search_laws.specs.Elements.{is_element, original}

-- the elements among the first n nodes
abbrev pub elements_below : ℕ → List (Fact ℕ) → ℕ → List ℕ
elements_below first fs n = filter (is_element first fs) (range_with_len 0 n)

-- the number of an element: how many come before it. Another node has none
abbrev pub number_of : ℕ → List (Fact ℕ) → ℕ → Option ℕ
number_of first fs x = if is_element first fs x then Some (length (elements_below first fs x)) else None

-- the node that an element is like. Another node is like none
abbrev pub like_node : ℕ → List (Fact ℕ) → ℕ → Option ℕ
like_node first fs x = if is_element first fs x then Some (original first fs x) else None

-- the same of a representative, by its block
abbrev pub original_in : Block → ℕ → Option ℕ
original_in Clear x = Some x
original_in (By z) x = Some z
original_in Under x = None

-- the number of the element that a first node is one with, among the numbers of all nodes
abbrev pub place_of : List (Option ℕ) → (ℕ → ℕ) → ℕ → ℕ
place_of numbers m a = unwrap_or (slice_index_or numbers (m a) None) 0

-- ---- one node more, which is like a node where it is an element

-- the number k, where there is an element
abbrev pub number_in : ℕ → Option ℕ → Option ℕ
number_in k None = None
number_in k (Some z) = Some k

-- the element as a list of one, or of none
abbrev pub original_list : Option ℕ → List ℕ
original_list None = []
original_list (Some z) = z ∷ []

-- ---- the nodes below a bound

-- of the first n nodes these are the numbers, and these are the nodes that the elements among them are like
pub record AreNumbered (first : ℕ) (fs : List (Fact ℕ)) (n : ℕ) (numbers : List (Option ℕ)) (originals : List ℕ) :
    Type 0 where
  pub numbers_are : numbers ≡ map (number_of first fs) (range_with_len 0 n)
  pub originals_are : originals ≡ map (original first fs) (elements_below first fs n)
