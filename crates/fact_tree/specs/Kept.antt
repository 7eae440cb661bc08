-- What a tree keeps of a list of facts, as a fold over it: a link for each node, to its representative, and the lists
-- of each node, of which those of representatives are read.
use Rattle.std.specs.Prelude.{◌≡◌, ℕ, zero, suc, ◌==◌, min, max, List, [], ◌∷◌, ◌++◌, length, take, get_or}
use Rattle.std.specs.Prelude.{if◌then◌else◌, slice_set}
use Rattle.std.specs.List.{list_any}
use Rattle.calculus_specs.specs.declared.facts.Fact.{Fact}
use Rattle.calculus_specs.specs.declared.facts.Fact.TheVariants.{Has, Edge, Apart, Same}
use Rattle.calculus_specs.specs.Joins.{rep_after}

-- the lists of a node
pub record Lists : Type 0 where
  -- the role of the first edge into the node, and where that edge begins; no matter at a first node
  pub origin : ℕ × ℕ
  pub members : List ℕ
  pub concepts : List ℕ
  pub edges : List (ℕ × ℕ)
  pub aparts : List ℕ

-- what a tree keeps: of each node a link to its representative, and lists
pub record Kept : Type 0 where
  pub links : List ℕ
  pub nodes : List Lists

-- ---- one node

-- the lists of a new node: it is its own member, and in top
abbrev pub new_lists : ℕ → (ℕ × ℕ) → Lists
new_lists node origin = record { origin = origin; members = node ∷ []; concepts = 0 ∷ []; edges = []; aparts = [] }

-- the concepts with one more, where it is not among them
abbrev pub with_concept : List ℕ → ℕ → List ℕ
with_concept cs c = if list_any (λ d. d == c) cs then cs else cs ++ c ∷ []

-- the concepts with some more, each where it is not among them
abbrev pub with_concepts : List ℕ → List ℕ → List ℕ
with_concepts cs [] = cs
with_concepts cs (d ∷ ds) = with_concepts (with_concept cs d) ds

-- the lists of a node that has one concept more
abbrev pub having : ℕ → Lists → Lists
having c n = record n { concepts = with_concept n.concepts c }

-- the lists of a node from which one edge more leads
abbrev pub leading : ℕ → ℕ → Lists → Lists
leading role end n = record n { edges = n.edges ++ (role, end) ∷ [] }

-- the lists of a node that is apart from one more
abbrev pub parted : ℕ → Lists → Lists
parted other n = record n { aparts = n.aparts ++ other ∷ [] }

-- with several concepts put last, of which each that is there already stays where it is
abbrev pub putting : List ℕ → Lists → Lists
putting cs n = record n { concepts = with_concepts n.concepts cs }

-- with what another node has put behind
abbrev pub absorbing : Lists → Lists → Lists
absorbing other n = record n {
  members = n.members ++ other.members;
  concepts = with_concepts n.concepts other.concepts;
  edges = n.edges ++ other.edges;
  aparts = n.aparts ++ other.aparts;
}

-- the later lists begin with the earlier ones
pub record Begins (earlier later : Lists) : Type 0 where
  pub origin : later.origin ≡ earlier.origin
  pub members : take (length earlier.members) later.members ≡ earlier.members
  pub concepts : take (length earlier.concepts) later.concepts ≡ earlier.concepts
  pub edges : take (length earlier.edges) later.edges ≡ earlier.edges
  pub aparts : take (length earlier.aparts) later.aparts ≡ earlier.aparts

-- the lists cut to these lengths
abbrev pub cut_lists : ℕ → ℕ → ℕ → ℕ → Lists → Lists
cut_lists members concepts edges aparts n = record n {
  members = take members n.members;
  concepts = take concepts n.concepts;
  edges = take edges n.edges;
  aparts = take aparts n.aparts;
}

-- ---- all nodes

-- the lists that stand for those of a node that is not there
abbrev pub bare : Lists
bare = new_lists 0 (0, 0)

-- the lists of a node
abbrev pub lists_at : Kept → ℕ → Lists
lists_at k x = get_or k.nodes x bare

-- what is kept, with the lists of one node changed
abbrev pub changed_at : ℕ → (Lists → Lists) → Kept → Kept
changed_at x change k = record { links = k.links; nodes = slice_set k.nodes x (change (lists_at k x)) }

-- with a new node, a representative
abbrev pub grown : (ℕ × ℕ) → Kept → Kept
grown origin k =
    record { links = k.links ++ length k.links ∷ []; nodes = k.nodes ++ new_lists (length k.nodes) origin ∷ [] }

-- the nodes, of which the lower of two has the lists of the higher put behind its own
abbrev pub absorbed_at : ℕ → ℕ → List Lists → List Lists
absorbed_at high low ns = slice_set ns low (absorbing (get_or ns high bare) (get_or ns low bare))

-- the list with this value at each of the places
abbrev pub set_each : List ℕ → ℕ → List ℕ → List ℕ
set_each [] v xs = xs
set_each (p ∷ ps) v xs = set_each ps v (slice_set xs p v)

-- the lower of two representatives gets the lists of the higher, whose members are linked to it
abbrev pub linked : ℕ → ℕ → Kept → Kept
linked high low k = record {
  links = set_each (lists_at k high).members low k.links;
  nodes = slice_set k.nodes low (absorbing (lists_at k high) (lists_at k low));
}

-- an edge makes its end where that is the next number
abbrev pub made : (ℕ × ℕ) → ℕ → Kept → Kept
made origin to k = if to == length k.nodes then grown origin k else k

-- the node whose lists a fact changes, where m leads each node to its representative
abbrev pub at_of : (ℕ → ℕ) → Fact ℕ → ℕ
at_of m (Has y c) = m y
at_of m (Edge r y z) = m y
at_of m (Apart y z) = m y
at_of m (Same y z) = min (m y) (m z)

-- the node that it links, if it links any
abbrev pub high_of : (ℕ → ℕ) → Fact ℕ → ℕ
high_of m (Has y c) = m y
high_of m (Edge r y z) = m y
high_of m (Apart y z) = m y
high_of m (Same y z) = max (m y) (m z)

-- after one fact more, where these are the two nodes
abbrev pub after_at : ℕ → ℕ → Fact ℕ → Kept → Kept
after_at at high (Has y c) k = changed_at at (having c) k
after_at at high (Edge r y z) k = changed_at at (leading r z) (made (r, y) z k)
after_at at high (Apart y z) k = changed_at at (parted z) k
after_at at high (Same y z) k = if at == high then k else linked high at k

-- what is kept after one fact more
abbrev pub after : (ℕ → ℕ) → Fact ℕ → Kept → Kept
after m f k = after_at (at_of m f) (high_of m f) f k

-- what is kept after some facts more, in order
abbrev pub kept_from : (ℕ → ℕ) → List (Fact ℕ) → Kept → Kept
kept_from m [] k = k
kept_from m (f ∷ fs) k = kept_from (rep_after m f) fs (after m f k)

-- the first nodes alone, of which nothing is known
abbrev pub empty : ℕ → Kept
empty zero = record { links = []; nodes = [] }
empty (suc n) = grown (0, 0) (empty n)

-- what is kept of a list of facts, over so many first nodes
abbrev pub kept_of : ℕ → List (Fact ℕ) → Kept
kept_of first fs = kept_from (λ x. x) fs (empty first)
