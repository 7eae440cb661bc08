-- How facts are kept so that each is found by one look: between representatives, and again between those that later
-- joins leave. The representative of a node is reached by links, each from a node that was one to a lesser one, in
-- their order.
use Rattle.std.specs.Prelude.{◌≡◌, ℕ, ◌==◌, ◌<◌, ◌&&◌, ◌||◌, min, max, Bool, false, List, [], ◌∷◌, ◌++◌, map, length}
use Rattle.std.specs.Prelude.{take, get_or, Option, Some, None, if◌then◌else◌}
use Rattle.std.specs.List.{list_any}
use Rattle.calculus_specs.specs.declared.facts.Fact.{Fact}
use Rattle.calculus_specs.specs.declared.facts.Fact.TheVariants as F
use Rattle.branch_facts.specs.declared.seen.Seen.{Seen}
use Rattle.branch_facts.specs.declared.seen.Seen.TheVariants.{Has, Edge, Apart}
use Rattle.branch_facts.specs.declared.branch_facts.Entry.{Entry}

-- what is kept of some facts
pub record Index : Type 0 where
  pub seen : List Seen
  pub links : List (ℕ × ℕ)

-- ---- nodes

-- what a node becomes by a link
abbrev pub renamed : ℕ → ℕ → ℕ → ℕ
renamed high low x = if x == high then low else x

-- and by several, in order
abbrev pub through : List (ℕ × ℕ) → ℕ → ℕ
through [] x = x
through (l ∷ ls) x = through ls (renamed l.0 l.1 x)

-- a link leads from a node that the links before it leave as it is, a representative of its time, to a lesser one
pub record IsLink (before : List (ℕ × ℕ)) (link : ℕ × ℕ) : Type 0 where
  pub falls : link.1 < link.0
  pub from_representative : through before link.0 ≡ link.0
  pub to_representative : through before link.1 ≡ link.1

-- each link may follow those before it
pub record AreLinks (ls : List (ℕ × ℕ)) : Type 0 where
  pub each : (p : ℕ) (d : ℕ × ℕ) → p < length ls → IsLink (take p ls) (get_or ls p d)

-- ---- facts

-- two facts that are kept are the same
abbrev pub is_same : Seen → Seen → Bool
is_same (Has x c) (Has y d) = x == y && c == d
is_same (Edge r x y) (Edge s v w) = r == s && (x == v && y == w)
is_same (Apart x y) (Apart v w) = x == v && y == w
is_same _ _ = false

-- the fact is kept
abbrev pub is_seen : List Seen → Seen → Bool
is_seen seen f = list_any (is_same f) seen

-- the representatives of two nodes are apart, in either order
abbrev pub are_seen_apart : Index → ℕ → ℕ → Bool
are_seen_apart i x y =
    is_seen i.seen (Apart (through i.links x) (through i.links y))
    || is_seen i.seen (Apart (through i.links y) (through i.links x))

-- the facts that are kept with one more, where it is not among them
abbrev pub with_seen : List Seen → Seen → List Seen
with_seen seen f = if is_seen seen f then seen else seen ++ f ∷ []

-- the fact speaks of the node
abbrev pub mentions : ℕ → Seen → Bool
mentions x (Has y c) = y == x
mentions x (Edge r y z) = y == x || z == x
mentions x (Apart y z) = y == x || z == x

-- the fact with one node in place of another one
abbrev pub seen_renamed : ℕ → ℕ → Seen → Seen
seen_renamed high low (Has x c) = Has (renamed high low x) c
seen_renamed high low (Edge r x y) = Edge r (renamed high low x) (renamed high low y)
seen_renamed high low (Apart x y) = Apart (renamed high low x) (renamed high low y)

-- with the fact said of another node, where it is one of the node
abbrev pub copied_one : ℕ → ℕ → List Seen → Seen → List Seen
copied_one high low seen f = if mentions high f then with_seen seen (seen_renamed high low f) else seen

-- with what is said of one node said of another as well
abbrev pub copied : ℕ → ℕ → List Seen → List Seen → List Seen
copied high low [] seen = seen
copied high low (f ∷ fs) seen = copied high low fs (copied_one high low seen f)

-- the same of one fact that may be there
abbrev pub copied_at : ℕ → ℕ → Index → Option Seen → Index
copied_at high low i None = i
copied_at high low i (Some f) = record { seen = copied_one high low i.seen f; links = i.links }

-- ---- one fact more

-- the index in which each fact of one node is said of another one too
abbrev pub index_copied : Index → ℕ → ℕ → Index
index_copied i high low = record { seen = copied high low i.seen i.seen; links = i.links }

-- the index after one node is linked to another one
abbrev pub index_linked : Index → ℕ → ℕ → Index
index_linked i high low = record { seen = copied high low i.seen i.seen; links = i.links ++ (high, low) ∷ [] }

-- two representatives become one, the lesser
abbrev pub index_joined : Index → ℕ → ℕ → Index
index_joined i y z = if y == z then i else index_linked i (max y z) (min y z)

-- two nodes, by their representatives
abbrev pub index_joining : Index → ℕ → ℕ → Index
index_joining i x y = index_joined i (through i.links x) (through i.links y)

-- the index with one fact more
abbrev pub seeing : Index → Seen → Index
seeing i f = record { seen = with_seen i.seen f; links = i.links }

-- the index after one fact of a branch more
abbrev pub index_after : Index → Fact ℕ → Index
index_after i (F.Has x c) = seeing i (Has (through i.links x) c)
index_after i (F.Edge r x y) = seeing i (Edge r (through i.links x) (through i.links y))
index_after i (F.Apart x y) = seeing i (Apart (through i.links x) (through i.links y))
index_after i (F.Same x y) = index_joining i x y

-- the index after some facts of a branch more, in order
abbrev pub index_from : Index → List (Fact ℕ) → Index
index_from i [] = i
index_from i (f ∷ fs) = index_from (index_after i f) fs

-- what is kept of a list of facts
abbrev pub index_of : List (Fact ℕ) → Index
index_of fs = index_from (record { seen = []; links = [] }) fs

-- the later index begins with the earlier one
pub record Begins (earlier later : Index) : Type 0 where
  pub seen : take (length earlier.seen) later.seen ≡ earlier.seen
  pub links : take (length earlier.links) later.links ≡ earlier.links

-- ---- entries

-- the facts of some entries, in order
abbrev pub entry_facts : List Entry → List (Fact ℕ)
entry_facts es = map (λ e. e.fact) es

-- each entry tells how much was kept before its fact
pub record AreEntries (es : List Entry) : Type 0 where
  pub seen_before : (p : ℕ) (d : Entry) → p < length es
      → (get_or es p d).seen ≡ length (index_of (entry_facts (take p es))).seen
  pub links_before : (p : ℕ) (d : Entry) → p < length es
      → (get_or es p d).links ≡ length (index_of (entry_facts (take p es))).links
