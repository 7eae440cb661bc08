-- The trigger of the row by which a search uses a part: at the names among the conjuncts, where there are any; else at
-- an edge of the first existential restriction among them; else everywhere. A range is used at the ends of edges.
use Rattle.std.specs.Prelude.{ℕ, ◌+◌, List, [], ◌∷◌, map, Option, None, Some, if◌then◌else◌}
use Rattle.std.specs.Option.{option_or}
use Rattle.shq_terms.specs.Concept.{Concept, some_of}
use Rattle.calculus_specs.specs.Rows.{Part, inclusion, range, conjunct_at, is_name, Trigger, row_of}
use Rattle.calculus_specs.specs.Rows.Trigger.{always, names, edge, end_of}

-- the positions of the conjuncts that are names, where the first conjunct has the position `first`
abbrev pub name_positions : ℕ → List Concept → List ℕ
name_positions first [] = []
name_positions first (c ∷ cs) =
    if is_name c then first ∷ name_positions (first + 1) cs else name_positions (first + 1) cs

-- the role of a concept 'some'
abbrev pub role_of_some : Concept → Option ℕ
role_of_some (some_of r c) = Some r
role_of_some _ = None

-- the role of the first existential restriction
abbrev pub first_role : List Concept → Option ℕ
first_role [] = None
first_role (c ∷ cs) = option_or (role_of_some c) (first_role cs)

abbrev pub edge_trigger : Option ℕ → Trigger
edge_trigger None = always
edge_trigger (Some r) = edge r

-- of positions of names, and of the role of an existential restriction
abbrev pub inclusion_trigger : List ℕ → Option ℕ → Trigger
inclusion_trigger [] role = edge_trigger role
inclusion_trigger (p ∷ ps) role = names (p ∷ ps)

-- the trigger of the row by which a search uses a part
abbrev pub trigger_for : Part → Trigger
trigger_for (inclusion cs d) = inclusion_trigger (name_positions 1 cs) (first_role cs)
trigger_for (range r d) = end_of r

-- the conjuncts for which a trigger waits
abbrev pub premises_for : Part → Trigger → List Concept
premises_for (inclusion cs d) (names ps) = map (conjunct_at cs) ps
premises_for _ _ = []

-- the concept of the part's row with this trigger
abbrev pub fixed_concept : Part → Option Concept
fixed_concept q = row_of q (trigger_for q)
