-- The parts that a reader counts are those that a search takes, and the facts of assertions.
use Rattle.std.specs.Prelude.{◌≡◌, ◌+◌, List, [], ◌∷◌, length}
use Rattle.shq_terms.specs.declared.axioms.Axiom.{Axiom}
use Rattle.ontology_limits.specs.Facts.{facts_of}
use Rattle.ontology_limits.specs.Parts.{axiom_parts}
use Rattle.ofn_tree.specs.Items.{Items}
use Rattle.ofn_expressions.specs.Counts.{Counts}
use Rattle.ofn_expressions.specs.Names.{Prefix}
use Rattle.ofn_expressions.specs.Classes.{item_count}
use Rattle.ofn_reader.specs.declared.keywords.AxiomKind.{AxiomKind}
use Rattle.ofn_reader.specs.Axioms.{parts_by_item_count, axiom_made}

-- an axiom that items say has as many parts and facts as are counted for them
abbrev pub PartsAreCounted : Type 0
PartsAreCounted =
    (ps : List Prefix) (s : Counts) (k : AxiomKind) (is : Items) (a : Axiom) → axiom_made ps s k is ≡ a ∷ []
    → parts_by_item_count k (item_count is) ≡ length (axiom_parts a) + length (facts_of a)
