-- Each axiom within the limits has no more parts than all together.
use Rattle.std.proofs.Common.{◌≡◌, ◌≤◌, true, List, [], ◌∷◌, length, arith}
use Rattle.std.specs.Prelude.{IsTrue}
use Rattle.std.specs.List.{list_all, All}
use Rattle.std.proofs.lemmas.Bool.{and_parts}
use Rattle.std.proofs.lemmas.List.Elements.{All-nil, All-cons}
use Rattle.role_box.specs.Numbered.{Numbered}
use Rattle.shq_nnf.specs.Parts.{axiom_parts, axiom_has_counts_within}
use Rattle.ontology_limits.specs.Limits.{part_count}
use Rattle.ontology_limits.specs.Laws.{EachAxiomIsInLimit}

abbrev IsWithin : Numbered → Type 0
IsWithin n = IsTrue (axiom_has_counts_within 100 n.axiom) × (length (axiom_parts n.axiom) ≤ 500000)

each_within : (axioms : List Numbered) → list_all (λ (n : Numbered). axiom_has_counts_within 100 n.axiom) axioms ≡ true
    → part_count axioms ≤ 500000 → All IsWithin axioms
each_within [] counts few = All-nil IsWithin
each_within (a ∷ as_) counts few =
    let b =
    and_parts (axiom_has_counts_within 100 a.axiom)
    (list_all (λ (n : Numbered). axiom_has_counts_within 100 n.axiom) as_) counts in
    All-cons IsWithin a as_ (b.0, omega arith) (each_within as_ b.1 (omega arith))

pub each_is_within : EachAxiomIsInLimit
each_is_within o limit = each_within o.axioms limit.counts limit.few_parts
