-- Limits of the ontologies of the tests.
use Rattle.std.proofs.Common.{◌≡◌, ℕ, ◌≤◌, List, [], ◌∷◌, ◌++◌, length, subst, sym}
use Rattle.std.specs.Prelude.{IsTrue}
use Rattle.std.proofs.lemmas.List.Elements.{All-push}
use Rattle.shq_terms.specs.declared.axioms.Numbered.{Numbered}
use Rattle.shq_nnf.specs.Parts.{axiom_parts, axiom_has_counts_within}
use Rattle.row_cache.specs.Rows.{AreInLimit}

-- one axiom more
pub one_more : (axioms more : List Numbered) (n : Numbered) → AreInLimit axioms
    → IsTrue (axiom_has_counts_within 100 n.axiom) → length (axiom_parts n.axiom) ≤ 500000 → more ≡ axioms ++ n ∷ []
    → AreInLimit more
one_more axioms more n h counts parts e =
    subst AreInLimit (sym e)
    (All-push (λ m. IsTrue (axiom_has_counts_within 100 m.axiom) × (length (axiom_parts m.axiom) ≤ 500000)) axioms n h
    (counts, parts))
