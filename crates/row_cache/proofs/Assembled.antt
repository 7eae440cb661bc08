-- The premises and the concept of a row, from the numbers of conjuncts.
use Rattle.std.proofs.Common.{◌≡◌, ℕ, ◌<◌, Bool, true, cond, ltb, List, [], ◌∷◌, ◌++◌, map, length, Option, Some, None}
use Rattle.std.proofs.Common.{refl, ap, subst, sym, ◌∙◌}
use Rattle.std.specs.List.{list_all}
use Rattle.std.proofs.lemmas.Bool.{lt-ltb, and_from}
use Rattle.refutation_truth.specs.Concept.{Concept}
use Rattle.refutation_truth.specs.Normal.{negated_form, or_of}
use Rattle.refutation_truth.specs.Shape.{Shape, IsTable}
use Rattle.refutation_truth.specs.Tree.{tree_of}
use Rattle.refutation_truth.specs.TheoryRows.{Part, inclusion, range, conjunct_at, are_name_positions, row_concept}
use Rattle.refutation_truth.specs.Part.TheVariants as K
use Rattle.refutation_truth.specs.Numbers.{Extends, IsNumber, AreNumbers}
use Rattle.refutation_truth.proofs.Numbers.{number_stays, numbers_stay, numbers_push}
use Rattle.row_cache.specs.declared.cached_row.CachedRow.{CachedRow}
use Rattle.row_cache.specs.Rows.{PlainRow, row_for, IsRow, IsPartFound, conjunct_number_at, other_numbers}
use Rattle.row_cache.proofs.Places.{tree_at, number_listed, other_trees}

pub premises_are : (t : List Shape) → IsTable t → (cs ps : List ℕ) → list_all (λ c. ltb c (length t)) cs ≡ true
    → AreNumbers t (map (conjunct_number_at cs) ps) (map (conjunct_at (map (tree_of t) cs)) ps)
premises_are t good cs ps h = record { listed = each ps; stand_for = trees ps }
  where
    each : (ps : List ℕ) → list_all (λ n. ltb n (length t)) (map (conjunct_number_at cs) ps) ≡ true
    each [] = refl
    each (p ∷ ps) =
        and_from (ltb (conjunct_number_at cs p) (length t))
        (list_all (λ n. ltb n (length t)) (map (conjunct_number_at cs) ps))
        (lt-ltb (conjunct_number_at cs p) (length t) (number_listed t good cs p h)) (each ps)

    trees : (ps : List ℕ) → map (tree_of t) (map (conjunct_number_at cs) ps) ≡ map (conjunct_at (map (tree_of t) cs)) ps
    trees [] = refl
    trees (p ∷ ps) =
        let head = tree_at t good cs p in
        let tail = trees ps in
        λ i. head i ∷ tail i

-- the complements of the other conjuncts, and then the right side
pub members_are : (t u : List Shape) (cs ps ms : List ℕ) (right : ℕ) → Extends t u → right < length t
    → AreNumbers u ms (map (λ c. negated_form (tree_of t c)) (other_numbers 1 ps cs))
    → AreNumbers u (ms ++ right ∷ [])
    (map (λ c. negated_form (tree_of t c)) (other_numbers 1 ps cs) ++ tree_of t right ∷ [])
members_are t u cs ps ms right e lt are =
    numbers_push u ms (map (λ c. negated_form (tree_of t c)) (other_numbers 1 ps cs)) right (tree_of t right) are
    (number_stays t u right (tree_of t right) e (record { listed = lt; stands_for = refl }))

pub concept_is : (t u : List Shape) (cs ps ms : List ℕ) (right : ℕ) → Extends t u → right < length t
    → AreNumbers u ms (map (λ c. negated_form (tree_of t c)) (other_numbers 1 ps cs))
    → or_of (map (tree_of u) (ms ++ right ∷ [])) ≡ row_concept (map (tree_of t) cs) (tree_of t right) ps
concept_is t u cs ps ms right e lt are =
    ap or_of ((members_are t u cs ps ms right e lt are).stand_for
    ∙ ap (λ (l : List Concept). l ++ tree_of t right ∷ []) (other_trees (tree_of t) 1 ps cs))

-- ---- the row of a part that was found

pub row_is : (t u : List Shape) → IsTable t → (cs ps : List ℕ) (right : ℕ) (k : CachedRow) → Extends t u
    → list_all (λ c. ltb c (length t)) cs ≡ true → are_name_positions (map (tree_of t) cs) ps ≡ true
    → k.premises ≡ map (conjunct_number_at cs) ps
    → IsNumber u k.concept (row_concept (map (tree_of t) cs) (tree_of t right) ps)
    → IsRow u (row_for (Some (inclusion (map (tree_of t) cs) (tree_of t right))) ps) (Some k)
row_is t u good cs ps right k e listed test premises concept =
    let row : PlainRow = record {
      premises = map (conjunct_at (map (tree_of t) cs)) ps;
      concept = row_concept (map (tree_of t) cs) (tree_of t right) ps;
    } in
    let are : AreNumbers u k.premises row.premises =
    subst (λ (l : List ℕ). AreNumbers u l row.premises) (sym premises)
    (numbers_stay t u (map (conjunct_number_at cs) ps) row.premises e (premises_are t good cs ps listed)) in
    subst (λ (b : Bool). IsRow u (cond b (Some row) None) (Some k)) (sym test) (are, concept)

pub row_of_inclusion : (t u : List Shape) (o : Option Part) (ns : List ℕ) (n : ℕ) (ps : List ℕ) (r : Option CachedRow)
    → IsPartFound t o (Some (K.Inclusion ns n))
    → IsRow u (row_for (Some (inclusion (map (tree_of t) ns) (tree_of t n))) ps) r → IsRow u (row_for o ps) r
row_of_inclusion t u None ns n ps r found h = absurd found
row_of_inclusion t u (Some (inclusion cs d)) ns n ps r found h =
    subst (λ (p : Part). IsRow u (row_for (Some p) ps) r) (λ i. inclusion (found.0.stand_for i) (found.1.stands_for i))
    h
row_of_inclusion t u (Some (range s d)) ns n ps r found h = absurd found
