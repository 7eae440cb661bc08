-- What a refutation refutes has no model, so that its axioms entail its query.
use Rattle.std.proofs.Common.{◌≡◌, ℕ, ◌<◌, true, false, not, ◌&&◌, List, [], ◌∷◌, Option, Some, None, refl, arith, inl}
use Rattle.std.proofs.Common.{inr}
use Rattle.std.proofs.lemmas.Bool.{cases_Bool, and_parts, not-true}
use Rattle.shq_nnf.specs.Concept.{Concept}
use Rattle.shq_nnf.specs.Numbered.{Numbered}
use Rattle.role_box.specs.Query.{Query}
use Rattle.shq_nnf.specs.Truth.{Interpretation, PlacesIndividuals, holds, meets_all, is_asked_at, refutes_at}
use Rattle.role_box.specs.Shape.{Shape}
use Rattle.role_box.specs.Line.{Line, Tree, node, Trees, no_trees, tree}
use Rattle.role_box.specs.Rules.{Question, on_any, Known, children_of, nothing_known}
use Rattle.role_box.specs.Valid.{concept_at, IsShut, AreShut, IsRefutation}
use Rattle.refutation_truth.specs.Theory.{named_axioms, theory_of, question_of}
use Rattle.refutation_truth.specs.Laws.{RefutationsEntail, RefutationsEntailByAll, RefutationsOnAnyEntail}
use Rattle.refutation_truth.proofs.Models.{Model}
use Rattle.refutation_truth.proofs.Lines.{MeetsQuestion, OneHasModelIf, blank, line_one}
use Rattle.refutation_truth.proofs.Named.{meets_theory, meets_named}
use Rattle.refutation_truth.proofs.Asserted.{question_met}

module _ (i : Interpretation) (placed : PlacesIndividuals i) (named : ℕ) (q : Question) (concept : ℕ → Option Concept)
    (v : ℕ) (v-in : v < i.size) (t : MeetsQuestion i named q v) where
  mutual
    shut_has_none : (s : Tree) (k : Known) → IsShut q concept k s → Model i named k → ⊥
    shut_has_none (node line kids) k shut m =
        shut_have_none kids (children_of q concept k line) shut (line_one i placed named q concept v v-in t k m line)

    shut_have_none : (ss : Trees) (o : Option (List Known)) → AreShut q concept o ss → OneHasModelIf i named o → ⊥
    shut_have_none no_trees None shut one = shut
    shut_have_none (tree s ss) None shut one = shut
    shut_have_none no_trees (Some []) shut one = one
    shut_have_none (tree s ss) (Some []) shut one = one
    shut_have_none no_trees (Some (k ∷ ks)) shut one = shut
    shut_have_none (tree s ss) (Some (k ∷ ks)) shut (inl m) = shut_has_none s k shut.0 m
    shut_have_none (tree s ss) (Some (k ∷ ks)) shut (inr more) = shut_have_none ss (Some ks) shut.1 more

-- what is refuted is met nowhere
met_nowhere : (i : Interpretation) → PlacesIndividuals i
    → (named : ℕ) (q : Question) (shapes : List Shape) (lines : List Line) → IsRefutation q shapes lines
    → (v : ℕ) → v < i.size → MeetsQuestion i named q v → ⊥
met_nowhere i placed named q shapes lines h v lt t =
    shut_has_none i placed named q (concept_at shapes) v lt t h.tree nothing_known h.is_shut
    (blank i placed named q (concept_at shapes) v lt t)

no_counter : (i : Interpretation) → PlacesIndividuals i
    → (k : ℕ) (axioms : List Numbered) (ks : List ℕ) (q : Query) (shapes : List Shape) (lines : List Line)
    → IsRefutation (question_of k axioms ks q) shapes lines
    → meets_all i (named_axioms axioms ks) ≡ true → (v : ℕ) → v < i.size → refutes_at i q v ≡ false
no_counter i placed k axioms ks q shapes lines h m v lt = elim (cases_Bool (refutes_at i q v)) [
  | inr none ↦ none
  | inl counter ↦
      absurd (met_nowhere i placed k (question_of k axioms ks q) shapes lines h v lt
      (question_met i k axioms ks q m v counter))
]

pub entailed : RefutationsEntail
entailed k axioms ks q shapes lines h i has_one placed m v lt = no_counter i placed k axioms ks q shapes lines h m v lt

pub entailed_by_all : RefutationsEntailByAll
entailed_by_all k axioms ks q shapes lines h i has_one placed m v lt =
    no_counter i placed k axioms ks q shapes lines h (meets_named i axioms ks m) v lt

-- ---- without individuals

any_met : (i : Interpretation) (axioms : List Numbered) (ks : List ℕ) (sub sup : Concept)
    → meets_all i (named_axioms axioms ks) ≡ true
    → (v : ℕ) → holds i sub v ≡ true → holds i sup v ≡ false
    → MeetsQuestion i 0 (on_any (theory_of axioms ks) sub sup) v
any_met i axioms ks sub sup m v in_sub not_in_sup = record {
  theory_met = meets_theory i axioms ks m;
  facts_met = λ a p f e. cc;
  are_first = omega arith;
  is_at = λ lt. refl;
  in_sub = in_sub;
  not_in_sup = not_in_sup;
}

pub entailed_on_any : RefutationsOnAnyEntail
entailed_on_any axioms ks sub sup on shapes lines h i has_one placed m v lt =
    elim (cases_Bool (refutes_at i (record { sub = sub; sup = sup; on = on }) v)) [
      | inr none ↦ none
      | inl counter ↦
          let b =
          and_parts (holds i sub v) (not (holds i sup v))
          (and_parts (is_asked_at i on v) (holds i sub v && not (holds i sup v)) counter).1 in
          absurd (met_nowhere i placed 0 (on_any (theory_of axioms ks) sub sup) shapes lines h v lt
          (any_met i axioms ks sub sup m v b.0 (not-true (holds i sup v) b.1)))
    ]
