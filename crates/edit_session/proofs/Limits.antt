-- What is read on an ontology within the limits is within them.
use Rattle.std.proofs.Common.{◌≡◌, ℕ, ◌+◌, ◌≤◌, true, List, [], ◌∷◌, ◌++◌, length, take, refl, ap, sym, subst, ◌∙◌}
use Rattle.std.proofs.Common.{arith, length-append, length-take}
use Rattle.std.proofs.lemmas.List.{take_all}
use Rattle.shq_terms.specs.Listed.{Listed}
use Rattle.shq_terms.specs.Uses.{all_use_listed}
use Rattle.shq_terms.specs.declared.axioms.Numbered.{Numbered}
use Rattle.shq_terms.specs.declared.axioms.Query.{Query}
use Rattle.job_inputs.specs.Limits.{IsOntologyInLimit, IsInLimit}
use Rattle.ofn_reader.specs.DocumentContext.{DocumentContext}
use Rattle.ofn_reader.specs.Queries.{IsQueryOn}
use Rattle.ofn_reader.specs.Additions.{IsAdditionTo}
use Rattle.job_inputs.proofs.InLimit.{queries_stay}
use Rattle.job_inputs.proofs.Additions.{additions_stay, queries_cut_again}
use Rattle.edit_session.specs.Asked.{IsCutTo}

module _ (kept : DocumentContext) (o : Listed) (text : List ℕ) where
  -- ---- a query

  pub query_in_limit : (both : Listed) (q : Query) → IsOntologyInLimit o → IsQueryOn kept o text both q
      → IsInLimit both q
  query_in_limit both q limit is =
      subst (λ (l : Listed). IsInLimit l q) (sym is.3) (queries_stay kept.prefixes o kept.nodes text is.0 q limit is.1)

  pub query_cut : (both : Listed) (q : Query) → IsQueryOn kept o text both q → IsCutTo o both
  query_cut both q is = subst (IsCutTo o) (sym is.3) (queries_cut_again kept.prefixes o kept.nodes text is.0 q is.1)

  pub query_axioms : (both : Listed) (q : Query) → IsQueryOn kept o text both q → both.axioms ≡ o.axioms
  query_axioms both q is = ap (λ (l : Listed). l.axioms) is.3

  -- ---- an axiom

  pub addition_in_limit : (new : Listed) (after : DocumentContext) (n : ℕ) → IsOntologyInLimit o
      → IsAdditionTo kept o text new after n → IsOntologyInLimit new
  addition_in_limit new after n limit is =
      subst IsOntologyInLimit (sym is.3) (additions_stay kept.prefixes o text is.0 is.1 limit is.2)

  pub addition_longer : (new : Listed) (after : DocumentContext) (n : ℕ) → IsAdditionTo kept o text new after n
      → (a : Numbered) × (new.axioms ≡ o.axioms ++ a ∷ [])
  addition_longer new after n is = (record { «axiom» = is.1; line = 1 }, ap (λ (l : Listed). l.axioms) is.3)

  pub addition_count : (new : Listed) (after : DocumentContext) (n : ℕ) → IsAdditionTo kept o text new after n
      → length new.axioms ≡ length o.axioms + 1
  addition_count new after n is =
      let longer = addition_longer new after n is in ap length longer.1 ∙ length-append o.axioms (longer.0 ∷ [])

-- ---- names that are cut

pub cut_same : (o : Listed) → IsCutTo o o
cut_same o = λ i. record {
  axioms = o.axioms;
  classes = take_all (length o.classes) o.classes (omega arith) i;
  roles = take_all (length o.roles) o.roles (omega arith) i;
  individuals = take_all (length o.individuals) o.individuals (omega arith) i;
}

length_taken : (n : ℕ) (xs ys : List (List ℕ)) → take n xs ≡ ys → n ≡ length ys → n ≤ length xs
length_taken n xs ys e same = let l = ap length e in omega (arith, l, same, length-take n xs)

module _ (old new : Listed) (cut : IsCutTo old new) where
  pub cut_axioms : new.axioms ≡ old.axioms
  cut_axioms = ap (λ (l : Listed). l.axioms) cut

  pub cut_classes : length old.classes ≤ length new.classes
  cut_classes = length_taken (length old.classes) new.classes old.classes (ap (λ (l : Listed). l.classes) cut) refl

  pub cut_roles : length old.roles ≤ length new.roles
  cut_roles = length_taken (length old.roles) new.roles old.roles (ap (λ (l : Listed). l.roles) cut) refl

  pub cut_individuals : length old.individuals ≤ length new.individuals
  cut_individuals =
      length_taken (length old.individuals) new.individuals old.individuals (ap (λ (l : Listed). l.individuals) cut)
      refl

  pub cut_unused : IsOntologyInLimit old
      → all_use_listed (length old.classes) (length old.roles) (length old.individuals) new.axioms ≡ true
  cut_unused limit =
      ap (all_use_listed (length old.classes) (length old.roles) (length old.individuals)) cut_axioms ∙ limit.listed
