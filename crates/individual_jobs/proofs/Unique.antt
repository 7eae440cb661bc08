-- A question has one answer.
use Rattle.std.proofs.Common.{◌≡◌, ℕ, suc, List, [], ◌∷◌, map, refl, sym, ◌∙◌, subst, arith}
use Rattle.std.specs.List.{Contains}
use Rattle.axiom_sets.specs.Sets.{Limited}
use Rattle.shq_terms.specs.Concept.{Concept}
use Rattle.shq_terms.specs.Listed.{Listed}
use Rattle.shq_terms.specs.declared.axioms.Query.{Query as Asked}
use Rattle.ofn_reader.proofs.Unique.{documents}
use Rattle.realizer.specs.Instances.{instance_query, AreInstances, instances_text}
use Rattle.realizer.specs.Realization.{AreTypes, realization_text}
use Rattle.realizer.proofs.Unique.{one_list, one_realization}
use Rattle.job_inputs.specs.Questions.{has_element}
use Rattle.job_inputs.proofs.OneReading.{questions}
use Rattle.pinpointing_jobs.specs.declared.wanted.Wanted.TheVariants.{Justifications}
use Rattle.pinpointing_jobs.specs.Wanted.{HasAll}
use Rattle.pinpointing_jobs.proofs.Unique.{same_lists}
use Rattle.individual_jobs.specs.ReasonLists.{ReasonLists}
use Rattle.individual_jobs.specs.Reasons.{individual_of, HasAllReasons, AreReasons, reasons_text}
use Rattle.individual_jobs.specs.Laws.{RealizationsAreUnique, InstancesAreUnique, ReasonsAreUnique}

-- ---- types and instances

pub one_text_of_types : RealizationsAreUnique
one_text_of_types b c bytes out text log more first second =
    let same = documents bytes first.ontology second.ontology first.kept second.kept first.is_document.end
    second.is_document.end first.is_document.is_document second.is_document.is_document in
    let theirs : AreTypes first.ontology second.so.types =
    subst (λ (o : Listed). AreTypes o second.so.types) (sym same.0) second.so.are_types in
    let types = one_realization first.ontology first.so.types second.so.types first.so.are_types theirs in
    first.so.text ∙ (λ i. realization_text (same.0 i) (types i)) ∙ sym second.so.text

pub one_text_of_instances : InstancesAreUnique
one_text_of_instances class b c bytes out text log more first second =
    let same = questions (has_element class) bytes first.ontology second.ontology first.query second.query
    first.is_question second.is_question in
    let theirs : AreInstances first.ontology first.query.sub second.so.found =
    subst (λ (o : Listed). AreInstances o first.query.sub second.so.found) (sym same.0)
    (subst (λ (q : Asked). AreInstances second.ontology q.sub second.so.found) (sym same.1) second.so.are_instances) in
    let found =
    one_list first.ontology first.query.sub first.so.found second.so.found first.so.are_instances theirs in
    first.so.text ∙ (λ i. instances_text (same.0 i) (found i)) ∙ sym second.so.text

-- ---- reasons

module _ (o : Listed) (c : Concept) where
  -- a question has one list of all justifications
  same_sets : (q : Asked) (js ks : List Limited) → HasAll Justifications o q js → HasAll Justifications o q ks → js ≡ ks
  same_sets q js ks x y =
      same_lists js ks x.order y.order (λ s. (λ h. (y.all s).1 ((x.all s).0 h), λ h. (x.all s).1 ((y.all s).0 h)))

  abbrev AllHave : List ReasonLists → Type 0
  AllHave rs = (r : ReasonLists) → Contains rs r → HasAllReasons o c r

  rest_have : (r : ReasonLists) (rs : List ReasonLists) → AllHave (r ∷ rs) → AllHave rs
  rest_have r rs all x listed = all x (suc listed.0, omega (arith, listed.1), listed.2)

  first_has : (r : ReasonLists) (rs : List ReasonLists) → AllHave (r ∷ rs) → HasAllReasons o c r
  first_has r rs all = all r (0, omega arith, refl)

  same_one : (r s : ReasonLists) → r.individual ≡ s.individual → HasAllReasons o c r → HasAllReasons o c s → r ≡ s
  same_one r s e x y =
      let sets : r.justifications ≡ s.justifications =
      same_sets (instance_query c s.individual) r.justifications s.justifications
      (subst (λ (a : ℕ). HasAll Justifications o (instance_query c a) r.justifications) e x) y in
      λ i. record { individual = e i; justifications = sets i }

  same_reasons : (rs ss : List ReasonLists) → map individual_of rs ≡ map individual_of ss → AllHave rs → AllHave ss
      → rs ≡ ss
  same_reasons [] [] e x y = refl
  same_reasons [] (s ∷ ss) e x y = cc
  same_reasons (r ∷ rs) [] e x y = cc
  same_reasons (r ∷ rs) (s ∷ ss) e x y =
      let first : r.individual ≡ s.individual = cc in
      let more : map individual_of rs ≡ map individual_of ss = cc in
      let one = same_one r s first (first_has r rs x) (first_has s ss y) in
      let rest = same_reasons rs ss more (rest_have r rs x) (rest_have s ss y) in
      λ i. one i ∷ rest i

  all_reasons : (rs ss : List ReasonLists) → AreReasons o c rs → AreReasons o c ss → rs ≡ ss
  all_reasons rs ss x y =
      same_reasons rs ss (one_list o c (map individual_of rs) (map individual_of ss) x.instances y.instances) x.reasons
      y.reasons

pub unique : ReasonsAreUnique
unique class b c bytes out text log more first second =
    let same =
    questions (has_element class) bytes first.ontology second.ontology first.query second.query first.is_question
    second.is_question in
    let one = first.so in
    let other = second.so in
    let theirs : AreReasons first.ontology first.query.sub other.reasons =
    subst (λ (o : Listed). AreReasons o first.query.sub other.reasons) (sym same.0)
    (subst (λ (q : Asked). AreReasons second.ontology q.sub other.reasons) (sym same.1) other.are_reasons) in
    let reasons = all_reasons first.ontology first.query.sub one.reasons other.reasons one.are_reasons theirs in
    one.text ∙ (λ i. reasons_text (same.0 i) (reasons i)) ∙ sym other.text
