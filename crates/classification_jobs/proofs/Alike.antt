-- One document has one taxonomy.
use Rattle.std.proofs.Common.{◌≡◌, ap, sym, ◌∙◌, subst}
use Rattle.shq_terms.specs.Listed.{Listed}
use Rattle.ofn_reader.proofs.Unique.{documents}
use Rattle.classifier.specs.Subsumption.{IsSubsumption}
use Rattle.classifier.specs.Groups.{Parthood}
use Rattle.classification_jobs.specs.TaxonomyText.{taxonomy_text}
use Rattle.classification_jobs.specs.TaxonomyLaws.{taxonomy_by}
use Rattle.classification_jobs.proofs.Same.{one_text}
use Rattle.classification_jobs.specs.Laws.{AnsweredAlike}

same_text : (o p : Listed) (r s : Parthood) → o ≡ p → IsSubsumption o r → IsSubsumption p s
    → taxonomy_text o (taxonomy_by o r) ≡ taxonomy_text p (taxonomy_by p s)
same_text o p r s same one other =
    one_text o r s one (subst (λ (l : Listed). IsSubsumption l s) (sym same) other)
    ∙ ap (λ (l : Listed). taxonomy_text l (taxonomy_by l s)) same

pub answered_alike : AnsweredAlike
answered_alike b c bytes out text log more x y =
    let same =
    documents bytes x.ontology y.ontology x.kept y.kept x.is_document.end y.is_document.end x.is_document.is_document
    y.is_document.is_document in
    x.so.text ∙ same_text x.ontology y.ontology x.so.part_of y.so.part_of same.0 x.so.is_so y.so.is_so ∙ sym y.so.text
