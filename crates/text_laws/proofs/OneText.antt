-- Ontologies of one canonical text are the same.
use Rattle.std.proofs.Common.{◌≡◌, ℕ, List, ap, sym, ◌∙◌, subst}
use Rattle.shq_terms.specs.Listed.{Listed}
use Rattle.ofn_reader.proofs.Unique.{documents}
use Rattle.ofn_writer.specs.Canonical.{ontology_text}
use Rattle.text_laws.specs.Writable.{CanBeWritten}
use Rattle.text_laws.specs.WritingLaws.{axioms_of, IsDocumentOf, AreSame}
use Rattle.text_laws.proofs.Read.{written_is_read}

same_read : (text : List ℕ) (o p : Listed) → IsDocumentOf text o → IsDocumentOf text p → AreSame o p
same_read text o p first second =
    let read : first.read ≡ second.read =
    (documents text first.read second.read first.kept second.kept first.end second.end first.is_document
    second.is_document).0 in
    record {
      classes = sym first.classes ∙ ap (λ (l : Listed). l.classes) read ∙ second.classes;
      roles = sym first.roles ∙ ap (λ (l : Listed). l.roles) read ∙ second.roles;
      individuals = sym first.individuals ∙ ap (λ (l : Listed). l.individuals) read ∙ second.individuals;
      axioms = sym first.axioms ∙ ap (λ (l : Listed). axioms_of l.axioms) read ∙ second.axioms;
    }

pub one_text : (o p : Listed) → CanBeWritten o → CanBeWritten p → ontology_text o ≡ ontology_text p → AreSame o p
one_text o p first second same =
    same_read (ontology_text p) o p (subst (λ t. IsDocumentOf t o) same (written_is_read o first))
    (written_is_read p second)
