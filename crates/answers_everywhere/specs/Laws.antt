-- What axioms that are read entail follows in every world.
use Rattle.std.specs.Prelude.{◌≡◌, ◌↔◌, ℕ, ◌<◌, nat_lt, Bool, true, false, List, length}
use Rattle.pinpointing_specs.specs.NumberSets.{NumberSet}
use Rattle.pinpointing_specs.specs.Sets.{IsWithin}
use Rattle.shq_terms.specs.Concept.{Concept, top, bottom, name, complement, intersection, union, some_of, all_of}
use Rattle.shq_terms.specs.Concept.{at_least, at_most, exactly}
use Rattle.shq_terms.specs.Listed.{Listed}
use Rattle.shq_terms.specs.declared.axioms.Numbered.{Numbered}
use Rattle.shq_terms.specs.declared.axioms.On.TheVariants.{Individual}
use Rattle.shq_terms.specs.declared.axioms.Query.{Query}
use Rattle.pinpointing_specs.specs.Truth.{Entails}
use Rattle.pinpointing_specs.specs.LocalModule.{axioms_in_set, FollowsFrom}
use Rattle.refutation_truth.specs.Theory.{all_axioms}
use Rattle.search_laws.specs.Limits.{is_on_listed}
use Rattle.all_worlds.specs.Worlds.{World}
use Rattle.search_starts.specs.Laws.{FollowsInAll}
use Rattle.text_laws.specs.Counts.{Counts}
use Rattle.text_laws.specs.DocumentContext.{DocumentContext}
use Rattle.text_laws.specs.Documents.{IsDocument}
use Rattle.text_laws.specs.LimitLaws.{with_names}
use Rattle.job_inputs.specs.Questions.{Text, IsAskedBy, IsClassOf}

-- what all of the axioms entail, and what those entail whose numbers are in a set, is what follows from them in the
-- world and in that of each finite interpretation
pub record IsOfWorld {d : Type 0} (w : World d) (axioms : List Numbered) (q : Query) : Type 0 where
  pub all : Entails (all_axioms axioms) q ↔ FollowsInAll w (all_axioms axioms) q
  pub some : (s : NumberSet) → IsWithin (length axioms) s
      → FollowsFrom axioms q s ↔ FollowsInAll w (axioms_in_set s axioms) q

-- the query of a question on a document
abbrev pub QuestionsAreOfWorld : {d : Type 0} → World d → Type 0
QuestionsAreOfWorld w = (bytes : List ℕ) (o : Listed) (kept : DocumentContext) (end : ℕ) → IsDocument bytes o kept end
    → (question : Text) (counts : Counts) (q : Query) → IsAskedBy o kept question counts q → IsOfWorld w o.axioms q

-- whether the class expression is a listed class, or one that all things or none are in
abbrev pub is_listed_class : ℕ → Concept → Bool
is_listed_class n top = true
is_listed_class n bottom = true
is_listed_class n (name a) = nat_lt a n
is_listed_class n (complement c) = false
is_listed_class n (intersection cs) = false
is_listed_class n (union cs) = false
is_listed_class n (some_of r c) = false
is_listed_class n (all_of r c) = false
is_listed_class n (at_least m r c) = false
is_listed_class n (at_most m r c) = false
is_listed_class n (exactly m r c) = false

-- the query is of listed names alone
pub record IsOfNames (o : Listed) (q : Query) : Type 0 where
  pub sub : is_listed_class (length o.classes) q.sub ≡ true
  pub sup : is_listed_class (length o.classes) q.sup ≡ true
  pub on : is_on_listed (length o.individuals) q.on ≡ true

-- each query of listed names on a document that is read is one of the world
abbrev pub NamesAreOfWorld : {d : Type 0} → World d → Type 0
NamesAreOfWorld w = (bytes : List ℕ) (o : Listed) (kept : DocumentContext) (end : ℕ) → IsDocument bytes o kept end
    → (q : Query) → IsOfNames o q → IsOfWorld w o.axioms q

-- whether a listed individual is in a class expression on the document
abbrev pub InstancesAreOfWorld : {d : Type 0} → World d → Type 0
InstancesAreOfWorld w = (bytes : List ℕ) (o : Listed) (kept : DocumentContext) (end : ℕ) → IsDocument bytes o kept end
    → (class : List ℕ) (counts : Counts) (c : Concept) → IsClassOf o kept class counts c
    → (a : ℕ) → a < length (with_names o counts).individuals
    → IsOfWorld w o.axioms (record { sub = top; sup = c; on = Individual a })
