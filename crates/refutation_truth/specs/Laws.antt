-- A theory of axioms has their parts and their roles, and what is refuted over it is entailed by the axioms.
use Rattle.std.specs.Prelude.{◌≡◌, ◌↔◌, ◌≤◌, ℕ, ◌-◌, not, IsTrue, List, slice_get}
use Rattle.std.specs.List.{list_all}
use Rattle.shq_nnf.specs.Concept.{Concept}
use Rattle.shq_nnf.specs.Numbered.{Numbered}
use Rattle.role_box.specs.On.{On}
use Rattle.role_box.specs.On.TheVariants.{Any, Individual}
use Rattle.role_box.specs.Query.{Query}
use Rattle.role_box.specs.Uses.{all_use_listed}
use Rattle.shq_nnf.specs.Truth.{Entails}
use Rattle.shq_nnf.specs.Meeting.{is_assertion}
use Rattle.role_box.specs.Shape.{Shape}
use Rattle.role_box.specs.TheoryRows.{part_at, is_among}
use Rattle.role_box.specs.Roles.{HasRoles}
use Rattle.role_box.specs.RoleAxioms.{role_axioms}
use Rattle.role_box.specs.Steps.{Leads, IsTransitive}
use Rattle.role_box.specs.Line.{Line}
use Rattle.role_box.specs.Rules.{Question, on_any, Known}
use Rattle.role_box.specs.Valid.{concept_at, open_after_all, IsBrokenAt, IsRefutation}
use Rattle.refutation_truth.specs.Theory.{named_axioms, all_axioms, theory_of, part_of_axiom, fact_in, fact_of_axiom}
use Rattle.refutation_truth.specs.Theory.{question_of}

-- a number of an axiom and one of a part find the part with that number in the axiom, if the axiom is named
abbrev pub PartsAreNumbered : Type 0
PartsAreNumbered = (axioms : List Numbered) (ks : List ℕ) (a p : ℕ)
    → part_at (theory_of axioms ks) a p ≡ part_of_axiom axioms ks a p

-- the tests of roles answer by chains of the role axioms that are named
abbrev pub TheoriesHaveRoles : Type 0
TheoriesHaveRoles = (axioms : List Numbered) (ks : List ℕ)
    → HasRoles (theory_of axioms ks) (Leads (role_axioms axioms ks)) (IsTransitive (role_axioms axioms ks))

-- where all individuals that axioms name are listed, an axiom that is named gives all of its facts
abbrev pub NamedAxiomsGiveFacts : Type 0
NamedAxiomsGiveFacts = (classes roles k : ℕ) (axioms : List Numbered) (ks : List ℕ) (a place : ℕ)
    → IsTrue (all_use_listed classes roles k axioms) → IsTrue (is_among ks a)
    → fact_of_axiom k axioms ks a place ≡ fact_in (slice_get axioms (a - 1)) place

-- where lines refute a query over the named axioms, with however many individuals that are listed, the named axioms
-- entail it
abbrev pub RefutationsEntail : Type 0
RefutationsEntail = (k : ℕ) (axioms : List Numbered) (ks : List ℕ) (q : Query) (shapes : List Shape) (lines : List Line)
    → IsRefutation (question_of k axioms ks q) shapes lines → Entails (named_axioms axioms ks) q

-- and so do all axioms
abbrev pub RefutationsEntailByAll : Type 0
RefutationsEntailByAll = (k : ℕ) (axioms : List Numbered) (ks : List ℕ) (q : Query) (shapes : List Shape)
    (lines : List Line)
    → IsRefutation (question_of k axioms ks q) shapes lines → Entails (all_axioms axioms) q

-- where lines refute without any individual, over the named axioms, that something is in `sub` and not in `sup`, the
-- named axioms entail that what is in `sub` is in `sup`, of whichever elements a query asks it
abbrev pub RefutationsOnAnyEntail : Type 0
RefutationsOnAnyEntail = (axioms : List Numbered) (ks : List ℕ) (sub sup : Concept) (on : On) (shapes : List Shape)
    (lines : List Line) → IsRefutation (on_any (theory_of axioms ks) sub sup) shapes lines
    → Entails (named_axioms axioms ks) (record { sub = sub; sup = sup; on = on })

-- no lines refute a query on an individual that is not listed
abbrev pub UnlistedAreNotRefuted : Type 0
UnlistedAreNotRefuted = (k : ℕ) (axioms : List Numbered) (ks : List ℕ) (q : Query) (a : ℕ) (shapes : List Shape)
    (lines : List Line) → q.on ≡ Individual a → k ≤ a → IsRefutation (question_of k axioms ks q) shapes lines → ⊥

-- the lines leave the same branches open of both questions, refute both or neither, and break the rules of both at the
-- same place or of neither
pub record AreJudgedAlike (one other : Question) (shapes : List Shape) (lines : List Line) : Type 0 where
  pub left : (branches : List Known) → open_after_all one (concept_at shapes) branches lines
      ≡ open_after_all other (concept_at shapes) branches lines
  pub refutes : IsRefutation one shapes lines ↔ IsRefutation other shapes lines
  pub breaks : (place : ℕ) → IsBrokenAt one (concept_at shapes) lines place
      ↔ IsBrokenAt other (concept_at shapes) lines place

-- Where no individual is listed, nothing is asserted of any, and a query speaks of each element, lines are judged as by
-- the question without individuals. That one has node 0 alone and no fact of an axiom: it is what a refutation was of
-- before there were individuals. So what was a refutation then still is one, and what broke the rules does so at the
-- same place.
abbrev pub OldRefutationsStand : Type 0
OldRefutationsStand = (axioms : List Numbered) (ks : List ℕ) (q : Query) (shapes : List Shape) (lines : List Line)
    → IsTrue (list_all (λ n. not (is_assertion n.axiom)) axioms) → q.on ≡ Any
    → AreJudgedAlike (question_of 0 axioms ks q) (on_any (theory_of axioms ks) q.sub q.sup) shapes lines
