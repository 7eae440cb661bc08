-- What follows in worlds over any domain.
use Rattle.std.specs.Prelude.{◌↔◌, ◌<◌, ℕ, IsTrue, IsFalse, List}
use Rattle.shq_nnf.specs.Concept.{Concept}
use Rattle.shq_nnf.specs.Axiom.{Axiom}
use Rattle.shq_nnf.specs.Numbered.{Numbered}
use Rattle.role_box.specs.On.{On}
use Rattle.role_box.specs.Query.{Query}
use Rattle.shq_nnf.specs.Truth.{Interpretation, PlacesIndividuals, holds, meets, meets_all, refutes_at, Entails}
use Rattle.role_box.specs.Shape.{Shape}
use Rattle.role_box.specs.Line.{Line}
use Rattle.role_box.specs.Rules.{on_any}
use Rattle.role_box.specs.Valid.{IsRefutation}
use Rattle.refutation_truth.specs.Theory.{named_axioms, all_axioms, theory_of, question_of}
use Rattle.all_worlds.specs.Worlds.{World, IsIn, MeetsEverywhere, IsSo, FollowsIn}
use Rattle.all_worlds.specs.Finite.{Element, world_of}

-- what is not outside of a class expression is in it
abbrev pub IsStable : {d : Type 0} → World d → Type 0
IsStable {d} w = (c : Concept) (x : d) → ¬ ¬ IsIn w c x → IsIn w c x

-- ---- finite interpretations

-- class expressions, axioms and queries mean the same in a finite interpretation and in its world
pub record MeansTheSame (i : Interpretation) (placed : PlacesIndividuals i) : Type 0 where
  pub classes : (c : Concept) (x : Element i.size) → IsIn (world_of i placed) c x ↔ IsTrue (holds i c x.number)
  pub axioms : (a : Axiom) → MeetsEverywhere (world_of i placed) a ↔ IsTrue (meets i a)
  pub queries : (q : Query)
      → IsSo (world_of i placed) q.sub q.sup q.on ↔ ((x : ℕ) → x < i.size → IsFalse (refutes_at i q x))

-- a finite interpretation, taken as a world, means the same there
abbrev pub FiniteInterpretationsAreWorlds : Type 0
FiniteInterpretationsAreWorlds = (i : Interpretation) (placed : PlacesIndividuals i) → MeansTheSame i placed

-- what is entailed is what follows in the world of each finite interpretation; so what follows in every world is
-- entailed
abbrev pub EntailmentIsOfFiniteWorlds : Type 0
EntailmentIsOfFiniteWorlds = (as_ : List Axiom) (q : Query)
    → Entails as_ q ↔ ((i : Interpretation) (placed : PlacesIndividuals i) → FollowsIn (world_of i placed) as_ q)

-- where an interpretation meets the axioms, and some element of it is a counter-example, there is a world in which the
-- query does not follow
abbrev pub CounterModelsRefuteInAWorld : Type 0
CounterModelsRefuteInAWorld =
    (i : Interpretation) (placed : PlacesIndividuals i) (as_ : List Axiom) (q : Query) (x : ℕ) → x < i.size
    → IsTrue (meets_all i as_) → IsTrue (refutes_at i q x) → ¬ FollowsIn (world_of i placed) as_ q

-- ---- refutations

-- where lines refute a query over the named axioms, with however many individuals that are listed, it follows from them
-- in the world
abbrev pub RefutationsHoldIn : {d : Type 0} → World d → Type 0
RefutationsHoldIn w = (k : ℕ) (axioms : List Numbered) (ks : List ℕ) (q : Query) (shapes : List Shape)
    (lines : List Line) → IsRefutation (question_of k axioms ks q) shapes lines
    → FollowsIn w (named_axioms axioms ks) q

-- and from all axioms
abbrev pub RefutationsHoldByAllIn : {d : Type 0} → World d → Type 0
RefutationsHoldByAllIn w = (k : ℕ) (axioms : List Numbered) (ks : List ℕ) (q : Query) (shapes : List Shape)
    (lines : List Line) → IsRefutation (question_of k axioms ks q) shapes lines → FollowsIn w (all_axioms axioms) q

-- where lines refute without any individual, over the named axioms, that something is in `sub` and not in `sup`, it
-- follows from them in the world that what is in `sub` is in `sup`, of whichever members a query asks it
abbrev pub RefutationsOnAnyHoldIn : {d : Type 0} → World d → Type 0
RefutationsOnAnyHoldIn w = (axioms : List Numbered) (ks : List ℕ) (sub sup : Concept) (on : On) (shapes : List Shape)
    (lines : List Line) → IsRefutation (on_any (theory_of axioms ks) sub sup) shapes lines
    → FollowsIn w (named_axioms axioms ks) (record { sub = sub; sup = sup; on = on })
