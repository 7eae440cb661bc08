-- What small ontologies hold, and roles that are simple no more, worked out by hand.
use Rattle.std.proofs.Common.{◌≡◌, false, true, [], ◌∷◌, refl}
use Rattle.shq_terms.specs.Concept.{top, name, exactly}
use Rattle.shq_terms.specs.declared.axioms.Axiom.TheVariants.{SubClassOf, DisjointUnion, SubRole, Functional}
use Rattle.shq_terms.specs.declared.axioms.Axiom.TheVariants.{Transitive, Different}
use Rattle.role_box.specs.Paths.{is_below}
use Rattle.role_box.specs.Simple.{is_simple}
use Rattle.ofn_reader.specs.Held.{counts_of}
use Rattle.ofn_reader.specs.Additions.{all_count_simple, with_added}

-- An inclusion is one part, and three individuals are three pairs. A cardinality and its filler are two expressions.
two_axioms : counts_of (record {
  axioms = record { «axiom» = SubClassOf (name 0) (exactly 2 0 top); line = 7 }
      ∷ record { «axiom» = Different (0 ∷ 1 ∷ 0 ∷ []); line = 8 } ∷ [];
  classes = (65 ∷ []) ∷ [];
  roles = [];
  individuals = [];
})
    ≡ record { axioms = 2; parts = 4; nodes = 3; classes = (65 ∷ []) ∷ []; roles = []; individuals = [] }
two_axioms = refl

-- The class is in the union of two, each of these is in the class, and they are disjoint.
one_union : counts_of (record {
  axioms = record { «axiom» = DisjointUnion (name 0) (name 1 ∷ name 2 ∷ []); line = 1 } ∷ [];
  classes = [];
  roles = [];
  individuals = [];
})
    ≡ record { axioms = 1; parts = 4; nodes = 3; classes = []; roles = []; individuals = [] }
one_union = refl

-- A functional role stands above a transitive one by the axiom that is put last, and by nothing before.
broken : all_count_simple
    (with_added (record { «axiom» = Functional 1; line = 1 } ∷ record { «axiom» = Transitive 0; line = 1 } ∷ [])
    (SubRole 0 1 ∷ []))
    ≡ false
unfolding is_simple is_below
broken = refl

whole : all_count_simple
    (with_added (record { «axiom» = Functional 1; line = 1 } ∷ record { «axiom» = Transitive 0; line = 1 } ∷ [])
    (SubRole 1 0 ∷ []))
    ≡ true
unfolding is_simple is_below
whole = refl
