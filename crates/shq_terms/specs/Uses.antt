-- Whether the names that an expression or an axiom uses are listed: each class number is below the count of classes,
-- each role number below the count of roles, and each number of an individual below the count of individuals.
use Rattle.std.specs.Prelude.{ℕ, Bool, true, ◌&&◌, nat_lt, List, [], ◌∷◌}
use Rattle.std.specs.List.{list_all}
use Rattle.shq_base.specs.Concept.{Concept, top, bottom, name, complement, intersection, union, some_of, all_of}
use Rattle.shq_base.specs.Concept.{at_least, at_most, exactly, Parts, no_parts, part, parts_of}
use Rattle.shq_terms.specs.declared.axioms.Axiom.{Axiom}
use Rattle.shq_terms.specs.declared.axioms.Axiom.TheVariants.{SubClassOf, EquivalentClasses, DisjointClasses}
use Rattle.shq_terms.specs.declared.axioms.Axiom.TheVariants.{DisjointUnion, SubRole, EquivalentRoles, Domain, Range}
use Rattle.shq_terms.specs.declared.axioms.Axiom.TheVariants.{Functional, Transitive, Member, Pair, SameAll, Different}
use Rattle.shq_terms.specs.declared.axioms.Numbered.{Numbered}

abbrev mutual
  -- each class and role number of the expression is below its count
  pub uses_listed : ℕ → ℕ → Concept → Bool
  uses_listed classes roles top = true
  uses_listed classes roles bottom = true
  uses_listed classes roles (name a) = nat_lt a classes
  uses_listed classes roles (complement c) = uses_listed classes roles c
  uses_listed classes roles (intersection cs) = parts_use_listed classes roles cs
  uses_listed classes roles (union cs) = parts_use_listed classes roles cs
  uses_listed classes roles (some_of r c) = nat_lt r roles && uses_listed classes roles c
  uses_listed classes roles (all_of r c) = nat_lt r roles && uses_listed classes roles c
  uses_listed classes roles (at_least n r c) = nat_lt r roles && uses_listed classes roles c
  uses_listed classes roles (at_most n r c) = nat_lt r roles && uses_listed classes roles c
  uses_listed classes roles (exactly n r c) = nat_lt r roles && uses_listed classes roles c

  -- each class and role number of the parts is below its count
  pub parts_use_listed : ℕ → ℕ → Parts → Bool
  parts_use_listed classes roles no_parts = true
  parts_use_listed classes roles (part c cs) = uses_listed classes roles c && parts_use_listed classes roles cs

-- the axiom's names are listed
abbrev pub axiom_uses_listed : ℕ → ℕ → ℕ → Axiom → Bool
axiom_uses_listed classes roles individuals (SubClassOf c d) =
    uses_listed classes roles c && uses_listed classes roles d
axiom_uses_listed classes roles individuals (EquivalentClasses cs) = parts_use_listed classes roles (parts_of cs)
axiom_uses_listed classes roles individuals (DisjointClasses cs) = parts_use_listed classes roles (parts_of cs)
axiom_uses_listed classes roles individuals (DisjointUnion c cs) =
    uses_listed classes roles c && parts_use_listed classes roles (parts_of cs)
axiom_uses_listed classes roles individuals (SubRole r s) = nat_lt r roles && nat_lt s roles
axiom_uses_listed classes roles individuals (EquivalentRoles rs) = list_all (λ r. nat_lt r roles) rs
axiom_uses_listed classes roles individuals (Domain r c) = nat_lt r roles && uses_listed classes roles c
axiom_uses_listed classes roles individuals (Range r c) = nat_lt r roles && uses_listed classes roles c
axiom_uses_listed classes roles individuals (Functional r) = nat_lt r roles
axiom_uses_listed classes roles individuals (Transitive r) = nat_lt r roles
axiom_uses_listed classes roles individuals (Member c a) = uses_listed classes roles c && nat_lt a individuals
axiom_uses_listed classes roles individuals (Pair r a b) =
    nat_lt r roles && (nat_lt a individuals && nat_lt b individuals)
axiom_uses_listed classes roles individuals (SameAll as_) = list_all (λ a. nat_lt a individuals) as_
axiom_uses_listed classes roles individuals (Different as_) = list_all (λ a. nat_lt a individuals) as_

-- the names of all these axioms are listed
abbrev pub all_use_listed : ℕ → ℕ → ℕ → List Numbered → Bool
all_use_listed classes roles individuals [] = true
all_use_listed classes roles individuals (a ∷ as_) =
    axiom_uses_listed classes roles individuals a.axiom && all_use_listed classes roles individuals as_
