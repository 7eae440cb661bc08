-- Where no axiom makes a role transitive, each role is simple.
use Rattle.std.proofs.Common.{◌≡◌, ℕ, zero, suc, ◌-◌, Bool, true, false, List, [], ◌∷◌, Option, Some, None, length}
use Rattle.std.proofs.Common.{refl, sym, ap, ◌∙◌}
use Rattle.std.specs.Prelude.{slice_get}
use Rattle.std.specs.List.{list_any, range_with_len}
use Rattle.std.proofs.lemmas.Bool.{or_parts}
use Rattle.std.proofs.lemmas.List.Folds.{list_any-append}
use Rattle.shq_terms.specs.declared.axioms.Axiom.{Axiom}
use Rattle.shq_terms.specs.declared.axioms.Axiom.TheVariants.{SubClassOf, EquivalentClasses, DisjointClasses}
use Rattle.shq_terms.specs.declared.axioms.Axiom.TheVariants.{DisjointUnion, SubRole, EquivalentRoles, Domain, Range}
use Rattle.shq_terms.specs.declared.axioms.Axiom.TheVariants.{Functional, Transitive, Member, Pair, SameAll, Different}
use Rattle.shq_terms.specs.declared.axioms.Numbered.{Numbered}
use Rattle.role_box.specs.declared.role_axiom.RoleAxiom.{RoleAxiom}
use Rattle.role_box.specs.RoleAxioms.{role_part, role_part_at, role_axioms}
use Rattle.role_box.specs.Steps.{is_transitive_by, is_transitive}
use Rattle.role_box.specs.Simple.{is_simple, all_role_axioms, are_simple, first_not_simple, line_not_simple}
use Rattle.role_box.specs.Simple.{are_simple_by, is_transitivity, AreRolesOf, are_simple_in, line_in}
use Rattle.role_box.specs.Counted.{counted_by}
use Rattle.role_box.proofs.Tested.{simple_test}

part_plain : (a : Axiom) (t : ℕ) → is_transitivity a ≡ false → is_transitive (role_part a) t ≡ false
part_plain (SubClassOf c d) t h = refl
part_plain (EquivalentClasses cs) t h = refl
part_plain (DisjointClasses cs) t h = refl
part_plain (DisjointUnion c cs) t h = refl
part_plain (SubRole r s) t h = refl
part_plain (EquivalentRoles rs) t h = refl
part_plain (Domain r c) t h = refl
part_plain (Range r c) t h = refl
part_plain (Functional r) t h = refl
part_plain (Transitive r) t h = let clash : true ≡ false = h in absurd (cc clash)
part_plain (Member c a) t h = refl
part_plain (Pair r a b) t h = refl
part_plain (SameAll as_) t h = refl
part_plain (Different as_) t h = refl

abbrev has_transitivity : List Numbered → Bool
has_transitivity axioms = list_any (λ n. is_transitivity n.axiom) axioms

part_at_plain : (axioms : List Numbered) (k t : ℕ) → has_transitivity axioms ≡ false
    → is_transitive (role_part_at (slice_get axioms k)) t ≡ false
part_at_plain [] k t h = refl
part_at_plain (a ∷ as_) zero t h = part_plain a.axiom t (or_parts (is_transitivity a.axiom) (has_transitivity as_) h).0
part_at_plain (a ∷ as_) (suc k) t h =
    part_at_plain as_ k t (or_parts (is_transitivity a.axiom) (has_transitivity as_) h).1

none_transitive : (axioms : List Numbered) (ks : List ℕ) (t : ℕ) → has_transitivity axioms ≡ false
    → is_transitive (role_axioms axioms ks) t ≡ false
none_transitive axioms [] t h = refl
none_transitive axioms (k ∷ ks) t h =
    list_any-append (λ a. is_transitive_by a t) (role_part_at (slice_get axioms (k - 1))) (role_axioms axioms ks)
    ∙ rw (part_at_plain axioms (k - 1) t h) (none_transitive axioms ks t h)

pub all_simple : (axioms : List Numbered) → list_any (λ n. is_transitivity n.axiom) axioms ≡ false → (r : ℕ)
    → is_simple (all_role_axioms axioms) r ≡ true
all_simple axioms h r =
    (simple_test (all_role_axioms axioms) r).1
    (λ t transitive below. (let clash : true ≡ false =
    sym transitive ∙ none_transitive axioms (range_with_len 1 (length axioms)) t h in
    absurd (cc clash)))

are_all_simple : (roles : List RoleAxiom) → ((r : ℕ) → is_simple roles r ≡ true) → (rs : List ℕ)
    → are_simple roles rs ≡ true
are_all_simple roles simple [] = refl
are_all_simple roles simple (r ∷ rs) = rw (simple r) (are_all_simple roles simple rs)

none_not_simple : (roles : List RoleAxiom) → ((r : ℕ) → is_simple roles r ≡ true) → (axioms : List Numbered)
    → None ≡ first_not_simple roles axioms
none_not_simple roles simple [] = refl
none_not_simple roles simple (n ∷ ns) =
    rw (are_all_simple roles simple (counted_by n.axiom)) (none_not_simple roles simple ns)

-- what is given answers for the ontology
pub simple_is : (axioms : List Numbered) (roles : Option (List RoleAxiom)) (rs : List ℕ) → AreRolesOf axioms roles
    → are_simple_in roles rs ≡ are_simple_by axioms rs
simple_is axioms None rs simple = sym (are_all_simple (all_role_axioms axioms) simple rs)
simple_is axioms (Some roles) rs same = ap (λ (as_ : List RoleAxiom). are_simple as_ rs) same

pub line_is : (axioms : List Numbered) (roles : Option (List RoleAxiom)) → AreRolesOf axioms roles
    → line_in roles axioms ≡ line_not_simple axioms
line_is axioms None simple = none_not_simple (all_role_axioms axioms) simple axioms
line_is axioms (Some roles) same = ap (λ (as_ : List RoleAxiom). first_not_simple as_ axioms) same
