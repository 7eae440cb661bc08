-- The role axioms of an ontology, collected one by one.
use Rattle.std.proofs.Common.{◌≡◌, ℕ, zero, suc, ◌+◌, ◌-◌, ◌<◌, ◌≤◌, max, true, List, [], ◌∷◌, ◌++◌, Some, length}
use Rattle.std.proofs.Common.{get_or, drop, ap, sym, ◌∙◌, subst, arith, append_assoc, add-one, drop-cons}
use Rattle.std.specs.Prelude.{slice_get, nat_lt}
use Rattle.std.specs.List.{list_all}
use Rattle.std.proofs.lemmas.Bool.{and_parts, ltb-true}
use Rattle.shq_terms.specs.declared.axioms.Axiom.{Axiom}
use Rattle.shq_terms.specs.declared.axioms.Axiom.TheVariants.{SubClassOf, EquivalentClasses, DisjointClasses}
use Rattle.shq_terms.specs.declared.axioms.Axiom.TheVariants.{DisjointUnion, SubRole, EquivalentRoles, Domain, Range}
use Rattle.shq_terms.specs.declared.axioms.Axiom.TheVariants.{Functional, Transitive, Member, Pair, SameAll, Different}
use Rattle.shq_terms.specs.declared.axioms.Numbered.{Numbered}
use Rattle.shq_terms.specs.Uses.{axiom_uses_listed, all_use_listed}
use Rattle.role_box.specs.declared.role_axiom.RoleAxiom.{RoleAxiom}
use Rattle.role_box.specs.RoleAxioms.{role_part, role_part_at, role_axioms}
use Rattle.role_box.specs.Paths.{limit_of, role_limit}

slice_get_read : (xs : List Numbered) (k : ℕ) (x : Numbered) → k < length xs → x ≡ get_or xs k x
    → slice_get xs k ≡ Some x
slice_get_read [] k x lt e = absurd (omega arith)
slice_get_read (y ∷ ys) zero x lt e = ap Some (sym e)
slice_get_read (y ∷ ys) (suc k) x lt e = slice_get_read ys k x (omega arith) e

-- the axiom of one number more
pub collected_more : (axioms : List Numbered) (only : List ℕ) (i : ℕ) (item : Numbered) (found all : List RoleAxiom)
    → i < length only → get_or only i 0 - 1 < length axioms → item ≡ get_or axioms (get_or only i 0 - 1) item
    → found ++ role_axioms axioms (drop i only) ≡ all
    → (found ++ role_part (get_or axioms (get_or only i 0 - 1) item).axiom) ++ role_axioms axioms (drop (i + 1) only)
    ≡ all
collected_more axioms only i item found all within lt read before =
    let number = get_or only i 0 in
    let rest = drop (suc i) only in
    let e : drop i only ≡ number ∷ rest = drop-cons only i 0 within in
    let got : slice_get axioms (number - 1) ≡ Some item = slice_get_read axioms (number - 1) item lt read in
    let part : role_part_at (slice_get axioms (number - 1)) ≡ role_part item.axiom = ap role_part_at got in
    let earlier : found ++ (role_part_at (slice_get axioms (number - 1)) ++ role_axioms axioms rest) ≡ all =
    subst (λ (ks : List ℕ). found ++ role_axioms axioms ks ≡ all) e before in
    let earlier' : found ++ (role_part item.axiom ++ role_axioms axioms rest) ≡ all =
    subst (λ (as_ : List RoleAxiom). found ++ (as_ ++ role_axioms axioms rest) ≡ all) part earlier in
    let now : (found ++ role_part item.axiom) ++ role_axioms axioms (drop (i + 1) only) ≡ all =
    rw (add-one, append_assoc) earlier' in
    subst (λ (n : Numbered). (found ++ role_part n.axiom) ++ role_axioms axioms (drop (i + 1) only) ≡ all) read now

-- ---- the roles of collected axioms are listed

all_within : (rs : List ℕ) (n : ℕ) → list_all (λ r. nat_lt r n) rs ≡ true → limit_of rs ≤ n
all_within [] n h = omega arith
all_within (r ∷ rs) n h =
    let parts = and_parts (nat_lt r n) (list_all (λ k. nat_lt k n) rs) h in
    let first = ltb-true r n parts.0 in
    let rest = all_within rs n parts.1 in
    omega arith

part_within : (classes roles individuals : ℕ) (a : Axiom) → axiom_uses_listed classes roles individuals a ≡ true
    → role_limit (role_part a) ≤ roles
part_within classes roles individuals (SubClassOf c d) h = omega arith
part_within classes roles individuals (EquivalentClasses cs) h = omega arith
part_within classes roles individuals (DisjointClasses cs) h = omega arith
part_within classes roles individuals (DisjointUnion c cs) h = omega arith
part_within classes roles individuals (SubRole r s) h =
    let parts = and_parts (nat_lt r roles) (nat_lt s roles) h in
    let lower = ltb-true r roles parts.0 in
    let upper = ltb-true s roles parts.1 in
    omega arith
part_within classes roles individuals (EquivalentRoles rs) h = let within = all_within rs roles h in omega arith
part_within classes roles individuals (Domain r c) h = omega arith
part_within classes roles individuals (Range r c) h = omega arith
part_within classes roles individuals (Functional r) h = omega arith
part_within classes roles individuals (Transitive r) h = let within = ltb-true r roles h in omega arith
part_within classes roles individuals (Member c a) h = omega arith
part_within classes roles individuals (Pair r a b) h = omega arith
part_within classes roles individuals (SameAll as_) h = omega arith
part_within classes roles individuals (Different as_) h = omega arith

part_at_within : (classes roles individuals : ℕ) (axioms : List Numbered) (k : ℕ)
    → all_use_listed classes roles individuals axioms ≡ true → role_limit (role_part_at (slice_get axioms k)) ≤ roles
part_at_within classes roles individuals [] k h = omega arith
part_at_within classes roles individuals (a ∷ as_) zero h =
    part_within classes roles individuals a.axiom
    (and_parts (axiom_uses_listed classes roles individuals a.axiom) (all_use_listed classes roles individuals as_) h).0
part_at_within classes roles individuals (a ∷ as_) (suc k) h =
    part_at_within classes roles individuals as_ k
    (and_parts (axiom_uses_listed classes roles individuals a.axiom) (all_use_listed classes roles individuals as_) h).1

role_limit-append : (as_ bs : List RoleAxiom) → role_limit (as_ ++ bs) ≡ max (role_limit as_) (role_limit bs)
role_limit-append [] bs = omega arith
role_limit-append (a ∷ as_) bs = let e = role_limit-append as_ bs in omega arith

pub collected_within : (classes roles individuals : ℕ) (axioms : List Numbered) (only : List ℕ)
    → all_use_listed classes roles individuals axioms ≡ true → role_limit (role_axioms axioms only) ≤ roles
collected_within classes roles individuals axioms [] h = omega arith
collected_within classes roles individuals axioms (k ∷ ks) h =
    let first = part_at_within classes roles individuals axioms (k - 1) h in
    let rest = collected_within classes roles individuals axioms ks h in
    let e = role_limit-append (role_part_at (slice_get axioms (k - 1))) (role_axioms axioms ks) in
    omega arith

pub found_within : (classes roles individuals : ℕ) (axioms all : List Numbered) (only : List ℕ)
    (found rest : List RoleAxiom)
    → all ≡ axioms → all_use_listed classes roles individuals axioms ≡ true
    → found ++ rest ≡ role_axioms all only → role_limit found ≤ roles
found_within classes roles individuals axioms all only found rest same listed e =
    let listed' : all_use_listed classes roles individuals all ≡ true =
    ap (all_use_listed classes roles individuals) same ∙ listed in
    let within = collected_within classes roles individuals all only listed' in
    let whole : role_limit (found ++ rest) ≡ role_limit (role_axioms all only) = ap role_limit e in
    let parts = role_limit-append found rest in
    omega arith
