-- The role axioms of a set, one number after the other.
use Rattle.std.proofs.Common.{◌≡◌, ℕ, ◌+◌, ◌<◌, ◌≤◌, ◌&&◌, ◌||◌, ◌⊎◌, Bool, true, false, eqb, leb, ltb, List, [], ◌∷◌}
use Rattle.std.proofs.Common.{take, length, get_or, ap, sym, ◌∙◌, inl, inr}
use Rattle.std.specs.Ordering.{nat_cmp}
use Rattle.std.specs.Cmp.{nat_eq_equiv}
use Rattle.std.specs.FinSet as sets
use Rattle.std.proofs.lemmas.Bool.{cases_Bool, eqb-true, and_left, and_right}
use Rattle.std.proofs.lemmas.List.{take_more, take_all}
use Rattle.std.proofs.lemmas.List.Elements.{All-get_or}
use Rattle.std.proofs.lemmas.List.Folds.{list_any-append}
use Rattle.std.proofs.Math.Bool.{and-or_distrib_right, or-false, or_comm, and-true}
use Rattle.axiom_sets.specs.NumberSets.{NumberSet}
use Rattle.axiom_sets.specs.Sets.{Limited, IsWithin, member_list}
use Rattle.axiom_sets.proofs.Bits.{contains_insert}
use Rattle.axiom_sets.proofs.Ranges.{any-passing}
use Rattle.row_cache.proofs.Named.{among_members}
use Rattle.absorption.proofs.Made.{members_within}
use Rattle.shq_terms.specs.declared.axioms.Numbered.{Numbered}
use Rattle.calculus_specs.specs.Rows.{is_among}
use Rattle.ontology_limits.specs.Meeting.{is_role_number}

-- a role axiom is put in
pub put_in : (axioms : List Numbered) (old : NumberSet) (n : ℕ) → is_role_number axioms n ≡ true → (k : ℕ)
    → sets.contains (sets.insert old n) k ≡ (sets.contains old k || (eqb n k && is_role_number axioms k))
put_in axioms old n is k =
    contains_insert old n k ∙ or_comm (eqb k n) (sets.contains old k)
    ∙ ap (λ (b : Bool). sets.contains old k || b) (nat_eq_equiv.symm k n ∙ sym (with_role (cases_Bool (eqb n k))))
  where
    with_role : (eqb n k ≡ true) ⊎ (eqb n k ≡ false) → (eqb n k && is_role_number axioms k) ≡ eqb n k
    with_role (inl e) =
        ap (λ (b : Bool). eqb n k && b) (ap (is_role_number axioms) (sym (eqb-true n k e)) ∙ is) ∙ and-true (eqb n k)
    with_role (inr e) = and_left (eqb n k) (is_role_number axioms k) e ∙ sym e

-- another axiom changes nothing
pub not_put : (axioms : List Numbered) (old : NumberSet) (n : ℕ) → is_role_number axioms n ≡ false → (k : ℕ)
    → sets.contains old k ≡ (sets.contains old k || (eqb n k && is_role_number axioms k))
not_put axioms old n is k =
    sym (ap (λ (b : Bool). sets.contains old k || b) (none (cases_Bool (eqb n k))) ∙ or-false (sets.contains old k))
  where
    none : (eqb n k ≡ true) ⊎ (eqb n k ≡ false) → (eqb n k && is_role_number axioms k) ≡ false
    none (inl e) =
        and_right (eqb n k) (is_role_number axioms k) (ap (is_role_number axioms) (sym (eqb-true n k e)) ∙ is)
    none (inr e) = and_left (eqb n k) (is_role_number axioms k) e

-- the set has those of the numbers that are role axioms
abbrev pub HasRoleAxioms : List Numbered → List ℕ → NumberSet → Type 0
HasRoleAxioms axioms ks s = (k : ℕ) → sets.contains s k ≡ (is_among ks k && is_role_number axioms k)

pub none_yet : (axioms : List Numbered) (s : NumberSet) → s ≡ sets.empty → HasRoleAxioms axioms [] s
none_yet axioms s e k = ap (λ (t : NumberSet). sets.contains t k) e ∙ sets.contains-empty nat_cmp k

pub one_more : (axioms : List Numbered) (ks : List ℕ) (i : ℕ) (old new : NumberSet) → i < length ks
    → HasRoleAxioms axioms (take i ks) old
    → ((k : ℕ) → sets.contains new k ≡ (sets.contains old k || (eqb (get_or ks i 0) k && is_role_number axioms k)))
    → HasRoleAxioms axioms (take (i + 1) ks) new
one_more axioms ks i old new lt has put k =
    let n = get_or ks i 0 in
    let is = is_role_number axioms k in
    let before = is_among (take i ks) k in
    let among : is_among (take (i + 1) ks) k ≡ (before || eqb n k) =
    ap (λ (l : List ℕ). is_among l k) (take_more ks i 0 lt)
    ∙ list_any-append (λ (j : ℕ). eqb j k) (take i ks) (n ∷ [])
    ∙ ap (λ (b : Bool). before || b) (or-false (eqb n k)) in
    put k
    ∙ ap (λ (b : Bool). b || (eqb n k && is)) (has k)
    ∙ sym (ap (λ (b : Bool). b && is) among ∙ and-or_distrib_right before (eqb n k) is)

-- each of the numbers may be a member
pub may_be_member : (s : Limited) (ks : List ℕ) (i : ℕ) → IsWithin s.limit s.members → ks ≡ member_list s
    → i < length ks → (1 ≤ get_or ks i 0) × (get_or ks i 0 ≤ s.limit)
may_be_member s ks i within e lt =
    All-get_or (λ k. (1 ≤ k) × (k ≤ s.limit)) ks i 0 lt (members_within s s.limit ks e within)

-- whether a number is a member
member_is_among : (s : Limited) → IsWithin s.limit s.members → (k : ℕ)
    → sets.contains s.members k ≡ is_among (member_list s) k
member_is_among s within k =
    let p = sets.contains s.members in
    elim (cases_Bool (p k)) [
      | inl t ↦ among_members s k (within k t).0 (within k t).1
      | inr f ↦
          f
          ∙ sym (any-passing p 0 (s.limit + 1) k ∙ ap (λ (b : Bool). b && (leb 0 k && ltb k (0 + (s.limit + 1)))) f)
    ]

-- all of the set's members are looked at
pub all_are : (axioms : List Numbered) (s : Limited) (ks : List ℕ) (i : ℕ) (found : NumberSet)
    → IsWithin s.limit s.members → ks ≡ member_list s → length ks ≤ i → HasRoleAxioms axioms (take i ks) found
    → (k : ℕ) → sets.contains found k ≡ (sets.contains s.members k && is_role_number axioms k)
all_are axioms s ks i found within e le has k =
    has k
    ∙ ap (λ (l : List ℕ). is_among l k && is_role_number axioms k) (take_all i ks le ∙ e)
    ∙ ap (λ (b : Bool). b && is_role_number axioms k) (sym (member_is_among s within k))
