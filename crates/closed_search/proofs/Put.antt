-- Numbers that are put in a set.
use Rattle.std.proofs.Common.{◌≡◌, ℕ, ◌<◌, ◌&&◌, ◌||◌, ◌⊎◌, eqb, Bool, true, false, List}
use Rattle.std.proofs.Common.{[], ◌∷◌, refl, ap, sym, ◌∙◌, inl, inr, arith}
use Rattle.std.specs.List.{list_any}
use Rattle.std.specs.Cmp.{nat_cmp_total, nat_eq_equiv, unsigned_tied}
use Rattle.std.specs.FinSet as sets
use Rattle.std.proofs.lemmas.Bool.{cases_Bool, eqb-true, and_right}
use Rattle.std.proofs.Math.Bool.{or_comm, and-or_distrib_left}
use Rattle.lane_sieve.specs.Sets.{NumberSet}
use Rattle.axiom_sets.specs.Sets.{Limited, IsWithin}
use Rattle.shq_terms.specs.declared.axioms.Numbered.{Numbered}
use Rattle.calculus_specs.specs.Line.{Line}
use Rattle.refutation_truth.specs.Meeting.{is_role_number}
use Rattle.closed_search.specs.Named.{uses_axiom, names_axiom, AreRoleAxioms, IsPut, ArePut, IsPutting}

pub outside : (s : Limited) (k : ℕ) → IsWithin s.limit s.members → (k < 1) ⊎ (s.limit < k)
    → false ≡ sets.contains s.members k
outside s k within out = elim (cases_Bool (sets.contains s.members k)) [
  | inr f ↦ sym f
  | inl t ↦
      elim out [ inl lt ↦ absurd (omega (arith, (within k t).0)) | inr gt ↦ absurd (omega (arith, (within k t).1)) ]
]

or_false : (a b : Bool) → b ≡ false → a ≡ (a || b)
or_false true b h = refl
or_false false b h = sym h

-- a member is put in
pub put_in : (members old : NumberSet) (n : ℕ) → sets.contains members n ≡ true
    → IsPut members (λ k. eqb n k) old (sets.insert old n)
put_in members old n member k =
    sets.contains-insert nat_cmp_total old n k
    ∙ ap (λ (b : Bool). b || sets.contains old k) (unsigned_tied k n ∙ nat_eq_equiv.symm k n)
    ∙ or_comm (eqb n k) (sets.contains old k)
    ∙ ap (λ (b : Bool). sets.contains old k || b) (same (cases_Bool (eqb n k)))
  where
    same : (eqb n k ≡ true) ⊎ (eqb n k ≡ false) → eqb n k ≡ (sets.contains members k && eqb n k)
    same (inl e) =
        e ∙ sym (ap (λ (b : Bool). b && eqb n k) (ap (sets.contains members) (sym (eqb-true n k e)) ∙ member) ∙ e)
    same (inr e) = e ∙ sym (and_right (sets.contains members k) (eqb n k) e)

-- what is no member changes nothing
pub not_put : (members old : NumberSet) (n : ℕ) → sets.contains members n ≡ false → IsPut members (λ k. eqb n k) old old
not_put members old n none k =
    or_false (sets.contains old k) (sets.contains members k && eqb n k) (no (cases_Bool (eqb n k)))
  where
    no : (eqb n k ≡ true) ⊎ (eqb n k ≡ false) → (sets.contains members k && eqb n k) ≡ false
    no (inl e) = ap (λ (b : Bool). b && eqb n k) (ap (sets.contains members) (sym (eqb-true n k e)) ∙ none)
    no (inr e) = and_right (sets.contains members k) (eqb n k) e

-- where the test fails, nothing changes
pub none_put : (members : NumberSet) (test : ℕ → Bool) (old : NumberSet) → ((k : ℕ) → test k ≡ false)
    → IsPut members test old old
none_put members test old none k =
    or_false (sets.contains old k) (sets.contains members k && test k)
    (and_right (sets.contains members k) (test k) (none k))

-- the same test
pub put_by : (members : NumberSet) (test other : ℕ → Bool) (old new : NumberSet) → ((k : ℕ) → test k ≡ other k)
    → IsPut members test old new → IsPut members other old new
put_by members test other old new same h k =
    h k ∙ ap (λ (b : Bool). sets.contains old k || (sets.contains members k && b)) (same k)

-- ---- item by item

with_next : (n s t r : Bool) → ((n || (s && t)) || (s && r)) ≡ (n || (s && (t || r)))
with_next true s t r = refl
with_next false true true r = refl
with_next false true false r = refl
with_next false false t r = refl

pub putting_more : {X : Type 0}
    → (members : NumberSet) (asks : ℕ → X → Bool) (items : List X) (old now next : NumberSet) (rest : List X) (x : X)
    (rest' : List X)
    → IsPutting members asks items old now rest → rest ≡ x ∷ rest'
    → IsPut members (λ k. asks k x) now next → IsPutting members asks items old next rest'
putting_more members asks items old now next rest x rest' h e put k =
    let s = sets.contains members k in
    ap (λ (b : Bool). b || (s && list_any (asks k) rest')) (put k)
    ∙ with_next (sets.contains now k) s (asks k x) (list_any (asks k) rest')
    ∙ ap (λ (l : List _). sets.contains now k || (s && list_any (asks k) l)) (sym e) ∙ h k

pub put_all : {X : Type 0}
    → (members : NumberSet) (asks : ℕ → X → Bool) (items : List X) (old now : NumberSet) (rest : List X)
    → IsPutting members asks items old now rest → rest ≡ [] → ArePut members asks items old now
put_all members asks items old now rest h e k =
    let s = sets.contains members k in
    or_false (sets.contains now k) (s && list_any (asks k) rest)
    (and_right s (list_any (asks k) rest) (ap (list_any (asks k)) e))
    ∙ h k

-- ---- all of them

pub names_all : (axioms : List Numbered) (s : Limited) (lines : List Line) (roles now : NumberSet)
    → AreRoleAxioms axioms s.members roles → ArePut s.members uses_axiom lines roles now → (k : ℕ)
    → sets.contains now k ≡ names_axiom axioms s.members lines k
names_all axioms s lines roles now are by_lines k =
    let m = sets.contains s.members k in
    let used = list_any (uses_axiom k) lines in
    by_lines k
    ∙ ap (λ (b : Bool). b || (m && used)) (are k)
    ∙ sym (and-or_distrib_left m (is_role_number axioms k) used)
