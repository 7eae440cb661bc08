-- An interpretation that meets the named axioms meets the theory that is made of them.
use Rattle.std.proofs.Common.{◌≡◌, ℕ, zero, suc, ◌+◌, ◌-◌, ◌<◌, ◌&&◌, Bool, true, cond, eqb, List, [], ◌∷◌, get_or}
use Rattle.std.proofs.Common.{Option, Some, None, refl, ap, ◌∙◌, sym, subst, inl, inr}
use Rattle.std.specs.Prelude.{slice_get}
use Rattle.std.specs.List.{list_any, list_all, find}
use Rattle.std.specs.Option.{option_map}
use Rattle.std.proofs.lemmas.Bool.{cases_Bool, and_parts, and_from, or_cases, eqb-true}
use Rattle.std.proofs.lemmas.List.Folds.{list_all-append, list_any-append}
use Rattle.shq_nnf.proofs.Bools.{or_only}
use Rattle.shq_nnf.specs.Axiom.{Axiom}
use Rattle.shq_nnf.specs.Axiom.TheVariants.{SubClassOf, EquivalentClasses, DisjointClasses, DisjointUnion, SubRole}
use Rattle.shq_nnf.specs.Axiom.TheVariants.{EquivalentRoles, Domain, Range, Functional, Transitive, Member, Pair}
use Rattle.shq_nnf.specs.Axiom.TheVariants.{SameAll, Different}
use Rattle.shq_nnf.specs.Numbered.{Numbered}
use Rattle.role_box.specs.TheoryRows.{Part, NumberedPart, is_numbered}
use Rattle.role_box.specs.Roles.{IsBelow, itself, by_step}
use Rattle.shq_nnf.specs.Below.{all_below}
use Rattle.shq_nnf.specs.Truth.{Interpretation, implies, included, roles_equal, meets, meets_all}
use Rattle.shq_nnf.proofs.Implied.{implied}
use Rattle.shq_nnf.specs.Parts.{axiom_parts}
use Rattle.shq_nnf.specs.Meeting.{meets_part, meets_parts}
use Rattle.shq_nnf.proofs.Meeting.{axiom_is_parts}
use Rattle.role_box.specs.RoleAxioms.{role_part, role_part_at, role_axioms}
use Rattle.role_box.specs.Steps.{is_among, leads_by, leads, Leads, is_transitive_by, is_transitive}
use Rattle.role_box.proofs.Limits.{test_is_below}
use Rattle.refutation_truth.specs.Theory.{axioms_in, named_axioms, all_axioms, parts_in, parts_at, numbered_parts}
use Rattle.refutation_truth.specs.Theory.{named_parts, theory_of}
use Rattle.refutation_truth.proofs.Below.{all_at}
use Rattle.refutation_truth.proofs.Models.{found}
use Rattle.refutation_truth.proofs.Lines.{MeetsTheory}

-- ---- roles

module _ (i : Interpretation) where
  -- each pair of r is one of s
  abbrev Upward : ℕ → ℕ → Type 0
  Upward r s = (x y : ℕ) → x < i.size → y < i.size → i.in_role r x y ≡ true → i.in_role s x y ≡ true

  -- two pairs of t, the second of which begins where the first ends, make a third
  abbrev Onward : ℕ → Type 0
  Onward t = (x y z : ℕ) → x < i.size → y < i.size → z < i.size → i.in_role t x y ≡ true → i.in_role t y z ≡ true
      → i.in_role t x z ≡ true

  included_up : (r s : ℕ) → included i r s ≡ true → Upward r s
  included_up r s h x y lt mt e =
      let from_x : all_below i.size (λ w. implies (i.in_role r x w) (i.in_role s x w)) ≡ true =
      all_at i.size (λ v. all_below i.size (λ w. implies (i.in_role r v w) (i.in_role s v w))) x h lt in
      implied (i.in_role r x y) (i.in_role s x y)
      (all_at i.size (λ w. implies (i.in_role r x w) (i.in_role s x w)) y from_x mt) e

  -- a role that is made equivalent to others has the pairs of the first
  both_ways : (rs : List ℕ) (r : ℕ) → roles_equal i rs ≡ true → is_among rs r ≡ true
      → (included i (get_or rs 0 0) r && included i r (get_or rs 0 0)) ≡ true
  both_ways rs r h among =
      let f = found (λ s. eqb s r) (λ s. included i (get_or rs 0 0) s && included i s (get_or rs 0 0)) rs among h in
      subst (λ (s : ℕ). (included i (get_or rs 0 0) s && included i s (get_or rs 0 0)) ≡ true) (eqb-true f.it r f.first)
      f.second

  step_up : (a : Axiom) (r s : ℕ) → list_any (λ b. leads_by b r s) (role_part a) ≡ true → meets i a ≡ true → Upward r s
  step_up (SubRole lower upper) r s h m =
      let b = and_parts (eqb lower r) (eqb upper s) (or_only (eqb lower r && eqb upper s) h) in
      let from = eqb-true lower r b.0 in
      let to = eqb-true upper s b.1 in
      let same : included i lower upper ≡ included i r s = λ j. included i (from j) (to j) in
      included_up r s (sym same ∙ m)
  step_up (EquivalentRoles rs) r s h m =
      let b = and_parts (is_among rs r) (is_among rs s) (or_only (is_among rs r && is_among rs s) h) in
      let up = and_parts (included i (get_or rs 0 0) r) (included i r (get_or rs 0 0)) (both_ways rs r m b.0) in
      let down = and_parts (included i (get_or rs 0 0) s) (included i s (get_or rs 0 0)) (both_ways rs s m b.1) in
      λ x y lt mt e. included_up (get_or rs 0 0) s down.0 x y lt mt (included_up r (get_or rs 0 0) up.1 x y lt mt e)
  step_up (SubClassOf c d) r s h m = cc
  step_up (EquivalentClasses cs) r s h m = cc
  step_up (DisjointClasses cs) r s h m = cc
  step_up (DisjointUnion c cs) r s h m = cc
  step_up (Domain p c) r s h m = cc
  step_up (Range p c) r s h m = cc
  step_up (Functional p) r s h m = cc
  step_up (Transitive p) r s h m = cc
  step_up (Member c a) r s h m = cc
  step_up (Pair p a b) r s h m = cc
  step_up (SameAll as_) r s h m = cc
  step_up (Different as_) r s h m = cc

  step_on : (a : Axiom) (t : ℕ) → list_any (λ b. is_transitive_by b t) (role_part a) ≡ true → meets i a ≡ true
      → Onward t
  step_on (Transitive r) t h m =
      let same = eqb-true r t (or_only (eqb r t) h) in
      subst Onward same
      (λ x y z lt mt nt e f.
      let from_x :
      all_below i.size
      (λ w. implies (i.in_role r x w) (all_below i.size (λ v. implies (i.in_role r w v) (i.in_role r x v))))
      ≡ true =
      all_at i.size
      (λ u. all_below i.size
      (λ w. implies (i.in_role r u w) (all_below i.size (λ v. implies (i.in_role r w v) (i.in_role r u v)))))
      x m lt in
      let over_y : all_below i.size (λ v. implies (i.in_role r y v) (i.in_role r x v)) ≡ true =
      implied (i.in_role r x y) (all_below i.size (λ v. implies (i.in_role r y v) (i.in_role r x v)))
      (all_at i.size
      (λ w. implies (i.in_role r x w) (all_below i.size (λ v. implies (i.in_role r w v) (i.in_role r x v)))) y from_x
      mt)
      e in
      implied (i.in_role r y z) (i.in_role r x z)
      (all_at i.size (λ v. implies (i.in_role r y v) (i.in_role r x v)) z over_y nt) f)
  step_on (SubClassOf c d) t h m = cc
  step_on (EquivalentClasses cs) t h m = cc
  step_on (DisjointClasses cs) t h m = cc
  step_on (DisjointUnion c cs) t h m = cc
  step_on (SubRole p q) t h m = cc
  step_on (EquivalentRoles rs) t h m = cc
  step_on (Domain p c) t h m = cc
  step_on (Range p c) t h m = cc
  step_on (Functional p) t h m = cc
  step_on (Member c a) t h m = cc
  step_on (Pair p a b) t h m = cc
  step_on (SameAll as_) t h m = cc
  step_on (Different as_) t h m = cc

  up_at : (o : Option Numbered) (r s : ℕ) → leads (role_part_at o) r s ≡ true → list_all (meets i) (axioms_in o) ≡ true
      → Upward r s
  up_at None r s h m = cc
  up_at (Some n) r s h m = step_up n.axiom r s h (and_parts (meets i n.axiom) true m).0

  on_at : (o : Option Numbered) (t : ℕ) → is_transitive (role_part_at o) t ≡ true
      → list_all (meets i) (axioms_in o) ≡ true → Onward t
  on_at None t h m = cc
  on_at (Some n) t h m = step_on n.axiom t h (and_parts (meets i n.axiom) true m).0

  module _ (axioms : List Numbered) where
    -- what the interpretation meets of the first of some numbers, and of the others
    pub met_parts : (k : ℕ) (ks : List ℕ) → meets_all i (named_axioms axioms (k ∷ ks)) ≡ true
        → (list_all (meets i) (axioms_in (slice_get axioms (k - 1))) ≡ true)
        × (meets_all i (named_axioms axioms ks) ≡ true)
    met_parts k ks m =
        and_parts (list_all (meets i) (axioms_in (slice_get axioms (k - 1)))) (meets_all i (named_axioms axioms ks))
        (sym (list_all-append (meets i) (axioms_in (slice_get axioms (k - 1))) (named_axioms axioms ks)) ∙ m)

    leads_up : (ks : List ℕ) (r s : ℕ) → leads (role_axioms axioms ks) r s ≡ true
        → meets_all i (named_axioms axioms ks) ≡ true → Upward r s
    leads_up [] r s h m = cc
    leads_up (k ∷ ks) r s h m =
        let b = met_parts k ks m in
        let o = slice_get axioms (k - 1) in
        elim (or_cases (leads (role_part_at o) r s) (leads (role_axioms axioms ks) r s)
        (sym (list_any-append (λ a. leads_by a r s) (role_part_at o) (role_axioms axioms ks)) ∙ h)) [
          | inl here ↦ up_at o r s here b.0
          | inr later ↦ leads_up ks r s later b.1
        ]

    transitive_on : (ks : List ℕ) (t : ℕ) → is_transitive (role_axioms axioms ks) t ≡ true
        → meets_all i (named_axioms axioms ks) ≡ true → Onward t
    transitive_on [] t h m = cc
    transitive_on (k ∷ ks) t h m =
        let b = met_parts k ks m in
        let o = slice_get axioms (k - 1) in
        elim (or_cases (is_transitive (role_part_at o) t) (is_transitive (role_axioms axioms ks) t)
        (sym (list_any-append (λ a. is_transitive_by a t) (role_part_at o) (role_axioms axioms ks)) ∙ h)) [
          | inl here ↦ on_at o t here b.0
          | inr later ↦ transitive_on ks t later b.1
        ]

    chain_up : (ks : List ℕ) → meets_all i (named_axioms axioms ks) ≡ true → (r s : ℕ)
        → IsBelow (Leads (role_axioms axioms ks)) r s → Upward r s
    chain_up ks m r r' (itself s) x y lt mt e = e
    chain_up ks m r r' (by_step a b c h step) x y lt mt e =
        leads_up ks b c step m x y lt mt (chain_up ks m a b h x y lt mt e)

  -- ---- parts

  axiom_met : (a : Axiom) → meets i a ≡ true → meets_parts i (axiom_parts a) ≡ true
  axiom_met (SubClassOf c d) m = sym (axiom_is_parts i (SubClassOf c d) refl refl) ∙ m
  axiom_met (EquivalentClasses cs) m = sym (axiom_is_parts i (EquivalentClasses cs) refl refl) ∙ m
  axiom_met (DisjointClasses cs) m = sym (axiom_is_parts i (DisjointClasses cs) refl refl) ∙ m
  axiom_met (DisjointUnion c cs) m = sym (axiom_is_parts i (DisjointUnion c cs) refl refl) ∙ m
  axiom_met (SubRole p q) m = refl
  axiom_met (EquivalentRoles rs) m = refl
  axiom_met (Domain p c) m = sym (axiom_is_parts i (Domain p c) refl refl) ∙ m
  axiom_met (Range p c) m = sym (axiom_is_parts i (Range p c) refl refl) ∙ m
  axiom_met (Functional p) m = sym (axiom_is_parts i (Functional p) refl refl) ∙ m
  axiom_met (Transitive p) m = refl
  axiom_met (Member c a) m = refl
  axiom_met (Pair p a b) m = refl
  axiom_met (SameAll as_) m = refl
  axiom_met (Different as_) m = refl

  abbrev are_met : List NumberedPart → Bool
  are_met ns = list_all (λ n. meets_part i n.part) ns

  numbered_met : (k : ℕ) (qs : List Part) (first : ℕ) → meets_parts i qs ≡ true
      → are_met (numbered_parts k first qs) ≡ true
  numbered_met k [] first h = refl
  numbered_met k (q ∷ qs) first h =
      let b = and_parts (meets_part i q) (meets_parts i qs) h in
      and_from (meets_part i q) (are_met (numbered_parts k (first + 1) qs)) b.0 (numbered_met k qs (first + 1) b.1)

  in_met : (o : Option Numbered) → list_all (meets i) (axioms_in o) ≡ true → meets_parts i (parts_in o) ≡ true
  in_met None m = refl
  in_met (Some n) m = axiom_met n.axiom (and_parts (meets i n.axiom) true m).0

  named_met : (axioms : List Numbered) (ks : List ℕ) → meets_all i (named_axioms axioms ks) ≡ true
      → are_met (named_parts axioms ks) ≡ true
  named_met axioms [] m = refl
  named_met axioms (k ∷ ks) m =
      let b = met_parts axioms k ks m in
      list_all-append (λ n. meets_part i n.part) (numbered_parts k 1 (parts_at axioms k)) (named_parts axioms ks)
      ∙ and_from (are_met (numbered_parts k 1 (parts_at axioms k))) (are_met (named_parts axioms ks))
      (numbered_met k (parts_at axioms k) 1 (in_met (slice_get axioms (k - 1)) b.0)) (named_met axioms ks b.1)

  found_met : (p : NumberedPart → Bool) (ns : List NumberedPart) (q : Part) → are_met ns ≡ true
      → option_map (λ n. n.part) (find p ns) ≡ Some q → meets_part i q ≡ true
  found_met p [] q h e = cc
  found_met p (n ∷ ns) q h e =
      let b = and_parts (meets_part i n.part) (are_met ns) h in
      elim (cases_Bool (p n)) [
        | inl hit ↦
            let at : option_map (λ (m : NumberedPart). m.part) (find p (n ∷ ns)) ≡ Some n.part =
            ap (λ (t : Bool). option_map (λ (m : NumberedPart). m.part) (cond t (Some n) (find p ns))) hit in
            let same : n.part ≡ q = cc in
            subst (λ (r : Part). meets_part i r ≡ true) same b.0
        | inr miss ↦
            let at : option_map (λ (m : NumberedPart). m.part) (find p (n ∷ ns))
            ≡ option_map (λ (m : NumberedPart). m.part) (find p ns) =
            ap (λ (t : Bool). option_map (λ (m : NumberedPart). m.part) (cond t (Some n) (find p ns))) miss in
            found_met p ns q b.1 (sym at ∙ e)
      ]

  pub meets_theory : (axioms : List Numbered) (ks : List ℕ) → meets_all i (named_axioms axioms ks) ≡ true
      → MeetsTheory i (theory_of axioms ks)
  meets_theory axioms ks m = record {
    upward = λ r s h. chain_up axioms ks m r s ((test_is_below (role_axioms axioms ks) r s).0 h);
    onward = λ t h. transitive_on axioms ks t h m;
    met = λ a p q e. found_met (is_numbered a p) (named_parts axioms ks) q (named_met axioms ks m) e;
  }

  -- ---- all axioms

  got_met : (axioms : List Numbered) (n : ℕ) → meets_all i (all_axioms axioms) ≡ true
      → list_all (meets i) (axioms_in (slice_get axioms n)) ≡ true
  got_met [] n m = refl
  got_met (a ∷ axioms) zero m =
      and_from (meets i a.axiom) true (and_parts (meets i a.axiom) (meets_all i (all_axioms axioms)) m).0 refl
  got_met (a ∷ axioms) (suc n) m = got_met axioms n (and_parts (meets i a.axiom) (meets_all i (all_axioms axioms)) m).1

  pub meets_named : (axioms : List Numbered) (ks : List ℕ) → meets_all i (all_axioms axioms) ≡ true
      → meets_all i (named_axioms axioms ks) ≡ true
  meets_named axioms [] m = refl
  meets_named axioms (k ∷ ks) m =
      let head = got_met axioms (k - 1) m in
      list_all-append (meets i) (axioms_in (slice_get axioms (k - 1))) (named_axioms axioms ks)
      ∙ and_from (list_all (meets i) (axioms_in (slice_get axioms (k - 1)))) (meets_all i (named_axioms axioms ks)) head
      (meets_named axioms ks m)
