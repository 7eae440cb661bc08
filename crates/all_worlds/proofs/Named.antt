-- A world that meets the named axioms meets the theory that is made of them, and their facts are not false in it.
use Rattle.std.proofs.Common.{◌≡◌, ℕ, zero, suc, ◌+◌, ◌-◌, ◌<◌, ◌&&◌, Bool, true, false, cond, eqb, ltb, List, [], ◌∷◌}
use Rattle.std.proofs.Common.{Option, Some, None, refl, ap, ◌∙◌, sym, subst, arith, inl, inr}
use Rattle.std.specs.Prelude.{slice_get, if◌then◌else◌, All}
use Rattle.std.specs.List.{list_any, find}
use Rattle.std.specs.Option.{option_map}
use Rattle.std.proofs.lemmas.Bool.{cases_Bool, cases_eq, cases_lt, and_parts, or_cases, eqb-true, eq-eqb, ne_eqb}
use Rattle.std.proofs.lemmas.Bool.{lt-ltb}
use Rattle.std.proofs.lemmas.Bool.{le-ltb}
use Rattle.std.proofs.lemmas.List.Folds.{list_any-append}
use Rattle.std.proofs.lemmas.List.Elements.{All-nil, All-cons, All-head, All-tail, All-append}
use Rattle.shq_nnf.proofs.Bools.{or_only}
use Rattle.shq_nnf.specs.Concept.{Concept}
use Rattle.shq_nnf.specs.Axiom.{Axiom}
use Rattle.shq_nnf.specs.Axiom.TheVariants.{SubClassOf, EquivalentClasses, DisjointClasses, DisjointUnion, SubRole}
use Rattle.shq_nnf.specs.Axiom.TheVariants.{EquivalentRoles, Domain, Range, Functional, Transitive, Member, Pair}
use Rattle.shq_nnf.specs.Axiom.TheVariants.{SameAll, Different}
use Rattle.shq_nnf.specs.Numbered.{Numbered}
use Rattle.role_box.specs.On.TheVariants.{Any, Individual}
use Rattle.role_box.specs.TheoryRows.{Part, NumberedPart, is_numbered, is_among}
use Rattle.role_box.specs.Roles.{IsBelow, itself, by_step}
use Rattle.role_box.specs.RoleAxioms.{role_part, role_part_at, role_axioms}
use Rattle.role_box.specs.Steps.{is_among as is_role_among, leads_by, leads, Leads, is_transitive_by, is_transitive}
use Rattle.role_box.specs.Fact.{Fact}
use Rattle.role_box.proofs.Limits.{test_is_below}
use Rattle.shq_nnf.specs.Facts.{facts_of, fact_at}
use Rattle.refutation_truth.specs.Theory.{axioms_in, named_axioms, all_axioms, parts_in, parts_at, numbered_parts}
use Rattle.refutation_truth.specs.Theory.{named_parts, theory_of, nodes_pass, listed_fact, fact_in, fact_of_axiom}
use Rattle.refutation_truth.specs.Theory.{node_in_question}
use Rattle.all_worlds.specs.Worlds.{World, IsSubRole, MeetsEverywhere, MeetsAll}
use Rattle.all_worlds.proofs.Lists.{found, all_split}
use Rattle.all_worlds.proofs.Meeting.{MeetsPart, parts_met, IsNotFalse, facts_met}
use Rattle.all_worlds.proofs.Lines.{MeetsTheory, IsTrueOfNamed, begun}

module _ {d : Type 0} (w : World d) where
  abbrev Meets : List Axiom → Type 0
  Meets as_ = MeetsAll w as_

  -- ---- roles

  abbrev IsOnward : ℕ → Type 0
  IsOnward t = (x y z : d) → w.in_role t x y ≡ true → w.in_role t y z ≡ true → w.in_role t x z ≡ true

  -- what is so of all roles is so of one among them
  role_among : (P : ℕ → Type 0) (rs : List ℕ) (r : ℕ) → All P rs → is_role_among rs r ≡ true → P r
  role_among P rs r all among = let f = found (λ s. eqb s r) P rs among all in subst P (eqb-true f.it r f.passes) f.has

  step_up : (a : Axiom) (r s : ℕ) → list_any (λ b. leads_by b r s) (role_part a) ≡ true → MeetsEverywhere w a
      → IsSubRole w r s
  step_up (SubRole lower upper) r s h m =
      let b = and_parts (eqb lower r) (eqb upper s) (or_only (eqb lower r && eqb upper s) h) in
      let from : IsSubRole w r upper = subst (λ (q : ℕ). IsSubRole w q upper) (eqb-true lower r b.0) m in
      subst (IsSubRole w r) (eqb-true upper s b.1) from
  step_up (EquivalentRoles rs) r s h m =
      let b = and_parts (is_role_among rs r) (is_role_among rs s) (or_only (is_role_among rs r && is_role_among rs s) h)
      in
      role_among (IsSubRole w r) rs s (role_among (λ q. All (IsSubRole w q) rs) rs r m b.0) b.1
  step_up (SubClassOf c e) r s h m = cc
  step_up (EquivalentClasses cs) r s h m = cc
  step_up (DisjointClasses cs) r s h m = cc
  step_up (DisjointUnion c cs) r s h m = cc
  step_up (Domain p c) r s h m = cc
  step_up (Range p c) r s h m = cc
  step_up (Functional p) r s h m = cc
  step_up (Transitive p) r s h m = cc
  step_up (Member c a) r s h m = cc
  step_up (Pair p a b) r s h m = cc
  step_up (SameAll as_) r s h m = cc
  step_up (Different as_) r s h m = cc

  step_on : (a : Axiom) (t : ℕ) → list_any (λ b. is_transitive_by b t) (role_part a) ≡ true → MeetsEverywhere w a
      → IsOnward t
  step_on (Transitive r) t h m = subst IsOnward (eqb-true r t (or_only (eqb r t) h)) m
  step_on (SubClassOf c e) t h m = cc
  step_on (EquivalentClasses cs) t h m = cc
  step_on (DisjointClasses cs) t h m = cc
  step_on (DisjointUnion c cs) t h m = cc
  step_on (SubRole p q) t h m = cc
  step_on (EquivalentRoles rs) t h m = cc
  step_on (Domain p c) t h m = cc
  step_on (Range p c) t h m = cc
  step_on (Functional p) t h m = cc
  step_on (Member c a) t h m = cc
  step_on (Pair p a b) t h m = cc
  step_on (SameAll as_) t h m = cc
  step_on (Different as_) t h m = cc

  up_at : (o : Option Numbered) (r s : ℕ) → leads (role_part_at o) r s ≡ true → Meets (axioms_in o) → IsSubRole w r s
  up_at None r s h m = cc
  up_at (Some n) r s h m = step_up n.axiom r s h (All-head (MeetsEverywhere w) n.axiom [] m)

  on_at : (o : Option Numbered) (t : ℕ) → is_transitive (role_part_at o) t ≡ true → Meets (axioms_in o) → IsOnward t
  on_at None t h m = cc
  on_at (Some n) t h m = step_on n.axiom t h (All-head (MeetsEverywhere w) n.axiom [] m)

  module _ (axioms : List Numbered) where
    -- what the world meets of the first of some numbers, and of the others
    met_split : (k : ℕ) (ks : List ℕ) → Meets (named_axioms axioms (k ∷ ks))
        → Meets (axioms_in (slice_get axioms (k - 1))) × Meets (named_axioms axioms ks)
    met_split k ks m =
        all_split (MeetsEverywhere w) (axioms_in (slice_get axioms (k - 1))) (named_axioms axioms ks) m

    leads_up : (ks : List ℕ) (r s : ℕ) → leads (role_axioms axioms ks) r s ≡ true → Meets (named_axioms axioms ks)
        → IsSubRole w r s
    leads_up [] r s h m = cc
    leads_up (k ∷ ks) r s h m =
        let b = met_split k ks m in
        let o = slice_get axioms (k - 1) in
        elim (or_cases (leads (role_part_at o) r s) (leads (role_axioms axioms ks) r s)
        (sym (list_any-append (λ a. leads_by a r s) (role_part_at o) (role_axioms axioms ks)) ∙ h)) [
          | inl here ↦ up_at o r s here b.0
          | inr later ↦ leads_up ks r s later b.1
        ]

    transitive_on : (ks : List ℕ) (t : ℕ) → is_transitive (role_axioms axioms ks) t ≡ true
        → Meets (named_axioms axioms ks) → IsOnward t
    transitive_on [] t h m = cc
    transitive_on (k ∷ ks) t h m =
        let b = met_split k ks m in
        let o = slice_get axioms (k - 1) in
        elim (or_cases (is_transitive (role_part_at o) t) (is_transitive (role_axioms axioms ks) t)
        (sym (list_any-append (λ a. is_transitive_by a t) (role_part_at o) (role_axioms axioms ks)) ∙ h)) [
          | inl here ↦ on_at o t here b.0
          | inr later ↦ transitive_on ks t later b.1
        ]

    chain_up : (ks : List ℕ) → Meets (named_axioms axioms ks) → (r s : ℕ) → IsBelow (Leads (role_axioms axioms ks)) r s
        → IsSubRole w r s
    chain_up ks m r r' (itself s) x y e = e
    chain_up ks m r r' (by_step a b c h step) x y e = leads_up ks b c step m x y (chain_up ks m a b h x y e)

  -- ---- parts

  abbrev IsMet : NumberedPart → Type 0
  IsMet n = MeetsPart w n.part

  numbered_met : (k : ℕ) (qs : List Part) (first : ℕ) → All (MeetsPart w) qs → All IsMet (numbered_parts k first qs)
  numbered_met k [] first h = All-nil IsMet
  numbered_met k (q ∷ qs) first h =
      All-cons IsMet (record { axiom_number = k; part_number = first; part = q }) (numbered_parts k (first + 1) qs)
      (All-head (MeetsPart w) q qs h) (numbered_met k qs (first + 1) (All-tail (MeetsPart w) q qs h))

  in_met : (o : Option Numbered) → Meets (axioms_in o) → All (MeetsPart w) (parts_in o)
  in_met None m = All-nil (MeetsPart w)
  in_met (Some n) m = parts_met w n.axiom (All-head (MeetsEverywhere w) n.axiom [] m)

  named_met : (axioms : List Numbered) (ks : List ℕ) → Meets (named_axioms axioms ks)
      → All IsMet (named_parts axioms ks)
  named_met axioms [] m = All-nil IsMet
  named_met axioms (k ∷ ks) m =
      let b = met_split axioms k ks m in
      All-append IsMet (numbered_parts k 1 (parts_at axioms k)) (named_parts axioms ks)
      (numbered_met k (parts_at axioms k) 1 (in_met (slice_get axioms (k - 1)) b.0)) (named_met axioms ks b.1)

  found_met : (p : NumberedPart → Bool) (ns : List NumberedPart) (q : Part) → All IsMet ns
      → option_map (λ n. n.part) (find p ns) ≡ Some q → MeetsPart w q
  found_met p [] q h e = cc
  found_met p (n ∷ ns) q h e = elim (cases_Bool (p n)) [
    | inl hit ↦
        let at : option_map (λ (m : NumberedPart). m.part) (find p (n ∷ ns)) ≡ Some n.part =
        ap (λ (t : Bool). option_map (λ (m : NumberedPart). m.part) (cond t (Some n) (find p ns))) hit in
        let same : n.part ≡ q = cc in
        subst (MeetsPart w) same (All-head IsMet n ns h)
    | inr miss ↦
        let at : option_map (λ (m : NumberedPart). m.part) (find p (n ∷ ns))
        ≡ option_map (λ (m : NumberedPart). m.part) (find p ns) =
        ap (λ (t : Bool). option_map (λ (m : NumberedPart). m.part) (cond t (Some n) (find p ns))) miss in
        found_met p ns q (All-tail IsMet n ns h) (sym at ∙ e)
  ]

  pub meets_theory : (axioms : List Numbered) (ks : List ℕ) → Meets (named_axioms axioms ks)
      → MeetsTheory w (theory_of axioms ks)
  meets_theory axioms ks m = record {
    upward = λ r s h. chain_up axioms ks m r s ((test_is_below (role_axioms axioms ks) r s).0 h);
    onward = λ t h. transitive_on axioms ks t h m;
    met = λ a p q e. found_met (is_numbered a p) (named_parts axioms ks) q (named_met axioms ks m) e;
  }

  -- ---- facts

  -- a fact at a place is one of the axiom's facts
  passes_at : (fs : List (Fact Concept)) (n : ℕ) (f : Fact Concept) → All (IsNotFalse w) fs → slice_get fs n ≡ Some f
      → IsNotFalse w f
  passes_at [] n f h e = cc
  passes_at (g ∷ fs) zero f h e =
      let same : g ≡ f = cc in subst (IsNotFalse w) same (All-head (IsNotFalse w) g fs h)
  passes_at (g ∷ fs) (suc n) f h e = passes_at fs n f (All-tail (IsNotFalse w) g fs h) e

  fact_true : (a : Axiom) (place : ℕ) (f : Fact Concept) → MeetsEverywhere w a → fact_at a place ≡ Some f
      → IsNotFalse w f
  fact_true a place f m e = elim (cases_eq place 0) [
    | inl is ↦
        let none : fact_at a place ≡ None =
        ap (λ (b : Bool). if b then None else slice_get (facts_of a) (place - 1)) (eq-eqb place 0 is) in
        cc
    | inr isnt ↦
        let given : fact_at a place ≡ slice_get (facts_of a) (place - 1) =
        ap (λ (b : Bool). if b then None else slice_get (facts_of a) (place - 1)) (ne_eqb place 0 isnt) in
        passes_at (facts_of a) (place - 1) f (facts_met w a m) (sym given ∙ e)
  ]

  in_true : (o : Option Numbered) (place : ℕ) (f : Fact Concept) → Meets (axioms_in o) → fact_in o place ≡ Some f
      → IsNotFalse w f
  in_true None place f m e = cc
  in_true (Some n) place f m e = fact_true n.axiom place f (All-head (MeetsEverywhere w) n.axiom [] m) e

  among_met : (axioms : List Numbered) (ks : List ℕ) (a : ℕ) → is_among ks a ≡ true → Meets (named_axioms axioms ks)
      → Meets (axioms_in (slice_get axioms (a - 1)))
  among_met axioms [] a among m = cc
  among_met axioms (k ∷ ks) a among m =
      let b = met_split axioms k ks m in
      elim (or_cases (eqb k a) (is_among ks a) among) [
        | inl here ↦
            subst (λ (n : ℕ). Meets (axioms_in (slice_get axioms (n - 1)))) (eqb-true k a here) b.0
        | inr later ↦ among_met axioms ks a later b.1
      ]

  listed_true : (k : ℕ) (o : Option (Fact Concept)) (f : Fact Concept)
      → ((g : Fact Concept) → o ≡ Some g → IsNotFalse w g) → listed_fact k o ≡ Some f → IsTrueOfNamed w k f
  listed_true k None f true_of e = cc
  listed_true k (Some g) f true_of e = by (nodes_pass (λ a. ltb a k) g) refl
    where
      by : (b : Bool) → nodes_pass (λ a. ltb a k) g ≡ b → IsTrueOfNamed w k f
      by true of_named =
          let given : listed_fact k (Some g) ≡ Some g = ap (λ (b : Bool). if b then Some g else None) of_named in
          let same : g ≡ f = cc in
          subst (IsTrueOfNamed w k) same (record { true_of = true_of g refl; of_named = of_named })
      by false out =
          let none : listed_fact k (Some g) ≡ None = ap (λ (b : Bool). if b then Some g else None) out in
          cc

  pub given_true : (axioms : List Numbered) (k : ℕ) (ks : List ℕ) → Meets (named_axioms axioms ks) → (a place : ℕ)
      (f : Fact Concept) → fact_of_axiom k axioms ks a place ≡ Some f → IsTrueOfNamed w k f
  given_true axioms k ks m a place f e = by (is_among ks a) refl
    where
      given : Option (Fact Concept)
      given = listed_fact k (fact_in (slice_get axioms (a - 1)) place)

      by : (b : Bool) → is_among ks a ≡ b → IsTrueOfNamed w k f
      by true among =
          let is : fact_of_axiom k axioms ks a place ≡ given = ap (λ (b : Bool). if b then given else None) among in
          listed_true k (fact_in (slice_get axioms (a - 1)) place) f
          (λ g. in_true (slice_get axioms (a - 1)) place g (among_met axioms ks a among m)) (sym is ∙ e)
      by false out =
          let none : fact_of_axiom k axioms ks a place ≡ None = ap (λ (b : Bool). if b then given else None) out in
          cc

  -- ---- the node in question

  pub any_node : (k : ℕ) (v : d) → begun w k v (node_in_question k Any) ≡ v
  any_node k v = ap (λ (b : Bool). cond b (w.individual k) v) (le-ltb k k (omega arith))

  pub individual_node : (k a : ℕ) → node_in_question k (Individual a) < k + 1
      → begun w k (w.individual a) (node_in_question k (Individual a)) ≡ w.individual a
  individual_node k a lt = elim (cases_lt a k) [
    | inl less ↦
        let is = lt-ltb a k less in
        let node : node_in_question k (Individual a) ≡ a = ap (λ (b : Bool). if b then a else k + 1) is in
        ap (begun w k (w.individual a)) node ∙ ap (λ (b : Bool). cond b (w.individual a) (w.individual a)) is
    | inr le ↦
        let node : node_in_question k (Individual a) ≡ k + 1 =
        ap (λ (b : Bool). if b then a else k + 1) (le-ltb a k le) in
        absurd (omega (arith, node, lt))
  ]

  -- ---- all axioms

  got_met : (axioms : List Numbered) (n : ℕ) → Meets (all_axioms axioms) → Meets (axioms_in (slice_get axioms n))
  got_met [] n m = All-nil (MeetsEverywhere w)
  got_met (a ∷ axioms) zero m =
      All-cons (MeetsEverywhere w) a.axiom [] (All-head (MeetsEverywhere w) a.axiom (all_axioms axioms) m)
      (All-nil (MeetsEverywhere w))
  got_met (a ∷ axioms) (suc n) m = got_met axioms n (All-tail (MeetsEverywhere w) a.axiom (all_axioms axioms) m)

  pub meets_named : (axioms : List Numbered) (ks : List ℕ) → Meets (all_axioms axioms) → Meets (named_axioms axioms ks)
  meets_named axioms [] m = All-nil (MeetsEverywhere w)
  meets_named axioms (k ∷ ks) m =
      All-append (MeetsEverywhere w) (axioms_in (slice_get axioms (k - 1))) (named_axioms axioms ks)
      (got_met axioms (k - 1) m) (meets_named axioms ks m)
