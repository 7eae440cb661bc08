-- Roles that are simple by role axioms and one axiom more.
use Rattle.std.proofs.Common.{◌≡◌, ℕ, zero, suc, ◌+◌, ◌-◌, Bool, true, false, not, ◌&&◌, ◌||◌, ◌⊎◌, inl, inr, eqb}
use Rattle.std.proofs.Common.{eq-eqb, List, [], ◌∷◌, ◌++◌, length, refl, ap, sym, ◌∙◌, subst, append-nil, append_assoc}
use Rattle.std.proofs.Common.{arith}
use Rattle.std.specs.Prelude.{slice_get}
use Rattle.std.specs.List.{list_all, list_any, range_with_len}
use Rattle.std.proofs.lemmas.Bool.{and_parts, and_from, or_cases, or_left, or_right, eqb-true, not-true, not_from_false}
use Rattle.std.proofs.lemmas.Bool.{false_from_ne_true}
use Rattle.std.proofs.lemmas.List.Folds.{list_any-append, list_all-append}
use Rattle.shq_terms.specs.declared.axioms.Axiom.{Axiom}
use Rattle.shq_terms.specs.declared.axioms.Axiom.TheVariants.{SubClassOf, EquivalentClasses, DisjointClasses}
use Rattle.shq_terms.specs.declared.axioms.Axiom.TheVariants.{DisjointUnion, SubRole, EquivalentRoles, Domain, Range}
use Rattle.shq_terms.specs.declared.axioms.Axiom.TheVariants.{Functional, Transitive, Member, Pair, SameAll, Different}
use Rattle.shq_terms.specs.declared.axioms.Numbered.{Numbered}
use Rattle.shq_terms.proofs.Bools.{same_truth}
use Rattle.role_box.specs.Roles.{IsBelow, itself, by_step}
use Rattle.role_box.specs.declared.role_axiom.RoleAxiom.{RoleAxiom}
use Rattle.role_box.specs.declared.role_axiom.RoleAxiom.TheVariants.{Inclusion, Equivalence, Transitivity}
use Rattle.role_box.specs.RoleAxioms.{role_part, role_part_at, role_axioms}
use Rattle.role_box.specs.Steps.{is_among, leads_by, Leads, is_transitive_by, is_transitive}
use Rattle.role_box.specs.Paths.{is_below}
use Rattle.role_box.specs.Counted.{counted_by}
use Rattle.role_box.specs.Simple.{is_simple, are_simple, counts_simple, all_role_axioms}
use Rattle.role_box.proofs.Limits.{test_is_below}
use Rattle.role_box.proofs.Paths.{below-append}
use Rattle.role_box.proofs.Tested.{simple_test}
use Rattle.ofn_reader.specs.SimpleRoles.{joins_simple, simple_with}
use Rattle.ofn_reader.specs.Additions.{all_count_simple, with_added}

-- ---- chains over old and new steps

-- a chain that enters a new step, and another that leaves one
record Through (L : ℕ → ℕ → Type 0) (P Q : ℕ → Type 0) (r t : ℕ) : Type 0 where
  enters : ℕ
  leaves : ℕ
  into : P enters
  out : Q leaves
  first : IsBelow L r enters
  last : IsBelow L leaves t

module _ (L M : ℕ → ℕ → Type 0) (P Q : ℕ → Type 0) (split : (a b : ℕ) → M a b → L a b ⊎ (P a × Q b)) where
  split_chain : (r t : ℕ) → IsBelow M r t → IsBelow L r t ⊎ Through L P Q r t
  split_chain r t (itself x) = inl (itself x)
  split_chain r t (by_step x y z b e) =
      elim (split_chain x y b) [
        | inl old ↦
            elim (split y z e) [
              | inl l ↦ inl (by_step x y z old l)
              | inr n ↦ inr (record { enters = y; leaves = z; into = n.0; out = n.1; first = old; last = itself z })
            ]
        | inr w ↦
            elim (split y z e) [
              | inl l ↦ inr (record {
                enters = w.enters;
                leaves = w.leaves;
                into = w.into;
                out = w.out;
                first = w.first;
                last = by_step w.leaves y z w.last l;
              })
              | inr n ↦ inr
                  (record { enters = w.enters; leaves = z; into = w.into; out = n.1; first = w.first; last = itself z })
            ]
      ]

wider : (L M : ℕ → ℕ → Type 0) → ((a b : ℕ) → L a b → M a b) → (r t : ℕ) → IsBelow L r t → IsBelow M r t
wider L M more r t (itself x) = itself x
wider L M more r t (by_step x y z b e) = by_step x y z (wider L M more x y b) (more y z e)

-- ---- one role axiom more

module _ (roles : List RoleAxiom) (x : RoleAxiom) where
  more : List RoleAxiom
  more = roles ++ x ∷ []

  one_more : (p : RoleAxiom → Bool) → list_any p (roles ++ x ∷ []) ≡ true → (list_any p roles ≡ true) ⊎ (p x ≡ true)
  one_more p h =
      elim (or_cases (list_any p roles) (list_any p (x ∷ [])) (sym (list_any-append p roles (x ∷ [])) ∙ h)) [
        | inl old ↦ inl old
        | inr new ↦ elim (or_cases (p x) false new)
            [ inl here ↦ inr here | inr none ↦ absurd (let clash : false ≡ true = none in cc clash) ]
      ]

  old_holds : (p : RoleAxiom → Bool) → list_any p roles ≡ true → list_any p (roles ++ x ∷ []) ≡ true
  old_holds p h = list_any-append p roles (x ∷ []) ∙ or_left (list_any p roles) (list_any p (x ∷ [])) h

  new_holds : (p : RoleAxiom → Bool) → p x ≡ true → list_any p (roles ++ x ∷ []) ≡ true
  new_holds p h =
      list_any-append p roles (x ∷ []) ∙ or_right (list_any p roles) (list_any p (x ∷ [])) (or_left (p x) false h)

  longer : (r t : ℕ) → IsBelow (Leads roles) r t → IsBelow (Leads (roles ++ x ∷ [])) r t
  longer = wider (Leads roles) (Leads (roles ++ x ∷ [])) (λ a b. old_holds (λ y. leads_by y a b))

  -- what is simple with the axiom was so without it
  was : (t : ℕ) → is_simple (roles ++ x ∷ []) t ≡ true → is_simple roles t ≡ true
  was t h =
      (simple_test roles t).1
      (λ u transitive chain. (simple_test (roles ++ x ∷ []) t).0 h u (old_holds (λ y. is_transitive_by y u) transitive)
      (longer u t chain))

  -- An axiom that leads from each role with P to each with Q, and makes none transitive. All roles with P are simple,
  -- or some role with Q is below t.
  module _ (P Q : ℕ → Type 0) (t : ℕ) (all any : Bool) (plain : (u : ℕ) → is_transitive_by x u ≡ false)
      (split : (a b : ℕ) → leads_by x a b ≡ true → P a × Q b) (join : (a b : ℕ) → P a → Q b → leads_by x a b ≡ true)
      (all_to : all ≡ true → (a : ℕ) → P a → is_simple roles a ≡ true)
      (all_from : ((a : ℕ) → P a → is_simple roles a ≡ true) → all ≡ true)
      (any_to : any ≡ true → (b : ℕ) × Q b × (is_below roles b t ≡ true))
      (any_from : (b : ℕ) → Q b → is_below roles b t ≡ true → any ≡ true) where
    old_transitive : (u : ℕ) → is_transitive (roles ++ x ∷ []) u ≡ true → is_transitive roles u ≡ true
    old_transitive u h = elim (one_more (λ y. is_transitive_by y u) h)
        [ inl old ↦ old | inr new ↦ absurd (let clash : true ≡ false = sym new ∙ plain u in cc clash) ]

    steps : (a b : ℕ) → Leads (roles ++ x ∷ []) a b → Leads roles a b ⊎ (P a × Q b)
    steps a b h = elim (one_more (λ y. leads_by y a b) h) [ inl old ↦ inl old | inr new ↦ inr (split a b new) ]

    goes_through : (all || not any) ≡ true → (u : ℕ) → is_transitive roles u ≡ true → Through (Leads roles) P Q u t → ⊥
    goes_through leaves u transitive w =
        elim (or_cases all (not any) leaves) [
          | inl simple ↦ (simple_test roles w.enters).0 (all_to simple w.enters w.into) u transitive w.first
          | inr none ↦
              (let clash : true ≡ false =
              sym (any_from w.leaves w.out ((test_is_below roles w.leaves t).1 w.last)) ∙ not-true any none in
              absurd (cc clash))
        ]

    joined_to : (is_simple roles t && (all || not any)) ≡ true → is_simple (roles ++ x ∷ []) t ≡ true
    joined_to h =
        let parts = and_parts (is_simple roles t) (all || not any) h in
        (simple_test (roles ++ x ∷ []) t).1
        (λ u transitive chain.
        elim (split_chain (Leads roles) (Leads (roles ++ x ∷ [])) P Q steps u t chain) [
          | inl old ↦ (simple_test roles t).0 parts.0 u (old_transitive u transitive) old
          | inr w ↦ goes_through parts.1 u (old_transitive u transitive) w
        ])

    -- through a role with P and one with Q a chain would lead to t
    before : is_simple (roles ++ x ∷ []) t ≡ true → (b : ℕ) → Q b → is_below roles b t ≡ true → (a : ℕ) → P a
        → is_simple roles a ≡ true
    before h b q below a p =
        (simple_test roles a).1
        (λ u transitive chain.
        (simple_test (roles ++ x ∷ []) t).0 h u (old_holds (λ y. is_transitive_by y u) transitive)
        (below-append (Leads (roles ++ x ∷ [])) u b t
        (by_step u a b (longer u a chain) (new_holds (λ y. leads_by y a b) (join a b p q)))
        (longer b t ((test_is_below roles b t).0 below))))

    leaves_by : is_simple (roles ++ x ∷ []) t ≡ true → (v : Bool) → any ≡ v → (all || not v) ≡ true
    leaves_by h true is = let w = any_to is in or_left all false (all_from (before h w.0 w.1 w.2))
    leaves_by h false is = or_right all true refl

    joined_from : is_simple (roles ++ x ∷ []) t ≡ true → (is_simple roles t && (all || not any)) ≡ true
    joined_from h = and_from (is_simple roles t) (all || not any) (was t h) (leaves_by h any refl)

    joined_is : (is_simple roles t && (all || not any)) ≡ is_simple (roles ++ x ∷ []) t
    joined_is = same_truth (is_simple roles t && (all || not any)) (is_simple (roles ++ x ∷ []) t) joined_to joined_from

-- ---- roles of a list

all_to_one : (p : ℕ → Bool) (rs : List ℕ) → list_all p rs ≡ true → (a : ℕ) → is_among rs a ≡ true → p a ≡ true
all_to_one p [] all a here = let clash : false ≡ true = here in absurd (cc clash)
all_to_one p (r ∷ rs) all a here =
    let parts = and_parts (p r) (list_all p rs) all in
    elim (or_cases (eqb r a) (is_among rs a) here)
    [ inl same ↦ subst (λ b. p b ≡ true) (eqb-true r a same) parts.0 | inr later ↦ all_to_one p rs parts.1 a later ]

same_itself : (r : ℕ) → eqb r r ≡ true
same_itself r = eq-eqb r r refl

all_from_each : (p : ℕ → Bool) (rs : List ℕ) → ((a : ℕ) → is_among rs a ≡ true → p a ≡ true) → list_all p rs ≡ true
all_from_each p [] each = refl
all_from_each p (r ∷ rs) each =
    and_from (p r) (list_all p rs) (each r (or_left (eqb r r) (is_among rs r) (same_itself r)))
    (all_from_each p rs (λ a here. each a (or_right (eqb r a) (is_among rs a) here)))

some_of_them : (p : ℕ → Bool) (rs : List ℕ) → list_any p rs ≡ true → (b : ℕ) × (is_among rs b ≡ true) × (p b ≡ true)
some_of_them p [] h = let clash : false ≡ true = h in absurd (cc clash)
some_of_them p (r ∷ rs) h =
    elim (or_cases (p r) (list_any p rs) h) [
      | inl here ↦ (r, or_left (eqb r r) (is_among rs r) (same_itself r), here)
      | inr later ↦ (let w = some_of_them p rs later in (w.0, or_right (eqb r w.0) (is_among rs w.0) w.1, w.2))
    ]

among_some : (p : ℕ → Bool) (rs : List ℕ) (b : ℕ) → is_among rs b ≡ true → p b ≡ true → list_any p rs ≡ true
among_some p [] b here h = let clash : false ≡ true = here in absurd (cc clash)
among_some p (r ∷ rs) b here h =
    elim (or_cases (eqb r b) (is_among rs b) here) [
      | inl same ↦ or_left (p r) (list_any p rs) (subst (λ c. p c ≡ true) (sym (eqb-true r b same)) h)
      | inr later ↦ or_right (p r) (list_any p rs) (among_some p rs b later h)
    ]

-- ---- each kind of axiom

and_true : (b : Bool) → (b && true) ≡ b
and_true true = refl
and_true false = refl

no_role_axiom : (roles : List RoleAxiom) (t : ℕ) → (is_simple roles t && true) ≡ is_simple (roles ++ []) t
no_role_axiom roles t = and_true (is_simple roles t) ∙ ap (λ rs. is_simple rs t) (sym (append-nil roles))

included : (roles : List RoleAxiom) (r s t : ℕ)
    → (is_simple roles t && (is_simple roles r || not (is_below roles s t))) ≡ is_simple (roles ++ Inclusion r s ∷ []) t
included roles r s t =
    joined_is roles (Inclusion r s) (λ a. r ≡ a) (λ b. s ≡ b) t (is_simple roles r) (is_below roles s t) (λ u. refl)
    (λ a b h. (let parts = and_parts (eqb r a) (eqb s b) h in (eqb-true r a parts.0, eqb-true s b parts.1)))
    (λ a b p q. and_from (eqb r a) (eqb s b) (subst (λ c. eqb r c ≡ true) p (same_itself r))
    (subst (λ c. eqb s c ≡ true) q (same_itself s)))
    (λ simple a p. subst (λ c. is_simple roles c ≡ true) p simple)
    (λ each. each r refl)
    (λ below. (s, refl, below))
    (λ b q below. subst (λ c. is_below roles c t ≡ true) (sym q) below)

equivalent : (roles : List RoleAxiom) (rs : List ℕ) (t : ℕ)
    → (is_simple roles t && joins_simple roles rs t) ≡ is_simple (roles ++ Equivalence rs ∷ []) t
equivalent roles rs t =
    joined_is roles (Equivalence rs) (λ a. is_among rs a ≡ true) (λ b. is_among rs b ≡ true) t
    (list_all (is_simple roles) rs) (list_any (λ r. is_below roles r t) rs) (λ u. refl)
    (λ a b h. and_parts (is_among rs a) (is_among rs b) h)
    (λ a b p q. and_from (is_among rs a) (is_among rs b) p q)
    (all_to_one (is_simple roles) rs)
    (all_from_each (is_simple roles) rs)
    (some_of_them (λ r. is_below roles r t) rs)
    (among_some (λ r. is_below roles r t) rs)

module _ (roles : List RoleAxiom) (r t : ℕ) where
  no_step : (a b : ℕ) → Leads (roles ++ Transitivity r ∷ []) a b → Leads roles a b
  no_step a b h = elim (one_more roles (Transitivity r) (λ y. leads_by y a b) h)
      [ inl old ↦ old | inr new ↦ absurd (let clash : false ≡ true = new in cc clash) ]

  transitive_to : (is_simple roles t && not (is_below roles r t)) ≡ true
      → is_simple (roles ++ Transitivity r ∷ []) t ≡ true
  transitive_to h =
      let parts = and_parts (is_simple roles t) (not (is_below roles r t)) h in
      (simple_test (roles ++ Transitivity r ∷ []) t).1
      (λ u transitive chain.
      (let old = wider (Leads (roles ++ Transitivity r ∷ [])) (Leads roles) no_step u t chain in
      elim (one_more roles (Transitivity r) (λ y. is_transitive_by y u) transitive) [
        | inl was_so ↦ (simple_test roles t).0 parts.0 u was_so old
        | inr new ↦
            (let same : is_below roles r t ≡ true =
            subst (λ c. is_below roles c t ≡ true) (sym (eqb-true r u new)) ((test_is_below roles u t).1 old) in
            let clash : true ≡ false = sym same ∙ not-true (is_below roles r t) parts.1 in absurd (cc clash))
      ]))

  transitive_from : is_simple (roles ++ Transitivity r ∷ []) t ≡ true
      → (is_simple roles t && not (is_below roles r t)) ≡ true
  transitive_from h =
      and_from (is_simple roles t) (not (is_below roles r t)) (was roles (Transitivity r) t h)
      (not_from_false (is_below roles r t)
      (false_from_ne_true (is_below roles r t)
      (λ below. (simple_test (roles ++ Transitivity r ∷ []) t).0 h r
      (new_holds roles (Transitivity r) (λ y. is_transitive_by y r) (same_itself r))
      (longer roles (Transitivity r) r t ((test_is_below roles r t).0 below)))))

  transitive : (is_simple roles t && not (is_below roles r t)) ≡ is_simple (roles ++ Transitivity r ∷ []) t
  transitive =
      same_truth (is_simple roles t && not (is_below roles r t)) (is_simple (roles ++ Transitivity r ∷ []) t)
      transitive_to transitive_from

pub simple_with_is : (roles : List RoleAxiom) (a : Axiom) (t : ℕ)
    → simple_with roles a t ≡ is_simple (roles ++ role_part a) t
simple_with_is roles (SubClassOf c d) t = no_role_axiom roles t
simple_with_is roles (EquivalentClasses cs) t = no_role_axiom roles t
simple_with_is roles (DisjointClasses cs) t = no_role_axiom roles t
simple_with_is roles (DisjointUnion c cs) t = no_role_axiom roles t
simple_with_is roles (SubRole r s) t = included roles r s t
simple_with_is roles (EquivalentRoles rs) t = equivalent roles rs t
simple_with_is roles (Domain r c) t = no_role_axiom roles t
simple_with_is roles (Range r c) t = no_role_axiom roles t
simple_with_is roles (Functional r) t = no_role_axiom roles t
simple_with_is roles (Transitive r) t = transitive roles r t
simple_with_is roles (Member c a) t = no_role_axiom roles t
simple_with_is roles (Pair r a b) t = no_role_axiom roles t
simple_with_is roles (SameAll as_) t = no_role_axiom roles t
simple_with_is roles (Different as_) t = no_role_axiom roles t

-- ---- the role axioms of an ontology with one axiom more

abbrev all_parts : List Numbered → List RoleAxiom
all_parts [] = []
all_parts (a ∷ as_) = role_part a.axiom ++ all_parts as_

later : (a : Numbered) (as_ : List Numbered) (n k : ℕ)
    → role_axioms (a ∷ as_) (range_with_len (suc (suc k)) n) ≡ role_axioms as_ (range_with_len (suc k) n)
later a as_ zero k = refl
later a as_ (suc n) k =
    let here : suc (suc k) - 1 ≡ suc k = omega arith in
    let there : suc k - 1 ≡ k = omega arith in
    let first : role_part_at (slice_get (a ∷ as_) (suc (suc k) - 1)) ≡ role_part_at (slice_get as_ (suc k - 1)) =
    ap (λ j. role_part_at (slice_get (a ∷ as_) j)) here ∙ sym (ap (λ j. role_part_at (slice_get as_ j)) there) in
    let next : suc (suc k) + 1 ≡ suc (suc (suc k)) = omega arith in
    let after : suc k + 1 ≡ suc (suc k) = omega arith in
    let rest : role_axioms (a ∷ as_) (range_with_len (suc (suc k) + 1) n)
    ≡ role_axioms as_ (range_with_len (suc k + 1) n) =
    ap (λ j. role_axioms (a ∷ as_) (range_with_len j n)) next ∙ later a as_ n (suc k)
    ∙ sym (ap (λ j. role_axioms as_ (range_with_len j n)) after) in
    λ i. first i ++ rest i

parts_are : (axioms : List Numbered) → all_role_axioms axioms ≡ all_parts axioms
parts_are [] = refl
parts_are (a ∷ as_) = ap (λ rs. role_part a.axiom ++ rs) (later a as_ (length as_) 0 ∙ parts_are as_)

parts_more : (axioms : List Numbered) (n : Numbered)
    → all_parts (axioms ++ n ∷ []) ≡ all_parts axioms ++ role_part n.axiom
parts_more [] n = append-nil (role_part n.axiom)
parts_more (a ∷ as_) n =
    ap (λ rs. role_part a.axiom ++ rs) (parts_more as_ n)
    ∙ sym (append_assoc (role_part a.axiom) (all_parts as_) (role_part n.axiom))

pub roles_more : (axioms : List Numbered) (n : Numbered)
    → all_role_axioms (axioms ++ n ∷ []) ≡ all_role_axioms axioms ++ role_part n.axiom
roles_more axioms n =
    parts_are (axioms ++ n ∷ []) ∙ parts_more axioms n ∙ ap (λ rs. rs ++ role_part n.axiom) (sym (parts_are axioms))

-- all old axioms, and the new one
pub all_with : (axioms : List Numbered) (a : Axiom) (roles : List RoleAxiom) → roles ≡ all_role_axioms axioms
    → (list_all (counts_simple (roles ++ role_part a)) axioms && are_simple (roles ++ role_part a) (counted_by a))
    ≡ all_count_simple (with_added axioms (a ∷ []))
all_with axioms a roles is =
    let n : Numbered = record { «axiom» = a; line = 1 } in
    let same : roles ++ role_part a ≡ all_role_axioms (axioms ++ n ∷ []) =
    ap (λ rs. rs ++ role_part a) is ∙ sym (roles_more axioms n) in
    ap (λ rs. list_all (counts_simple rs) axioms && are_simple rs (counted_by a)) same
    ∙ ap (λ b. list_all (counts_simple (all_role_axioms (axioms ++ n ∷ []))) axioms && b)
    (sym (and_true (are_simple (all_role_axioms (axioms ++ n ∷ [])) (counted_by a))))
    ∙ sym (list_all-append (counts_simple (all_role_axioms (axioms ++ n ∷ []))) axioms (n ∷ []))
