-- The computed list is the closure.
use Rattle.std.proofs.Common.{◌≡◌, ℕ, zero, suc, ◌≤◌, ◌↔◌, eqb, true, List, [], ◌∷◌, ◌++◌, map, refl, ap, ◌∙◌, sym}
use Rattle.std.proofs.Common.{subst, arith, inl, inr, eq-eqb}
use Rattle.std.specs.List.{list_any, flat_map, Contains}
use Rattle.std.proofs.lemmas.Bool.{or_left, or_right}
use Rattle.shq_terms.specs.Concept.{Concept, top, bottom, name, complement, intersection, union, some_of, all_of}
use Rattle.shq_terms.specs.Concept.{at_least, at_most, exactly, Parts, no_parts, part, part_list}
use Rattle.calculus_specs.specs.Normal.{normal_form, negated_form}
use Rattle.calculus_specs.specs.Same.{is_same}
use Rattle.calculus_specs.specs.Rows.{Part, NumberedPart, row_concept, others_from}
use Rattle.calculus_specs.specs.Rows.Part.{inclusion, range}
use Rattle.calculus_specs.specs.Rules.{Question}
use Rattle.calculus_specs.specs.Depth.{role_depth}
use Rattle.search_laws.specs.Closure.{IsInClosure, IsClosure}
use Rattle.search_laws.specs.Closure.IsInClosure.{has_top, has_sub, has_not_sup, has_row, has_range, has_member}
use Rattle.search_laws.specs.Closure.IsInClosure.{has_conjunct, has_disjunct, has_some, has_all, has_least, has_most}
use Rattle.search_laws.specs.Closure.IsInClosure.{has_other, has_carried}
use Rattle.search_laws.specs.ComputedClosure.{others_of, row_of_others, part_concepts, given_by, given_by_each, given}
use Rattle.search_laws.specs.ComputedClosure.{IsMember, roots, deepest, closure, ClosureIsComputed}
use Rattle.search_laws.proofs.Within.{Among, among_left, among_right, among_either, among_map, map_among, among_flat}
use Rattle.search_laws.proofs.Within.{flat_among, among_contained, contained_among, same_among, among_same}
use Rattle.search_laws.proofs.Within.{number_among, once_has, once_only, once_distinct, Gives, itself_given, all_shut}
use Rattle.search_laws.proofs.Others.{positions_in, positions_of}

among_number : (t : ℕ) (ts : List ℕ) → Among t ts → list_any (eqb t) ts ≡ true
among_number t [] h = absurd h
among_number t (s ∷ ts) h = elim h [
  | inl e ↦ or_left (eqb t s) (list_any (eqb t) ts) (eq-eqb t s e)
  | inr later ↦ or_right (eqb t s) (list_any (eqb t) ts) (among_number t ts later)
]

deepest_is : (c : Concept) (cs : List Concept) → Among c cs → role_depth c ≤ deepest cs
deepest_is c [] h = absurd h
deepest_is c (d ∷ cs) h =
    elim h [ inl e ↦ omega (arith, ap role_depth e) | inr later ↦ omega (arith, deepest_is c cs later) ]

module _ (q : Question) (ts : List ℕ) (members : List Concept)
    (transitive : (t : ℕ) → (q.theory.is_transitive t ≡ true) ↔ (list_any (eqb t) ts ≡ true))
    (are_members : (c : Concept) → IsMember q c ↔ (list_any (is_same c) members ≡ true)) where
  abbrev In : Concept → Type 0
  In c = IsInClosure q c

  abbrev first : List Concept
  first = roots q members

  abbrev all_parts : List Concept
  all_parts = flat_map (λ (k : NumberedPart). part_concepts k.part) q.theory.parts

  abbrev all : List Concept
  all = flat_map (given ts (deepest first)) first

  -- ---- the list has the closure

  root_in : (c : Concept) → Among c first → Among c all
  root_in c h = among_flat (given ts (deepest first)) c c first h (itself_given ts (deepest first) c)

  more : (x y : Concept) → Among x all → Gives ts x y → Among y all
  more x y h g =
      let r = flat_among (given ts (deepest first)) x first h in
      among_flat (given ts (deepest first)) r.0 y first r.1
      (all_shut ts (deepest first) r.0 (deepest_is r.0 first r.1) x y r.2 g)

  part_in : (n : NumberedPart) (c : Concept) → Contains q.theory.parts n → Among c (part_concepts n.part) → Among c all
  part_in n c m h =
      root_in c
      (inr (inr
      (inr (among_left c all_parts members
      (among_flat (λ (k : NumberedPart). part_concepts k.part) n c q.theory.parts (among_contained n q.theory.parts m)
      h)))))

  has : (c : Concept) → In c → Among c all
  has c has_top = root_in top (inl refl)
  has c has_sub = root_in (normal_form q.sub) (inr (inl refl))
  has c has_not_sup = root_in (negated_form q.sup) (inr (inr (inl refl)))
  has c (has_row n cs d positions m e names) =
      part_in n (row_concept cs d positions) m
      (subst (λ (part : Part). Among (row_concept cs d positions) (part_concepts part)) (sym e)
      (among_map (row_of_others d) (others_from 1 positions cs) (others_of cs) (positions_in cs positions names)))
  has c (has_range n r d m e) = part_in n d m (subst (λ (part : Part). Among d (part_concepts part)) (sym e) (inl refl))
  has c (has_member a p x d h) =
      root_in d (inr (inr (inr (among_right d all_parts members
      (among_same d members ((are_members d).0 (record { axiom_number = a; place = p; node = x; is_given = h })))))))
  has c (has_conjunct cs d h m) =
      more (intersection cs) d (has (intersection cs) h) (among_contained d (part_list cs) m)
  has c (has_disjunct cs d h m) = more (union cs) d (has (union cs) h) (among_contained d (part_list cs) m)
  has c (has_some r d h) = more (some_of r d) d (has (some_of r d) h) refl
  has c (has_all r d h) = more (all_of r d) d (has (all_of r d) h) (inl refl)
  has c (has_least n r d h) = more (at_least n r d) d (has (at_least n r d) h) refl
  has c (has_most n r d h) = more (at_most n r d) d (has (at_most n r d) h) (inl refl)
  has c (has_other n r d h) = more (at_most n r d) (negated_form d) (has (at_most n r d) h) (inr refl)
  has c (has_carried s t d h tr) =
      more (all_of s d) (all_of t d) (has (all_of s d) h) (inr (t, number_among t ts ((transitive t).0 tr), refl))

  -- ---- and no more

  module _ (deeper : Concept → List Concept)
      (sure : (c : Concept) → In c → (x : Concept) → Among x (deeper c) → In x) where
    one : (c x : Concept) → In c → Among x (c ∷ []) → In x
    one c x i h = elim h [ inl e ↦ subst In (sym e) i | inr later ↦ absurd later ]

    headed : (c : Concept) (cs : List Concept) → In c → ((x : Concept) → Among x cs → In x) → (x : Concept)
        → Among x (c ∷ cs) → In x
    headed c cs i rest x h = elim h [ inl e ↦ subst In (sym e) i | inr later ↦ rest x later ]

    carried : (r : ℕ) (c : Concept) → In (all_of r c) → (x : Concept) → Among x (map (λ t. all_of t c) ts ++ deeper c)
        → In x
    carried r c i x h = elim (among_either x (map (λ t. all_of t c) ts) (deeper c) h) [
      | inl l ↦
          let m = map_among (λ (t : ℕ). all_of t c) x ts l in
          subst In (sym m.2) (has_carried r m.0 c i ((transitive m.0).1 (among_number m.0 ts m.1)))
      | inr k ↦ sure c (has_all r c i) x k
    ]

    mutual
      only_given : (c : Concept) → In c → (x : Concept) → Among x (given_by deeper ts c) → In x
      only_given top i = λ x h. one top x i h
      only_given bottom i = λ x h. one bottom x i h
      only_given (name a) i = λ x h. one (name a) x i h
      only_given (complement c) i = λ x h. one (complement c) x i h
      only_given (intersection cs) i =
          headed (intersection cs) (given_by_each deeper ts cs) i
          (only_each cs (λ d m. has_conjunct cs d i (contained_among d (part_list cs) m)))
      only_given (union cs) i =
          headed (union cs) (given_by_each deeper ts cs) i
          (only_each cs (λ d m. has_disjunct cs d i (contained_among d (part_list cs) m)))
      only_given (some_of r c) i = headed (some_of r c) (deeper c) i (sure c (has_some r c i))
      only_given (all_of r c) i = headed (all_of r c) (map (λ t. all_of t c) ts ++ deeper c) i (carried r c i)
      only_given (at_least n r c) i = headed (at_least n r c) (deeper c) i (sure c (has_least n r c i))
      only_given (at_most n r c) i =
          headed (at_most n r c) (deeper c ++ deeper (negated_form c)) i
          (λ x h. elim (among_either x (deeper c) (deeper (negated_form c)) h) [
            | inl l ↦ sure c (has_most n r c i) x l
            | inr k ↦ sure (negated_form c) (has_other n r c i) x k
          ])
      only_given (exactly n r c) i = λ x h. one (exactly n r c) x i h

      only_each : (cs : Parts) → ((c : Concept) → Among c (part_list cs) → In c) → (x : Concept)
          → Among x (given_by_each deeper ts cs) → In x
      only_each no_parts each x h = absurd h
      only_each (part c cs) each x h = elim (among_either x (given_by deeper ts c) (given_by_each deeper ts cs) h) [
        | inl l ↦ only_given c (each c (inl refl)) x l
        | inr k ↦ only_each cs (λ d m. each d (inr m)) x k
      ]

  only_all : (n : ℕ) (c : Concept) → In c → (x : Concept) → Among x (given ts n c) → In x
  only_all zero c i x h = only_given (λ e. []) (λ d j y k. absurd k) c i x h
  only_all (suc n) c i x h = only_given (given ts n) (only_all n) c i x h

  part_only : (n : NumberedPart) (p : Part) (c : Concept) → Contains q.theory.parts n → n.part ≡ p
      → Among c (part_concepts p) → In c
  part_only n (inclusion cs d) c m e h =
      let k = map_among (row_of_others d) c (others_of cs) h in
      let p = positions_of cs k.0 k.1 in
      subst In (ap (row_of_others d) p.left ∙ sym k.2) (has_row n cs d p.positions m e p.are_names)
  part_only n (range r d) c m e h =
      elim h [ inl is ↦ subst In (sym is) (has_range n r d m e) | inr later ↦ absurd later ]

  root_only : (c : Concept) → Among c first → In c
  root_only c h = elim h [
    | inl e ↦ subst In (sym e) has_top
    | inr h1 ↦ elim h1 [
      | inl e ↦ subst In (sym e) has_sub
      | inr h2 ↦ elim h2 [
        | inl e ↦ subst In (sym e) has_not_sup
        | inr h3 ↦ elim (among_either c all_parts members h3) [
          | inl of_part ↦
              let r = flat_among (λ (k : NumberedPart). part_concepts k.part) c q.theory.parts of_part in
              part_only r.0 r.0.part c (contained_among r.0 q.theory.parts r.1) refl r.2
          | inr of_fact ↦
              let m = (are_members c).1 (same_among c members of_fact) in
              has_member m.axiom_number m.place m.node c m.is_given
        ]
      ]
    ]
  ]

  is_closure : IsClosure q (closure q ts members)
  is_closure = record {
    has_each = λ c i. same_among c (closure q ts members) (once_has c all (has c i));
    has_only = λ c h.
        let r =
        flat_among (given ts (deepest first)) c first (once_only c all (among_same c (closure q ts members) h)) in
        only_all (deepest first) r.0 (root_only r.0 r.1) c r.2;
    are_different = once_distinct all;
  }

pub closure_is_computed : ClosureIsComputed
closure_is_computed q ts members transitive are_members = is_closure q ts members transitive are_members
