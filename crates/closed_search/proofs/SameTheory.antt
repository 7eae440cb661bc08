-- The axioms that a refutation names say the same to its lines as those of the set.
use Rattle.std.proofs.Common.{◌≡◌, ℕ, zero, suc, ◌+◌, ◌-◌, ◌&&◌, ◌||◌, ◌⊎◌, leb, ltb, Bool, true, false, cond, List, []}
use Rattle.std.proofs.Common.{◌∷◌, ◌++◌, length, Option, Some, None, refl, ap, sym, ◌∙◌, inl, inr, eq-eqb}
use Rattle.std.specs.Prelude.{slice_get}
use Rattle.std.specs.List.{list_any, All}
use Rattle.std.specs.FinSet as sets
use Rattle.std.proofs.lemmas.Bool.{cases_Bool, or_left, or_right}
use Rattle.std.proofs.lemmas.List.Elements.{All-nil, All-cons}
use Rattle.lane_sieve.specs.Sets.{passing}
use Rattle.lane_sieve.proofs.Ranges.{any-passing}
use Rattle.axiom_sets.specs.Sets.{Limited, member_list}
use Rattle.shq_terms.specs.declared.axioms.Axiom.{Axiom}
use Rattle.shq_terms.specs.declared.axioms.Axiom.TheVariants.{SubClassOf, EquivalentClasses, DisjointClasses}
use Rattle.shq_terms.specs.declared.axioms.Axiom.TheVariants.{DisjointUnion, SubRole, EquivalentRoles, Domain, Range}
use Rattle.shq_terms.specs.declared.axioms.Axiom.TheVariants.{Functional, Transitive, Member, Pair, SameAll, Different}
use Rattle.shq_terms.specs.declared.axioms.Numbered.{Numbered}
use Rattle.shq_terms.specs.declared.axioms.Query.{Query}
use Rattle.shq_terms.specs.Listed.{Listed}
use Rattle.calculus_specs.specs.Rows.{is_among, part_at}
use Rattle.calculus_specs.specs.Rules.{Question}
use Rattle.refutation_truth.specs.Meeting.{is_role_axiom, says_of_roles, is_role_number}
use Rattle.refutation_truth.specs.Parts.{part_in}
use Rattle.refutation_truth.specs.RoleAxioms.{role_part, role_part_at, role_axioms}
use Rattle.refutation_truth.specs.RoleAxiom.{RoleAxiom}
use Rattle.refutation_truth.specs.Steps.{is_transitive}
use Rattle.refutation_truth.specs.Paths.{is_below}
use Rattle.refutation_truth.specs.Theory.{parts_at, listed_fact, fact_in, question_in}
use Rattle.refutation_truth.proofs.NumberedParts.{numbered}
use Rattle.calculus_specs.specs.Line.{Line}
use Rattle.calculus_specs.specs.Line.Line.{start_line, and_line, or_line, all_line, carry_line, row_line, range_line}
use Rattle.calculus_specs.specs.Line.Line.{some_line, least_line, choose_line, pair_line, bottom_line, clash_line}
use Rattle.calculus_specs.specs.Line.Line.{most_line, fact_line, differ_line}
use Rattle.search_trace.specs.Named.{AskTheSame, HaveSamePart}
use Rattle.closed_search.specs.Named.{uses_axiom, NamesAxioms}

-- ---- roles

no_roles : (a : Axiom) → is_role_axiom a ≡ false → role_part a ≡ []
no_roles (SubClassOf c d) h = refl
no_roles (EquivalentClasses cs) h = refl
no_roles (DisjointClasses cs) h = refl
no_roles (DisjointUnion c cs) h = refl
no_roles (SubRole r s) h = cc
no_roles (EquivalentRoles rs) h = cc
no_roles (Domain r c) h = refl
no_roles (Range r c) h = refl
no_roles (Functional r) h = refl
no_roles (Transitive r) h = cc
no_roles (Member c a) h = refl
no_roles (Pair r a b) h = refl
no_roles (SameAll as_) h = refl
no_roles (Different as_) h = refl

no_roles_at : (o : Option Numbered) → says_of_roles o ≡ false → role_part_at o ≡ []
no_roles_at None h = refl
no_roles_at (Some n) h = no_roles n.axiom h

abbrev here : List Numbered → ℕ → List RoleAxiom
here axioms k = role_part_at (slice_get axioms (k - 1))

first_role : (axioms : List Numbered) (k : ℕ) (b : Bool) (ks : List ℕ)
    → role_axioms axioms (cond b (k ∷ ks) ks) ≡ cond b (here axioms k) [] ++ role_axioms axioms ks
first_role axioms k true ks = refl
first_role axioms k false ks = refl

none_by : (b : Bool) (xs : List RoleAxiom) → xs ≡ [] → cond b xs [] ≡ []
none_by true xs h = h
none_by false xs h = refl

roles_same : (axioms : List Numbered) (p q : ℕ → Bool) → ((k : ℕ) → (p k ≡ q k) ⊎ (here axioms k ≡ [])) → (first n : ℕ)
    → role_axioms axioms (passing p first n) ≡ role_axioms axioms (passing q first n)
unfolding passing
roles_same axioms p q h first zero = refl
roles_same axioms p q h first (suc n) =
    let same : cond (p first) (here axioms first) [] ≡ cond (q first) (here axioms first) [] = elim (h first) [
      | inl e ↦ ap (λ (b : Bool). cond b (here axioms first) []) e
      | inr none ↦ none_by (p first) (here axioms first) none ∙ sym (none_by (q first) (here axioms first) none)
    ] in
    first_role axioms first (p first) (passing p (first + 1) n)
    ∙ (λ i. same i ++ roles_same axioms p q h (first + 1) n i)
    ∙ sym (first_role axioms first (q first) (passing q (first + 1) n))

-- ---- the axioms that are named

named_by : (s r u : Bool) → (r || u) ≡ true → (s && (r || u)) ≡ s
named_by true r u h = h
named_by false r u h = refl

module _ (o : Listed) (query : Query) (set : Limited) (lines : List Line) (named : Limited)
    (limit : set.limit ≡ length o.axioms) (h : NamesAxioms o.axioms set lines named) where
  abbrev axioms : List Numbered
  axioms = o.axioms

  same_limit : set.limit ≡ named.limit
  same_limit = limit ∙ sym h.limit

  member : (k : ℕ) → (is_role_number axioms k || list_any (uses_axiom k) lines) ≡ true
      → sets.contains set.members k ≡ sets.contains named.members k
  member k is =
      sym (h.members k
      ∙ named_by (sets.contains set.members k) (is_role_number axioms k) (list_any (uses_axiom k) lines) is)

  same_roles : role_axioms axioms (member_list set) ≡ role_axioms axioms (member_list named)
  same_roles =
      ap (λ (n : ℕ). role_axioms axioms (passing (sets.contains set.members) 0 (n + 1))) same_limit
      ∙ roles_same axioms (sets.contains set.members) (sets.contains named.members)
      (λ k. elim (cases_Bool (is_role_number axioms k)) [
        | inl is ↦ inl (member k (or_left (is_role_number axioms k) (list_any (uses_axiom k) lines) is))
        | inr isnt ↦ inr (no_roles_at (slice_get axioms (k - 1)) isnt)
      ]) 0 (named.limit + 1)

  abbrev one : Question
  one = question_in o (member_list set) query

  abbrev other : Question
  other = question_in o (member_list named) query

  pub ask_the_same : AskTheSame one other
  ask_the_same = record {
    roles = record {
      below = λ r s. ap (λ (rs : List RoleAxiom). is_below rs r s) same_roles;
      transitive = λ t. ap (λ (rs : List RoleAxiom). is_transitive rs t) same_roles;
    };
    sub = refl;
    sup = refl;
    first = refl;
    at = refl;
  }

  same_among : (a : ℕ) → list_any (uses_axiom a) lines ≡ true
      → is_among (member_list set) a ≡ is_among (member_list named) a
  same_among a used =
      let e = member a (or_right (is_role_number axioms a) (list_any (uses_axiom a) lines) used) in
      any-passing (sets.contains set.members) 0 (set.limit + 1) a
      ∙ (λ i. e i && (leb 0 a && ltb a (0 + (same_limit i + 1))))
      ∙ sym (any-passing (sets.contains named.members) 0 (named.limit + 1) a)

  same_part : (a p : ℕ) → list_any (uses_axiom a) lines ≡ true → part_at one.theory a p ≡ part_at other.theory a p
  same_part a p used =
      numbered axioms (member_list set) a p
      ∙ ap (λ (b : Bool). cond ((b && leb 1 p) && leb p (length (parts_at axioms a)))
      (Some (part_in (parts_at axioms a) (p - 1))) None)
      (same_among a used)
      ∙ sym (numbered axioms (member_list named) a p)

  same_fact : (a p : ℕ) → list_any (uses_axiom a) lines ≡ true → one.fact_of a p ≡ other.fact_of a p
  same_fact a p used =
      ap (λ (b : Bool). cond b (listed_fact (length o.individuals) (fact_in (slice_get axioms (a - 1)) p)) None)
      (same_among a used)

  -- an axiom says the same to both
  record SaysTheSame (a : ℕ) : Type 0 where
    part : (p : ℕ) → part_at one.theory a p ≡ part_at other.theory a p
    fact : (p : ℕ) → one.fact_of a p ≡ other.fact_of a p

  in_line : (l : Line) → ((a : ℕ) → uses_axiom a l ≡ true → SaysTheSame a) → HaveSamePart one other l
  in_line start_line same = tt
  in_line (and_line x c) same = tt
  in_line (or_line x c) same = tt
  in_line (all_line x y c) same = tt
  in_line (carry_line x y r c) same = tt
  in_line (row_line x a p is) same = (same a (eq-eqb a a refl)).part p
  in_line (range_line x y a) same = (same a (eq-eqb a a refl)).part 1
  in_line (some_line x y c) same = tt
  in_line (least_line x y c) same = tt
  in_line (choose_line y c) same = tt
  in_line (pair_line y z) same = tt
  in_line (bottom_line x) same = tt
  in_line (clash_line x c) same = tt
  in_line (most_line x c ys) same = tt
  in_line (fact_line a p) same = (same a (eq-eqb a a refl)).fact p
  in_line (differ_line y z) same = tt

  in_lines : (ls : List Line) → ((a : ℕ) → list_any (uses_axiom a) ls ≡ true → SaysTheSame a)
      → All (HaveSamePart one other) ls
  in_lines [] same = All-nil (HaveSamePart one other)
  in_lines (l ∷ ls) same =
      All-cons (HaveSamePart one other) l ls
      (in_line l (λ a u. same a (or_left (uses_axiom a l) (list_any (uses_axiom a) ls) u)))
      (in_lines ls (λ a u. same a (or_right (uses_axiom a l) (list_any (uses_axiom a) ls) u)))

  pub have_same_parts : All (HaveSamePart one other) lines
  have_same_parts = in_lines lines (λ a used. record { part = λ p. same_part a p used; fact = λ p. same_fact a p used })
