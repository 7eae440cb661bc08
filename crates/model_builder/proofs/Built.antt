-- The interpretation of the structure of a trail has the pairs of the interpretation that is computed of the trail.
use Rattle.std.proofs.Common.{◌≡◌, ℕ, zero, suc, ◌<◌, ◌≤◌, ◌&&◌, Bool, true, List, length, ◌∙◌, sym, subst, arith, inl}
use Rattle.std.proofs.Common.{inr}
use Rattle.std.specs.Prelude.{nat_lt}
use Rattle.std.specs.List.{list_any, range_with_len}
use Rattle.std.proofs.lemmas.Bool.{cases_eq, or_cases, or_left, or_right, and_parts, and_from}
use Rattle.std.proofs.lemmas.Bool.Decides.{nat_tests}
use Rattle.std.proofs.lemmas.List.{get_or_past}
use Rattle.shq_terms.specs.Listed.{Listed}
use Rattle.shq_terms.specs.declared.axioms.Query.{Query}
use Rattle.shq_meaning.specs.Truth.{Interpretation}
use Rattle.calculus_specs.specs.Shape.{Shape}
use Rattle.calculus_specs.specs.Rows.{Row}
use Rattle.role_box.specs.declared.role_axiom.RoleAxiom.{RoleAxiom}
use Rattle.role_box.specs.RoleAxioms.{role_axioms}
use Rattle.role_box.specs.Steps.{is_transitive}
use Rattle.role_box.specs.Paths.{has_path, role_limit, is_below}
use Rattle.role_box.specs.Closure.{any_below}
use Rattle.role_box.proofs.Limits.{transitive_within}
use Rattle.search_laws.specs.Limits.{IsInLimit}
use Rattle.calculus_specs.specs.declared.facts.Fact.{Fact}
use Rattle.search_laws.specs.Theory.{question_in}
use Rattle.tableau_specs.specs.declared.Item.{Item}
use Rattle.tableau_specs.specs.Items.{facts_of}
use Rattle.tableau_specs.specs.Steps.{SearchContext}
use Rattle.tableau_specs.specs.Reached.{IsReached, context_of}
use Rattle.search_laws.specs.Elements.{elements, IsNumberOf}
use Rattle.search_laws.specs.Built.{IsBuilt}
use Rattle.search_laws.specs.Computed.{leads_to, has_chain, has_pair, built}
use Rattle.search_laws.proofs.CounterModelNodes.{any_in_range, member}
use Rattle.search_laws.proofs.InLimit.{theory_is_order, names_are_listed}
use Rattle.search_laws.proofs.CounterModelLaws.{computed_interpretations_are_built}
use Rattle.model_builder.specs.declared.structure_model.Member.{Member}
use Rattle.model_builder.specs.declared.structure_model.Edge.{Edge}
use Rattle.model_builder.specs.Structure.{leads, leads_listed, has_chain_of, has_chain_by, has_any_chain}
use Rattle.model_builder.specs.Structure.{IsInterpretation}
use Rattle.model_builder.specs.Laws.{AreOfElements, StructuresAreBuilt}

-- ---- one below a bound that passes

any_at : (n : ℕ) (p : ℕ → Bool) (t : ℕ) → t < n → p t ≡ true → any_below n p ≡ true
any_at zero p t lt h = absurd (omega arith)
any_at (suc n) p t lt h = elim (cases_eq t n) [
  | inl e ↦ or_right (any_below n p) (p n) (subst (λ (m : ℕ). p m ≡ true) e h)
  | inr ne ↦ or_left (any_below n p) (p n) (any_at n p t (omega arith) h)
]

record Passing (p : ℕ → Bool) : Type 0 where
  it : ℕ
  passes : p it ≡ true

passing : (n : ℕ) (p : ℕ → Bool) → any_below n p ≡ true → Passing p
passing zero p h = cc
passing (suc n) p h = elim (or_cases (any_below n p) (p n) h)
    [ inl before ↦ passing n p before | inr here ↦ record { it = n; passes = here } ]

lt_within : (n m : ℕ) → n < m → nat_lt n m ≡ true
lt_within n m h = grind (arith, nat_tests)

-- paths are the same by steps that are the same below a bound
path_same : (f g : ℕ → ℕ → Bool) (n : ℕ) → ((x y : ℕ) → x < n → y < n → f x y ≡ g x y) → (k x y : ℕ) → k ≤ n → x < n
    → y < n → has_path f k x y ≡ has_path g k x y
path_same f g n same zero x y le lt mt = same x y lt mt
path_same f g n same (suc k) x y le lt mt =
    let middle : k < n = omega arith in
    let below : k ≤ n = omega arith in
    let a = path_same f g n same k x y below lt mt in
    let b = path_same f g n same k x k below lt middle in
    let c = path_same f g n same k k y below middle mt in
    cc

module _ (o : Listed) (ks : List ℕ) (q : Query) (table : List Shape) (rows : List Row) (k : ℕ) (trail : List Item)
    (members : List Member) (edges : List Edge) (places : List ℕ) (i : Interpretation)
    (limit : IsInLimit o q) (reached : IsReached (question_in o ks q) table rows k trail)
    (are : AreOfElements (context_of (question_in o ks q) table rows) (facts_of trail) (role_axioms o.axioms ks) members
    edges places)
    (given : IsInterpretation (length (elements (question_in o ks q).first (facts_of trail))) (length o.roles) members
    (role_axioms o.axioms ks) edges places i) where
  abbrev w : SearchContext
  w = context_of (question_in o ks q) table rows

  abbrev fs : List (Fact ℕ)
  fs = facts_of trail

  abbrev roles : List RoleAxiom
  roles = role_axioms o.axioms ks

  abbrev size : ℕ
  size = length (elements w.first fs)

  abbrev count : ℕ
  count = length o.roles

  abbrev bound : ℕ
  bound = role_limit roles

  computed : IsBuilt w fs (built w fs bound)
  computed =
      computed_interpretations_are_built w (question_in o ks q).at reached.sub_number reached.not_sup_number k trail
      reached.at_first reached.follows bound (transitive_within roles)

  -- the chains are the same
  same_chain : (t v u : ℕ) → v < size → u < size → has_path (leads roles edges t) size v u ≡ has_chain w fs t v u
  same_chain t v u lt mt =
      path_same (leads roles edges t) (leads_to w fs t) size (are.edges_are t) size v u (omega arith) lt mt

  -- a role with a pair of elements is listed
  role_listed : (s v u : ℕ) → v < size → u < size → has_pair w fs bound s v u ≡ true → s < count
  role_listed s v u lt mt h =
      (names_are_listed o ks q table rows k trail limit reached (built w fs bound) computed).role_is s v u lt mt h

  -- whether the chains of the transitive role t give the pair to s
  abbrev gives : ℕ → ℕ → ℕ → ℕ → Bool
  gives s v u t = w.theory.is_transitive t && w.theory.below t s && has_chain w fs t v u

  given_by : (s v u t : ℕ) → w.theory.is_transitive t ≡ true → w.theory.below t s ≡ true → has_chain w fs t v u ≡ true
      → has_pair w fs bound s v u ≡ true
  given_by s v u t tr b chain =
      or_right (leads_to w fs s v u) (list_any (gives s v u) (range_with_len 0 bound))
      (any_in_range (gives s v u) bound t (transitive_within roles t tr)
      (and_from (w.theory.is_transitive t && w.theory.below t s) (has_chain w fs t v u)
      (and_from (w.theory.is_transitive t) (w.theory.below t s) tr b) chain))

  is_computed : (s v u : ℕ) → v < size → u < size → i.in_role s v u ≡ true → has_pair w fs bound s v u ≡ true
  is_computed s v u lt mt h =
      elim (or_cases (leads_listed count roles edges s v u) (has_any_chain size count roles edges s v u)
      (sym (given.roles_are s v u lt mt) ∙ h)) [
        | inl l ↦
            or_left (leads_to w fs s v u) (list_any (gives s v u) (range_with_len 0 bound))
            (sym (are.edges_are s v u lt mt) ∙ (and_parts (nat_lt s count) (leads roles edges s v u) l).1)
        | inr c ↦
            let t = passing count (λ r. has_chain_by size count roles edges r s v u) c in
            let a =
            and_parts (is_transitive roles t.it)
            (has_chain_of count roles t.it (has_path (leads roles edges t.it) size) s v u) t.passes in
            let b =
            and_parts (nat_lt s count) (is_below roles t.it s && has_path (leads roles edges t.it) size v u) a.1 in
            let d = and_parts (is_below roles t.it s) (has_path (leads roles edges t.it) size v u) b.1 in
            given_by s v u t.it a.0 d.0 (sym (same_chain t.it v u lt mt) ∙ d.1)
      ]

  is_given : (s v u : ℕ) → v < size → u < size → has_pair w fs bound s v u ≡ true → i.in_role s v u ≡ true
  is_given s v u lt mt h =
      let listed = lt_within s count (role_listed s v u lt mt h) in
      given.roles_are s v u lt mt
      ∙ elim (or_cases (leads_to w fs s v u) (list_any (gives s v u) (range_with_len 0 bound)) h) [
        | inl lead ↦
            or_left (leads_listed count roles edges s v u) (has_any_chain size count roles edges s v u)
            (and_from (nat_lt s count) (leads roles edges s v u) listed (are.edges_are s v u lt mt ∙ lead))
        | inr any ↦
            let t = member (gives s v u) (range_with_len 0 bound) any in
            let a =
            and_parts (w.theory.is_transitive t.it && w.theory.below t.it s) (has_chain w fs t.it v u) t.passes in
            let b = and_parts (w.theory.is_transitive t.it) (w.theory.below t.it s) a.0 in
            let itself = (theory_is_order o.axioms ks).itself t.it in
            let chain = same_chain t.it v u lt mt ∙ a.1 in
            or_right (leads_listed count roles edges s v u) (has_any_chain size count roles edges s v u)
            (any_at count (λ r. has_chain_by size count roles edges r s v u) t.it
            (role_listed t.it v u lt mt (given_by t.it v u t.it b.0 itself a.1))
            (and_from (is_transitive roles t.it)
            (has_chain_of count roles t.it (has_path (leads roles edges t.it) size) s v u) b.0
            (and_from (nat_lt s count) (is_below roles t.it s && has_path (leads roles edges t.it) size v u) listed
            (and_from (is_below roles t.it s) (has_path (leads roles edges t.it) size v u) b.1 chain))))
      ]

  is_built : IsBuilt w fs i
  is_built = record {
    size_is = given.size_is;
    individuals_are =
        λ a lt. subst (IsNumberOf w.first fs a) (sym (given.individuals_are a))
        (are.places_are a (omega (arith, are.as_many, lt)));
    others_are = λ a past. given.individuals_are a ∙ get_or_past places a 0 (omega (arith, are.as_many, past));
    classes_are = λ a v lt. given.classes_are a v ∙ are.members_are a v (omega (arith, given.size_is, lt));
    roles_are = λ s v u lt mt.
        let vt : v < size = omega (arith, given.size_is, lt) in
        let ut : u < size = omega (arith, given.size_is, mt) in
        let same = computed.roles_are s v u vt ut in
        (λ h. same.0 (is_computed s v u vt ut h), λ p. is_given s v u vt ut (same.1 p));
  }

pub structures_are_built : StructuresAreBuilt
structures_are_built = is_built
