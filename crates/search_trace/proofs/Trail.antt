-- A branch that covers a trail takes its steps, and covers what they leave.
use Rattle.std.proofs.Common.{◌≡◌, ℕ, zero, suc, ◌+◌, ◌<◌, ◌≤◌, ◌&&◌, ◌||◌, eqb, leb, ltb, Bool, true, false, not, cond}
use Rattle.std.proofs.Common.{List, [], ◌∷◌, ◌++◌, map, length, Option, Some, nat_cmp, refl, ap, ◌∙◌, sym, subst, arith}
use Rattle.std.proofs.Common.{inl, inr, eq-eqb}
use Rattle.std.specs.List.{list_any, list_all, filter, range_with_len}
use Rattle.std.specs.FinSet as sets
use Rattle.std.proofs.lemmas.Bool.{and_parts, and_from, or_cases, or_left, or_right, eqb-true, lt-leb, le-ltb, ltb-true}
use Rattle.std.proofs.lemmas.Bool.{cases_lt, cases_eq}
use Rattle.std.proofs.lemmas.List.{map-append, append-nil, append_assoc}
use Rattle.std.proofs.lemmas.List.Folds.{list_any-append, list_all-append}
use Rattle.std.proofs.lemmas.Cmp.{nat_cmp_total}
use Rattle.calculus_specs.specs.Concept.{Concept}
use Rattle.refutation_tree.specs.NumberSets.{NumberSet}
use Rattle.calculus_specs.specs.Shape.{Shape, IsTable}
use Rattle.calculus_specs.specs.Tree.{tree_of}
use Rattle.calculus_specs.specs.Rows.{Theory}
use Rattle.calculus_specs.specs.declared.facts.Fact.{Fact}
use Rattle.calculus_specs.specs.declared.facts.Fact.TheVariants.{Has, Edge, Apart, Same}
use Rattle.calculus_specs.specs.State.{node_count_from, has, has_edge, are_apart, new_nodes, apart_from, pairwise_apart}
use Rattle.calculus_specs.specs.State.{fresh_facts}
use Rattle.calculus_specs.specs.Reading.{read_fact, read_facts, is_fact_listed, are_listed}
use Rattle.calculus_specs.proofs.Reading.{keeps_state, has-read}
use Rattle.calculus_specs.specs.Rules.{Question, when}
use Rattle.tableau_specs.specs.Lines.{known_by, concept_in}
use Rattle.tableau_specs.proofs.GenerateLines.{count-append, count-fresh, fresh-read}
use Rattle.tableau_specs.proofs.TreeShaped.{first_le}
use Rattle.tableau_specs.proofs.AddLines.{in_range_below}
use Rattle.search_trace.specs.Premises.{has_concept, has_edge_below, is_apart, Added, more_facts, more_nodes, Rule}
use Rattle.search_trace.specs.Premises.{holds, is_new}
use Rattle.search_trace.specs.Noted.{Marked, marked, is_within, within, items, Noted, known, known_within, noted_added}
use Rattle.search_trace.specs.Noted.{NotedLine, marks_given, noted_by, noted_children}
use Rattle.search_trace.specs.Among.{IsAmong, IsPart}
use Rattle.search_trace.specs.Trail.{MarkedFact, read_marked, end_of, ends_of, nodes_of, trail_within, Covers}
use Rattle.search_trace.specs.Trail.{AllWithin, is_next, RuleHolds, makes_no_node, Puts, some_facts, all_nodes}
use Rattle.search_trace.proofs.Among.{any_implies, any_map, any_within, within_among, among_more, premises_stay}
use Rattle.search_trace.proofs.Strip.{when_true}
use Rattle.search_trace.proofs.Plain.{items_marked, items_more}

-- ---- what rests on few marks

within_read : (table : List Shape) (u : NumberSet) (ms : List MarkedFact)
    → within u (map (read_marked table) ms) ≡ read_facts (tree_of table) (within u ms)
within_read table u [] = refl
within_read table u (m ∷ ms) =
    elim (is_within u m) as
    (λ b. items
    (cond b (read_marked table m ∷ filter (is_within u) (map (read_marked table) ms))
    (filter (is_within u) (map (read_marked table) ms)))
    ≡ read_facts (tree_of table) (items (cond b (m ∷ filter (is_within u) ms) (filter (is_within u) ms)))) [
      | true ↦ ap (λ (fs : List (Fact Concept)). read_fact (tree_of table) m.item ∷ fs) (within_read table u ms)
      | false ↦ within_read table u ms
    ]

pub covered_part : (first : ℕ) (table : List Shape) (u : NumberSet) (ms : List MarkedFact) (k : Noted)
    → Covers first table ms k → IsPart (trail_within first table u ms) (known_within u k)
covered_part first table u ms k c = record {
  nodes = within_among u (nodes_of first ms) k.nodes c.nodes;
  facts =
      subst (λ (fs : List (Fact Concept)). IsAmong fs (within u k.facts)) (within_read table u ms)
      (within_among u (map (read_marked table) ms) k.facts c.facts);
}

-- ---- new nodes

none_known : (y n : ℕ) (nodes : List ℕ) → ((x : ℕ) → list_any (λ z. eqb z x) nodes ≡ true → x < y)
    → list_any (λ z. leb y z && ltb z (y + n)) nodes ≡ false
none_known y n [] h = refl
none_known y n (z ∷ zs) h =
    let lt = h z (or_left (eqb z z) (list_any (λ w. eqb w z) zs) (eq-eqb z z refl)) in
    ap (λ (b : Bool). b && ltb z (y + n) || list_any (λ w. leb y w && ltb w (y + n)) zs) (lt-leb y z lt)
    ∙ none_known y n zs (λ x is. h x (or_right (eqb z x) (list_any (λ w. eqb w x) zs) is))

next_is_new : (first : ℕ) (table : List Shape) (ms : List MarkedFact) (k : Noted) → Covers first table ms k
    → (a : Added) → is_next first ms a ≡ true → is_new (known k) a ≡ true
next_is_new first table ms k c (more_facts fs) h = refl
next_is_new first table ms k c (more_nodes x s e y n) h =
    let is = eqb-true y (node_count_from first (items ms)) h in
    ap not (none_known y n (items k.nodes) (λ z has. let lt = c.no_more z has in omega arith))

all_next_are_new : (first : ℕ) (table : List Shape) (ms : List MarkedFact) (k : Noted) → Covers first table ms k
    → (added : List Added) → list_all (is_next first ms) added ≡ true → list_all (is_new (known k)) added ≡ true
all_next_are_new first table ms k c [] h = refl
all_next_are_new first table ms k c (a ∷ added) h =
    let b = and_parts (is_next first ms a) (list_all (is_next first ms) added) h in
    and_from (is_new (known k) a) (list_all (is_new (known k)) added) (next_is_new first table ms k c a b.0)
    (all_next_are_new first table ms k c added b.1)

-- ---- a step

pub covered_step : (q : Question) (table : List Shape) (ms : List MarkedFact) (k : Noted) (l : NotedLine) (r : Rule)
    → Covers q.first table ms k → RuleHolds q table ms l r
    → noted_children q (concept_in table) k l ≡ Some (map (noted_added (marks_given l) k) r.children)
covered_step q table ms k l r c h =
    let kids : Option (List Noted) = Some (map (noted_added (marks_given l) k) r.children) in
    let they_hold =
    premises_stay q.theory (trail_within q.first table l.marks ms) (known_within l.marks k)
    (covered_part q.first table l.marks ms k c) r.premises h.premises in
    ap (noted_by q (concept_in table) k l) h.is_rule
    ∙ when_true (list_all (holds q.theory (known_within l.marks k)) r.premises)
    (when (list_all (is_new (known k)) r.children) kids) they_hold
    ∙ when_true (list_all (is_new (known k)) r.children) kids
    (all_next_are_new q.first table ms k c r.children h.are_next)

-- ---- what it leaves

module _ (first : ℕ) where
  pub ends-append : (ms zs : List MarkedFact) → ends_of first (ms ++ zs) ≡ ends_of first ms ++ ends_of first zs
  ends-append [] zs = refl
  ends-append (m ∷ ms) zs =
      ap (λ (es : List (Marked ℕ)). end_of first m.marks m.item ++ es) (ends-append ms zs)
      ∙ sym (append_assoc (end_of first m.marks m.item) (ends_of first ms) (ends_of first zs))

  no_ends : (u : NumberSet) (fs : List (Fact ℕ)) → list_all (makes_no_node first) fs ≡ true
      → ends_of first (map (marked u) fs) ≡ []
  no_ends u [] h = refl
  no_ends u (Has x c ∷ fs) h = no_ends u fs h
  no_ends u (Edge r x y ∷ fs) h =
      let b = and_parts (ltb y first) (list_all (makes_no_node first) fs) h in
      ap (λ (t : Bool). cond t [] (marked u y ∷ []) ++ ends_of first (map (marked u) fs)) b.0 ∙ no_ends u fs b.1
  no_ends u (Apart x y ∷ fs) h = no_ends u fs h
  no_ends u (Same x y ∷ fs) h = no_ends u fs h

  apart_ends : (u : NumberSet) (y z n : ℕ) (rest : List (Fact ℕ))
      → ends_of first (map (marked u) (apart_from y z n ++ rest)) ≡ ends_of first (map (marked u) rest)
  apart_ends u y z zero rest = refl
  apart_ends u y z (suc n) rest = apart_ends u y (z + 1) n rest

  pub pair_ends : (u : NumberSet) (from n : ℕ) → ends_of first (map (marked u) (pairwise_apart from n)) ≡ []
  pair_ends u from zero = refl
  pair_ends u from (suc n) = apart_ends u from (from + 1) n (pairwise_apart (from + 1) n) ∙ pair_ends u (from + 1) n

  pub node_ends : (u : NumberSet) (x s c from n : ℕ) (rest : List (Fact ℕ)) → first ≤ from
      → ends_of first (map (marked u) rest) ≡ []
      → ends_of first (map (marked u) (new_nodes x s c from n ++ rest)) ≡ map (marked u) (range_with_len from n)
  node_ends u x s c from zero rest le h = h
  node_ends u x s c from (suc n) rest le h =
      ap (λ (t : Bool). cond t [] (marked u from ∷ [])
      ++ ends_of first (map (marked u) (new_nodes x s c (from + 1) n ++ rest)))
      (le-ltb from first le)
      ∙ ap (λ (es : List (Marked ℕ)). marked u from ∷ es) (node_ends u x s c (from + 1) n rest (omega arith) h)

read_marks : (table : List Shape) (u : NumberSet) (fs : List (Fact ℕ))
    → map (read_marked table) (map (marked u) fs) ≡ map (marked u) (read_facts (tree_of table) fs)
read_marks table u [] = refl
read_marks table u (f ∷ fs) =
    ap (λ (ms : List (Marked (Fact Concept))). marked u (read_fact (tree_of table) f) ∷ ms) (read_marks table u fs)

marked_among : {A : Type 0} → (u : NumberSet) (xs ys : List A) → IsAmong xs ys
    → IsAmong (map (marked u) xs) (map (marked u) ys)
marked_among u xs ys h p any = any_map (marked u) p ys ∙ h (λ x. p (marked u x)) (sym (any_map (marked u) p xs) ∙ any)

both_among : {A : Type 0} → (vs ws xs ys : List A) → IsAmong vs xs → IsAmong ws ys → IsAmong (vs ++ ws) (xs ++ ys)
both_among vs ws xs ys h g p any =
    list_any-append p xs ys ∙ (elim (or_cases (list_any p vs) (list_any p ws) (sym (list_any-append p vs ws) ∙ any)) [
      | inl a ↦ or_left (list_any p xs) (list_any p ys) (h p a)
      | inr a ↦ or_right (list_any p xs) (list_any p ys) (g p a)
    ])

pub nodes-append : (first : ℕ) (ms ns : List MarkedFact)
    → nodes_of first (ms ++ ns) ≡ nodes_of first ms ++ ends_of first ns
nodes-append first ms ns =
    let firsts : List (Marked ℕ) = map (marked sets.empty) (range_with_len 0 first) in
    ap (λ (es : List (Marked ℕ)). firsts ++ es) (ends-append first ms ns)
    ∙ sym (append_assoc firsts (ends_of first ms) (ends_of first ns))

nodes_with : (first : ℕ) (ms : List MarkedFact) (u : NumberSet) (fs : List (Fact ℕ)) (es : List (Marked ℕ))
    → ends_of first (map (marked u) fs) ≡ es
    → nodes_of first ms ++ es ≡ nodes_of first (ms ++ map (marked u) fs)
nodes_with first ms u fs es h =
    ap (λ (ys : List (Marked ℕ)). nodes_of first ms ++ ys) (sym h) ∙ sym (nodes-append first ms (map (marked u) fs))

facts_with : (table : List Shape) (u : NumberSet) (ms : List MarkedFact) (k : Noted) (new : List (Fact ℕ))
    (fs : List (Fact Concept))
    → IsAmong (map (read_marked table) ms) k.facts
    → IsAmong (read_facts (tree_of table) new) fs
    → IsAmong (map (read_marked table) (ms ++ map (marked u) new)) (k.facts ++ map (marked u) fs)
facts_with table u ms k new fs h g =
    subst (λ (xs : List (Marked (Fact Concept))). IsAmong xs (k.facts ++ map (marked u) fs))
    (ap (λ (ys : List (Marked (Fact Concept))). map (read_marked table) ms ++ ys) (sym (read_marks table u new))
    ∙ sym (map-append (read_marked table) ms (map (marked u) new)))
    (both_among (map (read_marked table) ms) (map (marked u) (read_facts (tree_of table) new)) k.facts
    (map (marked u) fs) h (marked_among u (read_facts (tree_of table) new) fs g))

pub known_in : (x a n : ℕ) → a ≤ x → x < a + n → list_any (λ y. eqb y x) (range_with_len a n) ≡ true
known_in x a zero le lt = absurd (omega arith)
known_in x a (suc n) le lt = elim (cases_eq a x) [
  | inl e ↦ or_left (eqb a x) (list_any (λ y. eqb y x) (range_with_len (a + 1) n)) (eq-eqb a x e)
  | inr ne ↦
      or_right (eqb a x) (list_any (λ y. eqb y x) (range_with_len (a + 1) n))
      (known_in x (a + 1) n (omega arith) (omega arith))
]

count_no_nodes : (first : ℕ) (fs gs : List (Fact ℕ)) → list_all (makes_no_node first) gs ≡ true
    → node_count_from first (fs ++ gs) ≡ node_count_from first fs
count_no_nodes first fs gs h = let e = one gs h in omega (arith, count-append first fs gs, first_le first fs)
  where
    one : (gs : List (Fact ℕ)) → list_all (makes_no_node first) gs ≡ true → node_count_from first gs ≡ first
    one [] h = refl
    one (Has x c ∷ gs) h = one gs h
    one (Edge r x y ∷ gs) h =
        let b = and_parts (ltb y first) (list_all (makes_no_node first) gs) h in
        let lt = ltb-true y first b.0 in
        let rest = one gs b.1 in
        omega arith
    one (Apart x y ∷ gs) h = one gs h
    one (Same x y ∷ gs) h = one gs h

any_items_more : (first : ℕ) (p : ℕ → Bool) (ms : List MarkedFact) (u : NumberSet) (fs : List (Fact ℕ)) (es : List ℕ)
    → ends_of first (map (marked u) fs) ≡ map (marked u) es
    → list_any p (items (nodes_of first (ms ++ map (marked u) fs)))
    ≡ (list_any p (items (nodes_of first ms)) || list_any p es)
any_items_more first p ms u fs es e =
    ap (λ (xs : List (Marked ℕ)). list_any p (items xs)) (sym (nodes_with first ms u fs (map (marked u) es) e))
    ∙ ap (list_any p) (items_more u (nodes_of first ms) es)
    ∙ list_any-append p (items (nodes_of first ms)) es

module _ (first : ℕ) (table : List Shape) (u : NumberSet) (ms : List MarkedFact) (k : Noted)
    (c : Covers first table ms k) where
  pub covered_child : (a : Added) (new : List (Fact ℕ)) → Puts first table a new → is_next first ms a ≡ true
      → Covers first table (ms ++ map (marked u) new) (noted_added u k a)
  covered_child a' new' (some_facts fs new none among) next = record {
    nodes =
        subst (λ (xs : List (Marked ℕ)). IsAmong xs k.nodes)
        (sym (append-nil (nodes_of first ms)) ∙ nodes_with first ms u new [] (no_ends first u new none)) c.nodes;
    facts = facts_with table u ms k new fs c.facts among;
    no_more = λ x is.
        (let lt = c.no_more x is in
        let e = ap (node_count_from first) (items_more u ms new) ∙ count-append first (items ms) new in
        omega arith);
    no_less = λ x lt.
        (let e = ap (node_count_from first) (items_more u ms new) ∙ count_no_nodes first (items ms) new none in
        any_items_more first (λ y. eqb y x) ms u new [] (no_ends first u new none)
        ∙ or_left (list_any (λ y. eqb y x) (items (nodes_of first ms))) false (c.no_less x (omega arith)));
  }
  covered_child a' new' (all_nodes x s d y n) next =
      let is = eqb-true y (node_count_from first (items ms)) next in
      let le : first ≤ y = omega (arith, is, first_le first (items ms)) in
      let new = fresh_facts x s d y n in
      let ends = node_ends first u x s d y n (pairwise_apart y n) le (pair_ends first u y n) in
      let total : node_count_from first (items (ms ++ map (marked u) new)) ≡ node_count_from first (items ms) + n =
      ap (node_count_from first) (items_more u ms new)
      ∙ ap (λ (z : ℕ). node_count_from first (items ms ++ fresh_facts x s d z n)) is
      ∙ count-fresh first (items ms) x s d n in
      record {
        nodes = subst (λ (xs : List (Marked ℕ)). IsAmong xs (k.nodes ++ map (marked u) (range_with_len y n)))
            (nodes_with first ms u new (map (marked u) (range_with_len y n)) ends)
            (among_more (nodes_of first ms) k.nodes (map (marked u) (range_with_len y n)) c.nodes);
        facts = facts_with table u ms k new (fresh_facts x s (tree_of table d) y n) c.facts
            (subst (λ (fs : List (Fact Concept)). IsAmong fs (fresh_facts x s (tree_of table d) y n))
            (sym (fresh-read (tree_of table) x s d y n)) (λ p h. h));
        no_more = λ z has.
            (elim (or_cases (list_any (λ w. eqb w z) (items k.nodes)) (list_any (λ w. eqb w z) (range_with_len y n))
            (sym (ap (list_any (λ w. eqb w z)) (items_more u k.nodes (range_with_len y n))
            ∙ list_any-append (λ w. eqb w z) (items k.nodes) (range_with_len y n))
            ∙ has)) [
              | inl old ↦ let lt = c.no_more z old in omega (arith, total)
              | inr added ↦ let lt = in_range_below z y n added in omega (arith, total, is)
            ]);
        no_less = λ z lt.
            any_items_more first (λ w. eqb w z) ms u new (range_with_len y n) ends
            ∙ (elim (cases_lt z y) [
              | inl below ↦
                  or_left (list_any (λ w. eqb w z) (items (nodes_of first ms)))
                  (list_any (λ w. eqb w z) (range_with_len y n)) (c.no_less z (omega (arith, is)))
              | inr above ↦
                  or_right (list_any (λ w. eqb w z) (items (nodes_of first ms)))
                  (list_any (λ w. eqb w z) (range_with_len y n)) (known_in z y n above (omega (arith, total, is)))
            ]);
      }

-- ---- premises that the trail has

listed_within : (n : ℕ) (u : NumberSet) (ms : List MarkedFact) → are_listed n (items ms) ≡ true
    → are_listed n (within u ms) ≡ true
listed_within n u [] h = refl
listed_within n u (m ∷ ms) h =
    let b = and_parts (is_fact_listed n m.item) (are_listed n (items ms)) h in
    elim (is_within u m) as
    (λ t. are_listed n (items (cond t (m ∷ filter (is_within u) ms) (filter (is_within u) ms))) ≡ true) [
      | true ↦ and_from (is_fact_listed n m.item) (are_listed n (within u ms)) b.0 (listed_within n u ms b.1)
      | false ↦ listed_within n u ms b.1
    ]

module _ (theory : Theory) (first : ℕ) (table : List Shape) (is_table : IsTable table) (u : NumberSet)
    (ms : List MarkedFact) (listed : are_listed (length table) (items ms) ≡ true) where
  pub concept_holds : (x c : ℕ) → c < length table → has (within u ms) x c ≡ true
      → holds theory (trail_within first table u ms) (has_concept x (tree_of table c)) ≡ true
  concept_holds x c lt h = has-read table is_table (within u ms) (listed_within (length table) u ms listed) x c lt ∙ h

  pub edge_holds : (s x y : ℕ) → has_edge (within u ms) (λ r. theory.below r s) x y ≡ true
      → holds theory (trail_within first table u ms) (has_edge_below s x y) ≡ true
  edge_holds s x y h = (keeps_state ℕ Concept (tree_of table) (within u ms)).edges (λ r. theory.below r s) x y ∙ h

  pub apart_holds : (x y : ℕ) → are_apart (within u ms) x y ≡ true
      → holds theory (trail_within first table u ms) (is_apart x y) ≡ true
  apart_holds x y h = (keeps_state ℕ Concept (tree_of table) (within u ms)).aparts x y ∙ h

-- ---- more marks

module _ (first : ℕ) (table : List Shape) (u v : NumberSet) (part : sets.is_subset u v ≡ true) where
  within_wider : {A : Type 0} → (ms : List (Marked A)) → IsAmong (within u ms) (within v ms)
  within_wider ms p any =
      any_within v p ms
      ∙ any_implies (λ m. is_within u m && p m.item) (λ m. is_within v m && p m.item)
      (λ m h. let b = and_parts (is_within u m) (p m.item) h in
      and_from (is_within v m) (p m.item)
      (sets.contains-is_subset nat_cmp_total m.marks v
      (λ q is. sets.is_subset-contains nat_cmp_total u v part q
      (sets.is_subset-contains nat_cmp_total m.marks u b.0 q is)))
      b.1)
      ms (sym (any_within u p ms) ∙ any)

  -- what holds by facts that rest on a set holds by those that rest on a wider one
  pub wider_part : (ms : List MarkedFact) → IsPart (trail_within first table u ms) (trail_within first table v ms)
  wider_part ms = record {
    nodes = within_wider (nodes_of first ms);
    facts = λ p any.
        any_map (read_fact (tree_of table)) p (within v ms)
        ∙ within_wider ms (λ f. p (read_fact (tree_of table) f))
        (sym (any_map (read_fact (tree_of table)) p (within u ms)) ∙ any);
  }

-- ---- all marks

all_are_within : {A : Type 0} → (u : NumberSet) (ms : List (Marked A)) → list_all (is_within u) ms ≡ true
    → within u ms ≡ items ms
all_are_within u [] h = refl
all_are_within u (m ∷ ms) h =
    let b = and_parts (is_within u m) (list_all (is_within u) ms) h in
    ap (λ (t : Bool). items (cond t (m ∷ filter (is_within u) ms) (filter (is_within u) ms))) b.0
    ∙ ap (λ (xs : List _). m.item ∷ xs) (all_are_within u ms b.1)

ends_are_within : (first : ℕ) (u : NumberSet) (ms : List MarkedFact) → AllWithin u ms
    → list_all (is_within u) (ends_of first ms) ≡ true
ends_are_within first u [] h = refl
ends_are_within first u (m ∷ ms) h =
    let b = and_parts (is_within u m) (list_all (is_within u) ms) h in
    list_all-append (is_within u) (end_of first m.marks m.item) (ends_of first ms)
    ∙ and_from (list_all (is_within u) (end_of first m.marks m.item)) (list_all (is_within u) (ends_of first ms))
    (one m.item b.0) (ends_are_within first u ms b.1)
  where
    one : (f : Fact ℕ) → is_within u m ≡ true → list_all (is_within u) (end_of first m.marks f) ≡ true
    one (Edge r x y) g = elim (ltb y first) as (λ t. list_all (is_within u) (cond t [] (marked m.marks y ∷ [])) ≡ true)
        [ true ↦ refl | false ↦ and_from (is_within u m) true g refl ]
    one (Has x c) g = refl
    one (Apart x y) g = refl
    one (Same x y) g = refl

-- what rests on no mark rests on marks of any set
pub none_are_within : (u : NumberSet) (xs : List ℕ) → list_all (is_within u) (map (marked sets.empty) xs) ≡ true
none_are_within u [] = refl
none_are_within u (x ∷ xs) =
    let node : Marked ℕ = marked sets.empty x in
    and_from (is_within u node) (list_all (is_within u) (map (marked sets.empty) xs))
    (sets.contains-is_subset nat_cmp_total sets.empty u (λ p is. let none = sets.contains-empty nat_cmp p in cc))
    (none_are_within u xs)

-- a first node is known by what rests on any marks
pub first_is_known : (first : ℕ) (u : NumberSet) (ms : List MarkedFact) (x : ℕ) → x < first
    → list_any (λ y. eqb y x) (within u (nodes_of first ms)) ≡ true
first_is_known first u ms x lt =
    let firsts : List (Marked ℕ) = map (marked sets.empty) (range_with_len 0 first) in
    let p : Marked ℕ → Bool = λ m. is_within u m && eqb m.item x in
    any_within u (λ y. eqb y x) (nodes_of first ms)
    ∙ list_any-append p firsts (ends_of first ms)
    ∙ or_left (list_any p firsts) (list_any p (ends_of first ms))
    (sym (any_within u (λ y. eqb y x) firsts)
    ∙ ap (list_any (λ y. eqb y x))
    (all_are_within u firsts (none_are_within u (range_with_len 0 first))
    ∙ items_marked sets.empty (range_with_len 0 first))
    ∙ known_in x 0 first (omega arith) (omega (arith, lt)))

-- where every fact rests on marks of the set, what the trail makes known holds by facts that rest on it
pub whole_part : (first : ℕ) (table : List Shape) (u : NumberSet) (ms : List MarkedFact) → AllWithin u ms
    → ((x : ℕ) → x < node_count_from first (items ms) → list_any (λ y. eqb y x) (items (nodes_of first ms)) ≡ true)
    → IsPart (known_by first table (items ms)) (trail_within first table u ms)
whole_part first table u ms h full = record {
  nodes = λ p any.
      (let firsts : List (Marked ℕ) = map (marked sets.empty) (range_with_len 0 first) in
      let same = all_are_within u (nodes_of first ms)
      (list_all-append (is_within u) firsts (ends_of first ms)
      ∙ and_from (list_all (is_within u) firsts) (list_all (is_within u) (ends_of first ms))
      (none_are_within u (range_with_len 0 first)) (ends_are_within first u ms h)) in
      ap (list_any p) same ∙ in_range p (node_count_from first (items ms)) 0 (λ x lt. full x (omega arith)) any);
  facts =
      λ p any. ap (λ (fs : List (Fact ℕ)). list_any p (read_facts (tree_of table) fs)) (all_are_within u ms h) ∙ any;
}
  where
    among_has : (p : ℕ → Bool) (x : ℕ) (xs : List ℕ) → list_any (λ y. eqb y x) xs ≡ true → p x ≡ true
        → list_any p xs ≡ true
    among_has p x xs is h = any_implies (λ y. eqb y x) p (λ y g. ap p (eqb-true y x g) ∙ h) xs is

    in_range : (p : ℕ → Bool) (n a : ℕ)
        → ((x : ℕ) → x < a + n → list_any (λ y. eqb y x) (items (nodes_of first ms)) ≡ true)
        → list_any p (range_with_len a n) ≡ true → list_any p (items (nodes_of first ms)) ≡ true
    in_range p zero a each any = cc
    in_range p (suc n) a each any = elim (or_cases (p a) (list_any p (range_with_len (a + 1) n)) any) [
      | inl here ↦ among_has p a (items (nodes_of first ms)) (each a (omega arith)) here
      | inr later ↦ in_range p n (a + 1) (λ x lt. each x (omega arith)) later
    ]
