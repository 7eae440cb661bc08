-- Worked examples of searches over individuals. Nodes 0 to 2 are the individuals, and node 3 is an element without a
-- name. The table's numbers are: 0 top, 1 a class, 2 'at most 1 of role 7', 3 'some of role 7 in 1'.
use Rattle.std.specs.Prelude.{◌≡◌, ◌<◌, ℕ, zero, suc, true, false, ◌==◌, List, [], ◌∷◌, ◌++◌, length, take, slice_get}
use Rattle.std.specs.Prelude.{Option, Some, None, refl}
use Rattle.std.specs.List.{count_by}
use Rattle.std.proofs.lemmas.List.Elements.{All-nil}
use Rattle.std.proofs.Common.{lit<, ap, sym, subst, ◌∙◌, arith, inr}
use Rattle.shq_terms.specs.declared.axioms.Axiom.{Axiom}
use Rattle.shq_terms.specs.declared.axioms.Axiom.TheVariants.{Member, Pair as Leads, Different}
use Rattle.shq_terms.specs.declared.axioms.Numbered.{Numbered}
use Rattle.shq_terms.specs.declared.axioms.On.{On}
use Rattle.shq_terms.specs.declared.axioms.On.TheVariants.{Any, Individual}
use Rattle.calculus_specs.specs.Concept.{Concept, top as everything, bottom as nothing, name, at_most as at_most_of}
use Rattle.calculus_specs.specs.Shape.{Shape, shape_of, has_parts_below, is_normal, IsTable}
use Rattle.calculus_specs.specs.Shape.Shape.{top, bottom, name as name_shape, not_name, some_of, at_most}
use Rattle.calculus_specs.specs.Rows.{NumberedPart, Theory, Row, IsRowOf, is_row_of, inclusion_of}
use Rattle.calculus_specs.specs.Rows.Trigger.{always}
use Rattle.calculus_specs.specs.declared.facts.Fact.{Fact}
use Rattle.calculus_specs.specs.declared.facts.Fact.TheVariants.{Has, Edge, Apart, Same}
use Rattle.calculus_specs.specs.Joins.{rep}
use Rattle.calculus_specs.specs.State.{node_count_from, parent_from, has, is_label_part, are_apart, all_apart}
use Rattle.calculus_specs.specs.State.{successors_from, is_so}
use Rattle.tableau_specs.specs.declared.Block.TheVariants.{Clear, By, Under}
use Rattle.tableau_specs.specs.declared.Branch.TheVariants.{Pair}
use Rattle.tableau_specs.specs.declared.Choice.{Choice}
use Rattle.tableau_specs.specs.declared.Item.{Item}
use Rattle.tableau_specs.specs.declared.Item.TheVariants.{Fact as Says, Mark}
use Rattle.tableau_specs.specs.Items.{facts_of}
use Rattle.tableau_specs.specs.Blocked.{block_of}
use Rattle.tableau_specs.specs.Clash.{filled_successors, IsPlainClash}
use Rattle.tableau_specs.specs.Clash.IsClash.{of_most}
use Rattle.tableau_specs.specs.Clash.IsPlainClash.{plain_bottom, plain_names, plain_most, plain_differ}
use Rattle.tableau_specs.specs.Steps.{SearchContext, IsGiven, IsLegal, HasClash, HasPlainClash}
use Rattle.tableau_specs.specs.Steps.Adds.{by_row}
use Rattle.tableau_specs.specs.Steps.Generates.{by_some}
use Rattle.tableau_specs.specs.Steps.MayBranch.{on_pair}
use Rattle.tableau_specs.specs.Steps.IsAlternative.{of_joining}
use Rattle.tableau_specs.specs.Steps.IsLegal.{add, give, generate, choose, back}
use Rattle.tableau_specs.specs.Reached.{start, Follows, context_of, HasNumbers, IsReached, Costs}
use Rattle.calculus_specs.specs.Rules.{Question}
use Rattle.refutation_truth.specs.Theory.{question_of}

abbrev table : List Shape
table = top ∷ name_shape 10 ∷ at_most 1 7 0 ∷ some_of 7 1 ∷ []

-- parts of axioms, where each role is below itself alone
abbrev theory : List NumberedPart → Theory
theory parts = record { parts = parts; below = λ r s. r == s; is_transitive = λ r. false }

-- a search over the facts that axioms give, and over parts with their rows
abbrev over : (ℕ → ℕ → Option (Fact Concept)) → List NumberedPart → List Row → SearchContext
over given parts rows = record { theory = theory parts; table = table; rows = rows; first = 4; fact_of = given }

-- ---- when there is no plain clash

-- no concept is bottom or the complement of a class, and number 2 is the one 'at most'
abbrev IsMild : Shape → ℕ → Type 0
IsMild bottom c = ⊥
IsMild (not_name a) c = ⊥
IsMild (at_most n s e) c = (c ≡ 2) × (n ≡ 1) × (s ≡ 7) × (e ≡ 0)
IsMild _ c = Unit {0}

mild_table : (c : ℕ) → IsMild (shape_of table c) c
mild_table zero = tt
mild_table (suc zero) = tt
mild_table (suc (suc zero)) = (refl, refl, refl, refl)
mild_table (suc (suc (suc zero))) = tt
mild_table (suc (suc (suc (suc c)))) = tt

abbrev successors_in : List (Fact ℕ) → ℕ → ℕ → ℕ → List ℕ
successors_in fs x s e = filled_successors 4 (λ r t. r == t) fs x s e

-- the node is in 'at most 1 of role 7', and has more such successors, which are pairwise apart
abbrev IsFull : List (Fact ℕ) → ℕ → Type 0
IsFull fs x = (has fs x 2 ≡ true) × (1 < length (successors_in fs x 7 0))
    × (all_apart fs (successors_in fs x 7 0) ≡ true)

is_full : (fs : List (Fact ℕ)) (x c n s e : ℕ) → (c ≡ 2) × (n ≡ 1) × (s ≡ 7) × (e ≡ 0)
    → has fs x c ≡ true → n < length (successors_in fs x s e) → all_apart fs (successors_in fs x s e) ≡ true
    → IsFull fs x
is_full fs x c n s e m h more every =
    let h2 = subst (λ (d : ℕ). has fs x d ≡ true) m.0 h in
    let more1 = subst (λ (k : ℕ). k < length (successors_in fs x s e)) m.1 more in
    let more7 = subst (λ (r : ℕ). 1 < length (successors_in fs x r e)) m.2 more1 in
    let more0 = subst (λ (d : ℕ). 1 < length (successors_in fs x 7 d)) m.3 more7 in
    let every7 = subst (λ (r : ℕ). all_apart fs (successors_in fs x r e) ≡ true) m.2 every in
    let every0 = subst (λ (d : ℕ). all_apart fs (successors_in fs x 7 d) ≡ true) m.3 every7 in
    (h2, more0, every0)

-- none, where no two nodes are apart and no node is full
no_plain : (given : ℕ → ℕ → Option (Fact Concept)) (parts : List NumberedPart) (rows : List Row) (is : List Item)
    (n : ℕ)
    → node_count_from 4 (facts_of is) ≡ n
    → ((y z : ℕ) → are_apart (facts_of is) y z ≡ false) → ((x : ℕ) → x < n → ¬ IsFull (facts_of is) x)
    → ¬ HasPlainClash (over given parts rows) is
no_plain given parts rows is n count none out (plain_bottom x c lt h sh) =
    subst (λ (s : Shape). IsMild s c) sh (mild_table c)
no_plain given parts rows is n count none out (plain_names x c d a lt h sh g th) =
    subst (λ (s : Shape). IsMild s d) th (mild_table d)
no_plain given parts rows is n count none out (plain_most x c k s e lt h sh more every) =
    out x (subst (λ (m : ℕ). x < m) count lt)
    (is_full (facts_of is) x c k s e (subst (λ (s' : Shape). IsMild s' c) sh (mild_table c)) h more every)
no_plain given parts rows is n count none out (plain_differ y z lt mt apart same) = let l = none y z in cc

-- ---- two individuals are one, since a third may have one successor alone

-- individual 0 is in 'at most 1 of role 7', and role 7 leads from it to individuals 1 and 2
abbrev told : ℕ → ℕ → Option (Fact Concept)
told (suc zero) (suc zero) = Some (Has 0 (at_most_of 1 7 everything))
told (suc (suc zero)) (suc zero) = Some (Edge 7 0 1)
told (suc (suc (suc zero))) (suc zero) = Some (Edge 7 0 2)
told a p = None

-- something is in class 1, and no individual is in question
abbrev asked : List Item
asked = start 3 1 0

abbrev limited : List Item
limited = asked ++ Says (Has 0 2) ∷ []

abbrev linked : List Item
linked = limited ++ Says (Edge 7 0 1) ∷ []

abbrev twice : List Item
twice = linked ++ Says (Edge 7 0 2) ∷ []

abbrev choice : ℕ → ℕ → Choice
choice y z = record { line = 4; branch = Pair y z; alternative = 1 }

abbrev joined : List Item
joined = twice ++ Mark (choice 1 2) ∷ Says (Same 1 2) ∷ []

asked_out : (x : ℕ) → x < 4 → ¬ IsFull (facts_of asked) x
asked_out zero lt full = let k = full.0 in cc
asked_out (suc zero) lt full = let k = full.0 in cc
asked_out (suc (suc zero)) lt full = let k = full.0 in cc
asked_out (suc (suc (suc zero))) lt full = let k = full.0 in cc
asked_out (suc (suc (suc (suc x)))) lt full = absurd (omega (arith, lt))

limited_out : (x : ℕ) → x < 4 → ¬ IsFull (facts_of limited) x
limited_out zero lt full = let k : 1 < 0 = full.1 in absurd (omega (arith, k))
limited_out (suc zero) lt full = let k = full.0 in cc
limited_out (suc (suc zero)) lt full = let k = full.0 in cc
limited_out (suc (suc (suc zero))) lt full = let k = full.0 in cc
limited_out (suc (suc (suc (suc x)))) lt full = absurd (omega (arith, lt))

linked_out : (x : ℕ) → x < 4 → ¬ IsFull (facts_of linked) x
linked_out zero lt full = let k : 1 < 1 = full.1 in absurd (omega (arith, k))
linked_out (suc zero) lt full = let k = full.0 in cc
linked_out (suc (suc zero)) lt full = let k = full.0 in cc
linked_out (suc (suc (suc zero))) lt full = let k = full.0 in cc
linked_out (suc (suc (suc (suc x)))) lt full = absurd (omega (arith, lt))

twice_out : (x : ℕ) → x < 4 → ¬ IsFull (facts_of twice) x
twice_out zero lt full = let k = full.2 in cc
twice_out (suc zero) lt full = let k = full.0 in cc
twice_out (suc (suc zero)) lt full = let k = full.0 in cc
twice_out (suc (suc (suc zero))) lt full = let k = full.0 in cc
twice_out (suc (suc (suc (suc x)))) lt full = absurd (omega (arith, lt))

pub gives_the_limit : IsLegal (over told [] []) asked limited
gives_the_limit =
    give (Has 0 2) (no_plain told [] [] asked 4 refl (λ y z. refl) asked_out)
    (record { axiom_number = 1; place = 1; is_there = refl; listed = refl; on_first = refl }) refl

pub gives_an_edge : IsLegal (over told [] []) limited linked
gives_an_edge =
    give (Edge 7 0 1) (no_plain told [] [] limited 4 refl (λ y z. refl) limited_out)
    (record { axiom_number = 2; place = 1; is_there = refl; listed = refl; on_first = refl }) refl

pub gives_another : IsLegal (over told [] []) linked twice
gives_another =
    give (Edge 7 0 2) (no_plain told [] [] linked 4 refl (λ y z. refl) linked_out)
    (record { axiom_number = 3; place = 1; is_there = refl; listed = refl; on_first = refl }) refl

-- one successor more than it may have: the two are joined, or set apart
one_is_not_two : ¬ (◌≡◌ {A = ℕ} 1 2)
one_is_not_two e = omega (arith, e)

pub joins_them : IsLegal (over told [] []) twice joined
joins_them =
    choose (choice 1 2) (Same 1 2) (no_plain told [] [] twice 4 refl (λ y z. refl) twice_out)
    (on_pair 0 2 1 7 0 1 2 (lit< tt) refl refl (lit< tt) (0, lit< tt, refl) (1, lit< tt, refl) one_is_not_two refl) refl
    (of_joining 1 2)

pub four_steps : Follows (over told [] []) (start 3 1 0) 4 joined
four_steps = (twice, (linked, (limited, (asked, refl, gives_the_limit), gives_an_edge), gives_another), joins_them)

-- before and after
pub two_successors : successors_from 4 (facts_of twice) (λ r. r == 7) 0 ≡ 1 ∷ 2 ∷ []
two_successors = refl

pub one_successor : successors_from 4 (facts_of joined) (λ r. r == 7) 0 ≡ 1 ∷ []
one_successor = refl

pub two_is_one : rep (facts_of joined) 2 ≡ 1
two_is_one = refl

pub four_nodes_still : node_count_from 4 (facts_of joined) ≡ 4
four_nodes_still = refl

-- back before the mark they are two again
pub back_before : take 5 joined ≡ twice
back_before = refl

pub two_again : rep (facts_of (take 5 joined)) 2 ≡ 2
two_again = refl

pub two_successors_again : successors_from 4 (facts_of (take 5 joined)) (λ r. r == 7) 0 ≡ 1 ∷ 2 ∷ []
two_successors_again = refl

-- what is given is so by then, and is not given again
pub each_is_so : (is_so (facts_of joined) (Has 0 2) ≡ true) × (is_so (facts_of joined) (Edge 7 0 1) ≡ true)
    × (is_so (facts_of joined) (Edge 7 0 2) ≡ true)
each_is_so = (refl, refl, refl)

-- ---- a query on an individual, which has a named successor and one without a name

-- role 7 leads from individual 0 to individual 1
abbrev one_edge : ℕ → ℕ → Option (Fact Concept)
one_edge (suc zero) (suc zero) = Some (Edge 7 0 1)
one_edge a p = None

-- individual 0 is in 'some of role 7 in 1' and not in 'at least 2 of role 7'
abbrev asked_of_it : List Item
asked_of_it = start 0 3 2

abbrev with_named : List Item
with_named = asked_of_it ++ Says (Edge 7 0 1) ∷ []

abbrev with_unnamed : List Item
with_unnamed = with_named ++ Says (Edge 7 0 4) ∷ Says (Has 4 1) ∷ []

abbrev identified : List Item
identified = with_unnamed ++ Mark (choice 1 4) ∷ Says (Same 1 4) ∷ []

asked_of_it_out : (x : ℕ) → x < 4 → ¬ IsFull (facts_of asked_of_it) x
asked_of_it_out zero lt full = let k : 1 < 0 = full.1 in absurd (omega (arith, k))
asked_of_it_out (suc zero) lt full = let k = full.0 in cc
asked_of_it_out (suc (suc zero)) lt full = let k = full.0 in cc
asked_of_it_out (suc (suc (suc zero))) lt full = let k = full.0 in cc
asked_of_it_out (suc (suc (suc (suc x)))) lt full = absurd (omega (arith, lt))

with_named_out : (x : ℕ) → x < 4 → ¬ IsFull (facts_of with_named) x
with_named_out zero lt full = let k : 1 < 1 = full.1 in absurd (omega (arith, k))
with_named_out (suc zero) lt full = let k = full.0 in cc
with_named_out (suc (suc zero)) lt full = let k = full.0 in cc
with_named_out (suc (suc (suc zero))) lt full = let k = full.0 in cc
with_named_out (suc (suc (suc (suc x)))) lt full = absurd (omega (arith, lt))

with_unnamed_out : (x : ℕ) → x < 5 → ¬ IsFull (facts_of with_unnamed) x
with_unnamed_out zero lt full = let k = full.2 in cc
with_unnamed_out (suc zero) lt full = let k = full.0 in cc
with_unnamed_out (suc (suc zero)) lt full = let k = full.0 in cc
with_unnamed_out (suc (suc (suc zero))) lt full = let k = full.0 in cc
with_unnamed_out (suc (suc (suc (suc zero)))) lt full = let k = full.0 in cc
with_unnamed_out (suc (suc (suc (suc (suc x))))) lt full = absurd (omega (arith, lt))

pub gives_the_edge : IsLegal (over one_edge [] []) asked_of_it with_named
gives_the_edge =
    give (Edge 7 0 1) (no_plain one_edge [] [] asked_of_it 4 refl (λ y z. refl) asked_of_it_out)
    (record { axiom_number = 1; place = 1; is_there = refl; listed = refl; on_first = refl }) refl

-- the named successor does not have the class, so that another is made
pub makes_another : IsLegal (over one_edge [] []) with_named with_unnamed
makes_another =
    generate (Edge 7 0 4 ∷ Has 4 1 ∷ []) (no_plain one_edge [] [] with_named 4 refl (λ y z. refl) with_named_out)
    (by_some 0 3 7 1 (record { is_node = lit< tt; is_rep = refl; is_clear = refl }) refl refl refl)

one_is_not_four : ¬ (◌≡◌ {A = ℕ} 1 4)
one_is_not_four e = omega (arith, e)

pub joins_it_with_the_named : IsLegal (over one_edge [] []) with_unnamed identified
joins_it_with_the_named =
    choose (choice 1 4) (Same 1 4) (no_plain one_edge [] [] with_unnamed 5 refl (λ y z. refl) with_unnamed_out)
    (on_pair 0 2 1 7 0 1 4 (lit< tt) refl refl (lit< tt) (0, lit< tt, refl) (1, lit< tt, refl) one_is_not_four refl)
    refl (of_joining 1 4)

pub three_steps : Follows (over one_edge [] []) (start 0 3 2) 3 identified
three_steps = (with_unnamed, (with_named, (asked_of_it, refl, gives_the_edge), makes_another), joins_it_with_the_named)

pub made_below_it : parent_from 4 (facts_of with_unnamed) 4 ≡ Some 0
made_below_it = refl

pub named_have_no_parent : parent_from 4 (facts_of with_unnamed) 1 ≡ None
named_have_no_parent = refl

-- the individual is that successor from then on
pub is_the_individual : rep (facts_of identified) 4 ≡ 1
is_the_individual = refl

pub has_the_class : (has (facts_of with_unnamed) 1 1 ≡ false) × (has (facts_of identified) 1 1 ≡ true)
has_the_class = (refl, refl)

pub one_is_left : successors_from 4 (facts_of identified) (λ r. r == 7) 0 ≡ 1 ∷ []
one_is_left = refl

pub stays_clear : block_of 4 (facts_of identified) 1 ≡ Clear
stays_clear = refl

-- ---- blocks below individuals

-- individuals 0 and 1 both have the class, and so has node 4 below individual 1; node 5 is below node 4
abbrev chain : List (Fact ℕ)
chain = Has 0 1 ∷ Has 1 1 ∷ Edge 7 1 4 ∷ Has 4 1 ∷ Edge 7 4 5 ∷ Has 5 3 ∷ []

-- an earlier node has all that individual 1 has, and it is clear
pub earlier_has_as_much : is_label_part chain 1 0 ≡ true
earlier_has_as_much = refl

pub individuals_are_clear : (block_of 4 chain 0 ≡ Clear) × (block_of 4 chain 1 ≡ Clear) × (block_of 4 chain 2 ≡ Clear)
    × (block_of 4 chain 3 ≡ Clear)
individuals_are_clear = (refl, refl, refl, refl)

-- a node below it is blocked by the least that has as much, here an individual that is not above it
pub blocked_by_an_individual : block_of 4 chain 4 ≡ By 0
blocked_by_an_individual = refl

pub below_a_blocked_node : block_of 4 chain 5 ≡ Under
below_a_blocked_node = refl

-- were node 4 individual 2, it would be clear, and the node below it would be no longer under a block
pub clear_as_individual : block_of 4 (chain ++ Same 2 4 ∷ []) 2 ≡ Clear
clear_as_individual = refl

pub clear_below_it : block_of 4 (chain ++ Same 2 4 ∷ []) 5 ≡ Clear
clear_below_it = refl

-- edges between individuals change no block
abbrev with_edges : List (Fact ℕ)
with_edges = chain ++ Edge 7 0 1 ∷ Edge 7 1 0 ∷ Edge 7 2 2 ∷ []

pub clear_as_before : (block_of 4 with_edges 0 ≡ Clear) × (block_of 4 with_edges 1 ≡ Clear)
    × (block_of 4 with_edges 2 ≡ Clear) × (block_of 4 with_edges 3 ≡ Clear)
clear_as_before = (refl, refl, refl, refl)

pub blocked_as_before : (block_of 4 with_edges 4 ≡ By 0) × (block_of 4 with_edges 5 ≡ Under)
blocked_as_before = (refl, refl)

-- nor do they give an individual a parent
pub no_parent_by_them : (parent_from 4 with_edges 1 ≡ None) × (parent_from 4 with_edges 0 ≡ None)
no_parent_by_them = (refl, refl)

-- ---- a functional role between individuals

-- axiom 4 says that role 7 is functional: its row gives each node 'at most 1 of role 7'
abbrev one_at_most : NumberedPart
one_at_most = record { axiom_number = 4; part_number = 1; part = inclusion_of everything (at_most_of 1 7 everything) }

abbrev functional : Row
functional = record { axiom_number = 4; part_number = 1; trigger = always; concept = 2 }

pub limits_an_individual : IsLegal (over told (one_at_most ∷ []) (functional ∷ [])) asked limited
limits_an_individual =
    add 0 2 (no_plain told (one_at_most ∷ []) (functional ∷ []) asked 4 refl (λ y z. refl) asked_out)
    (by_row 0 functional (lit< tt) (0, lit< tt, refl) refl) refl

-- ---- four facts that clash

-- axiom 4 says besides that individuals 1 and 2 are different
abbrev told_all : ℕ → ℕ → Option (Fact Concept)
told_all (suc zero) (suc zero) = Some (Has 0 (at_most_of 1 7 everything))
told_all (suc (suc zero)) (suc zero) = Some (Edge 7 0 1)
told_all (suc (suc (suc zero))) (suc zero) = Some (Edge 7 0 2)
told_all (suc (suc (suc (suc zero)))) (suc zero) = Some (Apart 1 2)
told_all a p = None

-- whether anything is in class 10
abbrev question : Question
question = record { theory = theory []; sub = name 10; sup = nothing; first = 4; at = 3; fact_of = told_all }

abbrev parted : List Item
parted = twice ++ Says (Apart 1 2) ∷ []

first_of_four : IsLegal (over told_all [] []) asked limited
first_of_four =
    give (Has 0 2) (no_plain told_all [] [] asked 4 refl (λ y z. refl) asked_out)
    (record { axiom_number = 1; place = 1; is_there = refl; listed = refl; on_first = refl }) refl

second_of_four : IsLegal (over told_all [] []) limited linked
second_of_four =
    give (Edge 7 0 1) (no_plain told_all [] [] limited 4 refl (λ y z. refl) limited_out)
    (record { axiom_number = 2; place = 1; is_there = refl; listed = refl; on_first = refl }) refl

third_of_four : IsLegal (over told_all [] []) linked twice
third_of_four =
    give (Edge 7 0 2) (no_plain told_all [] [] linked 4 refl (λ y z. refl) linked_out)
    (record { axiom_number = 3; place = 1; is_there = refl; listed = refl; on_first = refl }) refl

fourth_of_four : IsLegal (over told_all [] []) twice parted
fourth_of_four =
    give (Apart 1 2) (no_plain told_all [] [] twice 4 refl (λ y z. refl) twice_out)
    (record { axiom_number = 4; place = 1; is_there = refl; listed = refl; on_first = refl }) refl

-- the table is one, and has a number for each concept that is given
below_each : (c : ℕ) → c < 4 → has_parts_below c (shape_of table c) ≡ true
below_each zero lt = refl
below_each (suc zero) lt = refl
below_each (suc (suc zero)) lt = refl
below_each (suc (suc (suc zero))) lt = refl
below_each (suc (suc (suc (suc c)))) lt = absurd (omega (arith, lt))

normal_each : (c : ℕ) → c < 4 → is_normal table (shape_of table c) ≡ true
normal_each zero lt = refl
normal_each (suc zero) lt = refl
normal_each (suc (suc zero)) lt = refl
normal_each (suc (suc (suc zero))) lt = refl
normal_each (suc (suc (suc (suc c)))) lt = absurd (omega (arith, lt))

-- where a shape stands, if it stands anywhere
abbrev place_of : Shape → ℕ
place_of top = 0
place_of (name_shape a) = 1
place_of (at_most n s e) = 2
place_of _ = 3

stands_at : (c : ℕ) → c < 4 → place_of (shape_of table c) ≡ c
stands_at zero lt = refl
stands_at (suc zero) lt = refl
stands_at (suc (suc zero)) lt = refl
stands_at (suc (suc (suc zero))) lt = refl
stands_at (suc (suc (suc (suc c)))) lt = absurd (omega (arith, lt))

pub is_table : IsTable table
is_table = record {
  has_top = lit< tt;
  begins_with_top = refl;
  parts_below = below_each;
  are_normal = normal_each;
  are_distinct = λ c d lt mt e. sym (stands_at c lt) ∙ ap place_of e ∙ stands_at d mt;
}

have_numbers : (a p : ℕ) (f : Fact Concept) → told_all a p ≡ Some f → HasNumbers 4 table f
have_numbers (suc zero) (suc zero) f e = record { fact = Has 0 2; reads = cc; listed = refl; on_first = refl }
have_numbers (suc (suc zero)) (suc zero) f e = record { fact = Edge 7 0 1; reads = cc; listed = refl; on_first = refl }
have_numbers (suc (suc (suc zero))) (suc zero) f e =
    record { fact = Edge 7 0 2; reads = cc; listed = refl; on_first = refl }
have_numbers (suc (suc (suc (suc zero)))) (suc zero) f e =
    record { fact = Apart 1 2; reads = cc; listed = refl; on_first = refl }
have_numbers zero p f e = cc
have_numbers (suc (suc (suc (suc (suc a))))) p f e = cc
have_numbers (suc zero) zero f e = cc
have_numbers (suc zero) (suc (suc p)) f e = cc
have_numbers (suc (suc zero)) zero f e = cc
have_numbers (suc (suc zero)) (suc (suc p)) f e = cc
have_numbers (suc (suc (suc zero))) zero f e = cc
have_numbers (suc (suc (suc zero))) (suc (suc p)) f e = cc
have_numbers (suc (suc (suc (suc zero)))) zero f e = cc
have_numbers (suc (suc (suc (suc zero)))) (suc (suc p)) f e = cc

pub reached : IsReached question table [] 4 parted
reached = record {
  is_table = is_table;
  is_choice = record {
    rows_fit = All-nil (IsRowOf (theory []) table);
    each_once = All-nil (λ n. count_by (λ r. is_row_of r n) [] ≡ 1);
  };
  facts_have_numbers = have_numbers;
  at_first = lit< tt;
  sub_number = 1;
  sub_listed = lit< tt;
  sub_reads = refl;
  not_sup_number = 0;
  not_sup_listed = lit< tt;
  not_sup_reads = refl;
  follows = (twice, (linked, (limited, (asked, refl, first_of_four), second_of_four), third_of_four), fourth_of_four);
}

-- individual 0 has two successors that are apart, and may have one: four steps decide, where the answer is yes
pub clashes : HasClash (context_of question table []) parted
clashes = of_most 0 2 1 7 0 (1 ∷ 2 ∷ []) (lit< tt) refl refl refl refl refl

pub clashes_plainly : HasPlainClash (context_of question table []) parted
clashes_plainly = plain_most 0 2 1 7 0 (lit< tt) refl refl (lit< tt) refl

pub four_steps_decide : (IsEntailed : Type 0) → IsEntailed → Costs question IsEntailed 4
four_steps_decide IsEntailed yes' =
    record { table = table; rows = []; trail = parted; reached = reached; ends = inr (clashes, yes') }

-- ---- individuals that are said to be different, and are one

abbrev contrary : List Item
contrary = asked ++ Says (Same 1 2) ∷ Says (Apart 2 1) ∷ []

pub which_differ : HasPlainClash (over told [] []) contrary
which_differ = plain_differ 1 2 (lit< tt) (lit< tt) refl refl

-- whatever else is given, no step is legal from there, since there is no mark
no_mark : (place : ℕ) (c : Choice) → ¬ (slice_get contrary place ≡ Some (Mark c))
no_mark zero c h = cc
no_mark (suc zero) c h = cc
no_mark (suc (suc zero)) c h = cc
no_mark (suc (suc (suc zero))) c h = cc
no_mark (suc (suc (suc (suc place)))) c h = cc

pub no_step_more : (new : List Item) → ¬ IsLegal (over told [] []) contrary new
no_step_more new (add x d nc adds out) = nc which_differ
no_step_more new (give f nc given out) = nc which_differ
no_step_more new (generate fs nc makes) = nc which_differ
no_step_more new (choose c f nc may one alt) = nc which_differ
no_step_more new (back place c f clash read alt) = no_mark place c read

-- one that is said to be different from itself is such a one
pub differs_from_itself : IsPlainClash 4 (λ r s. r == s) table (Apart 1 1 ∷ [])
differs_from_itself = plain_differ 1 1 (lit< tt) (lit< tt) refl refl

-- ---- what a query asks of axioms

abbrev on_line_one : Axiom → Numbered
on_line_one a = record { «axiom» = a; line = 1 }

-- the three axioms by which the first search was told, and that individuals 1 and 2 are different
abbrev axioms : List Numbered
axioms =
    on_line_one (Member (at_most_of 1 7 everything) 0)
    ∷ on_line_one (Leads 7 0 1)
    ∷ on_line_one (Leads 7 0 2)
    ∷ on_line_one (Different (1 ∷ 2 ∷ []))
    ∷ []

-- whether each element is in class 10, or an individual is, by axioms of some numbers
abbrev in_class : List ℕ → On → Question
in_class ks on = question_of 3 axioms ks (record { sub = everything; sup = name 10; on = on })

-- one first node for each individual, and one more, which is asked of where no individual is
pub four_first_nodes : (in_class (1 ∷ []) Any).first ≡ 4
four_first_nodes = refl

pub asked_of_each : (in_class (1 ∷ []) Any).at ≡ 3
asked_of_each = refl

pub asked_of_one : (in_class (1 ∷ []) (Individual 1)).at ≡ 1
asked_of_one = refl

-- all of them give what the first search was told, and one fact more
pub gives_member : IsGiven (context_of (in_class (1 ∷ 2 ∷ 3 ∷ 4 ∷ []) Any) table []) (Has 0 2)
gives_member = record { axiom_number = 1; place = 1; is_there = refl; listed = refl; on_first = refl }

pub gives_pair : IsGiven (context_of (in_class (1 ∷ 2 ∷ 3 ∷ 4 ∷ []) Any) table []) (Edge 7 0 2)
gives_pair = record { axiom_number = 3; place = 1; is_there = refl; listed = refl; on_first = refl }

pub gives_apart : IsGiven (context_of (in_class (1 ∷ 2 ∷ 3 ∷ 4 ∷ []) Any) table []) (Apart 1 2)
gives_apart = record { axiom_number = 4; place = 1; is_there = refl; listed = refl; on_first = refl }

-- an axiom that is left out gives nothing
pub gives_no_other : (p : ℕ) → (in_class (1 ∷ 2 ∷ 3 ∷ []) Any).fact_of 4 p ≡ None
gives_no_other p = refl
