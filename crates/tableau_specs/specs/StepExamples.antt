-- Worked examples. The table's numbers are: 0 top, 1 a class, 2 its complement, 3 another class, 4 the union of 2 and
-- 3, 5 the intersection of 1 and 3, 6 'some of role 7 in 1', 7 'at least 2 of role 7 in 1'. There are no rows.
use Rattle.std.specs.Prelude.{◌≡◌, ◌<◌, ℕ, zero, suc, ◌+◌, Bool, true, false, ◌==◌, nat_lt, ◌&&◌, List, [], ◌∷◌, ◌++◌}
use Rattle.std.specs.Prelude.{slice_get, Option, Some, None, refl}
use Rattle.std.specs.List.{list_all, range_with_len}
use Rattle.std.proofs.Common.{lit<, ap, sym, subst, ◌∙◌, arith}
use Rattle.std.proofs.lemmas.List.Elements.{All-nil, All-cons}
use Rattle.calculus_specs.specs.Concept.{Concept}
use Rattle.calculus_specs.specs.Shape.{Shape, shape_of}
use Rattle.calculus_specs.specs.Shape.Shape.{top, bottom, name, not_name, intersection, union, some_of, at_least}
use Rattle.calculus_specs.specs.Shape.Shape.{at_most}
use Rattle.calculus_specs.specs.declared.facts.Fact.{Fact}
use Rattle.calculus_specs.specs.declared.facts.Fact.TheVariants.{Has, Edge, Apart, Same}
use Rattle.calculus_specs.specs.Joins.{rep}
use Rattle.calculus_specs.specs.State.{node_count_from, has, are_apart, all_apart, fresh_facts}
use Rattle.tableau_specs.specs.declared.Branch.TheVariants.{Or}
use Rattle.tableau_specs.specs.declared.Choice.{Choice}
use Rattle.tableau_specs.specs.declared.Item.{Item}
use Rattle.tableau_specs.specs.declared.Item.TheVariants.{Fact as Says, Mark}
use Rattle.tableau_specs.specs.Items.{facts_of, says}
use Rattle.tableau_specs.specs.Clash.{is_filled_successor}
use Rattle.tableau_specs.specs.Clash.IsClash.{of_names, of_differ}
use Rattle.tableau_specs.specs.Clash.IsPlainClash.{plain_bottom, plain_names, plain_most, plain_differ}
use Rattle.tableau_specs.specs.Steps.{SearchContext, below_of, is_run, Generates, IsLegal, HasClash, HasPlainClash}
use Rattle.tableau_specs.specs.Steps.Adds.{by_and}
use Rattle.tableau_specs.specs.Steps.Generates.{by_some, by_least}
use Rattle.tableau_specs.specs.Steps.MayBranch.{on_union}
use Rattle.tableau_specs.specs.Steps.IsAlternative.{of_union}
use Rattle.tableau_specs.specs.Steps.IsLegal.{add, give, generate, choose, back}
use Rattle.tableau_specs.specs.Reached.{start, Follows}
use Rattle.std.proofs.lemmas.Bool.Decides.{nat_tests}

abbrev table : List Shape
table =
    top ∷ name 10 ∷ not_name 10 ∷ name 11 ∷ union (2 ∷ 3 ∷ []) ∷ intersection (1 ∷ 3 ∷ []) ∷ some_of 7 1
    ∷ at_least 2 7 1 ∷ []

abbrev context : SearchContext
context = record {
  theory = record { parts = []; below = λ r s. r == s; is_transitive = λ r. false };
  table = table;
  rows = [];
  first = 1;
  fact_of = λ a p. None;
}

-- ---- Choose and Back

abbrev choice : ℕ → Choice
choice k = record { line = 1; branch = Or 0 4; alternative = k }

-- node 0 has the union and the class
abbrev undecided : List Item
undecided = start 0 4 1

abbrev first_taken : List Item
first_taken = undecided ++ Mark (choice 1) ∷ Says (Has 0 2) ∷ []

abbrev second_taken : List Item
second_taken = undecided ++ Mark (choice 2) ∷ Says (Has 0 3) ∷ []

-- the first part clashes with the class, and the search goes back and takes the second
pub clashes : HasClash context first_taken
clashes = of_names 0 1 2 10 (lit< tt) refl refl refl refl

pub goes_back : IsLegal context first_taken second_taken
goes_back = back 2 (choice 1) (Has 0 3) clashes refl (of_union 0 4 1 3 (2 ∷ 3 ∷ []) refl refl)

-- no number is bottom or an 'at most', and only 2 is the complement of a class
abbrev pub IsPlain : Shape → Type 0
IsPlain bottom = ⊥
IsPlain (at_most n s e) = ⊥
IsPlain _ = Unit {0}

plain_table : (c : ℕ) → IsPlain (shape_of table c)
plain_table zero = tt
plain_table (suc zero) = tt
plain_table (suc (suc zero)) = tt
plain_table (suc (suc (suc zero))) = tt
plain_table (suc (suc (suc (suc zero)))) = tt
plain_table (suc (suc (suc (suc (suc zero))))) = tt
plain_table (suc (suc (suc (suc (suc (suc zero)))))) = tt
plain_table (suc (suc (suc (suc (suc (suc (suc zero))))))) = tt
plain_table (suc (suc (suc (suc (suc (suc (suc (suc c)))))))) = tt

abbrev IsNegative : Shape → ℕ → Type 0
IsNegative (not_name a) c = c ≡ 2
IsNegative _ c = Unit {0}

only_two : (c : ℕ) → IsNegative (shape_of table c) c
only_two zero = tt
only_two (suc zero) = tt
only_two (suc (suc zero)) = refl
only_two (suc (suc (suc zero))) = tt
only_two (suc (suc (suc (suc zero)))) = tt
only_two (suc (suc (suc (suc (suc zero))))) = tt
only_two (suc (suc (suc (suc (suc (suc zero)))))) = tt
only_two (suc (suc (suc (suc (suc (suc (suc zero))))))) = tt
only_two (suc (suc (suc (suc (suc (suc (suc (suc c)))))))) = tt

-- so node 0 alone has no plain clash where it does not have 2
no_plain : (is : List Item) → node_count_from 1 (facts_of is) ≡ 1 → has (facts_of is) 0 2 ≡ false
    → are_apart (facts_of is) 0 0 ≡ false → ¬ HasPlainClash context is
no_plain is one out none (plain_bottom x c lt h sh) = subst IsPlain sh (plain_table c)
no_plain is one out none (plain_names x c d a lt h sh g th) =
    let e : d ≡ 2 = subst (λ (s : Shape). IsNegative s d) th (only_two d) in
    let z : x ≡ 0 = omega (arith, lt, one) in
    let k : has (facts_of is) 0 2 ≡ true =
    ap (λ (y : ℕ). has (facts_of is) y 2) (sym z) ∙ ap (λ (f : ℕ). has (facts_of is) x f) (sym e) ∙ g in
    cc
no_plain is one out none (plain_differ y z lt mt apart same) =
    let a : y ≡ 0 = omega (arith, lt, one) in
    let b : z ≡ 0 = omega (arith, mt, one) in
    let k : are_apart (facts_of is) 0 0 ≡ true =
    ap (λ (v : ℕ). are_apart (facts_of is) v 0) (sym a) ∙ ap (λ (v : ℕ). are_apart (facts_of is) y v) (sym b) ∙ apart in
    cc
no_plain is one out none (plain_most x c n s e lt h sh more every) = subst IsPlain sh (plain_table c)

-- the choice of the first part is legal, and the second trail is reached by two steps
pub chooses : IsLegal context undecided first_taken
chooses =
    choose (choice 1) (Has 0 2) (no_plain undecided refl refl refl)
    (on_union 0 4 (2 ∷ 3 ∷ []) (lit< tt) refl refl
    (All-cons (λ d. has (facts_of undecided) 0 d ≡ false) 2 (3 ∷ []) refl
    (All-cons (λ d. has (facts_of undecided) 0 d ≡ false) 3 [] refl
    (All-nil (λ d. has (facts_of undecided) 0 d ≡ false)))))
    refl (of_union 0 4 0 2 (2 ∷ 3 ∷ []) refl refl)

pub two_steps : Follows context (start 0 4 1) 2 second_taken
two_steps = (first_taken, (undecided, refl, chooses), goes_back)

-- ---- Add

-- node 0 has the intersection of 1 and 3, and 1
abbrev half : List Item
half = start 0 5 1

pub adds_the_rest : IsLegal context half (half ++ Says (Has 0 3) ∷ [])
adds_the_rest =
    add 0 3 (no_plain half refl refl refl) (by_and 0 5 3 (1 ∷ 3 ∷ []) (lit< tt) refl refl (1, lit< tt, refl)) refl

-- 1 is a part of the intersection too, but it adds nothing, and no other step comes to the same
one_said : (new : List (Fact ℕ)) → says new ≡ Says (Has 0 1) ∷ [] → new ≡ Has 0 1 ∷ []
one_said [] e = cc
one_said (f ∷ []) e = cc
one_said (f ∷ g ∷ fs) e = cc

fresh_is_no_concept : (x s e first n : ℕ) → ¬ (◌≡◌ {A = List (Fact ℕ)} (fresh_facts x s e first n) (Has 0 1 ∷ []))
fresh_is_no_concept x s e first zero h = cc
fresh_is_no_concept x s e first (suc n) h = cc

generates_no_concept : (fs new : List (Fact ℕ)) → Generates context fs new → ¬ (new ≡ Has 0 1 ∷ [])
generates_no_concept fs new (by_some x c s e at h sh none) eq = fresh_is_no_concept x s e (node_count_from 1 fs) 1 eq
generates_no_concept fs new (by_least x c n s e at h sh none) eq = fresh_is_no_concept x s e (node_count_from 1 fs) n eq

no_mark : (place : ℕ) (c : Choice) → ¬ (slice_get half place ≡ Some (Mark c))
no_mark zero c h = cc
no_mark (suc zero) c h = cc
no_mark (suc (suc place)) c h = cc

not_again : (new : List Item) → IsLegal context half new → ¬ (new ≡ half ++ Says (Has 0 1) ∷ [])
not_again new (add x d nc adds out) e =
    let p : x ≡ 0 = cc in
    let q : d ≡ 1 = cc in
    let k : has (facts_of half) 0 1 ≡ false =
    ap (λ (y : ℕ). has (facts_of half) y 1) (sym p) ∙ ap (λ (f : ℕ). has (facts_of half) x f) (sym q) ∙ out in
    cc
not_again new (give f nc given out) e = (let k = given.is_there in cc)
not_again new (generate fs nc makes) e =
    let k : says fs ≡ Says (Has 0 1) ∷ [] = cc in generates_no_concept (facts_of half) fs makes (one_said fs k)
not_again new (choose c f nc may one alt) e = cc
not_again new (back place c f clash read alt) e = absurd (no_mark place c read)

pub adds_nothing : ¬ IsLegal context half (half ++ Says (Has 0 1) ∷ [])
adds_nothing h = not_again (half ++ Says (Has 0 1) ∷ []) h refl

-- ---- Generate

-- node 0 has 'some of role 7 in 1', and no successor yet
pub generates : IsLegal context (start 0 6 6) (start 0 6 6 ++ Says (Edge 7 0 1) ∷ Says (Has 1 1) ∷ [])
generates =
    generate (Edge 7 0 1 ∷ Has 1 1 ∷ []) (no_plain (start 0 6 6) refl refl refl)
    (by_some 0 6 7 1 (record { is_node = lit< tt; is_rep = refl; is_clear = refl }) refl refl refl)

-- ---- 'at least'

-- node 0 has 'at least 2 of role 7 in 1', and no successor yet
no_run : (b has_filler rest apart : Bool) → ((((b && false) && has_filler) && rest) && apart) ≡ false
no_run true has_filler rest apart = refl
no_run false has_filler rest apart = refl

pub generates_two : IsLegal context (start 0 7 7) (start 0 7 7 ++ says (fresh_facts 0 7 1 1 2))
generates_two =
    generate (fresh_facts 0 7 1 1 2) (no_plain (start 0 7 7) refl refl refl)
    (by_least 0 7 2 7 1 (record { is_node = lit< tt; is_rep = refl; is_clear = refl }) refl refl (λ y.
    let fs = facts_of (start 0 7 7) in
    no_run (nat_lt y 1) (has fs y 1)
    (list_all (is_filled_successor 1 (below_of context) fs 0 7 1) (range_with_len (y + 1) 1))
    (all_apart fs (range_with_len y 2))))

-- node 1 is 'some of role 7 in 1' of node 0, nodes 2 and 3 are 'at least 2', and node 2 has been joined to node 1
abbrev joined : List (Fact ℕ)
joined = Has 0 7 ∷ Edge 7 0 1 ∷ Has 1 1 ∷ fresh_facts 0 7 1 2 2 ++ Same 1 2 ∷ []

pub no_representative : rep joined 2 ≡ 1
no_representative = refl

-- nodes 2 and 3 still are two that are apart
pub still_runs : is_run context joined 0 7 1 2 2 ≡ true
still_runs = refl

-- so none are made again
abbrev IsLeast : Shape → Type 0
IsLeast (at_least n s e) = (n ≡ 2) × (s ≡ 7) × (e ≡ 1)
IsLeast _ = Unit {0}

only_least : (c : ℕ) → IsLeast (shape_of table c)
only_least zero = tt
only_least (suc zero) = tt
only_least (suc (suc zero)) = tt
only_least (suc (suc (suc zero))) = tt
only_least (suc (suc (suc (suc zero)))) = tt
only_least (suc (suc (suc (suc (suc zero))))) = tt
only_least (suc (suc (suc (suc (suc (suc zero)))))) = tt
only_least (suc (suc (suc (suc (suc (suc (suc zero))))))) = (refl, refl, refl)
only_least (suc (suc (suc (suc (suc (suc (suc (suc c)))))))) = tt

begins_at_zero : (x s e n : ℕ) → n ≡ 2 → fresh_facts x s e 4 n ≡ fresh_facts 0 7 1 4 2 → x ≡ 0
begins_at_zero x s e n two eq =
    let f : fresh_facts x s e 4 2 ≡ fresh_facts 0 7 1 4 2 = ap (fresh_facts x s e 4) (sym two) ∙ eq in
    let g : ◌≡◌ {A = Fact ℕ} (Edge s x 4) (Edge 7 0 4) = cc in
    cc

pub makes_none_again : (new : List (Fact ℕ)) → Generates context joined new → ¬ (new ≡ fresh_facts 0 7 1 4 2)
makes_none_again new (by_some x c s e at h sh none) eq = cc
makes_none_again new (by_least x c n s e at h sh none) eq =
    let shape = subst IsLeast sh (only_least c) in
    let begins : x ≡ 0 = begins_at_zero x s e n shape.0 eq in
    let f : is_run context joined 0 7 1 2 2 ≡ false =
    ap (λ (v : ℕ). is_run context joined v 7 1 2 2) (sym begins)
    ∙ ap (λ (r : ℕ). is_run context joined x r 1 2 2) (sym shape.1)
    ∙ ap (λ (d : ℕ). is_run context joined x s d 2 2) (sym shape.2)
    ∙ ap (λ (m : ℕ). is_run context joined x s e m 2) (sym shape.0) ∙ none 2 in
    cc

-- ---- given facts

-- of the first nodes 0 to 2 the last is in question; axiom 1 says that an edge leads from node 0 to node 1, axiom 2
-- that they are different, and axiom 3 that they are one
abbrev said : ℕ → ℕ → Option (Fact Concept)
said (suc zero) (suc zero) = Some (Edge 7 0 1)
said (suc (suc zero)) (suc zero) = Some (Apart 0 1)
said (suc (suc (suc zero))) (suc zero) = Some (Same 1 0)
said a p = None

abbrev with_individuals : SearchContext
with_individuals = record { theory = context.theory; table = table; rows = []; first = 3; fact_of = said }

abbrev asked : List Item
asked = start 2 1 1

abbrev linked : List Item
linked = asked ++ Says (Edge 7 0 1) ∷ []

abbrev parted : List Item
parted = linked ++ Says (Apart 0 1) ∷ []

abbrev joined_again : List Item
joined_again = parted ++ Says (Same 1 0) ∷ []

-- a state with three nodes, of which none has 2, and none that is apart from itself has no plain clash
no_plain_of_three : (is : List Item) → node_count_from 3 (facts_of is) ≡ 3
    → ((x : ℕ) → x < 3 → has (facts_of is) x 2 ≡ false)
    → ((y z : ℕ) → y < 3 → z < 3 → rep (facts_of is) y ≡ rep (facts_of is) z → are_apart (facts_of is) y z ≡ false)
    → ¬ HasPlainClash with_individuals is
no_plain_of_three is three out none (plain_bottom x c lt h sh) = subst IsPlain sh (plain_table c)
no_plain_of_three is three out none (plain_names x c d a lt h sh g th) =
    let e : d ≡ 2 = subst (λ (s : Shape). IsNegative s d) th (only_two d) in
    let k : has (facts_of is) x 2 ≡ true = ap (λ (f : ℕ). has (facts_of is) x f) (sym e) ∙ g in
    let l = out x (omega (arith, lt, three)) in
    cc
no_plain_of_three is three out none (plain_most x c n s e lt h sh more every) = subst IsPlain sh (plain_table c)
no_plain_of_three is three out none (plain_differ y z lt mt apart same) =
    let l = none y z (omega (arith, lt, three)) (omega (arith, mt, three)) same in cc

asked_out : (x : ℕ) → x < 3 → has (facts_of asked) x 2 ≡ false
asked_out zero lt = refl
asked_out (suc zero) lt = refl
asked_out (suc (suc zero)) lt = refl
asked_out (suc (suc (suc x))) lt = absurd (omega arith)

pub gives_an_edge : IsLegal with_individuals asked linked
gives_an_edge =
    give (Edge 7 0 1) (no_plain_of_three asked refl asked_out (λ y z lt mt same. refl))
    (record { axiom_number = 1; place = 1; is_there = refl; listed = refl; on_first = refl }) refl

linked_out : (x : ℕ) → x < 3 → has (facts_of linked) x 2 ≡ false
linked_out zero lt = refl
linked_out (suc zero) lt = refl
linked_out (suc (suc zero)) lt = refl
linked_out (suc (suc (suc x))) lt = absurd (omega arith)

pub gives_two_apart : IsLegal with_individuals linked parted
gives_two_apart =
    give (Apart 0 1) (no_plain_of_three linked refl linked_out (λ y z lt mt same. refl))
    (record { axiom_number = 2; place = 1; is_there = refl; listed = refl; on_first = refl }) refl

-- three steps reach a clash
parted_out : (x : ℕ) → x < 3 → has (facts_of parted) x 2 ≡ false
parted_out zero lt = refl
parted_out (suc zero) lt = refl
parted_out (suc (suc zero)) lt = refl
parted_out (suc (suc (suc x))) lt = absurd (omega arith)

parted_none : (y z : ℕ) → y < 3 → z < 3 → y ≡ z → are_apart (facts_of parted) y z ≡ false
parted_none zero zero lt mt e = refl
parted_none (suc zero) (suc zero) lt mt e = refl
parted_none (suc (suc zero)) (suc (suc zero)) lt mt e = refl
parted_none y z lt mt e = grind (arith, nat_tests)

pub gives_them_as_one : IsLegal with_individuals parted joined_again
gives_them_as_one =
    give (Same 1 0) (no_plain_of_three parted refl parted_out parted_none)
    (record { axiom_number = 3; place = 1; is_there = refl; listed = refl; on_first = refl }) refl

pub reaches_it : Follows with_individuals (start 2 1 1) 3 joined_again
reaches_it = (parted, (linked, (asked, refl, gives_an_edge), gives_two_apart), gives_them_as_one)

pub which_clashes : HasClash with_individuals joined_again
which_clashes = of_differ 0 1 (lit< tt) (lit< tt) refl refl
