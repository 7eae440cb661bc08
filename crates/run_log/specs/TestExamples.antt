-- Worked tests: what a log may say of the end of a test, and what it may not.
use Rattle.std.specs.Prelude.{◌≡◌, ℕ, zero, suc, ◌+◌, ◌-◌, ◌<◌, true, false, ◌==◌, List, [], ◌∷◌, ◌++◌, length, Some}
use Rattle.std.specs.Prelude.{None, slice_get, Contains, if◌then◌else◌, refl}
use Rattle.std.proofs.Common.{lit<, ap, sym, subst, ◌∙◌, arith, inl, inr}
use Rattle.std.proofs.lemmas.Bool.Decides.{nat_tests}
use Rattle.std.proofs.lemmas.List.Elements.{All-nil, All-cons, All-head, All-same}
use Rattle.std.specs.List.{count_by, find}
use Rattle.std.specs.Option.{option_map}
use Rattle.std.specs.FinSet as set
use Rattle.std.specs.Ordering.{nat_cmp}
use Rattle.std.proofs.Math.Bool.{and-not_self}
use Rattle.pinpointing_specs.specs.Sets.{Limited, member_list}
use Rattle.shq_terms.specs.Concept.{top, bottom, name, intersection, parts_of}
use Rattle.shq_terms.specs.declared.axioms.Axiom.{Axiom}
use Rattle.shq_terms.specs.declared.axioms.On.TheVariants.{Any, Individual}
use Rattle.shq_terms.specs.declared.axioms.Query.{Query}
use Rattle.pinpointing_specs.specs.Truth.{Interpretation, Entails}
use Rattle.calculus_specs.specs.Shape.{Shape, shape_of, has_parts_below, is_normal, IsTable}
use Rattle.calculus_specs.specs.Shape.Shape.{top as top_shape, bottom as bottom_shape, name as name_shape, not_name}
use Rattle.calculus_specs.specs.Shape.Shape.{intersection as intersection_shape, at_most}
use Rattle.calculus_specs.specs.Tree.{tree_of, trees_of, tree_over}
use Rattle.calculus_specs.specs.Rows.{Row, NumberedPart, IsRowOf, IsChoice, is_row_of, is_numbered, is_among}
use Rattle.calculus_specs.proofs.Unique.{tree_of_shape, numbers_unique}
use Rattle.calculus_specs.specs.declared.facts.Fact.{Fact}
use Rattle.calculus_specs.specs.declared.facts.Fact.TheVariants.{Has}
use Rattle.calculus_specs.specs.State.{has}
use Rattle.refutation_truth.specs.Theory.{named_axioms, named_parts, theory_of, listed_fact, fact_in, fact_of_axiom}
use Rattle.refutation_truth.specs.Theory.{question_of}
use Rattle.tableau_specs.specs.declared.Item.{Item}
use Rattle.tableau_specs.specs.declared.Item.TheVariants.{Fact as Says}
use Rattle.tableau_specs.specs.declared.Branch.{Branch}
use Rattle.tableau_specs.specs.Items.{facts_of}
use Rattle.tableau_specs.specs.Clash.IsClash.{of_names}
use Rattle.tableau_specs.specs.Clash.IsPlainClash.{plain_bottom, plain_names, plain_most, plain_differ}
use Rattle.tableau_specs.specs.Steps.{SearchContext, IsGiven, IsCarried, Adds, Generates, MayBranch, IsLegal}
use Rattle.tableau_specs.specs.Steps.{IsSaturated, HasPlainClash}
use Rattle.tableau_specs.specs.Steps.Adds.{by_and, by_all, by_carry, by_row}
use Rattle.tableau_specs.specs.Steps.Generates.{by_some, by_least}
use Rattle.tableau_specs.specs.Steps.MayBranch.{on_union, on_filler, on_pair}
use Rattle.tableau_specs.specs.Steps.IsLegal.{add}
use Rattle.tableau_specs.proofs.End.{end_of_search}
use Rattle.tableau_specs.specs.Reached.{FactsHaveNumbers, start, context_of, IsReached}
use Rattle.run_log.specs.Trails.{TrailLists}
use Rattle.run_log.specs.declared.entry.Entry.{Entry}
use Rattle.run_log.specs.declared.entry.Entry.TheVariants.{Test}
use Rattle.run_log.specs.declared.entry.TestEnd.TheVariants.{No}
use Rattle.run_log.specs.Entries.{is_spent}
use Rattle.run_log.specs.HonestLog.{IsAxiomSet, FollowsIn, CostsSteps, IsHonestYes, IsHonestNo, GoesOn, IsHonestEntry}
use Rattle.run_log.specs.HonestLog.{IsHonest}
use Rattle.run_log.specs.HonestLog.Purpose.{decision}
use Rattle.run_log.specs.LogExamples.{bare, no_axioms, no_axioms_are_whole}

-- Whether class 0 is included in itself, which follows from no axioms; whether owl:Thing is included in owl:Nothing,
-- which does not; and whether nothing is in both of two classes.
abbrev itself : Query
itself = record { sub = name 0; sup = name 0; on = Any }

abbrev absurdity : Query
absurdity = record { sub = top; sup = bottom; on = Any }

abbrev apart : Query
apart = record { sub = intersection (parts_of (name 0 ∷ name 1 ∷ [])); sup = bottom; on = Any }

-- ---- what follows from no axioms

none_named : (ks : List ℕ) → named_axioms [] ks ≡ []
none_named [] = refl
none_named (k ∷ ks) = none_named ks

itself_follows : (s : Limited) → FollowsIn bare s itself
itself_follows s i some placed meets x lt = and-not_self (i.in_class 0 x)

abbrev one_element : Interpretation
one_element = record { size = 1; in_class = λ a x. false; in_role = λ r x y. false; individual = λ a. 0 }

absurdity_is_refuted : ¬ Entails [] absurdity
absurdity_is_refuted h = let k : true ≡ false = h one_element (omega arith) (λ a. lit< tt) refl 0 (lit< tt) in cc

absurdity_follows_not : (s : Limited) → ¬ FollowsIn bare s absurdity
absurdity_follows_not s h =
    absurdity_is_refuted (subst (λ (as_ : List Axiom). Entails as_ absurdity) (none_named (member_list s)) h)

-- ---- a table: number 0 is top, 1 a class, 2 its complement, 3 another class, 4 the intersection of 1 and 3

abbrev table : List Shape
table = top_shape ∷ name_shape 0 ∷ not_name 0 ∷ name_shape 1 ∷ intersection_shape (1 ∷ 3 ∷ []) ∷ []

below_each : (c : ℕ) → c < 5 → has_parts_below c (shape_of table c) ≡ true
below_each zero lt = refl
below_each (suc zero) lt = refl
below_each (suc (suc zero)) lt = refl
below_each (suc (suc (suc zero))) lt = refl
below_each (suc (suc (suc (suc zero)))) lt = refl
below_each (suc (suc (suc (suc (suc c))))) lt = absurd (omega arith)

normal_each : (c : ℕ) → c < 5 → is_normal table (shape_of table c) ≡ true
normal_each zero lt = refl
normal_each (suc zero) lt = refl
normal_each (suc (suc zero)) lt = refl
normal_each (suc (suc (suc zero))) lt = refl
normal_each (suc (suc (suc (suc zero)))) lt = refl
normal_each (suc (suc (suc (suc (suc c))))) lt = absurd (omega arith)

-- where a shape stands, if it stands anywhere
abbrev place_of : Shape → ℕ
place_of (name_shape a) = if a == 0 then 1 else 3
place_of (not_name a) = 2
place_of (intersection_shape cs) = 4
place_of _ = 0

stands_at : (c : ℕ) → c < 5 → place_of (shape_of table c) ≡ c
stands_at zero lt = refl
stands_at (suc zero) lt = refl
stands_at (suc (suc zero)) lt = refl
stands_at (suc (suc (suc zero))) lt = refl
stands_at (suc (suc (suc (suc zero)))) lt = refl
stands_at (suc (suc (suc (suc (suc c))))) lt = absurd (omega arith)

is_table : IsTable table
is_table = record {
  has_top = lit< tt;
  begins_with_top = refl;
  parts_below = below_each;
  are_normal = normal_each;
  are_distinct = λ c d lt mt e. sym (stands_at c lt) ∙ ap place_of e ∙ stands_at d mt;
}

-- ---- rows, of which there are none

no_parts : (ks : List ℕ) → named_parts [] ks ≡ []
no_parts [] = refl
no_parts (k ∷ ks) = no_parts ks

no_rows : (ks : List ℕ) → IsChoice (theory_of [] ks) table []
no_rows ks = record {
  rows_fit = All-nil (IsRowOf (theory_of [] ks) table);
  each_once =
      All-same (λ n. count_by (λ r. is_row_of r n) [] ≡ 1) (named_parts [] ks) [] (no_parts ks)
      (All-nil (λ n. count_by (λ r. is_row_of r n) [] ≡ 1));
}

no_row_fits : (ks : List ℕ) (shapes : List Shape) (row : Row) → ¬ IsRowOf (theory_of [] ks) shapes row
no_row_fits ks shapes row h =
    let k : None ≡ Some h.part =
    ap (λ (ps : List NumberedPart). option_map (λ n. n.part) (find (is_numbered row.axiom_number row.part_number) ps))
    (sym (no_parts ks))
    ∙ h.is_there in
    cc

none_are_chosen : (ks : List ℕ) (shapes : List Shape) (rows : List Row) → IsChoice (theory_of [] ks) shapes rows
    → rows ≡ []
none_are_chosen ks shapes [] h = refl
none_are_chosen ks shapes (row ∷ rows) h =
    absurd (no_row_fits ks shapes row (All-head (IsRowOf (theory_of [] ks) shapes) row rows h.rows_fit))

-- ---- given facts, of which there are none

no_facts : (n : ℕ) (ks : List ℕ) (a p : ℕ) → fact_of_axiom n [] ks a p ≡ None
no_facts n ks a p = elim (is_among ks a) as
    (λ b. (if b then listed_fact n (fact_in (slice_get [] (a - 1)) p) else None) ≡ None) [ true ↦ refl | false ↦ refl ]

have_numbers : (ks : List ℕ) (q : Query) (shapes : List Shape) → FactsHaveNumbers (question_of 1 [] ks q) shapes
have_numbers ks q shapes a p f given = let k : None ≡ Some f = sym (no_facts 1 ks a p) ∙ given in cc

-- ---- where node 1 has top alone, and nothing is given, nothing is left to do; node 0 is that of the individual

abbrev at_top : List (Fact ℕ)
at_top = facts_of (start 1 0 0)

only_top : (x c : ℕ) → has at_top x c ≡ true → c ≡ 0
only_top x c h = grind (arith, nat_tests)

module _ (w : SearchContext) (begins : shape_of w.table 0 ≡ top_shape) (no_row : w.rows ≡ [])
    (no_fact : (a p : ℕ) → w.fact_of a p ≡ None) where
  is_top_shape : (x c : ℕ) → has at_top x c ≡ true → shape_of w.table c ≡ top_shape
  is_top_shape x c h = ap (shape_of w.table) (only_top x c h) ∙ begins

  nothing_to_add : (x d : ℕ) → Adds w at_top x d → has at_top x d ≡ true
  nothing_to_add x d (by_and _ c _ parts lt h sh in_) = let k = is_top_shape x c h in cc
  nothing_to_add x d (by_all z _ c s e lt mt h sh edge) = let k = is_top_shape z c h in cc
  nothing_to_add x d (by_carry z _ c s t e _ carried sh) =
      let k = is_top_shape z c carried.holds in let m = carried.shape in cc
  nothing_to_add x d (by_row _ row lt there used) =
      let k = subst (λ (rows : List Row). Contains rows row) no_row there in absurd (omega (arith, k.1))

  nothing_to_give : (f : Fact ℕ) → ¬ IsGiven w f
  nothing_to_give f given = let k = sym (no_fact given.axiom_number given.place) ∙ given.is_there in cc

  nothing_to_carry : (x y c s t e : ℕ) → ¬ IsCarried w at_top x y c s t e
  nothing_to_carry x y c s t e carried = let k = is_top_shape x c carried.holds in let m = carried.shape in cc

  nothing_to_make : (new : List (Fact ℕ)) → ¬ Generates w at_top new
  nothing_to_make _ (by_some x c s e at h sh none) = let k = is_top_shape x c h in cc
  nothing_to_make _ (by_least x c n s e at h sh none) = let k = is_top_shape x c h in cc

  nothing_to_choose : (b : Branch) → ¬ MayBranch w at_top b
  nothing_to_choose _ (on_union x c parts lt h sh out) = let k = is_top_shape x c h in cc
  nothing_to_choose _ (on_filler x c n s e y lt h sh edge out other) = let k = is_top_shape x c h in cc
  nothing_to_choose _ (on_pair x c n s e y z lt h sh more first second differ apart) = let k = is_top_shape x c h in cc

  nothing_clashes : ¬ HasPlainClash w (start 1 0 0)
  nothing_clashes (plain_bottom x c lt h sh) = let k = is_top_shape x c h in cc
  nothing_clashes (plain_names x c d a lt h sh g th) = let k = is_top_shape x c h in cc
  nothing_clashes (plain_most x c n s e lt h sh more every) = let k = is_top_shape x c h in cc
  nothing_clashes (plain_differ y z lt mt differ same) = cc

  top_is_saturated : IsSaturated w (start 1 0 0)
  top_is_saturated = record {
    no_clash = nothing_clashes;
    no_add = nothing_to_add;
    no_give = λ f given. absurd (nothing_to_give f given);
    no_carry = λ x y c s t e carried. absurd (nothing_to_carry x y c s t e carried);
    no_generate = nothing_to_make;
    no_choose = λ b f may alt. nothing_to_choose b may;
  }

-- ---- searches whether owl:Thing is included in owl:Nothing

tree_of_first : (shapes : List Shape) → IsTable shapes → tree_of shapes 0 ≡ top
tree_of_first shapes t =
    tree_of_shape shapes 0 t.has_top (t.parts_below 0 t.has_top) ∙ ap (tree_over (trees_of shapes)) t.begins_with_top

is_first_number : (shapes : List Shape) → IsTable shapes → (c : ℕ) → c < length shapes → tree_of shapes c ≡ top → c ≡ 0
is_first_number shapes t c lt reads = numbers_unique shapes t c 0 lt t.has_top (reads ∙ sym (tree_of_first shapes t))

-- over whatever rows, the first trail has node 1 with top alone, from which no step is legal
module _ (ks : List ℕ) (shapes : List Shape) (rows : List Row) (k : ℕ) (trail : List Item)
    (r : IsReached (question_of 1 [] ks absurdity) shapes rows k trail) where
  abbrev context : SearchContext
  context = context_of (question_of 1 [] ks absurdity) shapes rows

  begins_at_top : start 1 r.sub_number r.not_sup_number ≡ start 1 0 0
  begins_at_top =
      λ i. start 1 (is_first_number shapes r.is_table r.sub_number r.sub_listed r.sub_reads i)
      (is_first_number shapes r.is_table r.not_sup_number r.not_sup_listed r.not_sup_reads i)

  no_step_from_top : (new : List Item) → ¬ IsLegal context (start 1 0 0) new
  no_step_from_top new =
      (end_of_search context 1 0 0 0 (start 1 0 0) (lit< tt) refl).0
      (top_is_saturated context r.is_table.begins_with_top (none_are_chosen ks shapes rows r.is_choice) (no_facts 1 ks))
      new

  no_first_step : (first new : List Item) → first ≡ start 1 r.sub_number r.not_sup_number → ¬ IsLegal context first new
  no_first_step first new is legal =
      no_step_from_top new (subst (λ (t : List Item). IsLegal context t new) (is ∙ begins_at_top) legal)

-- ---- ends of tests

abbrev numbers : List ℕ
numbers = member_list no_axioms

no_axioms_are_a_set : IsAxiomSet bare no_axioms
no_axioms_are_a_set =
    record { limit_is = refl; within = λ k h. (let m : false ≡ true = sym (set.contains-empty nat_cmp k) ∙ h in cc) }

-- what is in class 0 and its complement clashes at once
itself_costs_nothing : CostsSteps bare no_axioms itself 0
itself_costs_nothing = record {
  table = table;
  rows = [];
  trail = start 1 1 2;
  reached = record {
    is_table = is_table;
    is_choice = no_rows numbers;
    facts_have_numbers = have_numbers numbers itself table;
    at_first = lit< tt;
    sub_number = 1;
    sub_listed = lit< tt;
    sub_reads = refl;
    not_sup_number = 2;
    not_sup_listed = lit< tt;
    not_sup_reads = refl;
    follows = refl;
  };
  ends = inr (of_names 1 1 2 0 (lit< tt) refl refl refl refl, itself_follows no_axioms);
}

absurdity_is_reached : IsReached (question_of 1 [] numbers absurdity) table [] 0 (start 1 0 0)
absurdity_is_reached = record {
  is_table = is_table;
  is_choice = no_rows numbers;
  facts_have_numbers = have_numbers numbers absurdity table;
  at_first = lit< tt;
  sub_number = 0;
  sub_listed = lit< tt;
  sub_reads = refl;
  not_sup_number = 0;
  not_sup_listed = lit< tt;
  not_sup_reads = refl;
  follows = refl;
}

absurdity_costs_nothing : CostsSteps bare no_axioms absurdity 0
absurdity_costs_nothing = record {
  table = table;
  rows = [];
  trail = start 1 0 0;
  reached = absurdity_is_reached;
  ends =
      inl (top_is_saturated (context_of (question_of 1 [] numbers absurdity) table []) refl refl (no_facts 1 numbers));
}

pub is_yes : IsHonestYes bare no_axioms itself 0 no_axioms
is_yes = record {
  of_axioms = no_axioms_are_a_set;
  part = λ k h. h;
  follows = itself_follows no_axioms;
  cost = itself_costs_nothing;
}

-- a yes to what does not follow is not honest, whatever it says of its steps
pub is_no_yes : (steps : ℕ) (u : Limited) → ¬ IsHonestYes bare no_axioms absurdity steps u
is_no_yes steps u h = absurdity_follows_not u h.follows

pub is_no : IsHonestNo bare no_axioms absurdity 0
is_no = record { follows_not = absurdity_follows_not no_axioms; cost = absurdity_costs_nothing }

-- nor is a no to what follows
pub is_no_no : (steps : ℕ) → ¬ IsHonestNo bare no_axioms itself steps
is_no_no steps h = h.follows_not (itself_follows no_axioms)

-- nor a no that tells of a step which was not made
pub is_one_step_too_many : ¬ IsHonestNo bare no_axioms absurdity 1
is_one_step_too_many h =
    let c = h.cost in
    let f = c.reached.follows in
    no_first_step numbers c.table c.rows 1 c.trail c.reached f.0 c.trail f.1 f.2

-- the intersection is split by one step more
goes_on_from : IsReached (question_of 1 [] numbers apart) table [] 0 (start 1 4 0)
goes_on_from = record {
  is_table = is_table;
  is_choice = no_rows numbers;
  facts_have_numbers = have_numbers numbers apart table;
  at_first = lit< tt;
  sub_number = 4;
  sub_listed = lit< tt;
  sub_reads = refl;
  not_sup_number = 0;
  not_sup_listed = lit< tt;
  not_sup_reads = refl;
  follows = refl;
}

abbrev split : SearchContext
split = context_of (question_of 1 [] numbers apart) table []

-- no number of the table is bottom or an 'at most', and only 2 is the complement of a class
abbrev IsPlain : Shape → ℕ → Type 0
IsPlain bottom_shape c = ⊥
IsPlain (at_most n s e) c = ⊥
IsPlain (not_name a) c = c ≡ 2
IsPlain _ c = Unit {0}

plain_each : (c : ℕ) → IsPlain (shape_of table c) c
plain_each zero = tt
plain_each (suc zero) = tt
plain_each (suc (suc zero)) = refl
plain_each (suc (suc (suc zero))) = tt
plain_each (suc (suc (suc (suc zero)))) = tt
plain_each (suc (suc (suc (suc (suc c))))) = tt

not_two : (x : ℕ) → has (facts_of (start 1 4 0)) x 2 ≡ true → ⊥
not_two x h = grind (arith, nat_tests)

split_has_no_clash : ¬ HasPlainClash split (start 1 4 0)
split_has_no_clash (plain_bottom x c lt h sh) = subst (λ (s : Shape). IsPlain s c) sh (plain_each c)
split_has_no_clash (plain_names x c d a lt h sh g th) =
    let e : d ≡ 2 = subst (λ (s : Shape). IsPlain s d) th (plain_each d) in
    not_two x (subst (λ (n : ℕ). has (facts_of (start 1 4 0)) x n ≡ true) e g)
split_has_no_clash (plain_most x c n s e lt h sh more every) = subst (λ (t : Shape). IsPlain t c) sh (plain_each c)
split_has_no_clash (plain_differ y z lt mt differ same) = cc

splits : IsLegal split (start 1 4 0) (start 1 4 0 ++ Says (Has 1 1) ∷ [])
splits = add 1 1 split_has_no_clash (by_and 1 4 1 (1 ∷ 3 ∷ []) (lit< tt) refl refl (0, lit< tt, refl)) refl

pub goes_on : GoesOn bare no_axioms apart 0 (record { items = start 1 4 0; table = table })
goes_on = record { rows = []; reached = goes_on_from; next = start 1 4 0 ++ Says (Has 1 1) ∷ []; is_legal = splits }

-- asked of the individual, a search begins with its node
abbrev apart_at_one : Query
apart_at_one = record { sub = apart.sub; sup = apart.sup; on = Individual 0 }

pub begins_with_individual : IsReached (question_of 1 [] numbers apart_at_one) table [] 0 (start 0 4 0)
begins_with_individual = record {
  is_table = is_table;
  is_choice = no_rows numbers;
  facts_have_numbers = have_numbers numbers apart_at_one table;
  at_first = lit< tt;
  sub_number = 4;
  sub_listed = lit< tt;
  sub_reads = refl;
  not_sup_number = 0;
  not_sup_listed = lit< tt;
  not_sup_reads = refl;
  follows = refl;
}

-- and at no other node
pub begins_nowhere_else : ¬ IsReached (question_of 1 [] numbers apart_at_one) table [] 0 (start 1 4 0)
begins_nowhere_else h = let k : Has 1 4 ≡ Has 0 h.sub_number = first_fact (h.follows) in cc
  where
    first_fact : {a b : ℕ} → start 1 4 0 ≡ start 0 a b → Has 1 4 ≡ Has 0 a
    first_fact e = cc

-- where the search was at its end, it was not the budget that ended it
pub does_not_go_on : (t : TrailLists) → ¬ GoesOn bare no_axioms absurdity 0 t
does_not_go_on t h =
    no_first_step numbers t.table h.rows 0 t.items h.reached t.items h.next h.reached.follows h.is_legal

-- ---- a whole log

abbrev one_no : List Entry
one_no = Test no_axioms absurdity 0 No ∷ []

never : (place : ℕ) (e : Entry) → slice_get one_no place ≡ Some e → is_spent e ≡ true → place + 1 ≡ 1
never zero e at spent = refl
never (suc place) e at spent = cc

pub is_honest_decision : IsHonest bare (decision absurdity) 1 one_no
is_honest_decision = record {
  budget_kept = record {
    within = omega arith;
    honest =
        All-cons (IsHonestEntry bare) (Test no_axioms absurdity 0 No) [] (no_axioms_are_a_set, is_no)
        (All-nil (IsHonestEntry bare));
    ends = record { is_last = never; is_whole = λ h. cc };
  };
  one = record { asked = no_axioms; steps = 0; ended = No; is_whole = no_axioms_are_whole; is_log = refl };
}

-- the same log says nothing of another query
pub is_no_honest_decision : ¬ IsHonest bare (decision itself) 1 one_no
is_no_honest_decision h =
    let k = h.one.is_log in
    let e : absurdity ≡ itself = cc in
    let m : top ≡ name 0 = ap (λ (q : Query). q.sub) e in
    cc
