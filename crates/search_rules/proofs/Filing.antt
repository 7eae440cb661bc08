-- The rows of a set are filed, and nothing else.
use Rattle.std.proofs.Common.{◌≡◌, ◌⊎◌, ℕ, zero, suc, ◌+◌, ◌<◌, ◌&&◌, ◌||◌, ltb, Bool, true, false, eqb, List, [], ◌∷◌}
use Rattle.std.proofs.Common.{map, length, get_or, Some, refl, ap, sym, subst, ◌∙◌, inl, inr, arith, cond}
use Rattle.std.specs.Prelude.{nat_eq, unwrap_or}
use Rattle.std.specs.List.{All, Contains, flat_map, list_any, list_all, range_with_len}
use Rattle.std.specs.Map.{lookup, keys_of}
use Rattle.std.proofs.lemmas.Bool.{cases_Bool, eqb-true, eq-eqb, and_parts, and_from, ltb-true, or_cases}
use Rattle.std.proofs.lemmas.List.Elements.{All-contains, All-contains_itself, Contains-append_left}
use Rattle.std.proofs.lemmas.List.Elements.{Contains-append_right, Contains-append_cases}
use Rattle.shq_terms.specs.Concept.{Concept, top, bottom, name, complement, intersection, union, some_of, all_of}
use Rattle.shq_terms.specs.Concept.{at_least, at_most, exactly}
use Rattle.calculus_specs.specs.Shape.{Shape, shape_of, IsTable}
use Rattle.calculus_specs.specs.Shape.Shape.{top as top_shape, bottom as bottom_shape, name as name_shape, not_name}
use Rattle.calculus_specs.specs.Shape.Shape.{intersection as intersection_shape, union as union_shape}
use Rattle.calculus_specs.specs.Shape.Shape.{some_of as some_shape, all_of as all_shape, at_least as least_shape}
use Rattle.calculus_specs.specs.Shape.Shape.{at_most as most_shape}
use Rattle.calculus_specs.specs.Tree.{tree_over, trees_of, tree_of}
use Rattle.calculus_specs.specs.Rows.{Part, part_at, conjunct_at, Trigger as PlainTrigger, Row as PlainRowOf}
use Rattle.calculus_specs.specs.Rows.Part.{inclusion, range}
use Rattle.calculus_specs.specs.Rows.Trigger.{always, names, edge, end_of}
use Rattle.ontology_limits.specs.Numbers.{AreNumbers, trees_at}
use Rattle.ontology_limits.proofs.Numbers.{shape_tree}
use Rattle.calculus_specs.specs.declared.facts.Fact.{Fact}
use Rattle.calculus_specs.specs.declared.facts.Fact.TheVariants.{Has, Edge as EdgeFact, Apart, Same}
use Rattle.calculus_specs.specs.Joins.{rep}
use Rattle.calculus_specs.specs.State.{node_count_from, has, label, has_edge, gives_edge, is_successor}
use Rattle.calculus_specs.proofs.Joined.{rep-joined, joined-rep}
use Rattle.calculus_specs.proofs.State.{any-label}
use Rattle.absorption.specs.Steps.{SearchContext, below_of, is_named, has_name, has_names, begins_edge, ends_edge}
use Rattle.absorption.specs.Steps.{is_triggered, is_used_at}
use Rattle.absorption.proofs.ListedTrails.{listed}
use Rattle.absorption.proofs.Moved.{has_at, edge_to}
use Rattle.absorption.specs.Triggers.{trigger_for, premises_for}
use Rattle.absorption.specs.declared.row.Row.{Row}
use Rattle.absorption.specs.declared.row.Trigger.{Trigger}
use Rattle.absorption.specs.declared.row.Trigger.TheVariants.{Always, Names, Edge, End}
use Rattle.absorption.specs.Rows.{plain_trigger, plain_row, IsRowOfPart}
use Rattle.absorption.specs.Places.{RowsByNumber, rows_under, all_filed, names_class}
use Rattle.absorption.specs.Tables.{HasFixedTrigger}
use Rattle.absorption.specs.Laws.{IsFoundBy, FindsItsRows}
use Rattle.absorption.proofs.Found.{finds, each_found}
use Rattle.step_finders.specs.declared.state.PlainRow.{PlainRow}
use Rattle.step_finders.specs.Found.{IsPlain, IsAtEdge, IsNamed, AreFiled, PlainHolds, NamedHold, HoldsRows}
use Rattle.search_rules.specs.declared.edge_tables.Side.TheVariants.{Begin, End as Finish}
use Rattle.search_rules.specs.RuleLists.{RuleLists, theory_in, context_in, IsReady}
use Rattle.search_rules.specs.Files.{plain_of, positions_of, named_of, rows_at_shape, waits_for, row_if, passing_rows}
use Rattle.search_rules.specs.Files.{rows_above, edge_rows, files_in}

-- ---- members of lists

all_from : {A : Type 0} (P : A → Type 0) (xs : List A) → ((x : A) → Contains xs x → P x) → All P xs
all_from P xs each = λ k d lt. each (get_or xs k d) (All-contains_itself xs k d lt)

record Made {A B : Type 0} (f : A → B) (xs : List A) (y : B) : Type 0 where
  of : A
  is_in : Contains xs of
  gives : f of ≡ y

none_in : {A : Type 0} (x : A) → Contains [] x → ⊥
none_in x h = omega (arith, h.1)

only_one : {A : Type 0} (x y : A) → Contains (x ∷ []) y → x ≡ y
only_one x y h = at h.0 h.1 h.2
  where
    at : (k : ℕ) → k < 1 → get_or (x ∷ []) k y ≡ y → x ≡ y
    at zero lt is = is
    at (suc k) lt is = absurd (omega (arith, lt))

first_in : {A : Type 0} (x : A) (xs : List A) → Contains (x ∷ xs) x
first_in x xs = (0, omega arith, refl)

in_map : {A B : Type 0} (f : A → B) (xs : List A) (y : B) → Contains (map f xs) y → Made f xs y
in_map f [] y h = absurd (none_in y h)
in_map f (x ∷ xs) y h = elim (Contains-append_cases (f x ∷ []) (map f xs) y h) [
  | inl here ↦ record { of = x; is_in = first_in x xs; gives = only_one (f x) y here }
  | inr later ↦
      let m = in_map f xs y later in
      record { of = m.of; is_in = Contains-append_right (x ∷ []) xs m.of m.is_in; gives = m.gives }
]

to_map : {A B : Type 0} (f : A → B) (xs : List A) (x : A) → Contains xs x → Contains (map f xs) (f x)
to_map f [] x h = absurd (none_in x h)
to_map f (z ∷ xs) x h = elim (Contains-append_cases (z ∷ []) xs x h) [
  | inl here ↦
      let same : z ≡ x = only_one z x here in
      subst (λ y. Contains (f z ∷ map f xs) (f y)) same (first_in (f z) (map f xs))
  | inr later ↦ Contains-append_right (f z ∷ []) (map f xs) (f x) (to_map f xs x later)
]

record Given {A B : Type 0} (f : A → List B) (xs : List A) (y : B) : Type 0 where
  by : A
  is_in : Contains xs by
  gives : Contains (f by) y

in_flat : {A B : Type 0} (f : A → List B) (xs : List A) (y : B) → Contains (flat_map f xs) y → Given f xs y
in_flat f [] y h = absurd (none_in y h)
in_flat f (x ∷ xs) y h = elim (Contains-append_cases (f x) (flat_map f xs) y h) [
  | inl here ↦ record { by = x; is_in = first_in x xs; gives = here }
  | inr later ↦
      let g = in_flat f xs y later in
      record { by = g.by; is_in = Contains-append_right (x ∷ []) xs g.by g.is_in; gives = g.gives }
]

to_flat : {A B : Type 0} (f : A → List B) (xs : List A) (x : A) (y : B) → Contains xs x → Contains (f x) y
    → Contains (flat_map f xs) y
to_flat f [] x y h is = absurd (none_in x h)
to_flat f (z ∷ xs) x y h is = elim (Contains-append_cases (z ∷ []) xs x h) [
  | inl here ↦
      let same : z ≡ x = only_one z x here in
      Contains-append_left (f z) (flat_map f xs) y (subst (λ v. Contains (f v) y) (sym same) is)
  | inr later ↦ Contains-append_right (f z) (flat_map f xs) y (to_flat f xs x y later is)
]

-- a member that passes
record Passing {A : Type 0} (p : A → Bool) (xs : List A) : Type 0 where
  it : A
  is_in : Contains xs it
  passes : p it ≡ true

passing : {A : Type 0} (p : A → Bool) (xs : List A) → list_any p xs ≡ true → Passing p xs
passing p [] h = cc
passing p (x ∷ xs) h = elim (or_cases (p x) (list_any p xs) h) [
  | inl here ↦ record { it = x; is_in = first_in x xs; passes = here }
  | inr later ↦
      let m = passing p xs later in
      record { it = m.it; is_in = Contains-append_right (x ∷ []) xs m.it m.is_in; passes = m.passes }
]

any_with : {A : Type 0} (p : A → Bool) (xs : List A) (x : A) → Contains xs x → p x ≡ true → list_any p xs ≡ true
any_with p [] x h is = absurd (none_in x h)
any_with p (z ∷ xs) x h is = elim (Contains-append_cases (z ∷ []) xs x h) [
  | inl here ↦ let same : z ≡ x = only_one z x here in ap (λ b. b || list_any p xs) (ap p same ∙ is)
  | inr later ↦ right (p z) (list_any p xs) (any_with p xs x later is)
]
  where
    right : (a b : Bool) → b ≡ true → (a || b) ≡ true
    right true b g = refl
    right false b g = g

all_with : {A : Type 0} (p : A → Bool) (xs : List A) (x : A) → Contains xs x → list_all p xs ≡ true → p x ≡ true
all_with p [] x h all = absurd (none_in x h)
all_with p (z ∷ xs) x h all =
    let t = and_parts (p z) (list_all p xs) all in
    elim (Contains-append_cases (z ∷ []) xs x h) [
      | inl here ↦ let same : z ≡ x = only_one z x here in ap p (sym same) ∙ t.0
      | inr later ↦ all_with p xs x later t.1
    ]

in_range : (first n y : ℕ) → Contains (range_with_len first n) y → y < first + n
in_range first zero y h = absurd (none_in y h)
in_range first (suc n) y h = elim (Contains-append_cases (first ∷ []) (range_with_len (first + 1) n) y h) [
  | inl here ↦ let same : first ≡ y = only_one first y here in omega arith
  | inr later ↦ let less = in_range (first + 1) n y later in omega arith
]

-- a number under which a row stands is one of the numbers
under_key : (es : RowsByNumber) (k : ℕ) (r : Row) → Contains (rows_under es k) r → Contains (keys_of es) k
under_key [] k r h = absurd (none_in r h)
under_key (f ∷ fs) k r h = elim (cases_Bool (eqb k f.0)) [
  | inl hit ↦ subst (λ (n : ℕ). Contains (f.0 ∷ keys_of fs) n) (sym (eqb-true k f.0 hit)) (first_in f.0 (keys_of fs))
  | inr miss ↦
      Contains-append_right (f.0 ∷ []) (keys_of fs) k
      (under_key fs k r
      (subst (λ (b : Bool). Contains (unwrap_or (cond b (Some f.1) (lookup (nat_eq k) fs)) []) r) miss h))
]

-- ---- edges

rep_twice : (fs : List (Fact ℕ)) (x : ℕ) → rep fs (rep fs x) ≡ rep fs x
rep_twice fs x = sym (rep-joined fs x (rep fs x) (joined-rep fs x))

-- the role of an edge
record Led (fs : List (Fact ℕ)) (roles : ℕ → Bool) (x y : ℕ) : Type 0 where
  role : ℕ
  is_one : roles role ≡ true
  next : is_successor fs (λ q. eqb q role) x (rep fs y) ≡ true

led : (fs : List (Fact ℕ)) (roles : ℕ → Bool) (x y : ℕ) → has_edge fs roles x y ≡ true → Led fs roles x y
led fs roles x y h = of m.it m.is_in m.passes
  where
    m : Passing (gives_edge roles (rep fs) (rep fs x) (rep fs y)) fs
    m = passing (gives_edge roles (rep fs) (rep fs x) (rep fs y)) fs h

    of : (f : Fact ℕ) → Contains fs f → gives_edge roles (rep fs) (rep fs x) (rep fs y) f ≡ true → Led fs roles x y
    of (EdgeFact r v z) is g =
        let b = and_parts (roles r && eqb (rep fs v) (rep fs x)) (eqb (rep fs z) (rep fs y)) g in
        let a = and_parts (roles r) (eqb (rep fs v) (rep fs x)) b.0 in
        let here : has_edge fs (λ q. eqb q r) x y ≡ true =
        any_with (gives_edge (λ q. eqb q r) (rep fs) (rep fs x) (rep fs y)) fs (EdgeFact r v z) is
        (and_from (eqb r r && eqb (rep fs v) (rep fs x)) (eqb (rep fs z) (rep fs y))
        (and_from (eqb r r) (eqb (rep fs v) (rep fs x)) (eq-eqb r r refl) a.1) b.1) in
        record {
          role = r;
          is_one = a.0;
          next =
              and_from (eqb (rep fs (rep fs y)) (rep fs y)) (has_edge fs (λ q. eqb q r) x (rep fs y))
              (eq-eqb (rep fs (rep fs y)) (rep fs y) (rep_twice fs y))
              (edge_to fs (λ q. eqb q r) (rep fs y) y x (rep_twice fs y) ∙ here);
        }
    of (Has v c) is g = cc
    of (Apart v z) is g = cc
    of (Same v z) is g = cc

-- ---- rows of edges

row_in : (b : Bool) (q : Row) (u : PlainRow) → Contains (row_if b q) u → (b ≡ true) × (plain_of q ≡ u)
row_in true q u h = (refl, only_one (plain_of q) u h)
row_in false q u h = absurd (none_in u h)

-- a row of an edge is one that stands at a role above
record AtEdge (below : ℕ → ℕ → Bool) (p : Trigger → Bool) (lists : RowsByNumber) (s : ℕ) (u : PlainRow) : Type 0 where
  role : ℕ
  above : below s role ≡ true
  row : Row
  stands : Contains (rows_under lists role) row
  passes : p row.trigger ≡ true
  is : plain_of row ≡ u

at_edge : (below : ℕ → ℕ → Bool) (p : Trigger → Bool) (lists : RowsByNumber) (s : ℕ) (u : PlainRow)
    → Contains (edge_rows below p lists s) u → AtEdge below p lists s u
at_edge below p lists s u h =
    let g = in_flat (rows_above below p lists s) (keys_of lists) u h in by g.by (below s g.by) refl g.gives
  where
    by : (e : ℕ) (b : Bool) → below s e ≡ b → Contains (cond b (passing_rows p (rows_under lists e)) []) u
        → AtEdge below p lists s u
    by e true above is =
        let q = in_flat (λ (r : Row). row_if (p r.trigger) r) (rows_under lists e) u is in
        let t = row_in (p q.by.trigger) q.by u q.gives in
        record { role = e; above = above; row = q.by; stands = q.is_in; passes = t.0; is = t.1 }
    by e false above is = absurd (none_in u is)

to_edge : (below : ℕ → ℕ → Bool) (p : Trigger → Bool) (lists : RowsByNumber) (s e : ℕ) (q : Row) → below s e ≡ true
    → Contains (rows_under lists e) q → p q.trigger ≡ true → Contains (edge_rows below p lists s) (plain_of q)
to_edge below p lists s e q above is passes =
    to_flat (rows_above below p lists s) (keys_of lists) e (plain_of q) (under_key lists e q is)
    (subst (λ (b : Bool). Contains (cond b (passing_rows p (rows_under lists e)) []) (plain_of q)) (sym above)
    (to_flat (λ (r : Row). row_if (p r.trigger) r) (rows_under lists e) q (plain_of q) is
    (subst (λ (b : Bool). Contains (row_if b q) (plain_of q)) (sym passes) (first_in (plain_of q) []))))

-- ---- names

-- what stands for a name has its shape
name_of_tree : (ts : List Concept) (s : Shape) (a : ℕ) → tree_over ts s ≡ name a → s ≡ name_shape a
name_of_tree ts top_shape a h = cc
name_of_tree ts bottom_shape a h = cc
name_of_tree ts (name_shape b) a h = let same : b ≡ a = cc in ap name_shape same
name_of_tree ts (not_name b) a h = cc
name_of_tree ts (intersection_shape cs) a h = cc
name_of_tree ts (union_shape cs) a h = cc
name_of_tree ts (some_shape r c) a h = cc
name_of_tree ts (all_shape r c) a h = cc
name_of_tree ts (least_shape n r c) a h = cc
name_of_tree ts (most_shape n r c) a h = cc

named_shape : (a : ℕ) (s : Shape) → is_named a s ≡ true → s ≡ name_shape a
named_shape a (name_shape b) h = ap name_shape (sym (eqb-true a b h))
named_shape a top_shape h = cc
named_shape a bottom_shape h = cc
named_shape a (not_name b) h = cc
named_shape a (intersection_shape cs) h = cc
named_shape a (union_shape cs) h = cc
named_shape a (some_shape r c) h = cc
named_shape a (all_shape r c) h = cc
named_shape a (least_shape n r c) h = cc
named_shape a (most_shape n r c) h = cc

module _ (w : SearchContext) (good : IsTable w.table) (fs : List (Fact ℕ)) (x : ℕ) where
  in_label : (c : ℕ) → Contains (label fs x) c → has fs x c ≡ true
  in_label c is = sym (any-label fs x c) ∙ any_with (λ d. eqb d c) (label fs x) c is (eq-eqb c c refl)

  listed_name : (c a : ℕ) → shape_of w.table c ≡ name_shape a → c < length w.table
  listed_name c a is = listed w.table c (λ same. (let e = sym same ∙ is in cc))

  -- a node with a name has each number of it
  name_had : (a n : ℕ) → n < length w.table → tree_of w.table n ≡ name a
      → list_any (λ c. is_named a (shape_of w.table c)) (label fs x) ≡ true → has fs x n ≡ true
  name_had a n lt is any =
      let m = passing (λ c. is_named a (shape_of w.table c)) (label fs x) any in
      let here = name_of_tree (trees_of w.table) (shape_of w.table n) a (sym (shape_tree w.table good n lt) ∙ is) in
      let there = named_shape a (shape_of w.table m.it) m.passes in
      let same : m.it ≡ n = good.are_distinct m.it n (listed_name m.it a there) lt (there ∙ sym here) in
      subst (λ (k : ℕ). has fs x k ≡ true) same (in_label m.it m.is_in)

  concept_had : (c : Concept) (n : ℕ) → n < length w.table → tree_of w.table n ≡ c → has_name w fs x c ≡ true
      → has fs x n ≡ true
  concept_had (name a) n lt is any = name_had a n lt is any
  concept_had top n lt is any = cc
  concept_had bottom n lt is any = cc
  concept_had (complement c) n lt is any = cc
  concept_had (intersection cs) n lt is any = cc
  concept_had (union cs) n lt is any = cc
  concept_had (some_of r c) n lt is any = cc
  concept_had (all_of r c) n lt is any = cc
  concept_had (at_least k r c) n lt is any = cc
  concept_had (at_most k r c) n lt is any = cc
  concept_had (exactly k r c) n lt is any = cc

  all_had : (cs : List Concept) (ps ns : List ℕ) → list_all (λ n. ltb n (length w.table)) ns ≡ true
      → trees_at w.table ns ≡ map (conjunct_at cs) ps → list_all (λ i. has_name w fs x (conjunct_at cs i)) ps ≡ true
      → list_all (has fs x) ns ≡ true
  all_had cs ps [] ls is all = refl
  all_had cs [] (n ∷ ns) ls is all = cc
  all_had cs (p ∷ ps) (n ∷ ns) ls is all =
      let l = and_parts (ltb n (length w.table)) (list_all (λ k. ltb k (length w.table)) ns) ls in
      let a =
      and_parts (has_name w fs x (conjunct_at cs p)) (list_all (λ i. has_name w fs x (conjunct_at cs i)) ps) all in
      let head : tree_of w.table n ≡ conjunct_at cs p = cc in
      let tail : trees_at w.table ns ≡ map (conjunct_at cs) ps = cc in
      and_from (has fs x n) (list_all (has fs x) ns)
      (concept_had (conjunct_at cs p) n (ltb-true n (length w.table) l.0) head a.0) (all_had cs ps ns l.1 tail a.1)

-- ---- what is filed

module _ (r : RuleLists) (ready : IsReady r) where
  abbrev w : SearchContext
  w = context_in r

  found : FindsItsRows r.table r.filed
  found = finds r.table r.filed ready.row_table.places

  in_rows : (q : Row) → Contains (all_filed r.filed) q → Contains w.rows (plain_row q)
  in_rows q is = to_map plain_row (all_filed r.filed) q is

  is_plain : (t : PlainTrigger) (q : Row) → Contains (all_filed r.filed) q → plain_trigger q.trigger ≡ t
      → IsPlain w t (plain_of q)
  is_plain t q is on = record {
    row = plain_row q;
    is_in = in_rows q is;
    axiom_is = refl;
    part_is = refl;
    gives_is = refl;
    trigger_is = on;
  }

  general_filed : All (IsPlain w always) (files_in r).general
  general_filed = all_from (IsPlain w always) (map plain_of r.filed.general) (λ u is.
      let m = in_map plain_of r.filed.general u is in
      let t = found.general m.of m.is_in in
      subst (IsPlain w always) m.gives (is_plain always m.of t.0 (ap plain_trigger t.1)))

  begin_trigger : (t : Trigger) (role : ℕ) → (t ≡ Edge role) ⊎ (t ≡ End role) → waits_for Begin t ≡ true
      → plain_trigger t ≡ edge role
  begin_trigger t role (inl is) h = ap plain_trigger is
  begin_trigger t role (inr is) h = let e = sym (ap (waits_for Begin) is) ∙ h in cc

  end_trigger : (t : Trigger) (role : ℕ) → (t ≡ Edge role) ⊎ (t ≡ End role) → waits_for Finish t ≡ true
      → plain_trigger t ≡ end_of role
  end_trigger t role (inl is) h = let e = sym (ap (waits_for Finish) is) ∙ h in cc
  end_trigger t role (inr is) h = ap plain_trigger is

  begins_filed : (s : ℕ) → All (IsAtEdge w edge s) ((files_in r).begins s)
  begins_filed s = all_from (IsAtEdge w edge s) ((files_in r).begins s) (λ u is.
      let a = at_edge (theory_in r).below (waits_for Begin) r.filed.at_roles s u is in
      let t = found.by_role a.role a.row a.stands in
      record {
        role = a.role;
        role_above = a.above;
        is_plain =
            subst (IsPlain w (edge a.role)) a.is
            (is_plain (edge a.role) a.row t.0 (begin_trigger a.row.trigger a.role t.1 a.passes));
      })

  ends_filed : (s : ℕ) → All (IsAtEdge w end_of s) ((files_in r).ends s)
  ends_filed s = all_from (IsAtEdge w end_of s) ((files_in r).ends s) (λ u is.
      let a = at_edge (theory_in r).below (waits_for Finish) r.filed.at_roles s u is in
      let t = found.by_role a.role a.row a.stands in
      record {
        role = a.role;
        role_above = a.above;
        is_plain =
            subst (IsPlain w (end_of a.role)) a.is
            (is_plain (end_of a.role) a.row t.0 (end_trigger a.row.trigger a.role t.1 a.passes));
      })

  fixed : (q : Row) → Contains (all_filed r.filed) q → HasFixedTrigger (theory_in r) r.table q
  fixed q is = All-contains (HasFixedTrigger (theory_in r) r.table) (all_filed r.filed) q ready.row_table.fixed is

  is_named_row : (q : Row) (ps : List ℕ) → Contains (all_filed r.filed) q → q.trigger ≡ Names ps
      → IsNamed w (named_of q)
  is_named_row q ps is on = of f.part f.is_there f.is_row
    where
      f : HasFixedTrigger (theory_in r) r.table q
      f = fixed q is

      of : (part : Part) → part_at (theory_in r) q.«axiom» q.part ≡ Some part
          → IsRowOfPart r.table q.«axiom» q.part part q → IsNamed w (named_of q)
      of (inclusion cs d) there row =
          let positions : positions_of q.trigger ≡ ps = ap positions_of on in
          let trigger : trigger_for (inclusion cs d) ≡ names ps = sym row.trigger_is ∙ ap plain_trigger on in
          record {
            row = plain_row q;
            is_in = in_rows q is;
            axiom_is = refl;
            part_is = refl;
            gives_is = refl;
            trigger_is = ap plain_trigger on ∙ ap names (sym positions);
            conjuncts = cs;
            right = d;
            is_part = there;
            waits_are = subst (λ (qs : List ℕ). AreNumbers r.table q.premises (map (conjunct_at cs) qs)) (sym positions)
                (subst (λ (t : PlainTrigger). AreNumbers r.table q.premises (premises_for (inclusion cs d) t)) trigger
                row.premises_are);
          }
      of (range s d) there row = let e : end_of s ≡ names ps = sym row.trigger_is ∙ ap plain_trigger on in cc

  named_filed : (c : ℕ) → All (IsNamed w) ((files_in r).named c)
  named_filed c = by (shape_of r.table c)
    where
      by : (s : Shape) → All (IsNamed w) (rows_at_shape r.filed.at_names s)
      by (name_shape class) = all_from (IsNamed w) (map named_of (rows_under r.filed.at_names class)) (λ u is.
          let m = in_map named_of (rows_under r.filed.at_names class) u is in
          let t = found.by_name class m.of m.is_in in
          subst (IsNamed w) m.gives (is_named_row m.of t.1.positions t.0 t.1.waits))
      by top_shape = λ k d lt. absurd (omega (arith, lt))
      by bottom_shape = λ k d lt. absurd (omega (arith, lt))
      by (not_name a) = λ k d lt. absurd (omega (arith, lt))
      by (intersection_shape cs) = λ k d lt. absurd (omega (arith, lt))
      by (union_shape cs) = λ k d lt. absurd (omega (arith, lt))
      by (some_shape s e) = λ k d lt. absurd (omega (arith, lt))
      by (all_shape s e) = λ k d lt. absurd (omega (arith, lt))
      by (least_shape n s e) = λ k d lt. absurd (omega (arith, lt))
      by (most_shape n s e) = λ k d lt. absurd (omega (arith, lt))

  -- ---- each row is filed

  module _ (fs : List (Fact ℕ)) (hold : (x : ℕ) → x < node_count_from w.first fs → HoldsRows (files_in r) fs x) (x : ℕ)
      (lt : x < node_count_from w.first fs) (q : Row) (is : Contains (all_filed r.filed) q) where
    by_general : Contains r.filed.general q → has fs x q.concept ≡ true
    by_general there =
        All-contains (PlainHolds fs x) (map plain_of r.filed.general) (plain_of q) (hold x lt).at_each
        (to_map plain_of r.filed.general q there)

    by_begin : (e : ℕ) → q.trigger ≡ Edge e → Contains (rows_under r.filed.at_roles e) q → begins_edge w fs e x ≡ true
        → has fs x q.concept ≡ true
    by_begin e on there used =
        let m =
        passing (λ y. has_edge fs (λ s. below_of w s e) x y) (range_with_len 0 (node_count_from w.first fs)) used in
        let l = led fs (λ s. below_of w s e) x m.it m.passes in
        All-contains (PlainHolds fs x) ((files_in r).begins l.role) (plain_of q)
        ((hold x lt).edges.at_edges l.role (rep fs m.it) l.next).at_begin
        (to_edge (theory_in r).below (waits_for Begin) r.filed.at_roles l.role e q l.is_one there
        (ap (waits_for Begin) on))

    by_end : (e : ℕ) → q.trigger ≡ End e → Contains (rows_under r.filed.at_roles e) q → ends_edge w fs e x ≡ true
        → has fs x q.concept ≡ true
    by_end e on there used =
        let m =
        passing (λ z. has_edge fs (λ s. below_of w s e) z x) (range_with_len 0 (node_count_from w.first fs)) used in
        let l = led fs (λ s. below_of w s e) m.it x m.passes in
        let in_row = in_range 0 (node_count_from w.first fs) m.it m.is_in in
        let less : m.it < node_count_from w.first fs = omega (arith, in_row) in
        sym (has_at fs (rep fs x) x q.concept (rep_twice fs x))
        ∙ All-contains (PlainHolds fs (rep fs x)) ((files_in r).ends l.role) (plain_of q)
        ((hold m.it less).edges.at_edges l.role (rep fs x) l.next).at_end
        (to_edge (theory_in r).below (waits_for Finish) r.filed.at_roles l.role e q l.is_one there
        (ap (waits_for Finish) on))

    by_names : (ps : List ℕ) → q.trigger ≡ Names ps → (class : ℕ) → names_class r.table q.premises class ≡ true
        → Contains (rows_under r.filed.at_names class) q
        → has_names w fs x ps (part_at (theory_in r) q.«axiom» q.part) ≡ true → has fs x q.concept ≡ true
    by_names ps on class among there used = by (fixed q is).part (fixed q is).is_there (fixed q is).is_row
      where
        by : (part : Part) → part_at (theory_in r) q.«axiom» q.part ≡ Some part
            → IsRowOfPart r.table q.«axiom» q.part part q → has fs x q.concept ≡ true
        by (inclusion cs d) at row =
            let trigger : trigger_for (inclusion cs d) ≡ names ps = sym row.trigger_is ∙ ap plain_trigger on in
            let premises : AreNumbers r.table q.premises (map (conjunct_at cs) ps) =
            subst (λ (t : PlainTrigger). AreNumbers r.table q.premises (premises_for (inclusion cs d) t)) trigger
            row.premises_are in
            let all : list_all (has fs x) q.premises ≡ true =
            all_had w ready.tabled fs x cs ps q.premises premises.listed premises.stand_for
            (sym (ap (has_names w fs x ps) at) ∙ used) in
            let m = passing (λ c. is_named class (shape_of r.table c)) q.premises among in
            let shape = named_shape class (shape_of r.table m.it) m.passes in
            let filed : Contains ((files_in r).named m.it) (named_of q) =
            subst (λ (s : Shape). Contains (rows_at_shape r.filed.at_names s) (named_of q)) (sym shape)
            (to_map named_of (rows_under r.filed.at_names class) q there) in
            (All-contains (NamedHold fs x) ((files_in r).named m.it) (named_of q)
            ((hold x lt).names.at_names m.it (all_with (has fs x) q.premises m.it m.is_in all)) filed).holds
            all
        by (range s d) at row = let e : end_of s ≡ names ps = sym row.trigger_is ∙ ap plain_trigger on in cc

    by_trigger : (t : Trigger) → q.trigger ≡ t → IsFoundBy t r.table r.filed q
        → is_triggered w fs x (part_at (theory_in r) q.«axiom» q.part) (plain_trigger t) ≡ true
        → has fs x q.concept ≡ true
    by_trigger Always on at used = by_general at
    by_trigger (Names ps) on at used = by_names ps on at.0 at.1.is_among at.2 used
    by_trigger (Edge e) on at used = by_begin e on at used
    by_trigger (End e) on at used = by_end e on at used

    each : is_used_at w fs (plain_row q) x ≡ true → has fs x q.concept ≡ true
    each used =
        by_trigger q.trigger refl (each_found r.table r.filed ready.row_table.places ready.row_table.keys q is) used

  pub filed : AreFiled w (files_in r)
  filed = record {
    general = general_filed;
    named = named_filed;
    begins = begins_filed;
    ends = ends_filed;
    each_filed = λ fs hold x row lt is used.
        let m = in_map plain_row (all_filed r.filed) row is in
        subst (λ (p : PlainRowOf). has fs x p.concept ≡ true) m.gives
        (each fs hold x lt m.of m.is_in (subst (λ (p : PlainRowOf). is_used_at w fs p x ≡ true) (sym m.gives) used));
  }
