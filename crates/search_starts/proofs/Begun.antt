-- A search over a table of the closure can begin.
use Rattle.std.proofs.Common.{◌≡◌, ℕ, zero, suc, ◌+◌, ◌<◌, ◌≤◌, ◌&&◌, eqb, ltb, Bool, true, false, cond, List}
use Rattle.std.proofs.Common.{[], ◌∷◌, length, Some, None, refl, ap, ◌∙◌, sym, subst, arith, inl, inr}
use Rattle.std.specs.Prelude.{All, count_by, slice_index_or, if◌then◌else◌}
use Rattle.std.specs.List.{list_any, find, Contains}
use Rattle.std.specs.Option.{option_map}
use Rattle.std.proofs.lemmas.Bool.{cases_Bool, and_parts, and_from, or_left, or_right, eqb-true, eq-eqb, lt-ltb}
use Rattle.std.proofs.lemmas.Bool.{ltb-true}
use Rattle.std.proofs.lemmas.List.Elements.{All-nil, All-cons, All-head, All-tail, All-contains_itself}
use Rattle.std.proofs.lemmas.List.Sums.{sum_by-cons}
use Rattle.role_box.specs.Concept.{Concept, top, all_of}
use Rattle.role_box.specs.Listed.{Listed}
use Rattle.role_box.specs.On.{On}
use Rattle.role_box.specs.On.TheVariants.{Any, Individual}
use Rattle.role_box.specs.Query.{Query}
use Rattle.role_box.specs.Fact.{Fact}
use Rattle.role_box.specs.Fact.TheVariants.{Has, Edge, Apart, Same}
use Rattle.role_box.specs.Normal.{normal_form, negated_form}
use Rattle.role_box.specs.Shape.{Shape, shape_of, has_parts_below}
use Rattle.role_box.specs.Shape.Shape.{top as top_shape, bottom as bottom_shape, name as name_shape, not_name}
use Rattle.role_box.specs.Shape.Shape.{intersection as and_shape, union as or_shape, some_of as some_shape}
use Rattle.role_box.specs.Shape.Shape.{all_of as all_shape, at_least as least_shape, at_most as most_shape}
use Rattle.role_box.specs.Tree.{tree_over, trees_of, tree_of}
use Rattle.role_box.specs.TheoryRows.{Part, inclusion, range, NumberedPart, is_numbered, part_at, row_concept, Row}
use Rattle.role_box.specs.TheoryRows.{is_row_of, IsRowOf}
use Rattle.role_box.specs.TheoryRows.Trigger.{always, end_of}
use Rattle.role_box.specs.Rules.{Question}
use Rattle.role_box.specs.Same.{is_same}
use Rattle.role_box.proofs.Same.{same_to_eq, eq_to_same}
use Rattle.calculus_specs.proofs.Unique.{tree_of_shape, numbers_unique}
use Rattle.refutation_truth.specs.Theory.{nodes_pass, node_in_question, question_in}
use Rattle.tableau_specs.specs.Reached.{start, HasNumbers}
use Rattle.tableau_specs.proofs.Listed.{listed}
use Rattle.absorption.specs.Closed.{IsClosed}
use Rattle.search_laws.specs.Limits.{IsInLimit, is_on_listed}
use Rattle.search_laws.specs.Closure.{IsInClosure, IsClosure}
use Rattle.search_laws.specs.Closure.IsInClosure.{has_top, has_sub, has_not_sup, has_row, has_range, has_member}
use Rattle.search_laws.specs.Closure.IsInClosure.{has_conjunct, has_disjunct, has_some, has_all, has_least, has_most}
use Rattle.search_laws.specs.Closure.IsInClosure.{has_other, has_carried}
use Rattle.search_laws.specs.ComputedClosure.{closure_of}
use Rattle.search_laws.proofs.AllowedFacts.{given_by}
use Rattle.search_laws.proofs.Bounds.{is_computed}
use Rattle.all_worlds.proofs.Lists.{found}
use Rattle.guided_search.specs.Laws.{CanBegin}
use Rattle.search_starts.specs.Normal.{is_normal_tree}
use Rattle.search_starts.proofs.Tables.{Number, HasParts, Filled, fill, one_shape}

-- ---- members of lists

contains_same : (xs : List Concept) (x : Concept) (k : ℕ) → k < length xs → slice_index_or xs k x ≡ x
    → list_any (is_same x) xs ≡ true
contains_same [] x k lt is = absurd (omega (arith, lt))
contains_same (y ∷ xs) x zero lt is = or_left (is_same x y) (list_any (is_same x) xs) (eq_to_same x y (sym is))
contains_same (y ∷ xs) x (suc k) lt is =
    or_right (is_same x y) (list_any (is_same x) xs) (contains_same xs x k (omega (arith, lt)) is)

-- each member of a list that the test finds the same is one
each_member : (Kind : Concept → Type 0) (all cs : List Concept) → ((c : Concept) → Contains cs c → Contains all c)
    → ((c : Concept) → list_any (is_same c) all ≡ true → Kind c) → All Kind cs
each_member Kind all [] within only = All-nil Kind
each_member Kind all (c ∷ cs) within only =
    let at = within c (0, omega arith, refl) in
    All-cons Kind c cs (only c (contains_same all c at.0 at.1 at.2))
    (each_member Kind all cs (λ e at. within e (suc at.0, omega (arith, at.1), at.2)) only)

-- the nodes of a fact are below a bound
abbrev AreWithin : ℕ → Fact Concept → Type 0
AreWithin first (Has x c) = x < first
AreWithin first (Edge r x y) = (x < first) × (y < first)
AreWithin first (Apart x y) = (x < first) × (y < first)
AreWithin first (Same x y) = (x < first) × (y < first)

listed_within : (k : ℕ) (f : Fact Concept) → nodes_pass (λ x. ltb x k) f ≡ true → AreWithin (k + 1) f
listed_within k (Has x c) h = let lt = ltb-true x k h in omega (arith, lt)
listed_within k (Edge r x y) h =
    let b = and_parts (ltb x k) (ltb y k) h in
    let lt = ltb-true x k b.0 in let mt = ltb-true y k b.1 in (omega (arith, lt), omega (arith, mt))
listed_within k (Apart x y) h =
    let b = and_parts (ltb x k) (ltb y k) h in
    let lt = ltb-true x k b.0 in let mt = ltb-true y k b.1 in (omega (arith, lt), omega (arith, mt))
listed_within k (Same x y) h =
    let b = and_parts (ltb x k) (ltb y k) h in
    let lt = ltb-true x k b.0 in let mt = ltb-true y k b.1 in (omega (arith, lt), omega (arith, mt))

at_first : (k : ℕ) (on : On) → is_on_listed k on ≡ true → node_in_question k on < k + 1
at_first k Any h = omega arith
at_first k (Individual a) h =
    let node : node_in_question k (Individual a) ≡ a = ap (λ (b : Bool). if b then a else k + 1) h in
    let lt = ltb-true a k h in
    omega (arith, node, lt)

-- ---- the table

module _ (q : Question) where
  abbrev InClosure : Concept → Type 0
  InClosure c = IsInClosure q c

  has_parts : HasParts InClosure
  has_parts = record {
    conjunct = has_conjunct;
    disjunct = has_disjunct;
    some_filler = has_some;
    all_filler = has_all;
    least_filler = has_least;
    most_filler = has_most;
  }

  module _ (cs : List Concept) (closure : IsClosure q cs) (f : Filled InClosure (top_shape ∷ []) cs) where
    abbrev table : List Shape
    table = f.more.after

    numbered : (c : Concept) → InClosure c → Number table c
    numbered c is_in =
        let m = found (is_same c) (Number table) cs (closure.has_each c is_in) f.each in
        subst (Number table) (sym (same_to_eq c m.it m.passes)) m.has

    -- the tree of a number with a shape other than top
    tree_is : (c : ℕ) (s : Shape) → shape_of table c ≡ s → ¬ (s ≡ top_shape)
        → (c < length table) × (tree_of table c ≡ tree_over (trees_of table) s)
    tree_is c s sh ne =
        let lt = listed table c (λ e. ne (sym sh ∙ e)) in (
          lt,
          tree_of_shape table c lt (f.more.is_table.parts_below c lt) ∙ ap (tree_over (trees_of table)) sh,
        )

    record IsAll (t : ℕ) (x : Concept) (s : Shape) : Type 0 where
      filler : ℕ
      is_all : s ≡ all_shape t filler
      reads : slice_index_or (trees_of table) filler top ≡ x

    all_over : (t : ℕ) (x : Concept) (s : Shape) → tree_over (trees_of table) s ≡ all_of t x → IsAll t x s
    all_over t x (all_shape r e) h =
        let role : r ≡ t = cc in
        let filler : slice_index_or (trees_of table) e top ≡ x = cc in
        record { filler = e; is_all = ap (λ (u : ℕ). all_shape u e) role; reads = filler }
    all_over t x top_shape h = cc
    all_over t x bottom_shape h = cc
    all_over t x (name_shape a) h = cc
    all_over t x (not_name a) h = cc
    all_over t x (and_shape ns) h = cc
    all_over t x (or_shape ns) h = cc
    all_over t x (some_shape r e) h = cc
    all_over t x (least_shape n r e) h = cc
    all_over t x (most_shape n r e) h = cc

    is_closed : IsClosed q.theory.below q.theory.is_transitive table
    is_closed = record {
      complements = λ c n s e sh.
          let is = tree_is c (most_shape n s e) sh (λ k. cc) in
          let is_in = has_other n s (tree_of table e) (subst InClosure is.1 (f.more.all_in c is.0)) in
          let d = numbered (negated_form (tree_of table e)) is_in in
          (d.number, record { listed = d.listed; negates = d.reads });
      carried = λ c s e t sh transitive below.
          let is = tree_is c (all_shape s e) sh (λ k. cc) in
          let is_in = has_carried s t (tree_of table e) (subst InClosure is.1 (f.more.all_in c is.0)) transitive in
          let d = numbered (all_of t (tree_of table e)) is_in in
          let good = f.more.is_table in
          let over = sym (tree_of_shape table d.number d.listed (good.parts_below d.number d.listed)) ∙ d.reads in
          let it = all_over t (tree_of table e) (shape_of table d.number) over in
          let e_listed : e < length table =
          (let low : ltb e c ≡ true = sym (ap (has_parts_below c) sh) ∙ good.parts_below c is.0 in
          let less = ltb-true e c low in
          omega (arith, less, is.0)) in
          let filler_listed : it.filler < length table =
          (let low : ltb it.filler d.number ≡ true =
          sym (ap (has_parts_below d.number) it.is_all) ∙ good.parts_below d.number d.listed in
          let less = ltb-true it.filler d.number low in
          omega (arith, less, d.listed)) in
          let same = numbers_unique table good it.filler e filler_listed e_listed it.reads in
          (d.number, it.is_all ∙ ap (all_shape t) same);
    }

    -- ---- rows

    record RowFor (n : NumberedPart) : Type 0 where
      row : Row
      axiom_is : row.axiom_number ≡ n.axiom_number
      part_is : row.part_number ≡ n.part_number
      fits : IsRowOf q.theory table row

    record Hit (p : NumberedPart → Bool) (ns : List NumberedPart) : Type 0 where
      it : NumberedPart
      is_in : Contains ns it
      is_found : option_map (λ (m : NumberedPart). m.part) (find p ns) ≡ Some it.part

    hit : (p : NumberedPart → Bool) (ns : List NumberedPart) (n : NumberedPart) (k : ℕ) → k < length ns
        → slice_index_or ns k n ≡ n → p n ≡ true → Hit p ns
    hit p [] n k lt is h = absurd (omega (arith, lt))
    hit p (m ∷ ns) n zero lt is h = record {
      it = m;
      is_in = (0, omega arith, refl);
      is_found =
          ap (λ (b : Bool). option_map (λ (x : NumberedPart). x.part) (cond b (Some m) (find p ns)))
          (ap p is ∙ h);
    }
    hit p (m ∷ ns) n (suc k) lt is h = by (p m) refl (hit p ns n k (omega (arith, lt)) is h)
      where
        by : (b : Bool) → p m ≡ b → Hit p ns → Hit p (m ∷ ns)
        by true e rest = record {
          it = m;
          is_in = (0, omega arith, refl);
          is_found = ap (λ (b : Bool). option_map (λ (x : NumberedPart). x.part) (cond b (Some m) (find p ns))) e;
        }
        by false e rest = record {
          it = rest.it;
          is_in = (suc rest.is_in.0, omega (arith, rest.is_in.1), rest.is_in.2);
          is_found =
              ap (λ (b : Bool). option_map (λ (x : NumberedPart). x.part) (cond b (Some m) (find p ns))) e
              ∙ rest.is_found;
        }

    row_by : (n m : NumberedPart) → Contains q.theory.parts m
        → part_at q.theory n.axiom_number n.part_number ≡ Some m.part → (p : Part) → m.part ≡ p → RowFor n
    row_by n m at there (inclusion cs d) is =
        let c = numbered (row_concept cs d []) (has_row m cs d [] at is refl) in
        record {
          row =
              record {
                axiom_number = n.axiom_number;
                part_number = n.part_number;
                trigger = always;
                concept = c.number;
              };
          axiom_is = refl;
          part_is = refl;
          fits =
              record {
                part = inclusion cs d;
                is_there = there ∙ ap (λ (x : Part). Some x) is;
                listed = c.listed;
                is_right = ap (λ (x : Concept). Some x) (sym c.reads);
              };
        }
    row_by n m at there (range r d) is =
        let c = numbered d (has_range m r d at is) in
        record {
          row =
              record {
                axiom_number = n.axiom_number;
                part_number = n.part_number;
                trigger = end_of r;
                concept = c.number;
              };
          axiom_is = refl;
          part_is = refl;
          fits =
              record {
                part = range r d;
                is_there = there ∙ ap (λ (x : Part). Some x) is;
                listed = c.listed;
                is_right =
                    ap (λ (b : Bool). if b then Some d else None) (eq-eqb r r refl)
                    ∙ ap (λ (x : Concept). Some x) (sym c.reads);
              };
        }

    row_for : (n : NumberedPart) → Contains q.theory.parts n → RowFor n
    row_for n at =
        let own : is_numbered n.axiom_number n.part_number n ≡ true =
        and_from (eqb n.axiom_number n.axiom_number) (eqb n.part_number n.part_number)
        (eq-eqb n.axiom_number n.axiom_number refl) (eq-eqb n.part_number n.part_number refl) in
        let m = hit (is_numbered n.axiom_number n.part_number) q.theory.parts n at.0 at.1 at.2 own in
        row_by n m.it m.is_in m.is_found m.it.part refl

    abbrev count : List Row → NumberedPart → ℕ
    count rows n = count_by (λ row. is_row_of row n) rows

    count_cons : (row : Row) (rows : List Row) (n : NumberedPart)
        → count (row ∷ rows) n ≡ cond (is_row_of row n) 1 0 + count rows n
    count_cons row rows n = sum_by-cons (λ (r : Row). cond (is_row_of r n) 1 0) row rows

    -- one row is that of the part
    abbrev IsOnce : List Row → NumberedPart → Type 0
    IsOnce rows n = count rows n ≡ 1

    record RowsFor (ns : List NumberedPart) : Type 0 where
      rows : List Row
      fit : All (IsRowOf q.theory table) rows
      once : All (IsOnce rows) ns
      most : (n : NumberedPart) → count rows n ≤ 1

    -- a row of the one part is one of another where their numbers are the same
    same_count : (rows : List Row) (n m : NumberedPart) → n.axiom_number ≡ m.axiom_number
        → n.part_number ≡ m.part_number → count rows n ≡ count rows m
    same_count rows n m a p =
        λ i. count_by (λ (row : Row). eqb (a i) row.axiom_number && eqb (p i) row.part_number) rows

    with_row : (n : NumberedPart) (ns : List NumberedPart) (r : RowFor n) (rest : RowsFor ns) → count rest.rows n ≡ 0
        → RowsFor (n ∷ ns)
    with_row n ns r rest none = record {
      rows = r.row ∷ rest.rows;
      fit = All-cons (IsRowOf q.theory table) r.row rest.rows r.fits rest.fit;
      once = All-cons (IsOnce (r.row ∷ rest.rows)) n ns here
          (λ k m lt. others (slice_index_or ns k m) (rest.once k m lt));
      most = bounded;
    }
      where
        own : is_row_of r.row n ≡ true
        own =
            and_from (eqb n.axiom_number r.row.axiom_number) (eqb n.part_number r.row.part_number)
            (eq-eqb n.axiom_number r.row.axiom_number (sym r.axiom_is))
            (eq-eqb n.part_number r.row.part_number (sym r.part_is))

        here : count (r.row ∷ rest.rows) n ≡ 1
        here =
            let e = count_cons r.row rest.rows n in
            let one : ℕ = 1 in
            let nought : ℕ = 0 in
            let f : cond (is_row_of r.row n) one nought ≡ one = ap (λ (b : Bool). cond b one nought) own in
            omega (arith, e, f, none)

        -- where the new row is also one of m, m has the numbers of n
        alike : (m : NumberedPart) → is_row_of r.row m ≡ true → count rest.rows m ≡ 0
        alike m h =
            let b = and_parts (eqb m.axiom_number r.row.axiom_number) (eqb m.part_number r.row.part_number) h in
            same_count rest.rows m n (eqb-true m.axiom_number r.row.axiom_number b.0 ∙ r.axiom_is)
            (eqb-true m.part_number r.row.part_number b.1 ∙ r.part_is)
            ∙ none

        others : (m : NumberedPart) → count rest.rows m ≡ 1 → count (r.row ∷ rest.rows) m ≡ 1
        others m one = elim (cases_Bool (is_row_of r.row m)) [
          | inl own_too ↦ let no_other = alike m own_too in absurd (omega (arith, no_other, one))
          | inr miss ↦
              let e = count_cons r.row rest.rows m in
              let single : ℕ = 1 in
              let nought : ℕ = 0 in
              let f : cond (is_row_of r.row m) single nought ≡ nought = ap (λ (b : Bool). cond b single nought) miss in
              omega (arith, e, f, one)
        ]

        bounded : (m : NumberedPart) → count (r.row ∷ rest.rows) m ≤ 1
        bounded m = elim (cases_Bool (is_row_of r.row m)) [
          | inl own_too ↦
              let e = count_cons r.row rest.rows m in
              let single : ℕ = 1 in
              let nought : ℕ = 0 in
              let f : cond (is_row_of r.row m) single nought ≡ single =
              ap (λ (b : Bool). cond b single nought) own_too in
              let no_other = alike m own_too in
              omega (arith, e, f, no_other)
          | inr miss ↦
              let e = count_cons r.row rest.rows m in
              let single : ℕ = 1 in
              let nought : ℕ = 0 in
              let f : cond (is_row_of r.row m) single nought ≡ nought = ap (λ (b : Bool). cond b single nought) miss in
              let le = rest.most m in
              omega (arith, e, f, le)
        ]

    rows_for : (ns : List NumberedPart) → All (Contains q.theory.parts) ns → RowsFor ns
    rows_for [] all = record {
      rows = [];
      fit = All-nil (IsRowOf q.theory table);
      once = All-nil (IsOnce []);
      most = λ n. omega arith;
    }
    rows_for (n ∷ ns) all =
        by (rows_for ns (All-tail (Contains q.theory.parts) n ns all))
      where
        by : RowsFor ns → RowsFor (n ∷ ns)
        by rest = at (count rest.rows n) refl (rest.most n)
          where
            at : (k : ℕ) → count rest.rows n ≡ k → count rest.rows n ≤ 1 → RowsFor (n ∷ ns)
            at zero e le =
                with_row n ns (row_for n (All-head (Contains q.theory.parts) n ns all)) rest e
            at (suc k) e le = record {
              rows = rest.rows;
              fit = rest.fit;
              once = All-cons (IsOnce rest.rows) n ns (omega (arith, e, le)) rest.once;
              most = rest.most;
            }

    -- ---- given facts

    has_numbers : (first : ℕ) (a p : ℕ) (g : Fact Concept) → q.fact_of a p ≡ Some g → AreWithin first g
        → HasNumbers first table g
    has_numbers first a p (Has x c) is within =
        let n = numbered c (has_member a p x c is) in
        record {
          fact = Has x n.number;
          reads = ap (Has x) n.reads;
          listed = lt-ltb n.number (length table) n.listed;
          on_first = lt-ltb x first within;
        }
    has_numbers first a p (Edge r x y) is within =
        record {
          fact = Edge r x y;
          reads = refl;
          listed = refl;
          on_first = and_from (ltb x first) (ltb y first) (lt-ltb x first within.0) (lt-ltb y first within.1);
        }
    has_numbers first a p (Apart x y) is within =
        record {
          fact = Apart x y;
          reads = refl;
          listed = refl;
          on_first = and_from (ltb x first) (ltb y first) (lt-ltb x first within.0) (lt-ltb y first within.1);
        }
    has_numbers first a p (Same x y) is within =
        record {
          fact = Same x y;
          reads = refl;
          listed = refl;
          on_first = and_from (ltb x first) (ltb y first) (lt-ltb x first within.0) (lt-ltb y first within.1);
        }

-- ---- the start

pub begins : (o : Listed) (ks : List ℕ) (q : Query) → IsInLimit o q
    → ((c : Concept) → IsInClosure (question_in o ks q) c → is_normal_tree c ≡ true)
    → ¬ ((table : List Shape) (rows : List Row) → ¬ CanBegin (question_in o ks q) table rows)
begins o ks q within normal none =
    let asked : Question = question_in o ks q in
    let n : ℕ = length o.individuals in
    let cs : List Concept = closure_of n o.axioms ks q in
    let closure = (is_computed n o.axioms ks q).concepts in
    fill (λ c. IsInClosure asked c) (has_parts asked) cs
    (each_member (λ c. (is_normal_tree c ≡ true) × IsInClosure asked c) cs cs (λ c at. at)
    (λ c h. let s = closure.has_only c h in (normal c s, s)))
    (top_shape ∷ []) one_shape (top_is asked)
    (λ f.
    let table : List Shape = f.more.after in
    let rows = rows_for asked cs closure f asked.theory.parts (All-contains_itself asked.theory.parts) in
    let sub = numbered asked cs closure f (normal_form q.sub) has_sub in
    let not_sup = numbered asked cs closure f (negated_form q.sup) has_not_sup in
    none table rows.rows
    (record {
      trail = start asked.at sub.number not_sup.number;
      begun =
          record {
            is_table = f.more.is_table;
            is_choice = record { rows_fit = rows.fit; each_once = rows.once };
            facts_have_numbers =
                λ a p g e.
                has_numbers asked cs closure f asked.first a p g e
                (listed_within n g (given_by n o.axioms ks a p g e).of_listed);
            at_first = at_first n q.on within.on_listed;
            sub_number = sub.number;
            sub_listed = sub.listed;
            sub_reads = sub.reads;
            not_sup_number = not_sup.number;
            not_sup_listed = not_sup.listed;
            not_sup_reads = not_sup.reads;
            follows = refl;
          };
      closed = is_closed asked cs closure f;
    }))
  where
    top_is : (asked : Question) (m : ℕ) → m < length (top_shape ∷ []) → IsInClosure asked (tree_of (top_shape ∷ []) m)
    top_is asked zero lt = has_top
    top_is asked (suc m) lt = absurd (omega (arith, lt))
