-- Why a given fact is to be put, and why none is.
use Rattle.std.proofs.Common.{◌≡◌, ℕ, ◌<◌, ◌≤◌, ◌&&◌, eqb, ltb, Bool, true, List, length, get_or, Some, ap, ◌∙◌, sym}
use Rattle.std.proofs.Common.{subst, arith, eq-eqb}
use Rattle.std.specs.List.{list_any}
use Rattle.std.proofs.lemmas.Bool.{eqb-true, ltb-true, lt-ltb, and_parts}
use Rattle.std.proofs.lemmas.Option.{same_Some}
use Rattle.calculus_specs.specs.Shape.{Shape, IsTable}
use Rattle.calculus_specs.specs.Tree.{tree_of}
use Rattle.calculus_specs.specs.declared.facts.Fact.{Fact}
use Rattle.calculus_specs.specs.declared.facts.Fact.TheVariants.{Has, Edge, Apart, Same}
use Rattle.calculus_specs.specs.Joins.{rep}
use Rattle.calculus_specs.specs.Listed.{AreEdges}
use Rattle.calculus_specs.specs.Reading.{read_fact, is_fact_listed}
use Rattle.calculus_specs.specs.State.{node_count_from, has_edge, is_so, speaks_below}
use Rattle.calculus_specs.proofs.Unique.{numbers_unique}
use Rattle.tableau_specs.specs.Steps.{SearchContext}
use Rattle.tableau_specs.proofs.Moved.{edge_to}
use Rattle.tableau_specs.proofs.TreeShaped.{first_le}
use Rattle.step_finders.specs.declared.state.Given.{Given}
use Rattle.step_finders.specs.Giving.{IsGivenAt, AreGiven, NothingToGive}
use Rattle.step_finders.proofs.Edges.{where_any, rep_twice}

-- ---- whether a fact is so

-- the edges of a node say which edges lead from it
pub edges_say : (fs : List (Fact ℕ)) (r x y : ℕ) (edges : List (ℕ × ℕ)) → AreEdges fs x edges
    → list_any (λ p. eqb p.0 r && eqb (rep fs p.1) (rep fs y)) edges ≡ has_edge fs (λ s. eqb s r) x y
edges_say fs r x y edges are =
    are (λ s. eqb s r) (rep fs y)
    ∙ ap (λ (b : Bool). b && has_edge fs (λ s. eqb s r) x (rep fs y))
    (eq-eqb (rep fs (rep fs y)) (rep fs y) (rep_twice fs y))
    ∙ edge_to fs (λ s. eqb s r) (rep fs y) y x (rep_twice fs y)

below_more : (x n m : ℕ) → n ≤ m → ltb x n ≡ true → ltb x m ≡ true
below_more x n m le h = lt-ltb x m (omega (arith, le, ltb-true x n h))

both_below : (x y n m : ℕ) → n ≤ m → (ltb x n && ltb y n) ≡ true → (ltb x m && ltb y m) ≡ true
both_below x y n m le h =
    let t = and_parts (ltb x n) (ltb y n) h in rw (below_more x n m le t.0) (below_more y n m le t.1)

-- what speaks of the first n nodes speaks of the first of more
pub speaks_more : (n m : ℕ) (f : Fact ℕ) → n ≤ m → speaks_below n f ≡ true → speaks_below m f ≡ true
speaks_more n m (Has x c) le h = below_more x n m le h
speaks_more n m (Edge r x y) le h = both_below x y n m le h
speaks_more n m (Apart x y) le h = both_below x y n m le h
speaks_more n m (Same x y) le h = both_below x y n m le h

-- a given fact speaks of nodes
pub given_speaks : (w : SearchContext) (fs : List (Fact ℕ)) (first : ℕ) (g : Given) → first ≡ w.first → IsGivenAt w g
    → speaks_below (node_count_from first fs) g.fact ≡ true
given_speaks w fs first g e is =
    subst (λ (n : ℕ). speaks_below (node_count_from n fs) g.fact ≡ true) (sym e)
    (speaks_more w.first (node_count_from w.first fs) g.fact (first_le w.first fs) is.on_first)

-- ---- nothing to give

module _ (table : List Shape) (good : IsTable table) where
  same_has : (x c y d : ℕ) → x ≡ y → c ≡ d → Has x c ≡ Has y d
  same_has x c y d ex ec = ap (λ (a : ℕ). Has a c) ex ∙ ap (Has y) ec

  -- facts over a table that read as one fact are one
  same_fact : (f g : Fact ℕ) → is_fact_listed (length table) f ≡ true → is_fact_listed (length table) g ≡ true
      → read_fact (tree_of table) f ≡ read_fact (tree_of table) g → f ≡ g
  same_fact (Has x c) (Has y d) lt mt e =
      let nodes : x ≡ y = cc in
      let trees : tree_of table c ≡ tree_of table d = cc in
      same_has x c y d nodes
      (numbers_unique table good c d (ltb-true c (length table) lt) (ltb-true d (length table) mt) trees)
  same_fact (Edge r x y) (Edge s v z) lt mt e = cc
  same_fact (Apart x y) (Apart v z) lt mt e = cc
  same_fact (Same x y) (Same v z) lt mt e = cc
  same_fact (Has x c) (Edge s v z) lt mt e = cc
  same_fact (Has x c) (Apart v z) lt mt e = cc
  same_fact (Has x c) (Same v z) lt mt e = cc
  same_fact (Edge r x y) (Has v d) lt mt e = cc
  same_fact (Edge r x y) (Apart v z) lt mt e = cc
  same_fact (Edge r x y) (Same v z) lt mt e = cc
  same_fact (Apart x y) (Has v d) lt mt e = cc
  same_fact (Apart x y) (Edge s v z) lt mt e = cc
  same_fact (Apart x y) (Same v z) lt mt e = cc
  same_fact (Same x y) (Has v d) lt mt e = cc
  same_fact (Same x y) (Edge s v z) lt mt e = cc
  same_fact (Same x y) (Apart v z) lt mt e = cc

pub nothing_to_give : (w : SearchContext) → IsTable w.table → (fs : List (Fact ℕ)) (gs : List Given) → AreGiven w gs
    → ((k : ℕ) (d : Given) → k < length gs → is_so fs (get_or gs k d).fact ≡ true) → NothingToGive w fs
nothing_to_give w good fs gs are each f given =
    where_any (λ g. eqb g.«axiom» given.axiom_number && eqb g.place given.place) (is_so fs f ≡ true) gs
    (λ k d lt hit.
    let g : Given = get_or gs k d in
    let t = and_parts (eqb g.«axiom» given.axiom_number) (eqb g.place given.place) hit in
    let is = are.each k d lt in
    let reads : Some (read_fact (tree_of w.table) g.fact) ≡ Some (read_fact (tree_of w.table) f) =
    sym is.is_there ∙ ap (λ (a : ℕ). w.fact_of a g.place) (eqb-true g.«axiom» given.axiom_number t.0)
    ∙ ap (w.fact_of given.axiom_number) (eqb-true g.place given.place t.1) ∙ given.is_there in
    subst (λ (h : Fact ℕ). is_so fs h ≡ true)
    (same_fact w.table good g.fact f is.listed given.listed
    (same_Some (read_fact (tree_of w.table) g.fact) (read_fact (tree_of w.table) f) reads))
    (each k d lt))
    (are.every given.axiom_number given.place (read_fact (tree_of w.table) f) given.is_there)
