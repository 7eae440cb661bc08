-- A legal step leads from built trails to built trails.
use Rattle.std.proofs.Common.{◌≡◌, ℕ, zero, suc, ◌+◌, ◌<◌, ◌≤◌, ◌&&◌, eqb, ltb, max, Bool, true, List, [], ◌∷◌, ◌++◌}
use Rattle.std.proofs.Common.{take, refl, ap, ◌∙◌, sym, subst, arith, inl, inr, append_assoc}
use Rattle.std.specs.List.{list_any}
use Rattle.std.proofs.lemmas.List.{append-nil}
use Rattle.std.proofs.lemmas.List.Elements.{All-contains}
use Rattle.std.proofs.lemmas.Bool.{or_cases, and_parts, ltb-true, or_right}
use Rattle.std.proofs.lemmas.Option.{slice_get_within, get_or_from_slice_get}
use Rattle.calculus_specs.specs.Shape.{Shape}
use Rattle.calculus_specs.specs.declared.facts.Fact.{Fact}
use Rattle.calculus_specs.specs.declared.facts.Fact.TheVariants.{Has, Edge, Apart, Same}
use Rattle.calculus_specs.specs.Joins.{rep, rep_after}
use Rattle.calculus_specs.specs.State.{node_count_from, gives_edge, has_edge, is_successor, new_nodes, apart_from}
use Rattle.calculus_specs.specs.State.{pairwise_apart, fresh_facts, speaks_below}
use Rattle.calculus_specs.proofs.Joined.{rep-snoc}
use Rattle.tableau_specs.specs.declared.Branch.{Branch}
use Rattle.tableau_specs.specs.declared.Choice.{Choice}
use Rattle.tableau_specs.specs.declared.Item.{Item}
use Rattle.tableau_specs.specs.declared.Item.TheVariants.{Fact as Says, Mark}
use Rattle.tableau_specs.specs.Items.{facts_of, says}
use Rattle.tableau_specs.specs.Clash.{filled_successors}
use Rattle.tableau_specs.proofs.PlainClash.{successor_is_node, successor_is_rep, filled_are_successors}
use Rattle.tableau_specs.specs.Steps.{SearchContext, below_of, Adds, Generates, MayBranch, IsAlternative, IsGiven}
use Rattle.tableau_specs.specs.Steps.{IsLegal, next_choice}
use Rattle.tableau_specs.specs.Steps.Adds.{by_and, by_all, by_carry, by_row}
use Rattle.tableau_specs.specs.Steps.Generates.{by_some, by_least}
use Rattle.tableau_specs.specs.Steps.MayBranch.{on_union, on_filler, on_pair}
use Rattle.tableau_specs.specs.Steps.IsAlternative.{of_union, of_filler, of_complement, of_joining, of_parting}
use Rattle.tableau_specs.specs.Steps.IsLegal.{add, give, generate, choose, back}
use Rattle.tableau_specs.specs.StepLaws.{any_role}
use Rattle.tableau_specs.proofs.Built.{facts_of-snoc, facts_of-mark, Supports, SupportsBranch, IsBuilt, built_push}
use Rattle.tableau_specs.proofs.Built.{built_take}
use Rattle.tableau_specs.proofs.TreeShaped.{first_le, count-edge, built_tree_shaped}

-- ---- edges of any role

wider_edge : (m : ℕ → ℕ) (roles : ℕ → Bool) (from to : ℕ) (fs : List (Fact ℕ))
    → list_any (gives_edge roles m from to) fs ≡ true → list_any (gives_edge any_role m from to) fs ≡ true
wider_edge m roles from to [] h = cc
wider_edge m roles from to (Has v c ∷ fs) h = wider_edge m roles from to fs h
wider_edge m roles from to (Apart v w ∷ fs) h = wider_edge m roles from to fs h
wider_edge m roles from to (Same v w ∷ fs) h = wider_edge m roles from to fs h
wider_edge m roles from to (Edge r v w ∷ fs) h =
    elim (or_cases (roles r && eqb (m v) from && eqb (m w) to) (list_any (gives_edge roles m from to) fs) h) [
      | inl here ↦
          let t = and_parts (roles r && eqb (m v) from) (eqb (m w) to) here in
          let u = and_parts (roles r) (eqb (m v) from) t.0 in rw (u.1, t.1) refl
      | inr later ↦
          or_right (eqb (m v) from && eqb (m w) to) (list_any (gives_edge any_role m from to) fs)
          (wider_edge m roles from to fs later)
    ]

pub any_edge : (fs : List (Fact ℕ)) (roles : ℕ → Bool) (x y : ℕ) → has_edge fs roles x y ≡ true
    → has_edge fs any_role x y ≡ true
any_edge fs roles x y h = wider_edge (rep fs) roles (rep fs x) (rep fs y) fs h

pub any_successor : (fs : List (Fact ℕ)) (roles : ℕ → Bool) (x y : ℕ) → is_successor fs roles x y ≡ true
    → is_successor fs any_role x y ≡ true
any_successor fs roles x y h =
    let t = and_parts (eqb (rep fs y) y) (has_edge fs roles x y) h in rw t.0 (any_edge fs roles x y t.1)

-- there are `base` first nodes, and facts with G are given
module _ (base : ℕ) (G : Fact ℕ → Type 0) where
  -- ---- Generate

  -- the facts, one after another, each rest on what stands before
  abbrev AllAfter : List Item → List (Fact ℕ) → Type 0
  AllAfter is [] = Unit {0}
  AllAfter is (f ∷ fs) = Supports base G (facts_of is) (Says f) × AllAfter (is ++ Says f ∷ []) fs

  built_says : (is : List Item) (fs : List (Fact ℕ)) → IsBuilt base G is → AllAfter is fs
      → IsBuilt base G (is ++ says fs)
  built_says is [] h each = subst (IsBuilt base G) (sym (append-nil is)) h
  built_says is (f ∷ fs) h each =
      subst (IsBuilt base G) (append_assoc is (Says f ∷ []) (says fs))
      (built_says (is ++ Says f ∷ []) fs (built_push base G is (Says f) h each.0) each.1)

  -- nodes from n on are alone
  abbrev AreAlone : ℕ → List Item → Type 0
  AreAlone n is = (v : ℕ) → n ≤ v → rep (facts_of is) v ≡ v

  alone_more : (n : ℕ) (is : List Item) (f : Fact ℕ) → ((m : ℕ → ℕ) (v : ℕ) → rep_after m f v ≡ m v) → AreAlone n is
      → AreAlone n (is ++ Says f ∷ [])
  alone_more n is f keeps alone v le =
      ap (λ (fs : List (Fact ℕ)). rep fs v) (facts_of-snoc is f) ∙ rep-snoc (facts_of is) f v
      ∙ keeps (rep (facts_of is)) v ∙ alone v le

  count-has : (fs : List (Fact ℕ)) (x c : ℕ) → node_count_from base (fs ++ Has x c ∷ []) ≡ node_count_from base fs
  count-has [] x c = refl
  count-has (Edge r v w ∷ fs) x c = ap (max (w + 1)) (count-has fs x c)
  count-has (Has v d ∷ fs) x c = count-has fs x c
  count-has (Apart v w ∷ fs) x c = count-has fs x c
  count-has (Same v w ∷ fs) x c = count-has fs x c

  count-apart : (fs : List (Fact ℕ)) (x y : ℕ) → node_count_from base (fs ++ Apart x y ∷ []) ≡ node_count_from base fs
  count-apart [] x y = refl
  count-apart (Edge r v w ∷ fs) x y = ap (max (w + 1)) (count-apart fs x y)
  count-apart (Has v d ∷ fs) x y = count-apart fs x y
  count-apart (Apart v w ∷ fs) x y = count-apart fs x y
  count-apart (Same v w ∷ fs) x y = count-apart fs x y

  count-snoc : (is : List Item) (f : Fact ℕ)
      → node_count_from base (facts_of (is ++ Says f ∷ [])) ≡ node_count_from base (facts_of is ++ f ∷ [])
  count-snoc is f = ap (λ (fs : List (Fact ℕ)). node_count_from base fs) (facts_of-snoc is f)

  -- new nodes rest on the node that they are below, and what follows them rests on them
  new_supported : (low : ℕ) (is : List Item) (x s e first n : ℕ) (rest : List (Fact ℕ))
      → x < node_count_from base (facts_of is) → first ≡ node_count_from base (facts_of is) → AreAlone low is
      → ((js : List Item) → node_count_from base (facts_of js) ≡ first + n → AreAlone low js → AllAfter js rest)
      → AllAfter is (new_nodes x s e first n ++ rest)
  new_supported low is x s e first zero rest lt at alone after = after is (omega (arith, at)) alone
  new_supported low is x s e first (suc n) rest lt at alone after =
      let one = is ++ Says (Edge s x first) ∷ [] in
      let two = one ++ Says (Has first e) ∷ [] in
      let c1 : node_count_from base (facts_of one) ≡ first + 1 =
      omega (arith, count-snoc is (Edge s x first), count-edge base (facts_of is) s x first, at) in
      let c2 : node_count_from base (facts_of two) ≡ first + 1 =
      count-snoc one (Has first e) ∙ count-has (facts_of one) first e ∙ c1 in
      let alone' : AreAlone low two =
      alone_more low one (Has first e) (λ m v. refl) (alone_more low is (Edge s x first) (λ m v. refl) alone) in (
        (lt, inl at),
        (
          omega (arith, c1),
          new_supported low two x s e (first + 1) n rest (omega (arith, c2, at, lt)) (sym c2) alone'
              (λ js long. after js (omega (arith, long))),
        ),
      )

  apart_supported : (low : ℕ) (is : List Item) (y z n : ℕ) (rest : List (Fact ℕ)) → low ≤ y → y < z
      → z + n ≤ node_count_from base (facts_of is) → y < node_count_from base (facts_of is) → AreAlone low is
      → ((js : List Item) → node_count_from base (facts_of js) ≡ node_count_from base (facts_of is) → AreAlone low js
      → AllAfter js rest)
      → AllAfter is (apart_from y z n ++ rest)
  apart_supported low is y z zero rest high less le lt alone after = after is refl alone
  apart_supported low is y z (suc n) rest high less le lt alone after =
      let one = is ++ Says (Apart y z) ∷ [] in
      let c1 : node_count_from base (facts_of one) ≡ node_count_from base (facts_of is) =
      count-snoc is (Apart y z) ∙ count-apart (facts_of is) y z in
      let alone' : AreAlone low one = alone_more low is (Apart y z) (λ m v. refl) alone in
      let ne : ¬ (rep (facts_of is) y ≡ rep (facts_of is) z) =
      λ k. absurd (omega (arith, k, alone y high, alone z (omega arith), less)) in (
        (lt, omega arith, inl ne),
        apart_supported low one y (z + 1) n rest high (omega arith) (omega (arith, c1)) (omega (arith, c1)) alone'
            (λ js e. after js (e ∙ c1)),
      )

  pairs_supported : (low : ℕ) (is : List Item) (first n : ℕ) → low ≤ first
      → first + n ≤ node_count_from base (facts_of is) → AreAlone low is → AllAfter is (pairwise_apart first n)
  pairs_supported low is first zero high le alone = tt
  pairs_supported low is first (suc n) high le alone =
      apart_supported low is first (first + 1) n (pairwise_apart (first + 1) n) high (omega arith) (omega arith)
      (omega arith) alone
      (λ js e alone'. pairs_supported low js (first + 1) n (omega arith) (omega (arith, e)) alone')

  fresh_supported : (is : List Item) (x s e n : ℕ) → AreAlone (node_count_from base (facts_of is)) is
      → x < node_count_from base (facts_of is) → AllAfter is (fresh_facts x s e (node_count_from base (facts_of is)) n)
  fresh_supported is x s e n alone lt =
      let first = node_count_from base (facts_of is) in
      new_supported first is x s e first n (pairwise_apart first n) lt refl alone
      (λ js long alone. pairs_supported first js first n (omega arith) (omega (arith, long)) alone)

  -- ---- Choose and Back

  alternative_supported : (table : List Shape) (fs : List (Fact ℕ)) (b : Branch) (k : ℕ) (f : Fact ℕ)
      → IsAlternative table b k f → SupportsBranch base G fs b → Supports base G fs (Says f)
  alternative_supported table fs b k f (of_union x c k' d parts sh read) h = h
  alternative_supported table fs b k f (of_filler y e) h = h
  alternative_supported table fs b k f (of_complement y e d neg) h = h
  alternative_supported table fs b k f (of_joining y z) h = inl h
  alternative_supported table fs b k f (of_parting y z) h = (
    successor_is_node base fs any_role h.above y h.first,
    successor_is_node base fs any_role h.above z h.second,
    inl (λ e. h.are_two
        (sym (successor_is_rep fs any_role h.above y h.first) ∙ e ∙ successor_is_rep fs any_role h.above z h.second)),
  )

  branched : (table : List Shape) (is : List Item) (c : Choice) (k : ℕ) (f : Fact ℕ) → IsBuilt base G is
      → SupportsBranch base G (facts_of is) c.branch → IsAlternative table c.branch k f
      → IsBuilt base G (is ++ Mark c ∷ Says f ∷ [])
  branched table is c k f h about alt =
      subst (IsBuilt base G) (append_assoc is (Mark c ∷ []) (Says f ∷ []))
      (built_push base G (is ++ Mark c ∷ []) (Says f) (built_push base G is (Mark c) h about)
      (subst (λ (fs : List (Fact ℕ)). Supports base G fs (Says f)) (sym (facts_of-mark is c))
      (alternative_supported table (facts_of is) c.branch k f alt about)))

-- ---- Add

pub adds_supported : (w : SearchContext) (fs : List (Fact ℕ)) (x d : ℕ) → Adds w fs x d → x < node_count_from w.first fs
adds_supported w fs x d (by_and x' c d' parts lt h sh m) = lt
adds_supported w fs x d (by_all x' y c s e lt mt h sh edge) = mt
adds_supported w fs x d (by_carry x' y c s t e d' carried sh) = carried.end_is_node
adds_supported w fs x d (by_row x' row lt m used) = lt

-- ---- given facts

given_supported : (w : SearchContext) (fs : List (Fact ℕ)) (f : Fact ℕ) → IsGiven w f
    → Supports w.first (IsGiven w) fs (Says f)
given_supported w fs (Has x c) g = omega (arith, ltb-true x w.first g.on_first, first_le w.first fs)
given_supported w fs (Edge r x y) g =
    let t = and_parts (ltb x w.first) (ltb y w.first) g.on_first in
    (omega (arith, ltb-true x w.first t.0, first_le w.first fs), inr g)
given_supported w fs (Apart y z) g =
    let t = and_parts (ltb y w.first) (ltb z w.first) g.on_first in (
      omega (arith, ltb-true y w.first t.0, first_le w.first fs),
      omega (arith, ltb-true z w.first t.1, first_le w.first fs),
      inr g,
    )
given_supported w fs (Same y z) g = inr g

pub given_on_first : (w : SearchContext) (f : Fact ℕ) → IsGiven w f → speaks_below w.first f ≡ true
given_on_first w f g = g.on_first

-- ---- new nodes and choices

generates_supported : (w : SearchContext) (is : List Item) (new : List (Fact ℕ)) → IsBuilt w.first (IsGiven w) is
    → Generates w (facts_of is) new → AllAfter w.first (IsGiven w) is new
generates_supported w is new built (by_some x c s e at h sh none) =
    fresh_supported w.first (IsGiven w) is x s e 1
    (built_tree_shaped w.first (IsGiven w) (given_on_first w) is built).fresh at.is_node
generates_supported w is new built (by_least x c n s e at h sh none) =
    fresh_supported w.first (IsGiven w) is x s e n
    (built_tree_shaped w.first (IsGiven w) (given_on_first w) is built).fresh at.is_node

branch_supported : (w : SearchContext) (fs : List (Fact ℕ)) (b : Branch) → MayBranch w fs b
    → SupportsBranch w.first (IsGiven w) fs b
branch_supported w fs b (on_union x c parts lt h sh none) = lt
branch_supported w fs b (on_filler x c n s e y lt h sh next none out) =
    successor_is_node w.first fs (λ r. below_of w r s) x y next
branch_supported w fs b (on_pair x c n s e y z lt h sh more cy cz ne apart) =
    let all = filled_are_successors w.first (below_of w) fs x s e in
    let test : ℕ → Type 0 = λ v. is_successor fs (λ r. below_of w r s) x v ≡ true in
    record {
      above = x;
      first =
          any_successor fs (λ r. below_of w r s) x y
          (All-contains test (filled_successors w.first (below_of w) fs x s e) y all cy);
      second =
          any_successor fs (λ r. below_of w r s) x z
          (All-contains test (filled_successors w.first (below_of w) fs x s e) z all cz);
      are_two = ne;
      not_apart = apart;
    }

-- ---- any step

pub legal_built : (w : SearchContext) (old new : List Item) → IsBuilt w.first (IsGiven w) old → IsLegal w old new
    → IsBuilt w.first (IsGiven w) new
legal_built w old new h (add x d nc adds out) =
    built_push w.first (IsGiven w) old (Says (Has x d)) h (adds_supported w (facts_of old) x d adds)
legal_built w old new h (give f nc given out) =
    built_push w.first (IsGiven w) old (Says f) h (given_supported w (facts_of old) f given)
legal_built w old new h (generate fs nc makes) =
    built_says w.first (IsGiven w) old fs h (generates_supported w old fs h makes)
legal_built w old new h (choose c f nc may one alt) =
    branched w.first (IsGiven w) w.table old c 1 f h (branch_supported w (facts_of old) c.branch may) alt
legal_built w old new h (back place c f clash read alt) =
    let lt = slice_get_within old place (Mark c) read in
    let about : SupportsBranch w.first (IsGiven w) (facts_of (take place old)) c.branch =
    (let g = h place (Mark c) lt in rw (get_or_from_slice_get old place (Mark c) (Mark c) read) at g) in
    branched w.first (IsGiven w) w.table (take place old) (next_choice w c) (c.alternative + 1) f
    (built_take w.first (IsGiven w) old place h (omega (arith, lt))) about alt
