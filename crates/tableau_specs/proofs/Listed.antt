-- The numbers of a reached trail are in the table.
use Rattle.std.proofs.Common.{◌≡◌, ℕ, zero, suc, ◌+◌, ◌<◌, ltb, true, List, [], ◌∷◌, ◌++◌, length, take, refl, ap, ◌∙◌}
use Rattle.std.proofs.Common.{sym, subst, arith, inl, inr}
use Rattle.std.specs.List.{list_all, All, Contains}
use Rattle.std.proofs.lemmas.List.{get_or_past}
use Rattle.std.proofs.lemmas.List.Elements.{All-nil, All-cons, All-head, All-tail, All-append, All-push, All-take}
use Rattle.std.proofs.lemmas.List.Elements.{All-contains, All-get_or}
use Rattle.std.proofs.lemmas.Bool.{cases_lt, ltb-true, lt-ltb, and_parts}
use Rattle.std.proofs.lemmas.Option.{slice_get_within, get_or_from_slice_get}
use Rattle.calculus_specs.specs.Shape.{Shape, shape_of, has_parts_below, IsTable}
use Rattle.calculus_specs.specs.Shape.Shape.{top, intersection, union, some_of, all_of, at_least, at_most}
use Rattle.calculus_specs.specs.Rows.{Row, IsRowOf, IsChoice}
use Rattle.calculus_specs.specs.declared.facts.Fact.{Fact}
use Rattle.calculus_specs.specs.declared.facts.Fact.TheVariants.{Has}
use Rattle.calculus_specs.specs.State.{new_nodes, apart_from, pairwise_apart, fresh_facts, node_count_from}
use Rattle.calculus_specs.specs.Reading.{is_fact_listed, are_listed}
use Rattle.tableau_specs.specs.declared.Branch.{Branch}
use Rattle.tableau_specs.specs.declared.Branch.TheVariants.{Or, Choose, Pair}
use Rattle.tableau_specs.specs.declared.Choice.{Choice}
use Rattle.tableau_specs.specs.declared.Item.{Item}
use Rattle.tableau_specs.specs.declared.Item.TheVariants.{Fact as Says, Mark}
use Rattle.tableau_specs.specs.Items.{facts_of, says}
use Rattle.tableau_specs.specs.Steps.{SearchContext, IsGiven, Adds, Generates, MayBranch, IsAlternative, IsLegal}
use Rattle.tableau_specs.specs.Steps.{next_choice}
use Rattle.tableau_specs.specs.Steps.Adds.{by_and, by_all, by_carry, by_row}
use Rattle.tableau_specs.specs.Steps.Generates.{by_some, by_least}
use Rattle.tableau_specs.specs.Steps.MayBranch.{on_union, on_filler, on_pair}
use Rattle.tableau_specs.specs.Steps.IsAlternative.{of_union, of_filler, of_complement, of_joining, of_parting}
use Rattle.tableau_specs.specs.Steps.IsLegal.{add, give, generate, choose, back}
use Rattle.tableau_specs.specs.Reached.{start, Follows, context_of, IsReached}
use Rattle.calculus_specs.specs.Rules.{Question}

-- ---- numbers of a table

-- a number whose shape is not top is in the table
pub listed : (table : List Shape) (c : ℕ) → ¬ (shape_of table c ≡ top) → c < length table
listed table c ne = elim (cases_lt c (length table)) [ inl lt ↦ lt | inr ge ↦ absurd (ne (get_or_past table c top ge)) ]

-- the parts of its shape are below it
parts_below : (table : List Shape) → IsTable table → (c : ℕ) (s : Shape) → shape_of table c ≡ s → ¬ (s ≡ top)
    → (c < length table) × (has_parts_below c s ≡ true)
parts_below table good c s e ne =
    let lt = listed table c (λ k. ne (sym e ∙ k)) in
    (lt, sym (ap (has_parts_below c) e) ∙ good.parts_below c lt)

all_below : (n : ℕ) (cs : List ℕ) → list_all (λ c. ltb c n) cs ≡ true → All (λ c. c < n) cs
all_below n [] h = All-nil (λ c. c < n)
all_below n (c ∷ cs) h =
    let t = and_parts (ltb c n) (list_all (λ d. ltb d n) cs) h in
    All-cons (λ d. d < n) c cs (ltb-true c n t.0) (all_below n cs t.1)

member_below : (n : ℕ) (cs : List ℕ) (d : ℕ) → list_all (λ c. ltb c n) cs ≡ true → Contains cs d → d < n
member_below n cs d h m = All-contains (λ c. c < n) cs d (all_below n cs h) m

module _ (w : SearchContext) (good : IsTable w.table) where
  pub all_listed : (c s e : ℕ) → shape_of w.table c ≡ all_of s e → e < length w.table
  all_listed c s e sh =
      let t = parts_below w.table good c (all_of s e) sh (λ k. cc) in omega (arith, t.0, ltb-true e c t.1)

  pub some_listed : (c s e : ℕ) → shape_of w.table c ≡ some_of s e → e < length w.table
  some_listed c s e sh =
      let t = parts_below w.table good c (some_of s e) sh (λ k. cc) in omega (arith, t.0, ltb-true e c t.1)

  pub least_listed : (c n s e : ℕ) → shape_of w.table c ≡ at_least n s e → e < length w.table
  least_listed c n s e sh =
      let t = parts_below w.table good c (at_least n s e) sh (λ k. cc) in omega (arith, t.0, ltb-true e c t.1)

  pub most_listed : (c n s e : ℕ) → shape_of w.table c ≡ at_most n s e → e < length w.table
  most_listed c n s e sh =
      let t = parts_below w.table good c (at_most n s e) sh (λ k. cc) in omega (arith, t.0, ltb-true e c t.1)

  pub part_listed : (c d : ℕ) (parts : List ℕ) → shape_of w.table c ≡ intersection parts → Contains parts d
      → d < length w.table
  part_listed c d parts sh m =
      let t = parts_below w.table good c (intersection parts) sh (λ k. cc) in
      omega (arith, t.0, member_below c parts d t.1 m)

  pub disjunct_listed : (c d : ℕ) (parts : List ℕ) → shape_of w.table c ≡ union parts → Contains parts d
      → d < length w.table
  disjunct_listed c d parts sh m =
      let t = parts_below w.table good c (union parts) sh (λ k. cc) in omega (arith, t.0, member_below c parts d t.1 m)

-- ---- items

abbrev pub BranchListed : ℕ → Branch → Type 0
BranchListed n (Or x c) = Unit {0}
BranchListed n (Choose y e) = e < n
BranchListed n (Pair y z) = Unit {0}

abbrev pub ItemListed : ℕ → Item → Type 0
ItemListed n (Says f) = is_fact_listed n f ≡ true
ItemListed n (Mark c) = BranchListed n c.branch

pub facts_listed : (n : ℕ) (is : List Item) → All (ItemListed n) is → are_listed n (facts_of is) ≡ true
facts_listed n [] h = refl
facts_listed n (Says f ∷ is) h =
    rw (All-head (ItemListed n) (Says f) is h) (facts_listed n is (All-tail (ItemListed n) (Says f) is h))
facts_listed n (Mark c ∷ is) h = facts_listed n is (All-tail (ItemListed n) (Mark c) is h)

says_listed : (n : ℕ) (fs : List (Fact ℕ)) → are_listed n fs ≡ true → All (ItemListed n) (says fs)
says_listed n [] h = All-nil (ItemListed n)
says_listed n (f ∷ fs) h =
    let t = and_parts (is_fact_listed n f) (are_listed n fs) h in
    All-cons (ItemListed n) (Says f) (says fs) t.0 (says_listed n fs t.1)

apart_listed : (n y z k : ℕ) (rest : List (Fact ℕ)) → are_listed n rest ≡ true
    → are_listed n (apart_from y z k ++ rest) ≡ true
apart_listed n y z zero rest h = h
apart_listed n y z (suc k) rest h = apart_listed n y (z + 1) k rest h

pairs_listed : (n first k : ℕ) → are_listed n (pairwise_apart first k) ≡ true
pairs_listed n first zero = refl
pairs_listed n first (suc k) =
    apart_listed n first (first + 1) k (pairwise_apart (first + 1) k) (pairs_listed n (first + 1) k)

nodes_listed : (n x s e first k : ℕ) (rest : List (Fact ℕ)) → e < n → are_listed n rest ≡ true
    → are_listed n (new_nodes x s e first k ++ rest) ≡ true
nodes_listed n x s e first zero rest lt h = h
nodes_listed n x s e first (suc k) rest lt h = rw (lt-ltb e n lt) (nodes_listed n x s e (first + 1) k rest lt h)

fresh_listed : (n x s e first k : ℕ) → e < n → are_listed n (fresh_facts x s e first k) ≡ true
fresh_listed n x s e first k lt = nodes_listed n x s e first k (pairwise_apart first k) lt (pairs_listed n first k)

-- ---- steps

module _ (q : Question) (table : List Shape) (rows : List Row) (good : IsTable table)
    (fits : IsChoice q.theory table rows) where
  abbrev context : SearchContext
  context = context_of q table rows

  adds_listed : (fs : List (Fact ℕ)) (x d : ℕ) → Adds context fs x d → d < length table
  adds_listed fs x d (by_and x' c d' parts lt h sh m) = part_listed context good c d parts sh m
  adds_listed fs x d (by_all x' y c s e lt mt h sh edge) = all_listed context good c s d sh
  adds_listed fs x d (by_carry x' y c s t e d' carried sh) = listed table d (λ k. (let l = sym sh ∙ k in cc))
  adds_listed fs x d (by_row x' row lt m used) = (All-contains (IsRowOf q.theory table) rows row fits.rows_fit m).listed

  given_listed : (f : Fact ℕ) → IsGiven context f → is_fact_listed (length table) f ≡ true
  given_listed f h = h.listed

  generates_listed : (fs new : List (Fact ℕ)) → Generates context fs new → are_listed (length table) new ≡ true
  generates_listed fs new (by_some x c s e at h sh none) =
      fresh_listed (length table) x s e (node_count_from q.first fs) 1 (some_listed context good c s e sh)
  generates_listed fs new (by_least x c n s e at h sh none) =
      fresh_listed (length table) x s e (node_count_from q.first fs) n (least_listed context good c n s e sh)

  pub branch_listed : (fs : List (Fact ℕ)) (b : Branch) → MayBranch context fs b → BranchListed (length table) b
  branch_listed fs b (on_union x c parts lt h sh none) = tt
  branch_listed fs b (on_filler x c n s e y lt h sh next none out) = most_listed context good c n s e sh
  branch_listed fs b (on_pair x c n s e y z lt h sh more cy cz ne apart) = tt

  alternative_listed : (b : Branch) (k : ℕ) (f : Fact ℕ) → IsAlternative table b k f → BranchListed (length table) b
      → is_fact_listed (length table) f ≡ true
  alternative_listed b k f (of_union x c k' d parts sh read) h =
      let m : Contains parts d = (k', slice_get_within parts k' d read, get_or_from_slice_get parts k' d d read) in
      lt-ltb d (length table) (disjunct_listed context good c d parts sh m)
  alternative_listed b k f (of_filler y e) h = lt-ltb e (length table) h
  alternative_listed b k f (of_complement y e d neg) h = lt-ltb d (length table) neg.listed
  alternative_listed b k f (of_joining y z) h = refl
  alternative_listed b k f (of_parting y z) h = refl

  branched_listed : (is : List Item) (c : Choice) (k : ℕ) (f : Fact ℕ) → All (ItemListed (length table)) is
      → BranchListed (length table) c.branch → IsAlternative table c.branch k f
      → All (ItemListed (length table)) (is ++ Mark c ∷ Says f ∷ [])
  branched_listed is c k f h about alt =
      All-append (ItemListed (length table)) is (Mark c ∷ Says f ∷ []) h
      (All-cons (ItemListed (length table)) (Mark c) (Says f ∷ []) about
      (All-cons (ItemListed (length table)) (Says f) [] (alternative_listed c.branch k f alt about)
      (All-nil (ItemListed (length table)))))

  legal_listed : (old new : List Item) → All (ItemListed (length table)) old → IsLegal context old new
      → All (ItemListed (length table)) new
  legal_listed old new h (add x d nc adds out) =
      All-push (ItemListed (length table)) old (Says (Has x d)) h
      (lt-ltb d (length table) (adds_listed (facts_of old) x d adds))
  legal_listed old new h (give f nc given' out) =
      All-push (ItemListed (length table)) old (Says f) h (given_listed f given')
  legal_listed old new h (generate fs nc makes) =
      All-append (ItemListed (length table)) old (says fs) h
      (says_listed (length table) fs (generates_listed (facts_of old) fs makes))
  legal_listed old new h (choose c f nc may one alt) =
      branched_listed old c 1 f h (branch_listed (facts_of old) c.branch may) alt
  legal_listed old new h (back place c f clash read alt) =
      let about : BranchListed (length table) c.branch =
      (let g = All-get_or (ItemListed (length table)) old place (Mark c) (slice_get_within old place (Mark c) read) h in
      rw (get_or_from_slice_get old place (Mark c) (Mark c) read) at g) in
      branched_listed (take place old) (next_choice context c) (c.alternative + 1) f
      (All-take (ItemListed (length table)) place old h) about alt

  pub follows_listed : (first : List Item) (k : ℕ) (trail : List Item) → All (ItemListed (length table)) first
      → Follows context first k trail → All (ItemListed (length table)) trail
  follows_listed first zero trail h r = subst (All (ItemListed (length table))) (sym r) h
  follows_listed first (suc k) trail h r = legal_listed r.0 trail (follows_listed first k r.0 h r.1) r.2

pub start_listed : (n at a b : ℕ) → a < n → b < n → All (ItemListed n) (start at a b)
start_listed n at a b lt mt =
    All-cons (ItemListed n) (Says (Has at a)) (Says (Has at b) ∷ []) (lt-ltb a n lt)
    (All-cons (ItemListed n) (Says (Has at b)) [] (lt-ltb b n mt) (All-nil (ItemListed n)))

pub reached_items_listed : (q : Question) (table : List Shape) (rows : List Row) (k : ℕ) (trail : List Item)
    → IsReached q table rows k trail → All (ItemListed (length table)) trail
reached_items_listed q table rows k trail r =
    follows_listed q table rows r.is_table r.is_choice (start q.at r.sub_number r.not_sup_number) k trail
    (start_listed (length table) q.at r.sub_number r.not_sup_number r.sub_listed r.not_sup_listed) r.follows

pub reached_listed : (q : Question) (table : List Shape) (rows : List Row) (k : ℕ) (trail : List Item)
    → IsReached q table rows k trail → are_listed (length table) (facts_of trail) ≡ true
reached_listed q table rows k trail r = facts_listed (length table) trail (reached_items_listed q table rows k trail r)
