-- Each normal tree has a number in a longer table.
use Rattle.std.proofs.Common.{◌≡◌, ℕ, zero, suc, ◌<◌, ◌≤◌, ◌&&◌, leb, ltb, true, List, [], ◌∷◌, ◌++◌}
use Rattle.std.proofs.Common.{map, length, refl, ap, ◌∙◌, sym, subst, arith, inl, inr, length-append}
use Rattle.std.specs.Prelude.{All, slice_index_or, ⊤}
use Rattle.std.specs.List.{list_all, Contains}
use Rattle.std.proofs.lemmas.Bool.{and_parts, and_from, lt-ltb, ltb-true, cases_lt}
use Rattle.std.proofs.lemmas.List.{length-map}
use Rattle.std.proofs.lemmas.List.Elements.{All-nil, All-cons, All-head, All-tail}
use Rattle.role_box.specs.Concept.{Concept, top, bottom, name, complement, intersection, union, some_of, all_of}
use Rattle.role_box.specs.Concept.{at_least, at_most, exactly, Parts, no_parts, part, parts_of, part_list}
use Rattle.role_box.specs.Shape.{Shape, shape_of, has_parts_below, is_conjunct, is_disjunct, is_normal, IsTable}
use Rattle.role_box.specs.Shape.Shape.{top as top_shape, bottom as bottom_shape, name as name_shape, not_name}
use Rattle.role_box.specs.Shape.Shape.{intersection as and_shape, union as or_shape, some_of as some_shape}
use Rattle.role_box.specs.Shape.Shape.{all_of as all_shape, at_least as least_shape, at_most as most_shape}
use Rattle.role_box.specs.Tree.{tree_over, trees_of, tree_of}
use Rattle.calculus_specs.proofs.Tree.{tree_of-append, tree_of_new}
use Rattle.calculus_specs.proofs.Unique.{tree_of_shape}
use Rattle.shq_nnf.proofs.Grown.{table_with_new}
use Rattle.search_starts.specs.Normal.{is_conjunct_tree, is_disjunct_tree, is_normal_tree, are_conjuncts, are_disjuncts}

parts_again : (cs : Parts) → parts_of (part_list cs) ≡ cs
parts_again no_parts = refl
parts_again (part c cs) = ap (part c) (parts_again cs)

conjunct_shape : (trees : List Concept) (s : Shape) → is_conjunct_tree (tree_over trees s) ≡ true → is_conjunct s ≡ true
conjunct_shape trees top_shape h = cc
conjunct_shape trees bottom_shape h = cc
conjunct_shape trees (and_shape cs) h = cc
conjunct_shape trees (name_shape a) h = refl
conjunct_shape trees (not_name a) h = refl
conjunct_shape trees (or_shape cs) h = refl
conjunct_shape trees (some_shape r c) h = refl
conjunct_shape trees (all_shape r c) h = refl
conjunct_shape trees (least_shape n r c) h = refl
conjunct_shape trees (most_shape n r c) h = refl

disjunct_shape : (trees : List Concept) (s : Shape) → is_disjunct_tree (tree_over trees s) ≡ true → is_disjunct s ≡ true
disjunct_shape trees top_shape h = cc
disjunct_shape trees bottom_shape h = cc
disjunct_shape trees (or_shape cs) h = cc
disjunct_shape trees (name_shape a) h = refl
disjunct_shape trees (not_name a) h = refl
disjunct_shape trees (and_shape cs) h = refl
disjunct_shape trees (some_shape r c) h = refl
disjunct_shape trees (all_shape r c) h = refl
disjunct_shape trees (least_shape n r c) h = refl
disjunct_shape trees (most_shape n r c) h = refl

-- the number of a tree in a table
pub record Number (table : List Shape) (c : Concept) : Type 0 where
  pub number : ℕ
  pub listed : number < length table
  pub reads : tree_of table number ≡ c

-- concepts among which are their parts
pub record HasParts (Kind : Concept → Type 0) : Type 0 where
  pub conjunct : (cs : Parts) (c : Concept) → Kind (intersection cs) → Contains (part_list cs) c → Kind c
  pub disjunct : (cs : Parts) (c : Concept) → Kind (union cs) → Contains (part_list cs) c → Kind c
  pub some_filler : (r : ℕ) (c : Concept) → Kind (some_of r c) → Kind c
  pub all_filler : (r : ℕ) (c : Concept) → Kind (all_of r c) → Kind c
  pub least_filler : (n r : ℕ) (c : Concept) → Kind (at_least n r c) → Kind c
  pub most_filler : (n r : ℕ) (c : Concept) → Kind (at_most n r c) → Kind c

-- a longer table, of concepts of a kind
pub record Longer (Kind : Concept → Type 0) (table : List Shape) : Type 0 where
  pub after : List Shape
  pub is_table : IsTable after
  pub all_in : (n : ℕ) → n < length after → Kind (tree_of after n)
  pub longer : length table ≤ length after
  pub keeps : (n : ℕ) → n < length table → tree_of after n ≡ tree_of table n

pub record Put (Kind : Concept → Type 0) (table : List Shape) (c : Concept) : Type 0 where
  pub more : Longer Kind table
  pub has : Number more.after c

pub record PutParts (Kind : Concept → Type 0) (table : List Shape) (cs : Parts) : Type 0 where
  pub more : Longer Kind table
  pub numbers : List ℕ
  pub listed : list_all (λ n. ltb n (length more.after)) numbers ≡ true
  pub reads : map (tree_of more.after) numbers ≡ part_list cs

pub record Filled (Kind : Concept → Type 0) (table : List Shape) (cs : List Concept) : Type 0 where
  pub more : Longer Kind table
  pub each : All (Number more.after) cs

module _ (Kind : Concept → Type 0) where
  abbrev itself : (table : List Shape) → IsTable table → ((n : ℕ) → n < length table → Kind (tree_of table n))
      → Longer Kind table
  itself table good inside =
      record { after = table; is_table = good; all_in = inside; longer = omega arith; keeps = λ n lt. refl }

  abbrev then : (table : List Shape) (one : Longer Kind table) → Longer Kind one.after → Longer Kind table
  then table one two = record {
    after = two.after;
    is_table = two.is_table;
    all_in = two.all_in;
    longer = omega (arith, one.longer, two.longer);
    keeps = λ n lt. two.keeps n (omega (arith, one.longer, lt)) ∙ one.keeps n lt;
  }

  abbrev number_later : (table : List Shape) (more : Longer Kind table) (c : Concept) → Number table c
      → Number more.after c
  number_later table more c n = record {
    number = n.number;
    listed = omega (arith, n.listed, more.longer);
    reads = more.keeps n.number n.listed ∙ n.reads;
  }

  put_shape : (table : List Shape) → IsTable table → ((n : ℕ) → n < length table → Kind (tree_of table n)) → (s : Shape)
      → has_parts_below (length table) s ≡ true → is_normal table s ≡ true → (c : Concept)
      → tree_over (trees_of table) s ≡ c → Kind c → ¬ ¬ Put Kind table c
  put_shape table good inside s below normal c is of_kind none =
      let long = length-append table (s ∷ []) in
      none
      (record {
        more =
            record {
              after = table ++ s ∷ [];
              is_table = table_with_new table s good below normal absent;
              all_in = λ n lt. elim (cases_lt n (length table)) [
                | inl less ↦ subst Kind (sym (tree_of-append table (s ∷ []) n less)) (inside n less)
                | inr ge ↦
                    let e : n ≡ length table = omega (arith, long, lt, ge) in
                    subst Kind (sym (ap (tree_of (table ++ s ∷ [])) e ∙ tree_of_new table s [] ∙ is)) of_kind
              ];
              longer = omega (arith, long);
              keeps = λ n lt. tree_of-append table (s ∷ []) n lt;
            };
        has =
            record { number = length table; listed = omega (arith, long); reads = tree_of_new table s [] ∙ is };
      })
    where
      absent : (n : ℕ) → n < length table → shape_of table n ≡ s → ⊥
      absent n lt e =
          none
          (record {
            more = itself table good inside;
            has =
                record {
                  number = n;
                  listed = lt;
                  reads =
                      tree_of_shape table n lt (good.parts_below n lt) ∙ ap (tree_over (trees_of table)) e ∙ is;
                };
          })

  -- a tree over one other
  put_over : (table : List Shape) (e c : Concept) → ¬ ¬ Put Kind table e → (shape : ℕ → Shape)
      → ((n m : ℕ) → n < m → has_parts_below m (shape n) ≡ true)
      → ((t : List Shape) (n : ℕ) → is_normal t (shape n) ≡ true)
      → ((trees : List Concept) (n : ℕ) → slice_index_or trees n top ≡ e → tree_over trees (shape n) ≡ c) → Kind c
      → ¬ ¬ Put Kind table c
  put_over table e c has shape below normal over of_kind none =
      has
      (λ p.
      let t = p.more.after in
      put_shape t p.more.is_table p.more.all_in (shape p.has.number)
      (below p.has.number (length t) p.has.listed) (normal t p.has.number) c
      (over (trees_of t) p.has.number p.has.reads) of_kind
      (λ two. none (record { more = then table p.more two.more; has = two.has })))

  abbrev Fine : Parts → Type 0
  Fine no_parts = ⊤
  Fine (part c cs) = (is_normal_tree c ≡ true) × Kind c × Fine cs

  conjuncts_fine : (cs : Parts) → are_conjuncts cs ≡ true → ((c : Concept) → Contains (part_list cs) c → Kind c)
      → Fine cs
  conjuncts_fine no_parts h each = tt
  conjuncts_fine (part c cs) h each =
      let b = and_parts (is_conjunct_tree c && is_normal_tree c) (are_conjuncts cs) h in (
        (and_parts (is_conjunct_tree c) (is_normal_tree c) b.0).1,
        each c (0, omega arith, refl),
        conjuncts_fine cs b.1 (λ e at. each e (suc at.0, omega (arith, at.1), at.2)),
      )

  disjuncts_fine : (cs : Parts) → are_disjuncts cs ≡ true → ((c : Concept) → Contains (part_list cs) c → Kind c)
      → Fine cs
  disjuncts_fine no_parts h each = tt
  disjuncts_fine (part c cs) h each =
      let b = and_parts (is_disjunct_tree c && is_normal_tree c) (are_disjuncts cs) h in (
        (and_parts (is_disjunct_tree c) (is_normal_tree c) b.0).1,
        each c (0, omega arith, refl),
        disjuncts_fine cs b.1 (λ e at. each e (suc at.0, omega (arith, at.1), at.2)),
      )

  conjunct_numbers : (table : List Shape) → IsTable table → (ns : List ℕ) (cs : Parts)
      → list_all (λ n. ltb n (length table)) ns ≡ true → map (tree_of table) ns ≡ part_list cs
      → are_conjuncts cs ≡ true → list_all (λ n. is_conjunct (shape_of table n)) ns ≡ true
  conjunct_numbers table good [] cs lt e h = refl
  conjunct_numbers table good (n ∷ ns) no_parts lt e h = cc
  conjunct_numbers table good (n ∷ ns) (part c cs) lt e h =
      let l = and_parts (ltb n (length table)) (list_all (λ m. ltb m (length table)) ns) lt in
      let b = and_parts (is_conjunct_tree c && is_normal_tree c) (are_conjuncts cs) h in
      let here : tree_of table n ≡ c = cc in
      let rest : map (tree_of table) ns ≡ part_list cs = cc in
      let less = ltb-true n (length table) l.0 in
      let is : is_conjunct_tree (tree_over (trees_of table) (shape_of table n)) ≡ true =
      ap is_conjunct_tree (sym (tree_of_shape table n less (good.parts_below n less)) ∙ here)
      ∙ (and_parts (is_conjunct_tree c) (is_normal_tree c) b.0).0 in
      and_from (is_conjunct (shape_of table n)) (list_all (λ m. is_conjunct (shape_of table m)) ns)
      (conjunct_shape (trees_of table) (shape_of table n) is)
      (conjunct_numbers table good ns cs l.1 rest b.1)

  disjunct_numbers : (table : List Shape) → IsTable table → (ns : List ℕ) (cs : Parts)
      → list_all (λ n. ltb n (length table)) ns ≡ true → map (tree_of table) ns ≡ part_list cs
      → are_disjuncts cs ≡ true → list_all (λ n. is_disjunct (shape_of table n)) ns ≡ true
  disjunct_numbers table good [] cs lt e h = refl
  disjunct_numbers table good (n ∷ ns) no_parts lt e h = cc
  disjunct_numbers table good (n ∷ ns) (part c cs) lt e h =
      let l = and_parts (ltb n (length table)) (list_all (λ m. ltb m (length table)) ns) lt in
      let b = and_parts (is_disjunct_tree c && is_normal_tree c) (are_disjuncts cs) h in
      let here : tree_of table n ≡ c = cc in
      let rest : map (tree_of table) ns ≡ part_list cs = cc in
      let less = ltb-true n (length table) l.0 in
      let is : is_disjunct_tree (tree_over (trees_of table) (shape_of table n)) ≡ true =
      ap is_disjunct_tree (sym (tree_of_shape table n less (good.parts_below n less)) ∙ here)
      ∙ (and_parts (is_disjunct_tree c) (is_normal_tree c) b.0).0 in
      and_from (is_disjunct (shape_of table n)) (list_all (λ m. is_disjunct (shape_of table m)) ns)
      (disjunct_shape (trees_of table) (shape_of table n) is)
      (disjunct_numbers table good ns cs l.1 rest b.1)

  module _ (parts : HasParts Kind) where
    mutual
      put : (c : Concept) → is_normal_tree c ≡ true → Kind c → (table : List Shape) → IsTable table
          → ((n : ℕ) → n < length table → Kind (tree_of table n)) → ¬ ¬ Put Kind table c
      put top h of_kind table good inside = put_shape table good inside top_shape refl refl top refl of_kind
      put bottom h of_kind table good inside = put_shape table good inside bottom_shape refl refl bottom refl of_kind
      put (name a) h of_kind table good inside =
          put_shape table good inside (name_shape a) refl refl (name a) refl of_kind
      put (complement (name a)) h of_kind table good inside =
          put_shape table good inside (not_name a) refl refl (complement (name a)) refl of_kind
      put (complement top) h of_kind table good inside = cc
      put (complement bottom) h of_kind table good inside = cc
      put (complement (complement c)) h of_kind table good inside = cc
      put (complement (intersection cs)) h of_kind table good inside = cc
      put (complement (union cs)) h of_kind table good inside = cc
      put (complement (some_of r c)) h of_kind table good inside = cc
      put (complement (all_of r c)) h of_kind table good inside = cc
      put (complement (at_least n r c)) h of_kind table good inside = cc
      put (complement (at_most n r c)) h of_kind table good inside = cc
      put (complement (exactly n r c)) h of_kind table good inside = cc
      put (intersection cs) h of_kind table good inside =
          λ none.
          let b = and_parts (leb 2 (length (part_list cs))) (are_conjuncts cs) h in
          put_parts cs (conjuncts_fine cs b.1 (λ c at. parts.conjunct cs c of_kind at)) table good inside
          (λ p.
          let t = p.more.after in
          let long : length p.numbers ≡ length (part_list cs) =
          sym (length-map p.numbers (tree_of t)) ∙ ap (λ (l : List Concept). length l) p.reads in
          put_shape t p.more.is_table p.more.all_in (and_shape p.numbers) p.listed
          (and_from (leb 2 (length p.numbers)) (list_all (λ n. is_conjunct (shape_of t n)) p.numbers)
          (ap (leb 2) long ∙ b.0) (conjunct_numbers t p.more.is_table p.numbers cs p.listed p.reads b.1))
          (intersection cs)
          (ap (λ (l : List Concept). intersection (parts_of l)) p.reads ∙ ap intersection (parts_again cs)) of_kind
          (λ two. none (record { more = then table p.more two.more; has = two.has })))
      put (union cs) h of_kind table good inside =
          λ none.
          let b = and_parts (leb 2 (length (part_list cs))) (are_disjuncts cs) h in
          put_parts cs (disjuncts_fine cs b.1 (λ c at. parts.disjunct cs c of_kind at)) table good inside
          (λ p.
          let t = p.more.after in
          let long : length p.numbers ≡ length (part_list cs) =
          sym (length-map p.numbers (tree_of t)) ∙ ap (λ (l : List Concept). length l) p.reads in
          put_shape t p.more.is_table p.more.all_in (or_shape p.numbers) p.listed
          (and_from (leb 2 (length p.numbers)) (list_all (λ n. is_disjunct (shape_of t n)) p.numbers)
          (ap (leb 2) long ∙ b.0) (disjunct_numbers t p.more.is_table p.numbers cs p.listed p.reads b.1))
          (union cs)
          (ap (λ (l : List Concept). union (parts_of l)) p.reads ∙ ap union (parts_again cs)) of_kind
          (λ two. none (record { more = then table p.more two.more; has = two.has })))
      put (some_of r c) h of_kind table good inside =
          put_over table c (some_of r c) (put c h (parts.some_filler r c of_kind) table good inside) (some_shape r)
          (λ n m lt. lt-ltb n m lt) (λ t n. refl) (λ trees n e. ap (some_of r) e) of_kind
      put (all_of r c) h of_kind table good inside =
          put_over table c (all_of r c) (put c h (parts.all_filler r c of_kind) table good inside) (all_shape r)
          (λ n m lt. lt-ltb n m lt) (λ t n. refl) (λ trees n e. ap (all_of r) e) of_kind
      put (at_least k r c) h of_kind table good inside =
          let b = and_parts (leb 2 k && leb k 101) (is_normal_tree c) h in
          put_over table c (at_least k r c) (put c b.1 (parts.least_filler k r c of_kind) table good inside)
          (least_shape k r) (λ n m lt. lt-ltb n m lt) (λ t n. b.0) (λ trees n e. ap (at_least k r) e) of_kind
      put (at_most k r c) h of_kind table good inside =
          let b = and_parts (leb 1 k && leb k 100) (is_normal_tree c) h in
          put_over table c (at_most k r c) (put c b.1 (parts.most_filler k r c of_kind) table good inside)
          (most_shape k r) (λ n m lt. lt-ltb n m lt) (λ t n. b.0) (λ trees n e. ap (at_most k r) e) of_kind
      put (exactly k r c) h of_kind table good inside = cc

      put_parts : (cs : Parts) → Fine cs → (table : List Shape) → IsTable table
          → ((n : ℕ) → n < length table → Kind (tree_of table n)) → ¬ ¬ PutParts Kind table cs
      put_parts no_parts fine table good inside none =
          none (record { more = itself table good inside; numbers = []; listed = refl; reads = refl })
      put_parts (part c cs) fine table good inside none =
          put c fine.0 fine.1 table good inside
          (λ p.
          put_parts cs fine.2 p.more.after p.more.is_table p.more.all_in
          (λ ps.
          let number = number_later p.more.after ps.more c p.has in
          let reads = number.reads in
          none
          (record {
            more = then table p.more ps.more;
            numbers = number.number ∷ ps.numbers;
            listed =
                and_from (ltb number.number (length ps.more.after))
                (list_all (λ n. ltb n (length ps.more.after)) ps.numbers)
                (lt-ltb number.number (length ps.more.after) number.listed) ps.listed;
            reads = λ i. reads i ∷ ps.reads i;
          })))

    pub fill : (cs : List Concept) → All (λ c. (is_normal_tree c ≡ true) × Kind c) cs → (table : List Shape)
        → IsTable table → ((n : ℕ) → n < length table → Kind (tree_of table n)) → ¬ ¬ Filled Kind table cs
    fill [] all table good inside none =
        none (record { more = itself table good inside; each = All-nil (Number table) })
    fill (c ∷ cs) all table good inside none =
        let here = All-head (λ e. (is_normal_tree e ≡ true) × Kind e) c cs all in
        put c here.0 here.1 table good inside
        (λ p.
        fill cs (All-tail (λ e. (is_normal_tree e ≡ true) × Kind e) c cs all) p.more.after p.more.is_table p.more.all_in
        (λ f.
        none
        (record {
          more = then table p.more f.more;
          each = All-cons (Number f.more.after) c cs (number_later p.more.after f.more c p.has) f.each;
        })))

-- the table of top alone
pub one_shape : IsTable (top_shape ∷ [])
one_shape = record {
  has_top = omega arith;
  begins_with_top = refl;
  parts_below = below;
  are_normal = normal;
  are_distinct = λ c d lt mt e. one c d lt mt;
}
  where
    one : (c d : ℕ) → c < length (top_shape ∷ []) → d < length (top_shape ∷ []) → c ≡ d
    one c d lt mt = omega (arith, lt, mt)

    below : (c : ℕ) → c < length (top_shape ∷ []) → has_parts_below c (shape_of (top_shape ∷ []) c) ≡ true
    below zero lt = refl
    below (suc c) lt = absurd (omega (arith, lt))

    normal : (c : ℕ) → c < length (top_shape ∷ []) → is_normal (top_shape ∷ []) (shape_of (top_shape ∷ []) c) ≡ true
    normal zero lt = refl
    normal (suc c) lt = absurd (omega (arith, lt))
