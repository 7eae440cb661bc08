-- Parts by number, and the rows of parts in order.
use Rattle.std.proofs.Common.{◌≡◌, ℕ, zero, suc, ◌+◌, ◌<◌, Bool, true, false, cond, List, [], ◌∷◌, ◌++◌, map, take}
use Rattle.std.proofs.Common.{drop, length, get_or, Option, Some, None, refl, ap, sym, subst, ◌∙◌, arith, append_assoc}
use Rattle.std.proofs.Common.{append-nil}
use Rattle.std.specs.Option.{option_or}
use Rattle.std.proofs.lemmas.List.{take_more, drop_more}
use Rattle.shq_terms.specs.Concept.{Concept}
use Rattle.calculus_specs.specs.Shape.{Shape, shape_of, IsTable}
use Rattle.calculus_specs.specs.Shape.Shape.{top as top_shape, bottom as bottom_shape, name as name_shape, not_name}
use Rattle.calculus_specs.specs.Shape.Shape.{intersection as intersection_shape, union as union_shape}
use Rattle.calculus_specs.specs.Shape.Shape.{some_of as some_shape, all_of as all_shape, at_least as least_shape}
use Rattle.calculus_specs.specs.Shape.Shape.{at_most as most_shape}
use Rattle.calculus_specs.specs.Tree.{tree_over, trees_of, tree_of}
use Rattle.calculus_specs.specs.Rows.{Part, inclusion, range, NumberedPart, is_name, conjunct_at, row_concept}
use Rattle.shq_terms.specs.declared.axioms.Numbered.{Numbered}
use Rattle.row_cache.specs.Part.{Part as PartByNumber}
use Rattle.row_cache.specs.Part.TheVariants.{Inclusion, Range}
use Rattle.row_cache.specs.Numbers.{Extends, IsNumber, AreNumbers}
use Rattle.row_cache.specs.Parts.{StandsForPart, part_in}
use Rattle.row_cache.proofs.Numbers.{shape_tree, tree_stays, number_stays, numbers_stay}
use Rattle.row_cache.specs.Theory.{parts_at, numbered_parts, named_parts}
use Rattle.row_cache.specs.declared.cached_row.CachedRow.{CachedRow}
use Rattle.row_cache.specs.Rows.{PlainRow, IsRow, row_for}
use Rattle.absorption.specs.Triggers.{name_positions, role_of_some, first_role, inclusion_trigger, trigger_for}
use Rattle.absorption.specs.Triggers.{premises_for}
use Rattle.absorption.proofs.Positions.{positions_are_names, inclusion_row}
use Rattle.absorption.specs.declared.row.Row.{Row}
use Rattle.absorption.specs.Rows.{role_of_shape, plain_trigger, plain_part, IsListedPart, IsRowOfPart, IsRowOf}
use Rattle.absorption.specs.Rows.{AreRowsOf}

-- ---- parts by number

pub part_listed : (t : List Shape) (k : PartByNumber) (q : Part) → StandsForPart t k q → IsListedPart t k
part_listed t (Inclusion ns n) (inclusion cs d) h =
    (record { listed = h.0.listed; stand_for = refl }, record { listed = h.1.listed; stands_for = refl })
part_listed t (Inclusion ns n) (range r d) h = absurd h
part_listed t (Range r n) (inclusion cs d) h = absurd h
part_listed t (Range r n) (range s d) h = (refl, record { listed = h.1.listed; stands_for = refl })

pub part_read : (t : List Shape) (k : PartByNumber) (q : Part) → StandsForPart t k q → plain_part t k ≡ q
part_read t (Inclusion ns n) (inclusion cs d) h = λ i. inclusion (h.0.stand_for i) (h.1.stands_for i)
part_read t (Inclusion ns n) (range r d) h = absurd h
part_read t (Range r n) (inclusion cs d) h = absurd h
part_read t (Range r n) (range s d) h = λ i. range (h.0 i) (h.1.stands_for i)

-- ---- the row of an inclusion

same_premises : (cs : List Concept) (d : Concept) (ps : List ℕ) (o : Option ℕ)
    → premises_for (inclusion cs d) (inclusion_trigger ps o) ≡ map (conjunct_at cs) ps
same_premises cs d [] None = refl
same_premises cs d [] (Some r) = refl
same_premises cs d (p ∷ ps) o = refl

row_there : (u : List Shape) (cs : List Concept) (d : Concept) (k : CachedRow)
    → IsRow u (row_for (Some (inclusion cs d)) (name_positions 1 cs)) (Some k)
    → AreNumbers u k.premises (map (conjunct_at cs) (name_positions 1 cs))
    × IsNumber u k.concept (row_concept cs d (name_positions 1 cs))
row_there u cs d k h =
    let row : PlainRow = record {
      premises = map (conjunct_at cs) (name_positions 1 cs);
      concept = row_concept cs d (name_positions 1 cs);
    } in
    subst (λ (b : Bool). IsRow u (cond b (Some row) None) (Some k)) (positions_are_names cs) h

pub made_row : (u : List Shape) (cs : List Concept) (d : Concept) (r : Row) (k : CachedRow)
    → plain_trigger r.trigger ≡ inclusion_trigger (name_positions 1 cs) (first_role cs) → r.concept ≡ k.concept
    → r.premises ≡ k.premises
    → IsRow u (row_for (Some (inclusion cs d)) (name_positions 1 cs)) (Some k)
    → IsRowOfPart u r.«axiom» r.part (inclusion cs d) r
made_row u cs d r k trigger concept premises h =
    let there = row_there u cs d k h in
    let ps = name_positions 1 cs in
    record {
      axiom_is = refl;
      part_is = refl;
      trigger_is = trigger;
      listed = subst (λ (n : ℕ). n < length u) (sym concept) there.1.listed;
      concept_is = inclusion_row cs d ∙ ap Some (sym (ap (tree_of u) concept ∙ there.1.stands_for));
      premises_are =
          subst (λ (l : List ℕ). AreNumbers u l (premises_for (inclusion cs d) (trigger_for (inclusion cs d))))
          (sym premises)
          (subst (λ (l : List Concept). AreNumbers u k.premises l) (sym (same_premises cs d ps (first_role cs)))
          there.0);
    }

pub no_row : (u : List Shape) (cs : List Concept) (d : Concept)
    → IsRow u (row_for (Some (inclusion cs d)) (name_positions 1 cs)) None → ⊥
no_row u cs d h =
    let row : PlainRow = record {
      premises = map (conjunct_at cs) (name_positions 1 cs);
      concept = row_concept cs d (name_positions 1 cs);
    } in
    subst (λ (b : Bool). IsRow u (cond b (Some row) None) None) (positions_are_names cs) h

-- ---- rows stay while the table grows

pub row_stays : (t u : List Shape) (a p : ℕ) (q : Part) (r : Row) → Extends t u → IsRowOfPart t a p q r
    → IsRowOfPart u a p q r
row_stays t u a p q r e h = record {
  axiom_is = h.axiom_is;
  part_is = h.part_is;
  trigger_is = h.trigger_is;
  listed =
      (number_stays t u r.concept (tree_of t r.concept) e (record { listed = h.listed; stands_for = refl })).listed;
  concept_is = h.concept_is ∙ ap Some (sym (tree_stays t u e r.concept h.listed));
  premises_are = numbers_stay t u r.premises (premises_for q (trigger_for q)) e h.premises_are;
}

pub rows_stay : (t u : List Shape) (ns : List NumberedPart) (rows : List Row) → Extends t u → AreRowsOf t ns rows
    → AreRowsOf u ns rows
rows_stay t u [] [] e h = tt
rows_stay t u [] (r ∷ rs) e h = absurd h
rows_stay t u (n ∷ ns) [] e h = absurd h
rows_stay t u (n ∷ ns) (r ∷ rs) e h =
    (row_stays t u n.axiom_number n.part_number n.part r e h.0, rows_stay t u ns rs e h.1)

rows_push : (t : List Shape) (ns : List NumberedPart) (rows : List Row) (n : NumberedPart) (r : Row)
    → AreRowsOf t ns rows → IsRowOf t n r → AreRowsOf t (ns ++ n ∷ []) (rows ++ r ∷ [])
rows_push t [] [] n r h is = (is, tt)
rows_push t [] (s ∷ rs) n r h is = absurd h
rows_push t (m ∷ ms) [] n r h is = absurd h
rows_push t (m ∷ ms) (s ∷ rs) n r h is = (h.0, rows_push t ms rs n r h.1 is)

-- ---- parts with their numbers

abbrev numbered_part : ℕ → ℕ → Part → NumberedPart
numbered_part a p q = record { axiom_number = a; part_number = p; part = q }

pub length-numbered_parts : (a first : ℕ) (qs : List Part) → length (numbered_parts a first qs) ≡ length qs
length-numbered_parts a first [] = refl
length-numbered_parts a first (q ∷ qs) = ap suc (length-numbered_parts a (first + 1) qs)

get_or-numbered_parts : (a first : ℕ) (qs : List Part) (i : ℕ) (d : NumberedPart) → i < length qs
    → get_or (numbered_parts a first qs) i d ≡ numbered_part a (first + i) (part_in qs i)
get_or-numbered_parts a first [] i d lt = absurd (omega arith)
get_or-numbered_parts a first (q ∷ qs) zero d lt =
    let e : first ≡ first + 0 = omega arith in ap (λ (n : ℕ). numbered_part a n q) e
get_or-numbered_parts a first (q ∷ qs) (suc i) d lt =
    let e : (first + 1) + i ≡ first + suc i = omega arith in
    get_or-numbered_parts a (first + 1) qs i d (omega arith) ∙ ap (λ (n : ℕ). numbered_part a n (part_in qs i)) e

-- one part more
pub one_part_more : (t u : List Shape) (ns : List NumberedPart) (a : ℕ) (qs : List Part) (i : ℕ) (rows : List Row)
    (r : Row)
    → i < length qs → Extends t u
    → AreRowsOf t (ns ++ take i (numbered_parts a 1 qs)) rows → IsRowOfPart u a (i + 1) (part_in qs i) r
    → AreRowsOf u (ns ++ take (i + 1) (numbered_parts a 1 qs)) (rows ++ r ∷ [])
one_part_more t u ns a qs i rows r lt e h is =
    let done = take i (numbered_parts a 1 qs) in
    let next = numbered_part a (i + 1) (part_in qs i) in
    let order : 1 + i ≡ i + 1 = omega arith in
    let here : get_or (numbered_parts a 1 qs) i next ≡ next =
    get_or-numbered_parts a 1 qs i next lt ∙ ap (λ (n : ℕ). numbered_part a n (part_in qs i)) order in
    let long : i < length (numbered_parts a 1 qs) = omega (arith, lt, length-numbered_parts a 1 qs) in
    let more : take (i + 1) (numbered_parts a 1 qs) ≡ done ++ next ∷ [] =
    take_more (numbered_parts a 1 qs) i next long ∙ ap (λ (n : NumberedPart). done ++ n ∷ []) here in
    subst (λ (l : List NumberedPart). AreRowsOf u l (rows ++ r ∷ []))
    (append_assoc ns done (next ∷ []) ∙ ap (λ (l : List NumberedPart). ns ++ l) (sym more))
    (rows_push u (ns ++ done) rows next r (rows_stay t u (ns ++ done) rows e h) is)

pub named_parts-push : (axioms : List Numbered) (ks : List ℕ) (k : ℕ)
    → named_parts axioms (ks ++ k ∷ []) ≡ named_parts axioms ks ++ numbered_parts k 1 (parts_at axioms k)
named_parts-push axioms [] k = append-nil (numbered_parts k 1 (parts_at axioms k))
named_parts-push axioms (j ∷ ks) k =
    ap (λ (l : List NumberedPart). numbered_parts j 1 (parts_at axioms j) ++ l) (named_parts-push axioms ks k)
    ∙ sym (append_assoc (numbered_parts j 1 (parts_at axioms j)) (named_parts axioms ks)
    (numbered_parts k 1 (parts_at axioms k)))

-- ---- walks over conjuncts

role_over : (trees : List Concept) (s : Shape) → role_of_shape s ≡ role_of_some (tree_over trees s)
role_over trees top_shape = refl
role_over trees bottom_shape = refl
role_over trees (name_shape a) = refl
role_over trees (not_name a) = refl
role_over trees (intersection_shape cs) = refl
role_over trees (union_shape cs) = refl
role_over trees (some_shape r c) = refl
role_over trees (all_shape r c) = refl
role_over trees (least_shape n r c) = refl
role_over trees (most_shape n r c) = refl

pub shaped_role : (t : List Shape) → IsTable t → (c : ℕ) → c < length t
    → role_of_shape (shape_of t c) ≡ role_of_some (tree_of t c)
shaped_role t good c lt = role_over (trees_of t) (shape_of t c) ∙ sym (ap role_of_some (shape_tree t good c lt))

module _ (f : ℕ → Concept) (cs : List ℕ) (i : ℕ) (lt : i < length cs) where
  abbrev left : List Concept
  left = map f (drop (i + 1) cs)

  here : map f (drop i cs) ≡ f (get_or cs i 0) ∷ left
  here = ap (map f) (drop_more cs i 0 lt)

  pub name_here : (ps : List ℕ) → true ≡ is_name (f (get_or cs i 0))
      → (ps ++ (i + 1) ∷ []) ++ name_positions ((i + 1) + 1) left ≡ ps ++ name_positions (i + 1) (map f (drop i cs))
  name_here ps h =
      append_assoc ps ((i + 1) ∷ []) (name_positions ((i + 1) + 1) left)
      ∙ ap (λ (l : List ℕ). ps ++ l)
      (sym (ap (name_positions (i + 1)) here
      ∙ ap (λ (b : Bool). cond b ((i + 1) ∷ name_positions ((i + 1) + 1) left) (name_positions ((i + 1) + 1) left))
      (sym h)))

  pub no_name_here : (ps : List ℕ) → false ≡ is_name (f (get_or cs i 0))
      → ps ++ name_positions ((i + 1) + 1) left ≡ ps ++ name_positions (i + 1) (map f (drop i cs))
  no_name_here ps h =
      ap (λ (l : List ℕ). ps ++ l)
      (sym (ap (name_positions (i + 1)) here
      ∙ ap (λ (b : Bool). cond b ((i + 1) ∷ name_positions ((i + 1) + 1) left) (name_positions ((i + 1) + 1) left))
      (sym h)))

  pub role_here : (o : Option ℕ) → o ≡ role_of_some (f (get_or cs i 0))
      → first_role (map f (drop i cs)) ≡ option_or o (first_role left)
  role_here o e = ap first_role here ∙ ap (λ (p : Option ℕ). option_or p (first_role left)) (sym e)
