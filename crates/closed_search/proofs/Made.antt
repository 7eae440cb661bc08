-- Lines with the numbers of the concepts that are named.
use Rattle.std.proofs.Common.{◌≡◌, ℕ, zero, suc, ◌+◌, ◌<◌, ltb, Bool, true, get_or, List, [], ◌∷◌, ◌++◌, map, length}
use Rattle.std.proofs.Common.{refl, ap, sym, ◌∙◌, subst, arith, Some, append_assoc}
use Rattle.std.specs.List.{list_all, All}
use Rattle.std.proofs.lemmas.Bool.{and_parts, and_from, ltb-true, lt-ltb}
use Rattle.std.proofs.lemmas.List.{map-append, append-nil}
use Rattle.std.proofs.lemmas.List.Folds.{list_all-append}
use Rattle.std.proofs.lemmas.List.Elements.{All-nil, All-cons}
use Rattle.calculus_specs.specs.Shape.{Shape}
use Rattle.calculus_specs.specs.Line.{Line}
use Rattle.calculus_specs.specs.Line.Line.{start_line, and_line, or_line, all_line, carry_line, row_line, range_line}
use Rattle.calculus_specs.specs.Line.Line.{some_line, least_line, choose_line, pair_line, bottom_line, clash_line}
use Rattle.calculus_specs.specs.Line.Line.{most_line, fact_line, differ_line}
use Rattle.calculus_specs.specs.Valid.{concept_at}
use Rattle.axiom_sets.specs.Sets.{Limited}
use Rattle.search_trace.specs.Shapes.{is_concept, AreShapes}
use Rattle.search_trace.specs.RefutationText.{begun}
use Rattle.search_trace.specs.RefutationLists.{RefutationLists}
use Rattle.search_trace.specs.Line.{Line as Kept}
use Rattle.search_trace.specs.RuleLine.{line_of, concept_numbers, names_concepts}
use Rattle.tableau_specs.specs.Lines.{concept_in}
use Rattle.search_trace.specs.Renumbered.{renumbered, Reads}
use Rattle.closed_search.specs.Numbers.{is_used, are_used, number_in}
use Rattle.closed_search.specs.Naming.{IsNaming, IsNamed}
use Rattle.closed_search.specs.Finished.{is_over, are_over, lines_used, IsOfKind, IsNumbered, IsLine, AreLines}
use Rattle.closed_search.specs.Finished.{IsNamingLines}
use Rattle.closed_search.specs.declared.numbering.Naming.{Naming}
use Rattle.closed_search.proofs.Places.{all_used_stay, numbers_stay}
use Rattle.closed_search.proofs.Trees.{IsRead, is_read}
use Rattle.closed_search.proofs.Names.{grows_none, grows_twice}

-- ---- lines by the numbers of their concepts

pub same_numbers : (f g : ℕ → ℕ) (line : Line) → map f (concept_numbers line) ≡ map g (concept_numbers line)
    → renumbered f line ≡ renumbered g line
same_numbers f g start_line h = refl
same_numbers f g (and_line x c) h = let e : f c ≡ g c = cc in ap (and_line x) e
same_numbers f g (or_line x c) h = let e : f c ≡ g c = cc in ap (or_line x) e
same_numbers f g (all_line x y c) h = let e : f c ≡ g c = cc in ap (all_line x y) e
same_numbers f g (carry_line x y r c) h = let e : f c ≡ g c = cc in ap (carry_line x y r) e
same_numbers f g (row_line x a p is) h = refl
same_numbers f g (range_line x y a) h = refl
same_numbers f g (some_line x y c) h = let e : f c ≡ g c = cc in ap (some_line x y) e
same_numbers f g (least_line x y c) h = let e : f c ≡ g c = cc in ap (least_line x y) e
same_numbers f g (choose_line y c) h = let e : f c ≡ g c = cc in ap (choose_line y) e
same_numbers f g (pair_line y z) h = refl
same_numbers f g (bottom_line x) h = refl
same_numbers f g (clash_line x c) h = let e : f c ≡ g c = cc in ap (clash_line x) e
same_numbers f g (most_line x c ys) h = let e : f c ≡ g c = cc in ap (λ (k : ℕ). most_line x k ys) e
same_numbers f g (fact_line a p) h = refl
same_numbers f g (differ_line y z) h = refl

pub numbers_after : (f : ℕ → ℕ) (line : Line) → concept_numbers (renumbered f line) ≡ map f (concept_numbers line)
numbers_after f start_line = refl
numbers_after f (and_line x c) = refl
numbers_after f (or_line x c) = refl
numbers_after f (all_line x y c) = refl
numbers_after f (carry_line x y r c) = refl
numbers_after f (row_line x a p is) = refl
numbers_after f (range_line x y a) = refl
numbers_after f (some_line x y c) = refl
numbers_after f (least_line x y c) = refl
numbers_after f (choose_line y c) = refl
numbers_after f (pair_line y z) = refl
numbers_after f (bottom_line x) = refl
numbers_after f (clash_line x c) = refl
numbers_after f (most_line x c ys) = refl
numbers_after f (fact_line a p) = refl
numbers_after f (differ_line y z) = refl

-- ---- one line

module _ (table : List Shape) (old : Naming) (line : Line) where
  pub no_concept : IsNaming table old → concept_numbers line ≡ [] → IsLine table old old line line
  no_concept naming none = record {
    naming = naming;
    grown = grows_none old (length table);
    kinds = λ q h asked all. all;
    used = ap (are_used old.used.keys) none;
    is =
        plain line none
        ∙ same_numbers (λ c. c) (number_in old.used.keys) line
        (ap (map (λ (c : ℕ). c)) none ∙ sym (ap (map (number_in old.used.keys)) none));
  }
    where
      plain : (l : Line) → concept_numbers l ≡ [] → l ≡ renumbered (λ c. c) l
      plain start_line h = refl
      plain (and_line x c) h = refl
      plain (or_line x c) h = refl
      plain (all_line x y c) h = refl
      plain (carry_line x y r c) h = refl
      plain (row_line x a p is) h = refl
      plain (range_line x y a) h = refl
      plain (some_line x y c) h = refl
      plain (least_line x y c) h = refl
      plain (choose_line y c) h = refl
      plain (pair_line y z) h = refl
      plain (bottom_line x) h = refl
      plain (clash_line x c) h = refl
      plain (most_line x c ys) h = refl
      plain (fact_line a p) h = refl
      plain (differ_line y z) h = refl

  pub over_table : (c : ℕ) → concept_numbers line ≡ c ∷ [] → is_over (length table) line ≡ true → c < length table
  over_table c e h =
      ltb-true c (length table)
      (and_parts (ltb c (length table)) true (sym (ap (list_all (λ d. ltb d (length table))) e) ∙ h)).0

  pub one_concept : (new : Naming) (c n : ℕ) (made : Line) → concept_numbers line ≡ c ∷ [] → c < length table
      → IsNamed table old new c n → made ≡ renumbered (λ k. n) line → IsLine table old new line made
  one_concept new c n made e lt h is = record {
    naming = h.naming;
    grown =
        grows_twice old old new (length table) (c + 1) (length table) (omega arith) (omega arith)
        (grows_none old (length table)) h.grown;
    kinds = λ q hp asked all. h.kinds q hp (ap (list_all q) (sym e) ∙ asked) all;
    used = ap (are_used new.used.keys) e ∙ and_from (is_used new.used.keys c) true h.number'.used refl;
    is =
        is ∙ same_numbers (λ k. n) (number_in new.used.keys) line
        (ap (map (λ (k : ℕ). n)) e ∙ ap (λ (k : ℕ). k ∷ []) h.number'.is ∙ sym (ap (map (number_in new.used.keys)) e));
  }

-- ---- several lines

used_later : (used more : List ℕ) (lines : List Line) → lines_used used lines ≡ true
    → lines_used (used ++ more) lines ≡ true
used_later used more [] h = refl
used_later used more (l ∷ ls) h =
    let t = and_parts (are_used used (concept_numbers l)) (lines_used used ls) h in
    and_from (are_used (used ++ more) (concept_numbers l)) (lines_used (used ++ more) ls)
    (all_used_stay used more (concept_numbers l) t.0) (used_later used more ls t.1)

made_later : (used more : List ℕ) (lines : List Line) → lines_used used lines ≡ true
    → map (renumbered (number_in (used ++ more))) lines ≡ map (renumbered (number_in used)) lines
made_later used more [] h = refl
made_later used more (l ∷ ls) h =
    let t = and_parts (are_used used (concept_numbers l)) (lines_used used ls) h in
    let e =
    same_numbers (number_in (used ++ more)) (number_in used) l (numbers_stay used more (concept_numbers l) t.0) in
    let f = made_later used more ls t.1 in
    cc

pub lines_none : (table : List Shape) (n : Naming) → IsNaming table n → AreLines table n n [] []
lines_none table n naming = record {
  naming = naming;
  grown = grows_none n (length table);
  kinds = λ q h asked old. old;
  used = refl;
  are = refl;
}

pub lines_more : (table : List Shape) (a b c : Naming) (ls made : List Line) (l m : Line) → AreLines table a b ls made
    → IsLine table b c l m → AreLines table a c (ls ++ l ∷ []) (made ++ m ∷ [])
lines_more table a b c ls made l m h one =
    let to = renumbered (number_in c.used.keys) in
    record {
      naming = one.naming;
      grown =
          grows_twice a b c (length table) (length table) (length table) (omega arith) (omega arith) h.grown one.grown;
      kinds = λ q hp asked old.
          let named : Line → Bool = λ k. list_all q (concept_numbers k) in
          let both =
          and_parts (list_all named ls) (list_all named (l ∷ [])) (sym (list_all-append named ls (l ∷ [])) ∙ asked) in
          one.kinds q hp (and_parts (named l) true both.1).0 (h.kinds q hp both.0 old);
      used =
          list_all-append (λ k. are_used c.used.keys (concept_numbers k)) ls (l ∷ [])
          ∙ and_from (lines_used c.used.keys ls) (lines_used c.used.keys (l ∷ []))
          (subst (λ (u : List ℕ). lines_used u ls ≡ true) (sym one.grown.are)
          (used_later b.used.keys one.grown.more ls h.used))
          (and_from (are_used c.used.keys (concept_numbers l)) true one.used refl);
      are =
          ap (λ (ms : List Line). ms ++ m ∷ [])
          (h.are ∙ sym
          (ap (λ (u : List ℕ). map (renumbered (number_in u)) ls) one.grown.are
          ∙ made_later b.used.keys one.grown.more ls h.used))
          ∙ ap (λ (k : Line). map to ls ++ k ∷ []) one.is ∙ sym (map-append to ls (l ∷ []));
    }

-- ---- what is made names the refutation's concepts, which are those of the table

module _ (table : List Shape) (n : Naming) (naming : IsNaming table n) where
  abbrev to : ℕ → ℕ
  to c = number_in n.used.keys c

  read : (c : ℕ) → is_used n.used.keys c ≡ true
      → IsRead table n.used.keys n.refutation.shapes naming.same_length naming.listed naming.reads c
  read = is_read table n.used.keys n.refutation.shapes naming.same_length naming.listed naming.reads

  are_concepts : (cs : List ℕ) → are_used n.used.keys cs ≡ true
      → list_all (is_concept n.refutation.shapes) (map to cs) ≡ true
  are_concepts [] h = refl
  are_concepts (c ∷ cs) h =
      let t = and_parts (is_used n.used.keys c) (are_used n.used.keys cs) h in
      and_from (is_concept n.refutation.shapes (to c)) (list_all (is_concept n.refutation.shapes) (map to cs))
      (read c t.0).is_number (are_concepts cs t.1)

  pub lines_name : (ls : List Line) → lines_used n.used.keys ls ≡ true
      → list_all (names_concepts n.refutation.shapes) (map (renumbered to) ls) ≡ true
  lines_name [] h = refl
  lines_name (l ∷ ls) h =
      let t = and_parts (are_used n.used.keys (concept_numbers l)) (lines_used n.used.keys ls) h in
      and_from (names_concepts n.refutation.shapes (renumbered to l))
      (list_all (names_concepts n.refutation.shapes) (map (renumbered to) ls))
      (ap (list_all (is_concept n.refutation.shapes)) (numbers_after to l) ∙ are_concepts (concept_numbers l) t.0)
      (lines_name ls t.1)

  one_reads : (c : ℕ) → is_used n.used.keys c ≡ true → concept_at n.refutation.shapes (to c) ≡ concept_in table c
  one_reads c h =
      let r = read c h in
      rw (r.is_number, lt-ltb c (length table) r.is_listed) (ap Some r.stands_for)

  all_read : (cs : List ℕ) → are_used n.used.keys cs ≡ true
      → All (λ c. concept_at n.refutation.shapes (to c) ≡ concept_in table c) cs
  all_read [] h = All-nil (λ c. concept_at n.refutation.shapes (to c) ≡ concept_in table c)
  all_read (c ∷ cs) h =
      let t = and_parts (is_used n.used.keys c) (are_used n.used.keys cs) h in
      All-cons (λ d. concept_at n.refutation.shapes (to d) ≡ concept_in table d) c cs (one_reads c t.0)
      (all_read cs t.1)

  pub lines_read : (ls : List Line) → lines_used n.used.keys ls ≡ true
      → All (Reads (concept_in table) (concept_at n.refutation.shapes) to) ls
  lines_read [] h = All-nil (Reads (concept_in table) (concept_at n.refutation.shapes) to)
  lines_read (l ∷ ls) h =
      let t = and_parts (are_used n.used.keys (concept_numbers l)) (lines_used n.used.keys ls) h in
      All-cons (Reads (concept_in table) (concept_at n.refutation.shapes) to) l ls (all_read (concept_numbers l) t.0)
      (lines_read ls t.1)

-- ---- all of it

pub begun_naming : (table : List Shape) (n : Naming) (axioms : Limited) → n.used.keys ≡ [] → n.refutation ≡ begun axioms
    → IsNaming table n
begun_naming table n axioms none first =
    let shapes : n.refutation.shapes ≡ [] = ap (λ r. r.shapes) first in
    record {
      same_length = ap length shapes ∙ sym (ap length none);
      listed = subst (All (λ c. c < length table)) (sym none) (All-nil (λ c. c < length table));
      reads = λ k lt. absurd (omega (arith, subst (λ (l : List ℕ). k < length l) none lt));
      are_shapes = subst AreShapes (sym shapes)
          (record { fit = λ k lt. absurd (omega arith); are_distinct = λ k m lt mt e. absurd (omega arith) });
      no_lines = ap (λ r. r.lines) first;
    }

kind_at : (p : ℕ → Bool) (k : ℕ) (cs : List ℕ) → list_all p cs ≡ true → k < length cs → p (get_or cs k 0) ≡ true
kind_at p k [] h lt = absurd (omega arith)
kind_at p zero (c ∷ cs) h lt = (and_parts (p c) (list_all p cs) h).0
kind_at p (suc k) (c ∷ cs) h lt = kind_at p k cs (and_parts (p c) (list_all p cs) h).1 (omega arith)

-- each concept that is named is of the kind
all_of_kind : (table : List Shape) (n : Naming) → IsNaming table n → (p : ℕ → Bool) → list_all p n.used.keys ≡ true
    → (k : ℕ) → k < length n.refutation.shapes → IsOfKind table p n.refutation.shapes (k + 1)
all_of_kind table n naming p h k lt =
    let lt' : k < length n.used.keys = omega (arith, naming.same_length) in
    record {
      concept = get_or n.used.keys k 0;
      listed = naming.listed k 0 lt';
      is_of_kind = kind_at p k n.used.keys h lt';
      same = naming.reads k lt';
    }

pub all_numbered : (table : List Shape) (old n : Naming) (axioms : Limited) (ls made : List Line) (r : RefutationLists)
    → old.used.keys ≡ [] → old.refutation ≡ begun axioms → AreLines table old n ls made
    → r ≡ record n.refutation { lines = n.refutation.lines ++ made } → IsNumbered table axioms ls r
all_numbered table old n axioms ls made r none first h is =
    let shapes : r.shapes ≡ n.refutation.shapes = ap (λ k. k.shapes) is in
    record {
      axioms_are = ap (λ k. k.axioms) is ∙ h.grown.axioms ∙ ap (λ k. k.axioms) first;
      number' = number_in n.used.keys;
      lines_are = ap (λ k. k.lines) is ∙ ap (λ (l : List Line). l ++ made) h.naming.no_lines ∙ h.are;
      reads =
          subst (λ (l : List Shape). All (Reads (concept_in table) (concept_at l) (number_in n.used.keys)) ls)
          (sym shapes) (lines_read table n h.naming ls h.used);
      kinds = λ p hp asked.
          let named = h.kinds p hp asked (ap (list_all p) none) in
          subst (λ (l : List Shape). (k : ℕ) → k < length l → IsOfKind table p l (k + 1)) (sym shapes)
          (all_of_kind table n h.naming p named);
    }

pub naming_none : (table : List Shape) (n : Naming) (lines made : List Kept) → IsNaming table n
    → are_over (length table) (map line_of lines) ≡ true → made ≡ [] → IsNamingLines table n n lines [] lines made
naming_none table n lines made naming over none = record {
  split = refl;
  over = over;
  are = subst (λ (l : List Kept). AreLines table n n [] (map line_of l)) (sym none) (lines_none table n naming);
}

pub naming_more : (table : List Shape) (a b c : Naming) (lines first rest rest' made made' : List Kept) (l m : Kept)
    → IsNamingLines table a b lines first rest made → rest ≡ l ∷ rest' → IsLine table b c (line_of l) (line_of m)
    → made' ≡ made ++ m ∷ [] → IsNamingLines table a c lines (first ++ l ∷ []) rest' made'
naming_more table a b c lines first rest rest' made made' l m h next one more =
    let over =
    and_parts (is_over (length table) (line_of l)) (are_over (length table) (map line_of rest'))
    (ap (λ (k : List Kept). are_over (length table) (map line_of k)) (sym next) ∙ h.over) in
    record {
      split = append_assoc first (l ∷ []) rest' ∙ ap (λ (k : List Kept). first ++ k) (sym next) ∙ h.split;
      over = over.1;
      are =
          subst (λ (k : List Line). AreLines table a c k (map line_of made')) (sym (map-append line_of first (l ∷ [])))
          (subst (AreLines table a c (map line_of first ++ line_of l ∷ []))
          (sym (ap (map line_of) more ∙ map-append line_of made (m ∷ [])))
          (lines_more table a b c (map line_of first) (map line_of made) (line_of l) (line_of m) h.are one));
    }

pub over_next : (table : List Shape) (a b : Naming) (lines first rest rest' made : List Kept) (l : Kept)
    → IsNamingLines table a b lines first rest made → rest ≡ l ∷ rest' → is_over (length table) (line_of l) ≡ true
over_next table a b lines first rest rest' made l h next =
    (and_parts (is_over (length table) (line_of l)) (are_over (length table) (map line_of rest'))
    (ap (λ (k : List Kept). are_over (length table) (map line_of k)) (sym next) ∙ h.over)).0

pub naming_all : (table : List Shape) (a b : Naming) (lines first rest made : List Kept)
    → IsNamingLines table a b lines first rest made → rest ≡ []
    → AreLines table a b (map line_of lines) (map line_of made)
naming_all table a b lines first rest made h none =
    let all : first ≡ lines = sym (append-nil first) ∙ ap (λ (k : List Kept). first ++ k) (sym none) ∙ h.split in
    subst (λ (k : List Kept). AreLines table a b (map line_of k) (map line_of made)) all h.are
