-- What is named while a concept is named.
use Rattle.std.proofs.Common.{◌≡◌, ℕ, zero, suc, ◌+◌, ◌<◌, ◌≤◌, ltb, true, false, List, [], ◌∷◌, ◌++◌, map, length}
use Rattle.std.proofs.Common.{get_or, refl, ap, sym, ◌∙◌, subst, arith, append_assoc, length-append}
use Rattle.std.specs.List.{list_all, All}
use Rattle.std.proofs.lemmas.Bool.{ltb-true, and_parts, and_from}
use Rattle.std.proofs.lemmas.List.{append-nil, map-append}
use Rattle.std.proofs.lemmas.List.Folds.{list_all-append}
use Rattle.std.proofs.lemmas.List.Elements.{All-nil, All-cons, All-append, All-weaker}
use Rattle.calculus_specs.specs.Shape.{Shape, shape_of, has_parts_below, IsTable}
use Rattle.calculus_specs.specs.Shape.Shape.{top as top_shape, bottom as bottom_shape, name as name_shape, not_name}
use Rattle.calculus_specs.specs.Shape.Shape.{intersection as and_shape, union as or_shape, some_of as some_shape}
use Rattle.calculus_specs.specs.Shape.Shape.{all_of as all_shape, at_least as least_shape, at_most as most_shape}
use Rattle.calculus_specs.specs.Tree.{tree_of}
use Rattle.search_trace.specs.Shapes.{part_numbers, admits, AreShapes}
use Rattle.search_trace.proofs.Shapes.{shapes_push}
use Rattle.closed_search.specs.Numbers.{is_used, are_used, number_in, renumbered_shape}
use Rattle.closed_search.specs.Naming.{IsNaming, Grows, IsNumberOf, IsPut, IsNamed, IsRenamed, AreRenamed}
use Rattle.closed_search.specs.declared.numbering.Naming.{Naming}
use Rattle.closed_search.proofs.Places.{all_used_stay, numbers_stay, last_number, last_used, unused_stays}
use Rattle.closed_search.proofs.Trees.{is_admitted, reads_more}

pub grows_none : (n : Naming) (bound : ℕ) → Grows n n bound
grows_none n bound =
    record { more = []; are = sym (append-nil n.used.keys); below = All-nil (λ c. c < bound); axioms = refl }

weaker : (m n : ℕ) → m ≤ n → (cs : List ℕ) → All (λ c. c < m) cs → All (λ c. c < n) cs
weaker m n le cs h = All-weaker (λ c. c < m) (λ c. c < n) (λ c lt. omega arith) cs h

pub grows_twice : (a b c : Naming) (m n p : ℕ) → m ≤ p → n ≤ p → Grows a b m → Grows b c n → Grows a c p
grows_twice a b c m n p le mt g h = record {
  more = g.more ++ h.more;
  are = h.are ∙ ap (λ (l : List ℕ). l ++ h.more) g.are ∙ append_assoc a.used.keys g.more h.more;
  below = All-append (λ d. d < p) g.more h.more (weaker m p le g.more g.below) (weaker n p mt h.more h.below);
  axioms = h.axioms ∙ g.axioms;
}

pub named_already : (table : List Shape) (n : Naming) (c k : ℕ) → IsNaming table n → IsNumberOf n c k
    → IsNamed table n n c k
named_already table n c k naming is =
    record { naming = naming; grown = grows_none n (c + 1); kinds = λ q h asked old. old; number' = is }

-- ---- a new concept

module _ (table : List Shape) (is_table : IsTable table) (old mid : Naming) (c : ℕ) (s : Shape) (lt : c < length table)
    (new : is_used old.used.keys c ≡ false)
    (r : IsRenamed table old mid c (shape_of table c) s) where
  pub unused : is_used mid.used.keys c ≡ false
  unused =
      subst (λ (l : List ℕ). is_used l c ≡ false) (sym r.grown.are)
      (unused_stays old.used.keys r.grown.more c c new r.grown.below (omega arith))

  pub admitted : admits mid.refutation.shapes s ≡ true
  admitted =
      ap (admits mid.refutation.shapes) r.is
      ∙ is_admitted table is_table mid.used.keys mid.refutation.shapes r.naming.are_shapes r.naming.same_length
      r.naming.listed r.naming.reads c lt unused r.parts

  pub named_new : (next : Naming) (n : ℕ) → IsPut mid next c s n → IsNamed table old next c n
  named_new next n p =
      let shapes : next.refutation.shapes ≡ mid.refutation.shapes ++ s ∷ [] = ap (λ k. k.shapes) p.refutation in
      let as_renumbered : mid.refutation.shapes ++ s ∷ []
      ≡ mid.refutation.shapes ++ renumbered_shape (number_in mid.used.keys) (shape_of table c) ∷ [] =
      ap (λ (t : Shape). mid.refutation.shapes ++ t ∷ []) r.is in
      let more =
      reads_more table is_table mid.used.keys mid.refutation.shapes r.naming.are_shapes r.naming.same_length
      r.naming.listed r.naming.reads c lt unused r.parts in
      record {
        naming = record {
          same_length = omega (
            arith,
            ap length shapes,
            ap length p.used,
            length-append mid.refutation.shapes (s ∷ []),
            length-append mid.used.keys (c ∷ []),
            r.naming.same_length,
          );
          listed =
              subst (All (λ d. d < length table)) (sym p.used)
              (All-append (λ d. d < length table) mid.used.keys (c ∷ []) r.naming.listed
              (All-cons (λ d. d < length table) c [] lt (All-nil (λ d. d < length table))));
          reads = λ k less.
              let less' : k < length (mid.used.keys ++ c ∷ []) = subst (λ (l : List ℕ). k < length l) p.used less in
              ap (λ (l : List Shape). tree_of (top_shape ∷ l) (k + 1)) (shapes ∙ as_renumbered) ∙ more k less'
              ∙ ap (λ (l : List ℕ). tree_of table (get_or l k 0)) (sym p.used);
          are_shapes = subst AreShapes (sym shapes) (shapes_push mid.refutation.shapes s r.naming.are_shapes admitted);
          no_lines = ap (λ k. k.lines) p.refutation ∙ r.naming.no_lines;
        };
        grown = record {
          more = r.grown.more ++ c ∷ [];
          are =
              p.used ∙ ap (λ (l : List ℕ). l ++ c ∷ []) r.grown.are ∙ append_assoc old.used.keys r.grown.more (c ∷ []);
          below =
              All-append (λ d. d < c + 1) r.grown.more (c ∷ [])
              (weaker c (c + 1) (omega arith) r.grown.more r.grown.below)
              (All-cons (λ d. d < c + 1) c [] (omega arith) (All-nil (λ d. d < c + 1)));
          axioms = ap (λ k. k.axioms) p.refutation ∙ r.grown.axioms;
        };
        kinds = λ q h asked all.
            let of_parts = h c lt (and_parts (q c) true asked).0 in
            let before : list_all q mid.used.keys ≡ true = r.kinds q h of_parts all in
            subst (λ (l : List ℕ). list_all q l ≡ true) (sym p.used)
            (list_all-append q mid.used.keys (c ∷ [])
            ∙ and_from (list_all q mid.used.keys) (list_all q (c ∷ [])) before asked);
        number' = record {
          used = subst (λ (l : List ℕ). is_used l c ≡ true) (sym p.used) (last_used mid.used.keys c);
          is =
              p.is ∙ ap (λ (k : ℕ). k + 1) r.naming.same_length ∙ sym (last_number mid.used.keys c unused)
              ∙ ap (λ (l : List ℕ). number_in l c) (sym p.used);
        };
      }

-- ---- parts

pub renamed_none : (table : List Shape) (n : Naming) (bound : ℕ) → IsNaming table n → AreRenamed table n n bound [] []
renamed_none table n bound naming =
    record { naming = naming; grown = grows_none n bound; kinds = λ q h asked old. old; used = refl; are = refl }

pub renamed_more : (table : List Shape) (a b c : Naming) (bound p n : ℕ) (ps ns : List ℕ) → p < bound
    → AreRenamed table a b bound ps ns → IsNamed table b c p n
    → AreRenamed table a c bound (ps ++ p ∷ []) (ns ++ n ∷ [])
renamed_more table a b c bound p n ps ns lt r h =
    let old_used : are_used c.used.keys ps ≡ true =
    subst (λ (l : List ℕ). are_used l ps ≡ true) (sym h.grown.are) (all_used_stay b.used.keys h.grown.more ps r.used) in
    let old_numbers : map (number_in c.used.keys) ps ≡ map (number_in b.used.keys) ps =
    ap (λ (l : List ℕ). map (number_in l) ps) h.grown.are ∙ numbers_stay b.used.keys h.grown.more ps r.used in
    record {
      naming = h.naming;
      grown = grows_twice a b c bound (p + 1) bound (omega arith) (omega arith) r.grown h.grown;
      kinds = λ q hp asked old.
          let both = and_parts (list_all q ps) (list_all q (p ∷ [])) (sym (list_all-append q ps (p ∷ [])) ∙ asked) in
          h.kinds q hp both.1 (r.kinds q hp both.0 old);
      used =
          list_all-append (is_used c.used.keys) ps (p ∷ [])
          ∙ and_from (are_used c.used.keys ps) (are_used c.used.keys (p ∷ [])) old_used
          (and_from (is_used c.used.keys p) true h.number'.used refl);
      are =
          ap (λ (l : List ℕ). l ++ n ∷ []) (r.are ∙ sym old_numbers)
          ∙ ap (λ (k : ℕ). map (number_in c.used.keys) ps ++ k ∷ []) h.number'.is
          ∙ sym (map-append (number_in c.used.keys) ps (p ∷ []));
    }

pub below_at : (bound i : ℕ) (ps : List ℕ) (d : ℕ) → list_all (λ c. ltb c bound) ps ≡ true → i < length ps
    → get_or ps i d < bound
below_at bound i [] d h lt = absurd (omega arith)
below_at bound zero (p ∷ ps) d h lt = ltb-true p bound (and_parts (ltb p bound) (list_all (λ c. ltb c bound) ps) h).0
below_at bound (suc i) (p ∷ ps) d h lt =
    below_at bound i ps d (and_parts (ltb p bound) (list_all (λ c. ltb c bound) ps) h).1 (omega arith)

pub parts_below : (table : List Shape) → IsTable table → (c : ℕ) → c < length table
    → list_all (λ p. ltb p c) (part_numbers (shape_of table c)) ≡ true
parts_below table is_table c lt = by_shape (shape_of table c) (is_table.parts_below c lt)
  where
    by_shape : (s : Shape) → has_parts_below c s ≡ true → list_all (λ p. ltb p c) (part_numbers s) ≡ true
    by_shape top_shape h = refl
    by_shape bottom_shape h = refl
    by_shape (name_shape a) h = refl
    by_shape (not_name a) h = refl
    by_shape (and_shape cs) h = h
    by_shape (or_shape cs) h = h
    by_shape (some_shape r p) h = and_from (ltb p c) true h refl
    by_shape (all_shape r p) h = and_from (ltb p c) true h refl
    by_shape (least_shape n r p) h = and_from (ltb p c) true h refl
    by_shape (most_shape n r p) h = and_from (ltb p c) true h refl

-- ---- shapes

pub leaf_renamed : (table : List Shape) (n : Naming) (bound : ℕ) (s : Shape) → IsNaming table n → part_numbers s ≡ []
    → renumbered_shape (number_in n.used.keys) s ≡ s → IsRenamed table n n bound s s
leaf_renamed table n bound s naming none same = record {
  naming = naming;
  grown = grows_none n bound;
  kinds = λ q h asked old. old;
  parts = ap (are_used n.used.keys) none;
  is = sym same;
}

pub parts_renamed : (table : List Shape) (old new : Naming) (bound : ℕ) (form s : Shape) (parts numbers : List ℕ)
    → AreRenamed table old new bound parts numbers
    → part_numbers form ≡ parts
    → (map (number_in new.used.keys) parts ≡ numbers → s ≡ renumbered_shape (number_in new.used.keys) form)
    → IsRenamed table old new bound form s
parts_renamed table old new bound form s parts numbers h are is = record {
  naming = h.naming;
  grown = h.grown;
  kinds = λ q hp asked old. h.kinds q hp (ap (list_all q) (sym are) ∙ asked) old;
  parts = ap (are_used new.used.keys) are ∙ h.used;
  is = is (sym h.are);
}

pub filler_renamed : (table : List Shape) (old new : Naming) (bound : ℕ) (form s : Shape) (filler number : ℕ)
    → filler < bound → IsNamed table old new filler number
    → part_numbers form ≡ filler ∷ []
    → (number_in new.used.keys filler ≡ number → s ≡ renumbered_shape (number_in new.used.keys) form)
    → IsRenamed table old new bound form s
filler_renamed table old new bound form s filler number lt h are is = record {
  naming = h.naming;
  grown = grows_twice old old new bound (filler + 1) bound (omega arith) (omega arith) (grows_none old bound) h.grown;
  kinds = λ q hp asked all. h.kinds q hp (ap (list_all q) (sym are) ∙ asked) all;
  parts = ap (are_used new.used.keys) are ∙ and_from (is_used new.used.keys filler) true h.number'.used refl;
  is = is (sym h.number'.is);
}
