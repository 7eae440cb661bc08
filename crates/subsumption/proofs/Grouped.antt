-- The sets of classes from which groups are made.
use Rattle.std.proofs.Common.{◌≡◌, ℕ, ◌+◌, ◌<◌, ◌&&◌, not, Bool, true, false, cond, eqb, List, [], ◌∷◌, ◌++◌, length}
use Rattle.std.proofs.Common.{get_or, drop, refl, sym, ap, ◌∙◌, arith, append_assoc}
use Rattle.std.proofs.lemmas.List.{drop_more}
use Rattle.std.specs.Prelude.{nat_lt}
use Rattle.std.specs.List.{filter, list_all}
use Rattle.std.specs.FinSet as set
use Rattle.std.proofs.lemmas.Bool.{and_parts, and_from, lt-ltb, ltb-true}
use Rattle.std.proofs.Math.Bool.{and_assoc}
use Rattle.lane_sieve.specs.Sets.{passing}
use Rattle.lane_sieve.proofs.Ranges.{passing_same}
use Rattle.axiom_sets.specs.Sets.{Limited}
use Rattle.shq_meaning.specs.Below.{all_below}
use Rattle.subsumption.specs.Groups.{Parthood, is_between, is_equal, is_first, holds_no_other, is_lowest}
use Rattle.subsumption.specs.ClassSets.{has_class, class_list, HoldsClasses}
use Rattle.subsumption.proofs.Passing.{filter-passing, all-passing, all_below_same}
use Rattle.subsumption.proofs.Members.{class_list-holds}

pub false_both : (a b c : Bool) → a ≡ false → ((a && b) && c) ≡ false
false_both true b c e = absurd (cc e)
false_both false b c e = refl

module _ (count : ℕ) (r : Parthood) (class : ℕ) where
  -- the classes of which the class is a part, and that are part of it, are those equal to it
  pub equal_ones : (s t u a b : Limited) → HoldsClasses count (is_between count r) s → t.limit ≡ s.limit
      → u.limit ≡ t.limit
      → ((x : ℕ) → x < count + 2 → set.contains a.members (x + 1) ≡ r class x)
      → ((x : ℕ) → x < count + 2 → set.contains b.members (x + 1) ≡ r x class)
      → ((x : ℕ) → has_class t x ≡ (has_class s x && has_class a x))
      → ((x : ℕ) → has_class u x ≡ (has_class t x && has_class b x))
      → HoldsClasses count (is_equal count r class) u
  equal_ones s t u a b between limit limit' above below first second = record {
    limit = limit' ∙ limit ∙ between.limit;
    inside =
        λ x lt. whole x ∙ (λ i. (between.inside x lt i && above x (omega arith) i) && below x (omega arith) i)
        ∙ and_assoc (is_between count r x) (r class x) (r x class);
    outside = λ x ge. whole x ∙ false_both (has_class s x) (has_class a x) (has_class b x) (between.outside x ge);
  }
    where
      whole : (x : ℕ) → has_class u x ≡ ((has_class s x && has_class a x) && has_class b x)
      whole x = second x ∙ ap (λ (v : Bool). v && has_class b x) (first x)

  -- a class that is not between is no first one
  pub no_first : is_between count r class ≡ false → false ≡ is_first count r class
  no_first f = ap (λ (b : Bool). b && all_below class (λ y. not (is_equal count r class y))) (sym f)

  -- and another is, where none before it is equal to it
  pub first_where_none : (b : Bool) (e : Limited) → class < count → is_between count r class ≡ true
      → HoldsClasses count (is_equal count r class) e → b ≡ all_below class (λ x. not (has_class e x))
      → b ≡ is_first count r class
  first_where_none b e lt between equal says =
      says
      ∙ all_below_same class (λ x. not (has_class e x)) (λ x. not (is_equal count r class x))
      (λ x less. ap not (equal.inside x (omega arith)))
      ∙ ap (λ (v : Bool). v && all_below class (λ y. not (is_equal count r class y))) (sym between)

-- ---- the lowest of some classes

module _ (count : ℕ) (r : Parthood) (test : ℕ → Bool) where
  -- a set with the same members has the same classes
  pub still_holds : (s t : Limited) → HoldsClasses count test s → t.limit ≡ s.limit
      → ((x : ℕ) → has_class t x ≡ has_class s x) → HoldsClasses count test t
  still_holds s t h limit same = record {
    limit = limit ∙ h.limit;
    inside = λ x lt. same x ∙ h.inside x lt;
    outside = λ x ge. same x ∙ h.outside x ge;
  }

  pub holds_itself : (s : Limited) → HoldsClasses count test s → HoldsClasses count (has_class s) s
  holds_itself s h = record { limit = h.limit; inside = λ x lt. refl; outside = h.outside }

  cond_filter : (b : Bool) (x : ℕ) (xs : List ℕ) → cond b (x ∷ xs) xs ≡ cond b (x ∷ []) [] ++ xs
  cond_filter true x xs = refl
  cond_filter false x xs = refl

  filtered_more : (q : ℕ → Bool) (b : Bool) (p : ℕ) (rest xs more whole : List ℕ) → b ≡ q p
      → more ≡ xs ++ cond b (p ∷ []) [] → xs ++ filter q (p ∷ rest) ≡ whole → more ++ filter q rest ≡ whole
  filtered_more q b p rest xs more whole says is all =
      ap (λ (ys : List ℕ). ys ++ filter q rest) (is ∙ ap (λ (c : Bool). xs ++ cond c (p ∷ []) []) says)
      ∙ append_assoc xs (cond (q p) (p ∷ []) []) (filter q rest)
      ∙ ap (λ (ys : List ℕ). xs ++ ys) (sym (cond_filter (q p) p (filter q rest)))
      ∙ all

  -- those of its classes that hold no other one are the lowest
  pub lowest_filtered : (cs : List ℕ) (s : Limited) → cs ≡ class_list s → HoldsClasses count test s
      → filter (holds_no_other count r test) cs ≡ passing (is_lowest count r test) 0 count
  lowest_filtered cs s is holds_test =
      ap (filter (holds_no_other count r test)) (is ∙ class_list-holds count test s holds_test)
      ∙ filter-passing test (holds_no_other count r test) 0 count

  pub members_pass : (cs : List ℕ) (s : Limited) → cs ≡ class_list s → HoldsClasses count test s
      → list_all (λ x. nat_lt x count && test x) cs ≡ true
  members_pass cs s is holds_test =
      ap (list_all (λ x. nat_lt x count && test x)) (is ∙ class_list-holds count test s holds_test)
      ∙ all-passing (λ x. nat_lt x count && test x) test 0 count
      (λ k low high h. and_from (nat_lt k count) (test k) (lt-ltb k count (omega arith)) h)

  -- what is known of those that are left is so of the first of them
  left_pass : (cs : List ℕ) (i : ℕ) → i < length cs → list_all (λ x. nat_lt x count && test x) (drop i cs) ≡ true
      → ((nat_lt (get_or cs i 0) count && test (get_or cs i 0)) ≡ true) ×
      (list_all (λ x. nat_lt x count && test x) (drop (i + 1) cs) ≡ true)
  left_pass cs i lt pass =
      let q : ℕ → Bool = λ x. nat_lt x count && test x in
      and_parts (q (get_or cs i 0)) (list_all q (drop (i + 1) cs)) (sym (ap (list_all q) (drop_more cs i 0 lt)) ∙ pass)

  pub member_at : (cs : List ℕ) (i : ℕ) (s : Limited) → i < length cs → HoldsClasses count test s
      → list_all (λ x. nat_lt x count && test x) (drop i cs) ≡ true → has_class s (get_or cs i 0) ≡ true
  member_at cs i s lt holds_test pass =
      let here = and_parts (nat_lt (get_or cs i 0) count) (test (get_or cs i 0)) (left_pass cs i lt pass).0 in
      holds_test.inside (get_or cs i 0) (ltb-true (get_or cs i 0) count here.0) ∙ here.1

  -- and of the rest
  pub members_rest : (cs : List ℕ) (i : ℕ) → i < length cs → list_all (λ x. nat_lt x count && test x) (drop i cs) ≡ true
      → list_all (λ x. nat_lt x count && test x) (drop (i + 1) cs) ≡ true
  members_rest cs i lt pass = (left_pass cs i lt pass).1

  pub filtered_at : (cs : List ℕ) (i : ℕ) (q : ℕ → Bool) (b : Bool) (xs more whole : List ℕ) → i < length cs
      → b ≡ q (get_or cs i 0) → more ≡ xs ++ cond b (get_or cs i 0 ∷ []) [] → xs ++ filter q (drop i cs) ≡ whole
      → more ++ filter q (drop (i + 1) cs) ≡ whole
  filtered_at cs i q b xs more whole lt says is all =
      filtered_more q b (get_or cs i 0) (drop (i + 1) cs) xs more whole says is
      (ap (λ (ys : List ℕ). xs ++ filter q ys) (sym (drop_more cs i 0 lt)) ∙ all)

  -- so it is the same for a set that holds the test
  pub no_other_by : (s : Limited) → HoldsClasses count test s → (p : ℕ)
      → holds_no_other count r (has_class s) p ≡ holds_no_other count r test p
  no_other_by s h p =
      all_below_same count (λ q. not (has_class s q && (not (eqb q p) && r q p)))
      (λ q. not (test q && (not (eqb q p) && r q p)))
      (λ q lt. ap (λ (b : Bool). not (b && (not (eqb q p) && r q p))) (h.inside q lt))

  -- and so are the lowest
  pub lowest_by : (s : Limited) → HoldsClasses count test s
      → passing (is_lowest count r (has_class s)) 0 count ≡ passing (is_lowest count r test) 0 count
  lowest_by s h =
      passing_same (is_lowest count r (has_class s)) (is_lowest count r test) 0 count
      (λ p low high i. h.inside p (omega arith) i && no_other_by s h p i)
