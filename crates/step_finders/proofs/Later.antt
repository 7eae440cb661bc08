-- The successors that an 'at most' counts, from a number on.
use Rattle.std.proofs.Common.{◌≡◌, ℕ, zero, suc, ◌+◌, ◌<◌, ◌≤◌, ◌&&◌, ◌||◌, eqb, leb, cond, Bool, true, false, List, []}
use Rattle.std.proofs.Common.{◌∷◌, length, map, take, get_or, Option, Some, None, MatchOption, IfSome, refl, ap, ◌∙◌}
use Rattle.std.proofs.Common.{sym, subst, arith, inl, inr, eq-eqb}
use Rattle.std.specs.List.{list_any, list_all, filter, count_by, AllPairs}
use Rattle.std.proofs.lemmas.Bool.{eqb-true, leb-true, or_cases, or_right, and_parts, cases_Bool}
use Rattle.std.proofs.lemmas.Bool.Decides.{nat_tests}
use Rattle.std.proofs.lemmas.Cmp.{nat_eq_equiv}
use Rattle.std.proofs.lemmas.List.{take_all, length-map}
use Rattle.std.proofs.lemmas.List.Kept.{AllPairs-filter}
use Rattle.std.proofs.lemmas.List.Filters.{length-filter_more}
use Rattle.std.proofs.lemmas.List.Sums.{length-filter}
use Rattle.std.proofs.lemmas.Map.Made.{length-le_from_is_member}
use Rattle.calculus_specs.specs.declared.facts.Fact.{Fact}
use Rattle.calculus_specs.specs.Joins.{rep}
use Rattle.calculus_specs.specs.Listed.{AreEdges}
use Rattle.calculus_specs.specs.State.{node_count_from, has, is_successor, are_apart}
use Rattle.tableau_specs.specs.Clash.{filled_successors}
use Rattle.tableau_specs.proofs.PlainClash.{successor_is_node}
use Rattle.step_finders.specs.Filled.{filled_from, IsLeast}
use Rattle.step_finders.proofs.Edges.{where_any, has_rep, next_at}
use Rattle.step_finders.proofs.Gathered.{fits_at, any_more, all_fit}
use Rattle.step_finders.proofs.Members.{member_filter, member_filled, filled_ascending, filled_distinct, all_at}
use Rattle.step_finders.proofs.Members.{all_from}

-- ---- tests of numbers

is_le : (a b : ℕ) → a ≤ b → leb a b ≡ true
is_le a b le = grind (arith, nat_tests)

is_not_le : (a b : ℕ) → b < a → leb a b ≡ false
is_not_le a b lt = grind (arith, nat_tests)

less_than : (a b : ℕ) → leb a b ≡ false → b < a
less_than a b out = grind (arith, nat_tests)

and_in : (a b c : Bool) → (a && (b && c)) ≡ ((a && b) && c)
and_in true b c = refl
and_in false b c = refl

pub count_more : (p : ℕ × ℕ → Bool) (xs : List (ℕ × ℕ)) (i : ℕ) (d : ℕ × ℕ) → i < length xs
    → count_by p (take (i + 1) xs) ≡ count_by p (take i xs) + cond (p (get_or xs i d)) 1 0
count_more p xs i d lt =
    sym (length-filter p (take (i + 1) xs)) ∙ length-filter_more p xs i d lt
    ∙ ap (λ (n : ℕ). n + cond (p (get_or xs i d)) 1 0) (length-filter p (take i xs))

-- ---- ascending lists

above_head : (l : ℕ) (ls : List ℕ) → AllPairs (λ y z. y < z) (l ∷ ls) → (k d : ℕ) → k < length ls → l < get_or ls k d
above_head l ls up k d lt = up 0 (suc k) d (omega arith) (omega (arith, lt))

keep_all : (p : ℕ → Bool) (xs : List ℕ) → ((k d : ℕ) → k < length xs → p (get_or xs k d) ≡ true) → filter p xs ≡ xs
keep_all p [] h = refl
keep_all p (x ∷ xs) h =
    rw (h 0 x (omega arith)) (ap (λ (ys : List ℕ). x ∷ ys) (keep_all p xs (λ k d lt. h (suc k) d (omega (arith, lt)))))

none_is_empty : (xs : List ℕ) → ((z : ℕ) → list_any (eqb z) xs ≡ false) → xs ≡ []
none_is_empty [] h = refl
none_is_empty (x ∷ xs) h = (let k = rw (eq-eqb x x refl) at (h x) in cc)

drop_head : (l : ℕ) (ls : List ℕ) → AllPairs (λ y z. y < z) (l ∷ ls) → filter (leb (l + 1)) (l ∷ ls) ≡ ls
drop_head l ls up =
    rw (is_not_le (l + 1) l (omega arith))
    (keep_all (leb (l + 1)) ls (λ k d lt. is_le (l + 1) (get_or ls k d) (omega (arith, above_head l ls up k d lt))))

least_is_head : (l : ℕ) (ls : List ℕ) → AllPairs (λ y z. y < z) (l ∷ ls) → (y : ℕ) → list_any (eqb y) (l ∷ ls) ≡ true
    → y ≤ l → y ≡ l
least_is_head l ls up y m le = elim (or_cases (eqb y l) (list_any (eqb y) ls) m) [
  | inl here ↦ eqb-true y l here
  | inr later ↦
      let lt : l < y =
      where_any (eqb y) (l < y) ls
      (λ k d within hit. subst (λ (v : ℕ). l < v) (sym (eqb-true y (get_or ls k d) hit))
      (above_head l ls up k d within))
      later in
      omega (arith, lt, le)
]

-- the least number of an ascending list is its first
least_is_first : (xs : List ℕ) → AllPairs (λ y z. y < z) xs → (y : ℕ) → IsLeast (λ z. list_any (eqb z) xs) (Some y)
    → xs ≡ y ∷ filter (leb (y + 1)) xs
least_is_first [] up y h = (let k = h.0 in cc)
least_is_first (l ∷ ls) up y h =
    let le : y ≤ l = h.1 l (rw (eq-eqb l l refl) refl) in
    let same : y ≡ l = least_is_head l ls up y h.0 le in
    subst (λ (v : ℕ). (l ∷ ls) ≡ v ∷ filter (leb (v + 1)) (l ∷ ls)) (sym same)
    (ap (λ (zs : List ℕ). l ∷ zs) (sym (drop_head l ls up)))

filter_twice : (a b : ℕ) → a ≤ b → (xs : List ℕ) → filter (leb b) (filter (leb a) xs) ≡ filter (leb b) xs
filter_twice a b le [] = refl
filter_twice a b le (x ∷ xs) = elim (cases_Bool (leb a x)) [
  | inl hit ↦ rw hit (ap (λ (zs : List ℕ). cond (leb b x) (x ∷ zs) zs) (filter_twice a b le xs))
  | inr miss ↦ rw (miss, is_not_le b x (omega (arith, le, less_than a x miss))) (filter_twice a b le xs)
]

-- ---- a test that says the same

pub least_same : (p q : ℕ → Bool) → ((z : ℕ) → p z ≡ q z) → (o : Option ℕ) → IsLeast p o → IsLeast q o
least_same p q h None l = λ z. sym (h z) ∙ l z
least_same p q h (Some y) l = (sym (h y) ∙ l.0, λ z t. l.1 z (h z ∙ t))

module _ (first : ℕ) (below : ℕ → ℕ → Bool) (fs : List (Fact ℕ)) (x s e : ℕ) where
  abbrev roles : ℕ → Bool
  roles r = below r s

  pub from_first : filled_from first below fs x s e 0 ≡ filled_successors first below fs x s e
  unfolding filled_from
  from_first =
      keep_all (leb 0) (filled_successors first below fs x s e)
      (λ k d lt. is_le 0 (get_or (filled_successors first below fs x s e) k d) (omega arith))

  pub member_from : (from z : ℕ)
      → list_any (eqb z) (filled_from first below fs x s e from)
      ≡ ((is_successor fs roles x z && has fs z e) && leb from z)
  unfolding filled_from
  member_from from z =
      member_filter (leb from) z (filled_successors first below fs x s e)
      ∙ ap (λ (t : Bool). t && leb from z) (member_filled first below fs x s e z)

  from_ascending : (from : ℕ) → AllPairs (λ y z. y < z) (filled_from first below fs x s e from)
  unfolding filled_from
  from_ascending from =
      AllPairs-filter (λ y z. y < z) (leb from) (filled_successors first below fs x s e)
      (filled_ascending first below fs x s e)

  after_least : (from y : ℕ) → from ≤ y
      → filter (leb (y + 1)) (filled_from first below fs x s e from) ≡ filled_from first below fs x s e (y + 1)
  unfolding filled_from
  after_least from y le = filter_twice from (y + 1) (omega (arith, le)) (filled_successors first below fs x s e)

  -- ---- the least of them

  module _ (from : ℕ) where
    not_before : (y : ℕ) → list_any (eqb y) (filled_from first below fs x s e from) ≡ true → from ≤ y
    not_before y m =
        leb-true from y
        (and_parts (is_successor fs roles x y && has fs y e) (leb from y) (sym (member_from from y) ∙ m)).1

    pub next_is : (o : Option ℕ) → IsLeast (λ z. list_any (eqb z) (filled_from first below fs x s e from)) o
        → MatchOption o (filled_from first below fs x s e from ≡ [])
        (λ y. filled_from first below fs x s e from ≡ y ∷ filled_from first below fs x s e (y + 1))
    next_is None l = none_is_empty (filled_from first below fs x s e from) l
    next_is (Some y) l =
        least_is_first (filled_from first below fs x s e from) (from_ascending from) y l
        ∙ ap (λ (zs : List ℕ). y ∷ zs) (after_least from y (not_before y l.0))

    pub next_is_later : (o : Option ℕ) → IsLeast (λ z. list_any (eqb z) (filled_from first below fs x s e from)) o
        → IfSome o (λ y. from ≤ y)
    next_is_later None l = tt
    next_is_later (Some y) l = not_before y l.0

    pub next_is_node : (o : Option ℕ) → IsLeast (λ z. list_any (eqb z) (filled_from first below fs x s e from)) o
        → IfSome o (λ y. y < node_count_from first fs)
    next_is_node None l = tt
    next_is_node (Some y) l =
        let t = and_parts (is_successor fs roles x y && has fs y e) (leb from y) (sym (member_from from y) ∙ l.0) in
        successor_is_node first fs roles x y (and_parts (is_successor fs roles x y) (has fs y e) t.0).0

  module _ (edges : List (ℕ × ℕ)) where
    -- whether a number is that of one of the first edges' ends that are counted, from one on
    abbrev pub is_seen : ℕ → ℕ → ℕ → Bool
    is_seen from count z = list_any (fits_at roles (λ v. has fs v e && leb from v) (rep fs) z) (take count edges)

    pub none_seen : (from : ℕ) → IsLeast (is_seen from 0) None
    none_seen from = λ z. refl

    pub seen_more : (from i : ℕ) (d : ℕ × ℕ) (fits : Bool) (end : ℕ) → i < length edges
        → fits ≡ (below (get_or edges i d).0 s && has fs (get_or edges i d).1 e) → end ≡ rep fs (get_or edges i d).1
        → (o : Option ℕ) → IsLeast (λ z. is_seen from i z || ((fits && leb from end) && eqb z end)) o
        → IsLeast (is_seen from (i + 1)) o
    seen_more from i d fits end lt test at o l =
        let p = get_or edges i d in
        let same : (fits && leb from end) ≡ (below p.0 s && (has fs (rep fs p.1) e && leb from (rep fs p.1))) =
        (λ j. test j && leb from (at j))
        ∙ sym (and_in (below p.0 s) (has fs p.1 e) (leb from (rep fs p.1)))
        ∙ ap (λ (t : Bool). below p.0 s && (t && leb from (rep fs p.1))) (sym (has_rep fs p.1 e)) in
        least_same (λ z. is_seen from i z || ((fits && leb from end) && eqb z end)) (is_seen from (i + 1))
        (λ z. (λ j. is_seen from i z || (same j && eqb z (at j)))
        ∙ sym (any_more (fits_at roles (λ v. has fs v e && leb from v) (rep fs) z) edges i d lt))
        o l

    module _ (are : AreEdges fs x edges) where
      pub seen_all : (from count : ℕ) → length edges ≤ count → (o : Option ℕ) → IsLeast (is_seen from count) o
          → IsLeast (λ z. list_any (eqb z) (filled_from first below fs x s e from)) o
      seen_all from count past o l =
          least_same (is_seen from count) (λ z. list_any (eqb z) (filled_from first below fs x s e from))
          (λ z.
          ap (list_any (fits_at roles (λ v. has fs v e && leb from v) (rep fs) z)) (take_all count edges past)
          ∙ all_fit roles (λ v. has fs v e && leb from v) (rep fs) z edges
          ∙ ap (λ (t : Bool). t && (has fs z e && leb from z)) (are roles z)
          ∙ and_in (is_successor fs roles x z) (has fs z e) (leb from z)
          ∙ sym (member_from from z))
          o l

      -- ---- which edges lead to them

      counted_edge : (P : Type 0) (z : ℕ) → is_successor fs roles x z ≡ true → has fs z e ≡ true
          → ((k : ℕ) (d : ℕ × ℕ) → k < length edges
          → (below (get_or edges k d).0 s && has fs (get_or edges k d).1 e) ≡ true → rep fs (get_or edges k d).1 ≡ z
          → P)
          → P
      counted_edge P z next h each =
          where_any (λ p. roles p.0 && eqb (rep fs p.1) z) P edges
          (λ k d lt hit.
          let p = get_or edges k d in
          let t = and_parts (below p.0 s) (eqb (rep fs p.1) z) hit in
          let at : rep fs p.1 ≡ z = eqb-true (rep fs p.1) z t.1 in
          let there : has fs p.1 e ≡ true = sym (has_rep fs p.1 e) ∙ ap (λ (v : ℕ). has fs v e) at ∙ h in
          each k d lt (rw (t.0, there) refl) at)
          (are roles z ∙ next)

      pub end_is_node : (k : ℕ) (d : ℕ × ℕ) → k < length edges
          → (below (get_or edges k d).0 s && has fs (get_or edges k d).1 e) ≡ true
          → rep fs (get_or edges k d).1 < node_count_from first fs
      end_is_node k d lt hit =
          let p = get_or edges k d in
          successor_is_node first fs roles x (rep fs p.1)
          (next_at fs x edges roles k d are lt (and_parts (below p.0 s) (has fs p.1 e) hit).0)

      end_is_member : (from k : ℕ) (d : ℕ × ℕ) → k < length edges
          → (below (get_or edges k d).0 s && has fs (get_or edges k d).1 e) ≡ true → from ≤ rep fs (get_or edges k d).1
          → list_any (eqb (rep fs (get_or edges k d).1)) (filled_from first below fs x s e from) ≡ true
      end_is_member from k d lt hit le =
          let p = get_or edges k d in
          let t = and_parts (below p.0 s) (has fs p.1 e) hit in
          member_from from (rep fs p.1)
          ∙ rw (next_at fs x edges roles k d are lt t.0, has_rep fs p.1 e, t.1, is_le from (rep fs p.1) le) refl

      pub all_are_apart : (one : ℕ)
          → ((k : ℕ) (d : ℕ × ℕ) → k < length edges
          → (below (get_or edges k d).0 s && has fs (get_or edges k d).1 e) ≡ true → one < rep fs (get_or edges k d).1
          → are_apart fs one (rep fs (get_or edges k d).1) ≡ true)
          → list_all (are_apart fs one) (filled_from first below fs x s e (one + 1)) ≡ true
      all_are_apart one each =
          all_from (are_apart fs one) (filled_from first below fs x s e (one + 1))
          (λ y m.
          let t =
          and_parts (is_successor fs roles x y && has fs y e) (leb (one + 1) y) (sym (member_from (one + 1) y) ∙ m) in
          let u = and_parts (is_successor fs roles x y) (has fs y e) t.0 in
          let le : one + 1 ≤ y = leb-true (one + 1) y t.1 in
          counted_edge (are_apart fs one y ≡ true) y u.0 u.1
          (λ k d lt hit at. subst (λ (v : ℕ). are_apart fs one v ≡ true) at (each k d lt hit (omega (arith, le, at)))))

      pub one_is_not_apart : (one k : ℕ) (d : ℕ × ℕ) → k < length edges
          → (below (get_or edges k d).0 s && has fs (get_or edges k d).1 e) ≡ true → one < rep fs (get_or edges k d).1
          → are_apart fs one (rep fs (get_or edges k d).1) ≡ false
          → list_all (are_apart fs one) (filled_from first below fs x s e (one + 1)) ≡ false
      one_is_not_apart one k d lt hit less out =
          elim (cases_Bool (list_all (are_apart fs one) (filled_from first below fs x s e (one + 1)))) [
            | inr refused ↦ refused
            | inl every ↦
                let y = rep fs (get_or edges k d).1 in
                let h : are_apart fs one y ≡ true =
                all_at (are_apart fs one) y (filled_from first below fs x s e (one + 1)) every
                (end_is_member (one + 1) k d lt hit (omega (arith, less))) in
                cc
          ]

      -- ---- how many there are

      pub no_more_than_edges : length (filled_successors first below fs x s e)
          ≤ count_by (λ p. below p.0 s && has fs p.1 e) edges
      no_more_than_edges =
          let test : ℕ × ℕ → Bool = λ p. below p.0 s && has fs p.1 e in
          let ends = map (λ (p : ℕ × ℕ). rep fs p.1) (filter test edges) in
          let le : length (filled_successors first below fs x s e) ≤ length ends =
          length-le_from_is_member nat_eq_equiv (filled_successors first below fs x s e) ends
          (filled_distinct first below fs x s e)
          (λ z m.
          let t = and_parts (is_successor fs roles x z) (has fs z e) (sym (member_filled first below fs x s e z) ∙ m) in
          counted_edge (list_any (eqb z) ends ≡ true) z t.0 t.1
          (λ k d lt hit at. subst (λ (v : ℕ). list_any (eqb v) ends ≡ true) at
          (kept_member test (λ p. rep fs p.1) edges k d lt hit))) in
          omega (arith, le, length-map (filter test edges) (λ (p : ℕ × ℕ). rep fs p.1), length-filter test edges)
        where
          kept_member : (test : ℕ × ℕ → Bool) (f : ℕ × ℕ → ℕ) (ps : List (ℕ × ℕ)) (k : ℕ) (d : ℕ × ℕ) → k < length ps
              → test (get_or ps k d) ≡ true → list_any (eqb (f (get_or ps k d))) (map f (filter test ps)) ≡ true
          kept_member test f [] k d lt hit = absurd (omega (arith, lt))
          kept_member test f (p ∷ ps) zero d lt hit = rw (hit, eq-eqb (f p) (f p) refl) refl
          kept_member test f (p ∷ ps) (suc k) d lt hit = elim (cases_Bool (test p)) [
            | inl here ↦
                rw here (or_right (eqb (f (get_or ps k d)) (f p))
                (list_any (eqb (f (get_or ps k d))) (map f (filter test ps)))
                (kept_member test f ps k d (omega (arith, lt)) hit))
            | inr not ↦ rw not (kept_member test f ps k d (omega (arith, lt)) hit)
          ]
