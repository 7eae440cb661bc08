-- Elements by their numbers.
use Rattle.std.proofs.Common.{◌≡◌, ℕ, zero, suc, ◌+◌, ◌<◌, ◌≤◌, ◌&&◌, Bool, true, false, cond, eqb, List, [], ◌∷◌, ◌++◌}
use Rattle.std.proofs.Common.{map, length, get_or, Some, None, refl, ap, ◌∙◌, sym, subst, arith, inl, inr, add-one}
use Rattle.std.proofs.Common.{eq-eqb}
use Rattle.std.specs.Prelude.{Option, nat_lt, filter, if◌then◌else◌}
use Rattle.std.specs.List.{range_with_len}
use Rattle.std.proofs.lemmas.Bool.{cases_lt, cases_order, and_parts, and_from, eqb-true, ltb-true, lt-ltb, false≢true}
use Rattle.std.proofs.lemmas.List.{map-append, length-map, length-append, get_or_append_left}
use Rattle.std.proofs.Math.Seq.{get_or-append_seam}
use Rattle.std.proofs.lemmas.List.Elements.{filter-append}
use Rattle.std.proofs.lemmas.List.FromFn.{get_or-map-range_with_len, length-map-range_with_len}
use Rattle.shq_terms.proofs.Bools.{same_truth}
use Rattle.calculus_specs.specs.declared.facts.Fact.{Fact}
use Rattle.calculus_specs.specs.State.{node_count_from}
use Rattle.search_laws.proofs.Counting.{passing_at, passing_ascends, length-passing, count_most}
use Rattle.search_laws.specs.Elements.{is_element, elements, node_at, original}
use Rattle.model_builder.specs.Numbered.{elements_below, number_of, like_node, number_in, original_list, AreNumbered}

-- ---- the first numbers that pass

range_more : (a n j : ℕ) → a + n ≡ j → range_with_len a (suc n) ≡ range_with_len a n ++ j ∷ []
range_more a zero j e = let s : a ≡ j = omega (arith, e) in ap (λ (x : ℕ). x ∷ []) s
range_more a (suc n) j e = ap (λ (xs : List ℕ). a ∷ xs) (range_more (a + 1) n j (omega (arith, e)))

range_next : (n : ℕ) → range_with_len 0 (n + 1) ≡ range_with_len 0 n ++ n ∷ []
range_next n = ap (λ (m : ℕ). range_with_len 0 m) (add-one n) ∙ range_more 0 n n (omega arith)

filter_next : (p : ℕ → Bool) (n : ℕ)
    → filter p (range_with_len 0 (n + 1)) ≡ filter p (range_with_len 0 n) ++ cond (p n) (n ∷ []) []
filter_next p n = ap (filter p) (range_next n) ∙ filter-append p (range_with_len 0 n) (n ∷ [])

-- a number that passes stands behind those that pass before it
pub record OwnPlace (p : ℕ → Bool) (n y : ℕ) : Type 0 where
  pub is_within : length (filter p (range_with_len 0 y)) < length (filter p (range_with_len 0 n))
  pub is_there : get_or (filter p (range_with_len 0 n)) (length (filter p (range_with_len 0 y))) 0 ≡ y

own_in : (p : ℕ → Bool) (n y : ℕ) (more : List ℕ) → OwnPlace p n y
    → filter p (range_with_len 0 (n + 1)) ≡ filter p (range_with_len 0 n) ++ more → OwnPlace p (n + 1) y
own_in p n y more o e = record {
  is_within = omega (arith, o.is_within, ap length e, length-append (filter p (range_with_len 0 n)) more);
  is_there =
      ap (λ (xs : List ℕ). get_or xs (length (filter p (range_with_len 0 y))) 0) e
      ∙ get_or_append_left (filter p (range_with_len 0 n)) more 0 (length (filter p (range_with_len 0 y))) o.is_within
      ∙ o.is_there;
}

own_last : (p : ℕ → Bool) (n : ℕ) → p n ≡ true → OwnPlace p (n + 1) n
own_last p n h =
    let e : filter p (range_with_len 0 (n + 1)) ≡ filter p (range_with_len 0 n) ++ n ∷ [] =
    filter_next p n ∙ ap (λ (b : Bool). filter p (range_with_len 0 n) ++ cond b (n ∷ []) []) h in
    record {
      is_within = omega (arith, ap length e, length-append (filter p (range_with_len 0 n)) (n ∷ []));
      is_there =
          ap (λ (xs : List ℕ). get_or xs (length (filter p (range_with_len 0 n))) 0) e
          ∙ get_or-append_seam (filter p (range_with_len 0 n)) n [] 0;
    }

pub own_from : (p : ℕ → Bool) (n y : ℕ) → y < n → p y ≡ true → OwnPlace p n y
own_from p zero y lt h = absurd (omega arith)
own_from p (suc n) y lt h =
    subst (λ (m : ℕ). OwnPlace p m y) (add-one n)
    (elim (cases_lt y n) [
      | inl low ↦ own_in p n y (cond (p n) (n ∷ []) []) (own_from p n y low h) (filter_next p n)
      | inr high ↦
          let e : n ≡ y = omega (arith, lt, high) in
          subst (λ (z : ℕ). OwnPlace p (n + 1) z) e (own_last p n (subst (λ (z : ℕ). p z ≡ true) (sym e) h))
    ])

-- ---- one node more

number_by : (k z : ℕ) (b : Bool) → number_in k (if b then Some z else None) ≡ (if b then Some k else None)
number_by k z true = refl
number_by k z false = refl

originals_by : (f : ℕ → ℕ) (x : ℕ) (b : Bool)
    → original_list (if b then Some (f x) else None) ≡ map f (cond b (x ∷ []) [])
originals_by f x true = refl
originals_by f x false = refl

module _ (first : ℕ) (fs : List (Fact ℕ)) (n : ℕ) (numbers : List (Option ℕ)) (originals : List ℕ)
    (before : AreNumbered first fs n numbers originals) where
  as_many : length originals ≡ length (elements_below first fs n)
  as_many = ap length before.originals_are ∙ length-map (elements_below first fs n) (original first fs)

  pub few_originals : length originals ≤ n
  few_originals = omega (arith, as_many, length-passing (is_element first fs) n, count_most n (is_element first fs))

  pub numbered_more : (found : Option ℕ) (numbers' : List (Option ℕ)) (originals' : List ℕ)
      → found ≡ like_node first fs n
      → numbers' ≡ numbers ++ number_in (length originals) found ∷ [] → originals' ≡ originals ++ original_list found
      → AreNumbered first fs (n + 1) numbers' originals'
  numbered_more found numbers' originals' is put kept =
      let count = length (elements_below first fs n) in
      let here : number_in (length originals) found ≡ number_of first fs n =
      (λ i. number_in (as_many i) (is i)) ∙ number_by count (original first fs n) (is_element first fs n) in
      let last : original_list found ≡ map (original first fs) (cond (is_element first fs n) (n ∷ []) []) =
      ap original_list is ∙ originals_by (original first fs) n (is_element first fs n) in
      record {
        numbers_are =
            put
            ∙ (λ i. before.numbers_are i ++ here i ∷ [])
            ∙ sym (map-append (number_of first fs) (range_with_len 0 n) (n ∷ []))
            ∙ ap (map (number_of first fs)) (sym (range_next n));
        originals_are =
            kept
            ∙ (λ i. before.originals_are i ++ last i)
            ∙ sym
            (map-append (original first fs) (elements_below first fs n) (cond (is_element first fs n) (n ∷ []) []))
            ∙ ap (map (original first fs)) (sym (filter_next (is_element first fs) n));
      }

-- there are as many originals as elements
pub all_elements : (first : ℕ) (fs : List (Fact ℕ)) (numbers : List (Option ℕ)) (originals : List ℕ) (size : ℕ)
    → AreNumbered first fs (node_count_from first fs) numbers originals → size ≡ length originals
    → size ≡ length (elements first fs)
all_elements first fs numbers originals size numbered all =
    all ∙ ap length numbered.originals_are ∙ length-map (elements first fs) (original first fs)

-- ---- the node of a number

abbrev pub is_at : Option ℕ → ℕ → Bool
is_at None u = false
is_at (Some k) u = eqb k u

number_means : (k u : ℕ) (b : Bool) → is_at (if b then Some k else None) u ≡ true → (b ≡ true) × (k ≡ u)
number_means k u true h = (refl, eqb-true k u h)
number_means k u false h = absurd (false≢true h)

means_number : (k u : ℕ) (b : Bool) → b ≡ true → k ≡ u → is_at (if b then Some k else None) u ≡ true
means_number k u true h e = eq-eqb k u e
means_number k u false h e = absurd (false≢true h)

module _ (first : ℕ) (fs : List (Fact ℕ)) where
  abbrev numbers : List (Option ℕ)
  numbers = map (number_of first fs) (range_with_len 0 (node_count_from first fs))

  number_here : (y : ℕ) → y < node_count_from first fs → get_or numbers y None ≡ number_of first fs y
  number_here y lt =
      get_or-map-range_with_len (number_of first fs) 0 (node_count_from first fs) y y None lt (omega arith)

  number_past : (y : ℕ) → node_count_from first fs ≤ y → get_or numbers y None ≡ None
  number_past y le =
      past numbers y (omega (arith, le, length-map-range_with_len (number_of first fs) 0 (node_count_from first fs)))
    where
      past : (xs : List (Option ℕ)) (k : ℕ) → length xs ≤ k → get_or xs k None ≡ None
      past [] k h = refl
      past (x ∷ xs) zero h = absurd (omega (arith, h))
      past (x ∷ xs) (suc k) h = past xs k (omega (arith, h))

  to_node : (y u : ℕ) → is_at (get_or numbers y None) u ≡ true
      → (nat_lt u (length (elements first fs)) && eqb y (node_at first fs u)) ≡ true
  to_node y u h = elim (cases_lt y (node_count_from first fs)) [
    | inl low ↦
        let m =
        number_means (length (elements_below first fs y)) u (is_element first fs y)
        (ap (λ (o : Option ℕ). is_at o u) (sym (number_here y low)) ∙ h) in
        let o = own_from (is_element first fs) (node_count_from first fs) y low m.0 in
        let e : length (elements_below first fs y) ≡ u = m.1 in
        and_from (nat_lt u (length (elements first fs))) (eqb y (node_at first fs u))
        (lt-ltb u (length (elements first fs)) (omega (arith, o.is_within, e)))
        (eq-eqb y (node_at first fs u) (sym o.is_there ∙ ap (λ (k : ℕ). get_or (elements first fs) k 0) e))
    | inr high ↦ absurd (false≢true (ap (λ (o : Option ℕ). is_at o u) (sym (number_past y high)) ∙ h))
  ]

  at_node : (u : ℕ) → u < length (elements first fs) → is_at (get_or numbers (node_at first fs u) None) u ≡ true
  at_node u lt =
      let p = passing_at (is_element first fs) (node_count_from first fs) u lt in
      let o = own_from (is_element first fs) (node_count_from first fs) (node_at first fs u) p.0 p.1 in
      let k = length (elements_below first fs (node_at first fs u)) in
      let ascends = passing_ascends (is_element first fs) (node_count_from first fs) in
      let same : k ≡ u = elim (cases_order k u) [
        | inl e ↦ e
        | inr other ↦ elim other [
          | inl less ↦ (let a = ascends k u 0 less lt in absurd (omega (arith, a, o.is_there)))
          | inr more ↦ (let a = ascends u k 0 more o.is_within in absurd (omega (arith, a, o.is_there)))
        ]
      ] in
      ap (λ (x : Option ℕ). is_at x u) (number_here (node_at first fs u) p.0)
      ∙ means_number k u (is_element first fs (node_at first fs u)) p.1 same

  from_node : (y u : ℕ) → (nat_lt u (length (elements first fs)) && eqb y (node_at first fs u)) ≡ true
      → is_at (get_or numbers y None) u ≡ true
  from_node y u h =
      let t = and_parts (nat_lt u (length (elements first fs))) (eqb y (node_at first fs u)) h in
      let e : y ≡ node_at first fs u = eqb-true y (node_at first fs u) t.1 in
      subst (λ (z : ℕ). is_at (get_or numbers z None) u ≡ true) (sym e)
      (at_node u (ltb-true u (length (elements first fs)) t.0))

  -- a node has the number u exactly where it is the node of the element u
  pub number_is : (y u : ℕ)
      → is_at (get_or (map (number_of first fs) (range_with_len 0 (node_count_from first fs))) y None) u
      ≡ (nat_lt u (length (elements first fs)) && eqb y (node_at first fs u))
  number_is y u =
      same_truth (is_at (get_or numbers y None) u) (nat_lt u (length (elements first fs)) && eqb y (node_at first fs u))
      (to_node y u) (from_node y u)

-- the same lists are
pub numbered_same : (first : ℕ) (fs : List (Fact ℕ)) (n : ℕ) (ns ns' : List (Option ℕ)) (os os' : List ℕ)
    → AreNumbered first fs n ns os → ns' ≡ ns → os' ≡ os → AreNumbered first fs n ns' os'
numbered_same first fs n ns ns' os os' numbered same alike =
    record { numbers_are = same ∙ numbered.numbers_are; originals_are = alike ∙ numbered.originals_are }
