-- The places of individuals.
use Rattle.std.proofs.Common.{◌≡◌, ℕ, zero, suc, ◌+◌, ◌<◌, Bool, cond, List, [], ◌∷◌, ◌++◌, map, length, get_or, Some}
use Rattle.std.proofs.Common.{None, refl, ap, ◌∙◌, sym, subst, arith, inl, inr, add-one}
use Rattle.std.specs.Prelude.{Option, nat_eq, unwrap_or, take, if◌then◌else◌, All}
use Rattle.std.specs.List.{range_with_len}
use Rattle.std.proofs.lemmas.Bool.{cases_lt, ne_eqb}
use Rattle.std.proofs.lemmas.Bool.Decides.{nat_tests}
use Rattle.std.proofs.lemmas.List.{length-append, get_or_append_left, get_or_default}
use Rattle.std.proofs.Math.Seq.{get_or-append_seam}
use Rattle.std.proofs.lemmas.List.FromFn.{get_or-map-range_with_len}
use Rattle.calculus_specs.specs.declared.facts.Fact.{Fact}
use Rattle.calculus_specs.specs.Joins.{rep}
use Rattle.calculus_specs.specs.State.{node_count_from}
use Rattle.tableau_specs.proofs.TreeShaped.{first_le}
use Rattle.search_laws.specs.Elements.{is_element, elements, IsNumberOf}
use Rattle.search_laws.proofs.First.{rep_is_first, first_is_element}
use Rattle.finite_model.specs.ModelLists.{ModelLists, meaning, with_individual}
use Rattle.model_builder.specs.Numbered.{elements_below, number_of, place_of}
use Rattle.model_builder.specs.Collected.{ArePlaces}
use Rattle.model_builder.specs.Gains.{HasPlaces}
use Rattle.model_builder.proofs.Numbers.{own_from}

-- ---- one individual

module _ (first : ℕ) (fs : List (Fact ℕ)) where
  -- the place of a first node is the number of its element
  place_is : (a : ℕ) → a < first
      → IsNumberOf first fs a
      (place_of (map (number_of first fs) (range_with_len 0 (node_count_from first fs))) (rep fs) a)
  place_is a lt =
      let node : rep fs a < node_count_from first fs = omega (arith, rep_is_first first fs a lt, first_le first fs) in
      let h = first_is_element first fs a lt in
      let o = own_from (is_element first fs) (node_count_from first fs) (rep fs a) node h in
      let at : place_of (map (number_of first fs) (range_with_len 0 (node_count_from first fs))) (rep fs) a
      ≡ length (elements_below first fs (rep fs a)) =
      ap (λ (o : Option ℕ). unwrap_or o 0)
      (get_or-map-range_with_len (number_of first fs) 0 (node_count_from first fs) (rep fs a) (rep fs a) None node
      (omega arith)
      ∙ ap (λ (b : Bool). if b then Some (length (elements_below first fs (rep fs a))) else None) h) in
      subst (λ (v : ℕ). IsNumberOf first fs a v) (sym at) (record { is_within = o.is_within; is_there = o.is_there })

  pub places_none : ArePlaces first fs 0 []
  places_none = record { long = refl; each = λ a lt. absurd (omega (arith, lt)) }

  pub places_more : (numbers : List (Option ℕ)) (n : ℕ) (old new : List ℕ)
      → numbers ≡ map (number_of first fs) (range_with_len 0 (node_count_from first fs)) → n < first
      → ArePlaces first fs n old → new ≡ old ++ place_of numbers (rep fs) n ∷ [] → ArePlaces first fs (n + 1) new
  places_more numbers n old new is lt before put = record {
    long = omega (arith, before.long, ap length put, length-append old (place_of numbers (rep fs) n ∷ []));
    each = λ a within. elim (cases_lt a n) [
      | inl less ↦
          let at : get_or new a 0 ≡ get_or old a 0 =
          ap (λ (xs : List ℕ). get_or xs a 0) put
          ∙ get_or_append_left old (place_of numbers (rep fs) n ∷ []) 0 a (omega (arith, before.long, less)) in
          subst (λ (v : ℕ). IsNumberOf first fs a v) (sym at) (before.each a less)
      | inr past ↦
          let same : n ≡ a = omega (arith, past, within) in
          let at : get_or new n 0
          ≡ place_of (map (number_of first fs) (range_with_len 0 (node_count_from first fs))) (rep fs) n =
          ap (λ (xs : List ℕ). get_or xs n 0) put ∙ last (place_of numbers (rep fs) n)
          ∙ ap (λ (ns : List (Option ℕ)). place_of ns (rep fs) n) is in
          subst (λ (b : ℕ). IsNumberOf first fs b (get_or new b 0)) same
          (subst (λ (v : ℕ). IsNumberOf first fs n v) (sym at) (place_is n lt))
    ];
  }
    where
      last : (x : ℕ) → get_or (old ++ x ∷ []) n 0 ≡ x
      last x = ap (λ (k : ℕ). get_or (old ++ x ∷ []) k 0) (sym before.long) ∙ get_or-append_seam old x [] 0

  -- they are elements
  pub places_inside : (n : ℕ) (places : List ℕ) → ArePlaces first fs n places
      → All (λ (x : ℕ). x < length (elements first fs)) places
  places_inside n places are k d lt =
      let same : get_or places k 0 ≡ get_or places k d = get_or_default places k 0 d lt in
      omega (arith, (are.each k (omega (arith, are.long, lt))).is_within, same)

-- ---- individuals that are put

none_placed : (k : ModelLists) (places : List ℕ) → HasPlaces k k (take 0 places)
none_placed k places = record { same_size = refl; same_members = refl; same_links = refl; individuals_are = λ a. refl }

next_same : (a n : ℕ) → nat_eq (suc a) (suc n) ≡ nat_eq a n
next_same a n = grind (arith, nat_tests)

-- the element of one place more
one_more : (places : List ℕ) (n a d : ℕ) → n < length places
    → cond (nat_eq a n) (get_or places n 0) (get_or (take n places) a d) ≡ get_or (take (suc n) places) a d
one_more [] n a d lt = absurd (omega (arith, lt))
one_more (x ∷ places) zero zero d lt = refl
one_more (x ∷ places) zero (suc a) d lt =
    ap (λ (b : Bool). cond b x d) (ne_eqb (suc a) 0 (λ e. absurd (omega (arith, e))))
one_more (x ∷ places) (suc n) zero d lt =
    ap (λ (b : Bool). cond b (get_or places n 0) x) (ne_eqb 0 (suc n) (λ e. absurd (omega (arith, e))))
one_more (x ∷ places) (suc n) (suc a) d lt =
    ap (λ (b : Bool). cond b (get_or places n 0) (get_or (take n places) a d)) (next_same a n)
    ∙ one_more places n a d (omega (arith, lt))

pub one_placed : (old mid new : ModelLists) (places : List ℕ) (n x : ℕ) → n < length places → x ≡ get_or places n 0
    → HasPlaces old mid (take n places) → new ≡ with_individual n x mid
    → ((a : ℕ) → (meaning new).individual a ≡ cond (nat_eq a n) x ((meaning mid).individual a))
    → HasPlaces old new (take (n + 1) places)
one_placed old mid new places n x lt is before put stands = record {
  same_size = ap (λ (k : ModelLists). k.size) put ∙ before.same_size;
  same_members = ap (λ (k : ModelLists). k.members) put ∙ before.same_members;
  same_links = ap (λ (k : ModelLists). k.links) put ∙ before.same_links;
  individuals_are = λ a.
      stands a
      ∙ (λ j. cond (nat_eq a n) (is j) (before.individuals_are a j))
      ∙ one_more places n a ((meaning old).individual a) lt
      ∙ ap (λ (m : ℕ). get_or (take m places) a ((meaning old).individual a)) (sym (add-one n));
}
