-- Lists in the order of sets.
use Rattle.std.proofs.Common.{◌≡◌, ℕ, ◌+◌, ◌-◌, ◌<◌, ◌≤◌, ◌++◌, ◌∷◌, [], List, true, length, get_or, take, drop, sym}
use Rattle.std.proofs.Common.{ap, ◌∙◌, subst, arith, inl, inr}
use Rattle.std.specs.Ordering.{MatchOrdering, ordering_reverse}
use Rattle.std.specs.List.{Contains, insert}
use Rattle.std.specs.FinSet as set
use Rattle.std.specs.declared.cmp.Ordering.{Ordering}
use Rattle.std.specs.declared.cmp.Ordering.TheVariants.{Less, Equal, Greater}
use Rattle.std.proofs.lemmas.Bool.{cases_eq, cases_lt}
use Rattle.std.proofs.lemmas.Cmp.{nat_list_cmp_total}
use Rattle.std.proofs.lemmas.Map.Lookups.{exact_bytes}
use Rattle.std.proofs.lemmas.List.{get_or_default, take-append-drop}
use Rattle.std.proofs.lemmas.List.Edits.{length-insert, get_or-insert_at, get_or-insert_below, get_or-insert_above}
use Rattle.std.proofs.lemmas.List.Elements.{Contains-append_left, Contains-append_right, Contains-append_cases}
use Rattle.std.proofs.lemmas.List.Elements.{Contains-push, Contains-push_cases}
use Rattle.lane_sieve.specs.Sets.{IsPart}
use Rattle.pinpointing_specs.specs.Sets.{Limited, IsWithin, member_list, list_cmp}
use Rattle.pinpointing_specs.proofs.Listed.{member_list-at, member_list-place}
use Rattle.pinpointing_specs.proofs.Same.{set_of_parts, same_limited}
use Rattle.pinpointing_specs.specs.Order.{IsAscending}
use Rattle.set_questions.specs.InOrder.{IsBetween, HasMore, AreInOrder}

-- ---- sets of equal lists are equal

part_by_lists : (s t : Limited) → IsWithin s.limit s.members → member_list s ≡ member_list t
    → IsPart s.members t.members
part_by_lists s t within e k h =
    let place = member_list-place s within k h in
    let lt : place.0 < length (member_list t) = subst (λ (xs : List ℕ). place.0 < length xs) e place.1 in
    let at = member_list-at t place.0 lt in
    subst (λ (n : ℕ). set.contains t.members n ≡ true) (ap (λ (xs : List ℕ). get_or xs place.0 0) (sym e) ∙ place.2)
    at.0

pub order_says : (s t : Limited) → IsWithin s.limit s.members → IsWithin t.limit t.members → s.limit ≡ t.limit
    → (o : Ordering) → o ≡ list_cmp s t
    → MatchOrdering o (list_cmp s t ≡ Less) (s ≡ t) (list_cmp s t ≡ Greater)
order_says s t ws wt e Less h = sym h
order_says s t ws wt e Equal h =
    let lists : member_list s ≡ member_list t = exact_bytes (member_list s) (member_list t) (sym h) in
    same_limited s t e
    (set_of_parts s.members t.members (part_by_lists s t ws lists) (part_by_lists t s wt (sym lists)))
order_says s t ws wt e Greater h = sym h

-- ---- what comes before and after

pub less_less : (s t u : Limited) → list_cmp s t ≡ Less → list_cmp t u ≡ Less → list_cmp s u ≡ Less
less_less s t u h h' = nat_list_cmp_total.trans (member_list s) (member_list t) (member_list u) h h'

pub turned : (s t : Limited) → list_cmp s t ≡ Greater → list_cmp t s ≡ Less
turned s t h = nat_list_cmp_total.antisymm (member_list t) (member_list s) ∙ ap ordering_reverse h

pub turned_back : (s t : Limited) → list_cmp t s ≡ Less → list_cmp s t ≡ Greater
turned_back s t h = nat_list_cmp_total.antisymm (member_list s) (member_list t) ∙ ap ordering_reverse h

module _ (sets : List Limited) (s : Limited) (low high middle : ℕ) (ascending : IsAscending sets)
    (between : IsBetween sets s low high) (from : low ≤ middle) (to : middle < high) where
  here : (d : Limited) → get_or sets middle d ≡ get_or sets middle s
  here d = get_or_default sets middle d s (omega (arith, between.within))

  pub to_right : list_cmp (get_or sets middle s) s ≡ Less → IsBetween sets s (middle + 1) high
  to_right less =
      record {
        ordered = omega arith;
        within = between.within;
        before = λ k d lt. elim (cases_eq k middle) [
          | inl e ↦ ap (λ (j : ℕ). list_cmp (get_or sets j d) s) e ∙ ap (λ (x : Limited). list_cmp x s) (here d) ∙ less
          | inr ne ↦
              less_less (get_or sets k d) (get_or sets middle d) s
              (ascending k middle d (omega arith) (omega (arith, between.within)))
              (ap (λ (x : Limited). list_cmp x s) (here d) ∙ less)
        ];
        after = between.after;
      }

  pub to_left : list_cmp (get_or sets middle s) s ≡ Greater → IsBetween sets s low middle
  to_left greater =
      record {
        ordered = from;
        within = omega (arith, between.within);
        before = between.before;
        after = λ k d le lt. elim (cases_eq k middle) [
          | inl e ↦
              ap (λ (j : ℕ). list_cmp (get_or sets j d) s) e ∙ ap (λ (x : Limited). list_cmp x s) (here d) ∙ greater
          | inr ne ↦
              turned_back (get_or sets k d) s
              (less_less s (get_or sets middle d) (get_or sets k d)
              (turned (get_or sets middle d) s (ap (λ (x : Limited). list_cmp x s) (here d) ∙ greater))
              (ascending middle k d (omega arith) lt))
        ];
      }

-- ---- one set more

module _ (sets : List Limited) (s : Limited) (n : ℕ) (ascending : IsAscending sets)
    (between : IsBetween sets s n n) where
  abbrev more : List Limited
  more = insert sets n s

  below : (k : ℕ) (d : Limited) → k < n → get_or more k d ≡ get_or sets k d
  below k d lt = get_or-insert_below sets n s d k lt between.within

  at : (k : ℕ) (d : Limited) → k ≡ n → get_or more k d ≡ s
  at k d e = ap (λ (j : ℕ). get_or more j d) e ∙ get_or-insert_at sets n s d between.within

  above : (k : ℕ) (d : Limited) → n < k → get_or more k d ≡ get_or sets (k - 1) d
  above k d lt =
      let e : k ≡ (k - 1) + 1 = omega arith in
      ap (λ (j : ℕ). get_or more j d) e ∙ get_or-insert_above sets n s d (k - 1) (omega arith) between.within

  both : (x y x' y' : Limited) → x ≡ x' → y ≡ y' → list_cmp x' y' ≡ Less → list_cmp x y ≡ Less
  both x y x' y' e f h = ap (λ (z : Limited). list_cmp z y) e ∙ ap (λ (z : Limited). list_cmp x' z) f ∙ h

  long : length more ≡ length sets + 1
  long = length-insert sets n s between.within

  pub inserted : IsAscending more
  inserted i j d lt within =
      elim (cases_lt j n) [
        | inl j_low ↦ both _ _ _ _ (below i d (omega arith)) (below j d j_low)
            (ascending i j d lt (omega (arith, between.within)))
        | inr j_high ↦ elim (cases_eq j n) [
          | inl e ↦ both _ _ _ _ (below i d (omega arith)) (at j d e) (between.before i d (omega arith))
          | inr j_ne ↦ elim (cases_lt i n) [
            | inl i_low ↦
                both _ _ _ _ (below i d i_low) (above j d (omega arith))
                (ascending i (j - 1) d (omega arith) (omega (arith, long)))
            | inr i_high ↦ elim (cases_eq i n) [
              | inl e ↦
                  both _ _ _ _ (at i d e) (above j d (omega arith))
                  (turned (get_or sets (j - 1) d) s (between.after (j - 1) d (omega arith) (omega (arith, long))))
              | inr i_ne ↦
                  both _ _ _ _ (above i d (omega arith)) (above j d (omega arith))
                  (ascending (i - 1) (j - 1) d (omega arith) (omega (arith, long)))
            ]
          ]
        ]
      ]

only_one : (y x : Limited) → Contains (y ∷ []) x → x ≡ y
only_one y x h = elim (Contains-push_cases [] y x h) [ inl none ↦ absurd (omega (arith, none.1)) | inr e ↦ sym e ]

pub insert_has : (sets : List Limited) (s : Limited) (n : ℕ) → HasMore sets s (insert sets n s)
insert_has sets s n x = (
  λ h. elim (Contains-append_cases (take n sets) (s ∷ drop n sets) x h) [
    | inl front ↦
        inl (subst (λ (xs : List Limited). Contains xs x) (take-append-drop n sets)
        (Contains-append_left (take n sets) (drop n sets) x front))
    | inr back ↦ elim (Contains-append_cases (s ∷ []) (drop n sets) x back) [
      | inl one ↦ inr (only_one s x one)
      | inr rest ↦
          inl (subst (λ (xs : List Limited). Contains xs x) (take-append-drop n sets)
          (Contains-append_right (take n sets) (drop n sets) x rest))
    ]
  ],
  λ h. elim h [
    | inl old ↦
        elim (Contains-append_cases (take n sets) (drop n sets) x
        (subst (λ (xs : List Limited). Contains xs x) (sym (take-append-drop n sets)) old)) [
          | inl front ↦ Contains-append_left (take n sets) (s ∷ drop n sets) x front
          | inr rest ↦
              Contains-append_right (take n sets) (s ∷ drop n sets) x
              (Contains-append_right (s ∷ []) (drop n sets) x rest)
        ]
    | inr e ↦
        Contains-append_right (take n sets) (s ∷ drop n sets) x
        (subst (λ (y : Limited). Contains (s ∷ drop n sets) y) (sym e)
        (Contains-append_left (s ∷ []) (drop n sets) s (Contains-push [] s)))
  ],
)

pub had : (sets : List Limited) (s : Limited) → Contains sets s → HasMore sets s sets
had sets s listed x =
    (λ h. inl h, λ h. elim h [ inl old ↦ old | inr e ↦ subst (λ (y : Limited). Contains sets y) (sym e) listed ])

-- the sets of a longer front are those of the front and one more
front_more : (longer front : List Limited) (s : Limited) → HasMore front s longer → (list : List Limited)
    → ((x : Limited) → Contains front x → Contains list x) → ((x : Limited) → Contains list x → Contains front x)
    → (x : Limited)
    → (Contains longer x → Contains (list ++ s ∷ []) x) × (Contains (list ++ s ∷ []) x → Contains longer x)
front_more longer front s has list to from x = (
  λ h. elim ((has x).0 h) [
    | inl old ↦ Contains-append_left list (s ∷ []) x (to x old)
    | inr e ↦ subst (λ (y : Limited). Contains (list ++ s ∷ []) y) (sym e) (Contains-push list s)
  ],
  λ h. elim (Contains-push_cases list s x h)
      [ inl old ↦ (has x).1 (inl (from x old)) | inr e ↦ (has x).1 (inr (sym e)) ],
)

-- one set more is put last into the one list, and to its place in the other
pub one_more_in_order : (sets ordered longer : List Limited) (s : Limited) → AreInOrder sets ordered
    → IsAscending longer → HasMore ordered s longer → AreInOrder (sets ++ s ∷ []) longer
one_more_in_order sets ordered longer s old order has = record {
  order = order;
  same = front_more longer ordered s has sets (λ x. (old.same x).0) (λ x. (old.same x).1);
}

pub none_in_order : AreInOrder [] []
none_in_order = record { order = λ i j d lt within. absurd (omega arith); same = λ s. (λ at. at, λ at. at) }
