-- The next member, successor or beginning, from the first of a part of a set in order.
use Rattle.std.proofs.Common.{◌≡◌, ℕ, ◌^◌, ◌<◌, ◌≤◌, Bool, true, false, List, [], ◌∷◌, Option, Some, None, refl, ap}
use Rattle.std.proofs.Common.{sym, subst, ◌∙◌, arith}
use Rattle.std.specs.Prelude.{nat_lt, slice_get, if◌then◌else◌, IfSome}
use Rattle.std.specs.List.{filter, list_any}
use Rattle.std.specs.List.Sorted.{IsStrictlySortedBy}
use Rattle.std.specs.declared.cmp.Ordering.{Ordering}
use Rattle.std.specs.declared.cmp.Ordering.TheVariants.{Less}
use Rattle.std.specs.declared.ops.Bound.TheVariants.{Included}
use Rattle.std.specs.BTreeMap.Range.{range_contains}
use Rattle.std.proofs.lemmas.Bool.Decides.{nat_tests}
use Rattle.std.specs.Option.{MatchOption, option_copied}
use denote.Ref.{Bor}
use Rattle.finite_model.specs.ModelLists.{is_member, is_link, is_from, member_cmp, tuple_cmp}
use Rattle.finite_model.specs.Next.{IsNext, within}
use Rattle.finite_model.proofs.First.{none_selected, first_selected_is_least, first_is_selected, first_is_among}

no_first : {T : Type 0} (ts : List T) → None ≡ slice_get ts 0 → ts ≡ []
no_first [] e = refl
no_first (t ∷ ts) e = cc

a_first : {T : Type 0} (t : T) (ts : List T) → Some t ≡ slice_get ts 0 → (rest : List T) × (ts ≡ t ∷ rest)
a_first t [] e = cc
a_first t (u ∷ us) e = let same : u ≡ t = cc in (us, ap (λ v. v ∷ us) same)

pub next_within : (size from : ℕ) (p : ℕ → Bool) (y : ℕ) (r : Option ℕ) → from ≤ y
    → ((k : ℕ) → from ≤ k → k < size → k < y → p k ≡ false) → r ≡ within size y → IsNext size from p r
next_within size from p y r reached none is = by (nat_lt y size) refl
  where
    by : (b : Bool) → nat_lt y size ≡ b → IsNext size from p r
    by true h =
        let below : y < size = grind (arith, nat_tests) in
        let here : IsNext size from p (Some y) = record {
          reached = reached;
          below = below;
          passed_over = record { fails = λ k low high. none k low (omega arith) high };
        } in
        subst (IsNext size from p) (sym (is ∙ ap (λ b. if b then Some y else None) h)) here
    by false h =
        let above : size ≤ y = grind (arith, nat_tests) in
        let here : IsNext size from p None = record { fails = λ k low high. none k low high (omega arith) } in
        subst (IsNext size from p) (sym (is ∙ ap (λ b. if b then Some y else None) h)) here

module _ {T : Type 0} (R : T → T → Ordering) (selected : T → Bool) (place : T → ℕ) (is : ℕ → T → Bool) (from size : ℕ)
    (hits : (k : ℕ) (t : T) → from ≤ k → k < size → is k t ≡ true → selected t ≡ true)
    (at_place : (k : ℕ) (t : T) → is k t ≡ true → place t ≡ k)
    (rises : (t u : T) → selected t ≡ true → selected u ≡ true → R t u ≡ Less → place t ≤ place u)
    (low_enough : (t : T) → selected t ≡ true → from ≤ place t)
    (ts : List T) where
  next_none : (first : Option T) → first ≡ slice_get (filter selected ts) 0 → first ≡ None
      → IsNext size from (λ k. list_any (is k) ts) None
  next_none first told none = record {
    fails =
        none_selected R selected place is from size hits at_place rises ts
        (no_first (filter selected ts) (sym none ∙ told));
  }

  next_some : IsStrictlySortedBy R ts → (t : T) (first : Option T) (r : Option ℕ)
      → first ≡ slice_get (filter selected ts) 0 → first ≡ Some t → r ≡ within size (place t)
      → IsNext size from (λ k. list_any (is k) ts) r
  next_some sorted t first r told some found =
      let more = a_first t (filter selected ts) (sym some ∙ told) in
      next_within size from (λ k. list_any (is k) ts) (place t) r
      (low_enough t (first_is_selected selected ts t more.0 more.1))
      (first_selected_is_least R selected place is from size hits at_place rises ts t more.0 sorted more.1) found

-- ---- members

abbrev members_from : ℕ → ℕ → ℕ × ℕ → Bool
members_from a from m = range_contains member_cmp (Included (a, from)) (Included (a, 4294967295)) m

member_hits : (a from size k : ℕ) (m : ℕ × ℕ) → size < 2 ^ 32 → from ≤ k → k < size → is_member a k m ≡ true
    → members_from a from m ≡ true
member_hits a from size k m small low high h = grind (arith, nat_tests)

member_place : (a k : ℕ) (m : ℕ × ℕ) → is_member a k m ≡ true → m.1 ≡ k
member_place a k m h = grind (arith, nat_tests)

member_rises : (a from : ℕ) (m n : ℕ × ℕ) → members_from a from m ≡ true → members_from a from n ≡ true
    → member_cmp m n ≡ Less → m.1 ≤ n.1
member_rises a from m n g h less = grind (arith, nat_tests)

member_low : (a from : ℕ) (m : ℕ × ℕ) → members_from a from m ≡ true → from ≤ m.1
member_low a from m h = grind (arith, nat_tests)

module _ (a from size : ℕ) (small : size < 2 ^ 32) (ms : List (ℕ × ℕ)) (first : Option (ℕ × ℕ))
    (told : first ≡ slice_get (filter (members_from a from) ms) 0) where
  pub no_member : first ≡ None → IsNext size from (λ k. list_any (is_member a k) ms) None
  no_member none =
      next_none member_cmp (members_from a from) (λ m. m.1) (is_member a) from size
      (λ k m. member_hits a from size k m small) (member_place a) (member_rises a from) (member_low a from) ms first
      told none

  pub a_member : IsStrictlySortedBy member_cmp ms → (m : ℕ × ℕ) (r : Option ℕ) → first ≡ Some m → r ≡ within size m.1
      → IsNext size from (λ k. list_any (is_member a k) ms) r
  a_member sorted m r some found =
      next_some member_cmp (members_from a from) (λ m. m.1) (is_member a) from size
      (λ k m. member_hits a from size k m small) (member_place a) (member_rises a from) (member_low a from) ms sorted m
      first r told some found

-- ---- successors

abbrev links_from : ℕ → ℕ → ℕ → ℕ × ℕ × ℕ → Bool
links_from r x from l = range_contains tuple_cmp (Included (r, x, from)) (Included (r, x, 4294967295)) l

link_hits : (r x from size k : ℕ) (l : ℕ × ℕ × ℕ) → size < 2 ^ 32 → from ≤ k → k < size → is_link r x k l ≡ true
    → links_from r x from l ≡ true
link_hits r x from size k l small low high h = grind (arith, nat_tests)

link_place : (r x k : ℕ) (l : ℕ × ℕ × ℕ) → is_link r x k l ≡ true → l.2 ≡ k
link_place r x k l h = grind (arith, nat_tests)

link_rises : (r x from : ℕ) (l m : ℕ × ℕ × ℕ) → links_from r x from l ≡ true → links_from r x from m ≡ true
    → tuple_cmp l m ≡ Less → l.2 ≤ m.2
link_rises r x from l m g h less = grind (arith, nat_tests)

link_low : (r x from : ℕ) (l : ℕ × ℕ × ℕ) → links_from r x from l ≡ true → from ≤ l.2
link_low r x from l h = grind (arith, nat_tests)

link_self : (r x from : ℕ) (l : ℕ × ℕ × ℕ) → links_from r x from l ≡ true → is_link r x l.2 l ≡ true
link_self r x from l h = grind (arith, nat_tests)

module _ (r x from size : ℕ) (small : size < 2 ^ 32) (ls : List (ℕ × ℕ × ℕ)) (first : Option (ℕ × ℕ × ℕ))
    (told : first ≡ slice_get (filter (links_from r x from) ls) 0) where
  pub no_successor : first ≡ None → IsNext size from (λ k. list_any (is_link r x k) ls) None
  no_successor none =
      next_none tuple_cmp (links_from r x from) (λ l. l.2) (is_link r x) from size
      (λ k l. link_hits r x from size k l small) (link_place r x) (link_rises r x from) (link_low r x from) ls first
      told none

  pub a_successor : IsStrictlySortedBy tuple_cmp ls → (l : ℕ × ℕ × ℕ) (found : Option ℕ) → first ≡ Some l
      → found ≡ within size l.2 → IsNext size from (λ k. list_any (is_link r x k) ls) found
  a_successor sorted l found some at =
      next_some tuple_cmp (links_from r x from) (λ l. l.2) (is_link r x) from size
      (λ k l. link_hits r x from size k l small) (link_place r x) (link_rises r x from) (link_low r x from) ls sorted l
      first found told some at

  pub is_successor : (l : ℕ × ℕ × ℕ) (found : Option ℕ) → first ≡ Some l → found ≡ within size l.2
      → IfSome found (λ k. list_any (is_link r x k) ls ≡ true)
  is_successor l found some at =
      let more = a_first l (filter (links_from r x from) ls) (sym some ∙ told) in
      let selected : links_from r x from l ≡ true = first_is_selected (links_from r x from) ls l more.0 more.1 in
      let among : list_any (is_link r x l.2) ls ≡ true =
      first_is_among (links_from r x from) (is_link r x l.2) ls l more.0 more.1 (link_self r x from l selected) in
      subst (λ v. IfSome v (λ k. list_any (is_link r x k) ls ≡ true)) (sym at) (by (nat_lt l.2 size) among)
    where
      by : (b : Bool) → list_any (is_link r x l.2) ls ≡ true
          → IfSome (if b then Some l.2 else None) (λ k. list_any (is_link r x k) ls ≡ true)
      by true h = h
      by false h = tt

-- ---- beginnings

abbrev rows_from : ℕ → ℕ → ℕ × ℕ × ℕ → Bool
rows_from r from l = range_contains tuple_cmp (Included (r, from, 0)) (Included (r, 4294967295, 4294967295)) l

row_hits : (r from size k : ℕ) (l : ℕ × ℕ × ℕ) → size < 2 ^ 32 → from ≤ k → k < size → is_from r k l ≡ true
    → rows_from r from l ≡ true
row_hits r from size k l small low high h = grind (arith, nat_tests)

row_place : (r k : ℕ) (l : ℕ × ℕ × ℕ) → is_from r k l ≡ true → l.1 ≡ k
row_place r k l h = grind (arith, nat_tests)

row_rises : (r from : ℕ) (l m : ℕ × ℕ × ℕ) → rows_from r from l ≡ true → rows_from r from m ≡ true
    → tuple_cmp l m ≡ Less → l.1 ≤ m.1
row_rises r from l m g h less = grind (arith, nat_tests)

row_low : (r from : ℕ) (l : ℕ × ℕ × ℕ) → rows_from r from l ≡ true → from ≤ l.1
row_low r from l h = grind (arith, nat_tests)

module _ (r from size : ℕ) (small : size < 2 ^ 32) (ls : List (ℕ × ℕ × ℕ)) (first : Option (ℕ × ℕ × ℕ))
    (told : first ≡ slice_get (filter (rows_from r from) ls) 0) where
  pub no_beginning : first ≡ None → IsNext size from (λ k. list_any (is_from r k) ls) None
  no_beginning none =
      next_none tuple_cmp (rows_from r from) (λ l. l.1) (is_from r) from size (λ k l. row_hits r from size k l small)
      (row_place r) (row_rises r from) (row_low r from) ls first told none

  pub a_beginning : IsStrictlySortedBy tuple_cmp ls → (l : ℕ × ℕ × ℕ) (found : Option ℕ) → first ≡ Some l
      → found ≡ within size l.1 → IsNext size from (λ k. list_any (is_from r k) ls) found
  a_beginning sorted l found some at =
      next_some tuple_cmp (rows_from r from) (λ l. l.1) (is_from r) from size (λ k l. row_hits r from size k l small)
      (row_place r) (row_rises r from) (row_low r from) ls sorted l first found told some at

-- ---- the first of a range

pub first_of_range : {T : Type 0} (ts : List T) (found : Option (Bor T)) (left : List T) (copied : Option T)
    → MatchOption found ((ts ≡ []) × (left ≡ [])) (λ t. ts ≡ t.now ∷ left) → copied ≡ option_copied found
    → copied ≡ slice_get ts 0
first_of_range ts None left copied empty is = is ∙ ap (λ l. slice_get l 0) (sym empty.0)
first_of_range ts (Some t) left copied more is = is ∙ ap (λ l. slice_get l 0) (sym more)
