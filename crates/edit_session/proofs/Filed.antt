-- Where tests are filed.
use Rattle.std.proofs.Common.{◌≡◌, ◌⊎◌, ℕ, zero, suc, ◌+◌, ◌-◌, ◌<◌, ◌≤◌, ◌||◌, ◌&&◌, Bool, true, false, not, eqb}
use Rattle.std.proofs.Common.{List, [], ◌∷◌, ◌++◌, length, get_or, set, take, refl, ap, sym, subst, ◌∙◌, arith}
use Rattle.std.proofs.Common.{inl, inr, get_or-set_other, get_or-set_same}
use Rattle.std.specs.Prelude.{Option, Some, None, is_some, option_map, Result, Ok, Err, OnOk, OnErr, slice_get}
use Rattle.std.specs.Prelude.{if◌then◌else◌, All, Contains}
use Rattle.std.specs.Borrow.{Bor}
use Rattle.std.proofs.lemmas.List.{take_more, take_all}
use Rattle.shq_terms.specs.NoMemory.{NoMemory}
use Rattle.std.specs.FinSet as sets
use Rattle.std.proofs.lemmas.Bool.{cases_eq, ne_eqb}
use Rattle.std.proofs.lemmas.List.Elements.{All-contains, Contains-append_left, Contains-push}
use Rattle.std.proofs.lemmas.List.Elements.{Contains-push_cases}
use Rattle.std.proofs.lemmas.Option.{slice_get_within, slice_get-get_or, get_or_from_slice_get}
use Rattle.lane_sieve.specs.Sets.{NumberSet, IsPart}
use Rattle.lane_sieve.proofs.Bits.{contains_insert, contains_remove}
use Rattle.axiom_sets.specs.Sets.{Limited, IsWithin}
use Rattle.shq_terms.specs.declared.axioms.Query.{Query}
use Rattle.shq_oracle.specs.Entry.{Entry}
use Rattle.shq_oracle.specs.Entry.TheVariants.{Test, Node}
use Rattle.shq_oracle.specs.TestEnd.{TestEnd}
use Rattle.shq_oracle.specs.TestEnd.TheVariants.{Yes, No, Spent}
use Rattle.shq_oracle.specs.Entries.{EndAnswers, AnswersQuery, IsAnswered}
use Rattle.edit_session.specs.Prints.{query_print}
use Rattle.edit_session.specs.Held.{EndIsOf, IsOfHeld}
use Rattle.edit_session.specs.Places.{places_at, IsOver, AreFiled, IsFiledAt, SamePlaces, KeepsPlaces, IsYesEnd}
use Rattle.edit_session.specs.Places.{IsYesTo, IsYesAt, KeepsOthers, KeepsAllOthers, AnswersAt, IsAnswerOf}
use Rattle.edit_session.specs.Places.{IsFoundAmong, IsFoundAt, IsFoundIn}
use Rattle.edit_session.specs.Asking.{IsTold, outcome_of}

-- ---- places of lists

pub contains_at : {X : Type 0} (xs : List X) (k : ℕ) (x : X) → slice_get xs k ≡ Some x → Contains xs x
contains_at xs k x at =
    let lt : k < length xs = slice_get_within xs k x at in
    (k, lt, get_or_from_slice_get xs k x x at)

pub at_contained : {X : Type 0} (xs : List X) (x : X) → Contains xs x
    → (k : ℕ) × (k < length xs) × (slice_get xs k ≡ Some x)
at_contained xs x c = (c.0, c.1, slice_get-get_or xs c.0 x c.1 ∙ ap Some c.2)

get_longer : {X : Type 0} (xs ys : List X) (k : ℕ) → k < length xs → slice_get (xs ++ ys) k ≡ slice_get xs k
get_longer [] ys k lt = absurd (omega (arith, lt))
get_longer (x ∷ xs) ys zero lt = refl
get_longer (x ∷ xs) ys (suc k) lt = get_longer xs ys k (omega (arith, lt))

-- ---- what is filed

module _ (live : NumberSet) (log : List Entry) where
  -- in a longer log
  pub filed_longer : (places : List (List ℕ)) (seen : ℕ) (more : List Entry) → seen ≤ length log
      → AreFiled places live seen log → AreFiled places live seen (log ++ more)
  filed_longer places seen more le filed place s q steps e lt at =
      filed place s q steps e lt (sym (get_longer log more place (omega (arith, lt, le))) ∙ at)

  -- more is filed
  pub filed_more : (old new : List (List ℕ)) (seen : ℕ) → KeepsPlaces old new → AreFiled old live seen log
      → AreFiled new live seen log
  filed_more old new seen keeps filed place s q steps e lt at =
      elim (filed place s q steps e lt at) [ inl there ↦ inl (keeps (query_print q) place there) | inr over ↦ inr over ]

  -- one entry more was seen
  pub filed_next : (old new : List (List ℕ)) (seen : ℕ) (entry : Entry) → KeepsPlaces old new
      → slice_get log seen ≡ Some entry → IsFiledAt new entry seen
      → AreFiled old live seen log → AreFiled new live (seen + 1) log
  filed_next old new seen entry keeps here next filed place s q steps e lt at =
      elim (cases_eq place seen) [
        | inl same ↦
            let is : entry ≡ Test s q steps e = cc (sym here ∙ sym (ap (slice_get log) same) ∙ at) in
            let there : Contains (places_at new (query_print q)) seen =
            subst (λ (x : Entry). IsFiledAt new x seen) is next in
            inl (subst (λ (k : ℕ). Contains (places_at new (query_print q)) k) (sym same) there)
        | inr other ↦ filed_more old new seen keeps filed place s q steps e (omega (arith, lt, other)) at
      ]

  -- what a query's yes is was forgotten
  pub filed_others : (old new : List (List ℕ)) (seen limit : ℕ) (asked : Query) → KeepsAllOthers log asked old new
      → ¬ IsAnswered log (record { limit = limit; members = live }) asked
      → AreFiled old live seen log → AreFiled new live seen log
  filed_others old new seen limit asked others unanswered filed place s q steps e lt at =
      elim (filed place s q steps e lt at) [ inl there ↦ by (others (query_print q) place there) | inr over ↦ inr over ]
    where
      ended : (d : TestEnd) → IsYesEnd d → ¬ EndAnswers s d (record { limit = limit; members = live }) → IsOver live d
      ended (Yes u) is none = none
      ended No is none = absurd is
      ended (Spent x) is none = tt

      by : Contains (places_at new (query_print q)) place ⊎ IsYesAt log place asked
          → Contains (places_at new (query_print q)) place ⊎ IsOver live e
      by (inl kept) = inl kept
      by (inr found) =
          let is : found.0 ≡ Test s q steps e = cc (sym found.1 ∙ at) in
          let is_yes : IsYesTo (Test s q steps e) asked = subst (λ (x : Entry). IsYesTo x asked) is found.2 in
          inr (ended e is_yes.1
          (λ answers. unanswered (Test s q steps e, contains_at log place (Test s q steps e) at, (is_yes.0, answers))))

  -- no entry answers where none does that is filed under the print
  pub none_answers : (places : List (List ℕ)) (s : Limited) (q : Query) → s.members ≡ live
      → AreFiled places live (length log) log
      → ((place : ℕ) → Contains (places_at places (query_print q)) place → ¬ AnswersAt log s q place)
      → ¬ IsAnswered log s q
  none_answers places s q is filed none (Test t p steps e, there, (same, end)) =
      let at = at_contained log (Test t p steps e) there in
      elim (filed at.0 t p steps e at.1 at.2) [
        | inl kept ↦ none at.0 (subst (λ (r : Query). Contains (places_at places (query_print r)) at.0) same kept)
            (Test t p steps e, at.2, (same, end))
        | inr over ↦ ends e end over
      ]
    where
      ends : (d : TestEnd) → EndAnswers t d s → IsOver live d → ⊥
      ends (Yes u) part over = over (subst (IsPart u.members) is part)
      ends No part over = over
      ends (Spent x) part over = part
  none_answers places s q is filed none (Node t, there, h) = h

-- ---- axioms come and go

-- a part of more is a part of what was live, if it has no new number
part_before : (u live : NumberSet) (n : ℕ) → IsWithin n u → IsPart u (sets.insert live (n + 1)) → IsPart u live
part_before u live n within part k h =
    let w = within k h in
    let e : sets.contains (sets.insert live (n + 1)) k ≡ sets.contains live k =
    contains_insert live (n + 1) k
    ∙ ap (λ (b : Bool). b || sets.contains live k) (ne_eqb k (n + 1) (λ same. absurd (omega (arith, same, w.1)))) in
    sym e ∙ part k h

over_added : (live : NumberSet) (n : ℕ) (e : TestEnd) → EndIsOf n e → IsOver live e
    → IsOver (sets.insert live (n + 1)) e
over_added live n (Yes u) of over = λ part. over (part_before u.members live n of part)
over_added live n No of over = over
over_added live n (Spent t) of over = tt

pub filed_added : (live : NumberSet) (n : ℕ) (log : List Entry) (places : List (List ℕ)) (seen : ℕ)
    → All (IsOfHeld n) log → AreFiled places live seen log → AreFiled places (sets.insert live (n + 1)) seen log
filed_added live n log places seen of filed place s q steps e lt at =
    elim (filed place s q steps e lt at) [
      | inl there ↦ inl there
      | inr over ↦
          inr (over_added live n e
          (All-contains (IsOfHeld n) log (Test s q steps e) of (contains_at log place (Test s q steps e) at)).1 over)
    ]

part_removed : (u live : NumberSet) (n : ℕ) → IsPart u (sets.remove live n) → IsPart u live
part_removed u live n part k h = by (eqb k n) (sym (contains_remove live n k) ∙ part k h)
  where
    by : (b : Bool) → (not b && sets.contains live k) ≡ true → sets.contains live k ≡ true
    by true e = cc
    by false e = e

over_removed : (live : NumberSet) (n : ℕ) (e : TestEnd) → IsOver live e → IsOver (sets.remove live n) e
over_removed live n (Yes u) over = λ part. over (part_removed u.members live n part)
over_removed live n No over = over
over_removed live n (Spent t) over = tt

pub filed_removed : (live : NumberSet) (n : ℕ) (log : List Entry) (places : List (List ℕ)) (seen : ℕ)
    → AreFiled places live seen log → AreFiled places (sets.remove live n) seen log
filed_removed live n log places seen filed place s q steps e lt at =
    elim (filed place s q steps e lt at) [ inl there ↦ inl there | inr over ↦ inr (over_removed live n e over) ]

-- ---- lists of places

pub keeps_same : (old new : List (List ℕ)) → SamePlaces old new → KeepsPlaces old new
keeps_same old new same print place there = subst (λ (xs : List ℕ). Contains xs place) (sym (same print)) there

pub keeps_twice : (a b c : List (List ℕ)) → SamePlaces a b → KeepsPlaces b c → KeepsPlaces a c
keeps_twice a b c same keeps print place there = keeps print place (keeps_same a b same print place there)

-- a list was put in the place of another
module _ (old : List (List ℕ)) (print : ℕ) (lt : print < length old) (list : List ℕ) where
  at_print : places_at (set old print list) print ≡ list
  at_print = get_or-set_same old print list [] lt

  at_others : (other : ℕ) → (other ≡ print → ⊥) → places_at (set old print list) other ≡ places_at old other
  at_others other ne = get_or-set_other old print other list [] ne

  pub keeps_set : ((place : ℕ) → Contains (places_at old print) place → Contains list place)
      → KeepsPlaces old (set old print list)
  keeps_set has other place there = elim (cases_eq other print) [
    | inl same ↦
        let at : places_at (set old print list) other ≡ list = ap (places_at (set old print list)) same ∙ at_print in
        subst (λ (xs : List ℕ). Contains xs place) (sym at)
        (has place (subst (λ (k : ℕ). Contains (places_at old k) place) same there))
    | inr ne ↦ subst (λ (xs : List ℕ). Contains xs place) (sym (at_others other ne)) there
  ]

  pub has_set : (place : ℕ) → Contains list place → Contains (places_at (set old print list) print) place
  has_set place there = subst (λ (xs : List ℕ). Contains xs place) (sym at_print) there

  pub others_set : (log : List Entry) (q : Query) → KeepsOthers log q (places_at old print) list
      → KeepsAllOthers log q old (set old print list)
  others_set log q others other place there = elim (cases_eq other print) [
    | inl same ↦
        let at : places_at (set old print list) other ≡ list = ap (places_at (set old print list)) same ∙ at_print in
        elim (others place (subst (λ (k : ℕ). Contains (places_at old k) place) same there)) [
          | inl kept ↦ inl (subst (λ (xs : List ℕ). Contains xs place) (sym at) kept)
          | inr out ↦ inr out
        ]
    | inr ne ↦ inl (subst (λ (xs : List ℕ). Contains xs place) (sym (at_others other ne)) there)
  ]

pub others_same : (log : List Entry) (q : Query) (old : List (List ℕ)) → KeepsAllOthers log q old old
others_same log q old print place there = inl there

-- ---- looking for an answer

-- nothing stands past the end
pub none_past : (log : List Entry) (s : Limited) (q : Query) (place : ℕ) → slice_get log place ≡ None
    → ¬ AnswersAt log s q place
none_past log s q place past (e, at, answers) = cc (sym past ∙ at)

-- all from a place on were looked at
pub none_back : (log : List Entry) (s : Limited) (q : Query) (places : List ℕ) (left : ℕ)
    → ((k : ℕ) → left < k → k < length places → ¬ AnswersAt log s q (get_or places k 0))
    → ¬ AnswersAt log s q (get_or places left 0)
    → (k : ℕ) → left ≤ k → k < length places → ¬ AnswersAt log s q (get_or places k 0)
none_back log s q places left above here k low high =
    elim (cases_eq k left) [
      | inl same ↦ subst (λ (j : ℕ). ¬ AnswersAt log s q (get_or places j 0)) (sym same) here
      | inr ne ↦ above k (omega (arith, low, ne)) high
    ]

-- what is read at a place
pub read_at : (xs : List (List ℕ)) (k : ℕ) (x : List ℕ) → k < length xs → x ≡ get_or xs k x → places_at xs k ≡ x
read_at xs k x lt is = cc (slice_get-get_or xs k [] lt, slice_get-get_or xs k x lt, is)

pub none_in : (log : List Entry) (s : Limited) (q : Query) (places : List ℕ)
    → ((k : ℕ) → 0 ≤ k → k < length places → ¬ AnswersAt log s q (get_or places k 0)) → IsFoundIn log s q places None
none_in log s q places none place there =
    let e : get_or places there.0 0 ≡ place =
    cc (slice_get-get_or places there.0 0 there.1, slice_get-get_or places there.0 place there.1, there.2) in
    subst (λ (p : ℕ). ¬ AnswersAt log s q p) e (none there.0 (omega arith) there.1)

-- what is found at a place is found
pub found_at : (log : List Entry) (s : Limited) (q : Query) (place : ℕ) (entry : Entry)
    → slice_get log place ≡ Some entry → (found : Option TestEnd) → IsAnswerOf entry s q found
    → IsFoundAt log s q place found
found_at log s q place entry at (Some e) (t, steps, is, answers) =
    (t, steps, subst (Contains log) is (contains_at log place entry at), answers)
found_at log s q place entry at None none = λ (x, there, answers).
    let same : x ≡ entry = cc (sym there ∙ at) in
    none (subst (λ (y : Entry). AnswersQuery y s q) same answers)

abbrev pub end_of : Option (Bor TestEnd) → Option TestEnd
end_of o = option_map (λ e. e.now) o

pub found_here : (log : List Entry) (s : Limited) (q : Query) (places : List ℕ) (place : ℕ) (o : Option (Bor TestEnd))
    → is_some o ≡ true → IsFoundAt log s q place (end_of o) → IsFoundIn log s q places (end_of o)
found_here log s q places place (Some e) is h = h
found_here log s q places place None is h = cc

pub none_here : (log : List Entry) (s : Limited) (q : Query) (place : ℕ) (o : Option (Bor TestEnd)) → is_some o ≡ false
    → IsFoundAt log s q place (end_of o) → ¬ AnswersAt log s q place
none_here log s q place (Some e) is h = cc
none_here log s q place None is h = h

pub told_among : (log : List Entry) (s : Limited) (q : Query) (e : TestEnd) → IsFoundAmong log s q e
    → IsTold log s q (outcome_of e)
told_among log s q (Yes u) h = h
told_among log s q No h = h
told_among log s q (Spent t) h = h.3

-- ---- forgetting

pub others_next : (log : List Entry) (q : Query) (all old new : List ℕ) (i place : ℕ) (out : Bool)
    → place ≡ get_or all i 0 → i < length all → KeepsOthers log q (take i all) old
    → (out ≡ true → IsYesAt log place q) → new ≡ (if out then old else old ++ place ∷ [])
    → KeepsOthers log q (take (i + 1) all) new
others_next log q all old new i place out is lt kept is_yes made p there =
    elim (Contains-push_cases (take i all) (get_or all i 0) p
    (subst (λ (xs : List ℕ). Contains xs p) (take_more all i 0 lt) there)) [
      | inl before ↦ elim (kept p before) [ inl stays ↦ inl (later out made stays) | inr gone ↦ inr gone ]
      | inr here ↦ last out made is_yes (is ∙ here)
    ]
  where
    later : (b : Bool) → new ≡ (if b then old else old ++ place ∷ []) → Contains old p → Contains new p
    later true e c = subst (λ (xs : List ℕ). Contains xs p) (sym e) c
    later false e c = subst (λ (xs : List ℕ). Contains xs p) (sym e) (Contains-append_left old (place ∷ []) p c)

    last : (b : Bool) → new ≡ (if b then old else old ++ place ∷ []) → (b ≡ true → IsYesAt log place q) → place ≡ p
        → Contains new p ⊎ IsYesAt log p q
    last true e y same = inr (subst (λ (k : ℕ). IsYesAt log k q) same (y refl))
    last false e y same =
        inl (subst (λ (xs : List ℕ). Contains xs p) (sym e)
        (subst (Contains (old ++ place ∷ [])) same (Contains-push old place)))

pub others_all : (log : List Entry) (q : Query) (all new : List ℕ) (i : ℕ) → length all ≤ i
    → KeepsOthers log q (take i all) new → KeepsOthers log q all new
others_all log q all new i le h = subst (λ (xs : List ℕ). KeepsOthers log q xs new) (take_all i all le) h

-- ---- a list that was pushed to, or not

pub pushed : (r : Result (Unit {0}) NoMemory) (old new : List ℕ) (place : ℕ) → OnOk r (new ≡ old ++ place ∷ [])
    → OnErr r (new ≡ old) → (p : ℕ) → Contains old p → Contains new p
pushed (Ok u) old new place ok err p c =
    subst (λ (xs : List ℕ). Contains xs p) (sym ok) (Contains-append_left old (place ∷ []) p c)
pushed (Err e) old new place ok err p c = subst (λ (xs : List ℕ). Contains xs p) (sym err) c

pub put_last : (r : Result (Unit {0}) NoMemory) (old new : List ℕ) (place : ℕ) (P : Type 0)
    → OnOk r (new ≡ old ++ place ∷ []) → (Contains new place → P) → OnOk r P
put_last (Ok u) old new place P ok f = f (subst (λ (xs : List ℕ). Contains xs place) (sym ok) (Contains-push old place))
put_last (Err e) old new place P ok f = tt
