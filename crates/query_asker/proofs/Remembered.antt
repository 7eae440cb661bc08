-- What is remembered of a log.
use Rattle.std.proofs.Common.{◌≡◌, ℕ, ◌+◌, ◌-◌, ◌<◌, ◌≤◌, List, [], ◌∷◌, ◌++◌, length, take, drop, get_or, refl, ap}
use Rattle.std.proofs.Common.{sym, ◌∙◌, subst, arith, inl, inr}
use Rattle.std.specs.Prelude.{Option, None, Some, IfNone}
use Rattle.std.specs.List.{All, Contains, flat_map}
use Rattle.std.proofs.Math.Seq.{take-length}
use Rattle.std.proofs.lemmas.Grind.{flat_map-append}
use Rattle.std.proofs.lemmas.List.{append-nil, length-drop, take_more, take-append-drop, take-append-le}
use Rattle.std.proofs.lemmas.List.Elements.{All-contains, All-contains_itself, All-weaker, Contains-get_or}
use Rattle.std.proofs.lemmas.List.Elements.{Contains-append_left, Contains-append_right, Contains-append_cases}
use Rattle.std.proofs.lemmas.List.Elements.{Contains-push, Contains-push_cases}
use Rattle.lane_sieve.specs.Sets.{IsPart}
use Rattle.axiom_sets.specs.Sets.{Limited}
use Rattle.set_questions.specs.Kept.{AreKept}
use Rattle.set_questions.specs.declared.antichain.Kind.{Kind}
use Rattle.set_questions.specs.declared.antichain.Kind.TheVariants.{Minimal, Maximal}
use Rattle.set_questions.specs.InOrder.{HaveOneLimit}
use Rattle.shq_terms.specs.declared.axioms.Query.{Query}
use Rattle.shq_oracle.specs.Entry.{Entry}
use Rattle.shq_oracle.specs.Entry.TheVariants.{Test, Node}
use Rattle.shq_oracle.specs.TestEnd.TheVariants.{Yes, No, Spent}
use Rattle.query_asker.specs.Memory.{yes_of, no_of, yes_sets, no_sets, KeepsWithAll, IsInSome}

none_in : {X : Type 0} (x : X) → ¬ Contains {X = X} [] x
none_in x at = absurd (omega (arith, at.1))

only_one : {X : Type 0} (y x : X) → Contains (y ∷ []) x → y ≡ x
only_one y x h = elim (Contains-push_cases [] y x h) [ inl none ↦ absurd (none_in x none) | inr e ↦ e ]

pub one_member : {X : Type 0} (x : X) → Contains (x ∷ []) x
one_member x = Contains-push [] x

-- ---- entries

-- a test of the log found this
pub record IsFoundYes (log : List Entry) (u : Limited) : Type 0 where
  pub asked : Limited
  pub query : Query
  pub steps : ℕ
  pub is_test : Contains log (Test asked query steps (Yes u))

pub record IsFoundNo (log : List Entry) (s : Limited) : Type 0 where
  pub query : Query
  pub steps : ℕ
  pub is_test : Contains log (Test s query steps No)

-- what is listed of a log is listed of one of its entries
pub of_entry : (f : Entry → List Limited) (log : List Entry) (x : Limited) → Contains (flat_map f log) x
    → (e : Entry) × Contains log e × Contains (f e) x
of_entry f [] x at = absurd (none_in x at)
of_entry f (e ∷ es) x at =
    elim (Contains-append_cases (f e) (flat_map f es) x at) [
      | inl here ↦ (e, Contains-append_left (e ∷ []) es e (Contains-push [] e), here)
      | inr there ↦ let h = of_entry f es x there in (h.0, Contains-append_right (e ∷ []) es h.0 h.1, h.2)
    ]

pub of_log : (f : Entry → List Limited) (log : List Entry) (e : Entry) (x : Limited) → Contains log e → Contains (f e) x
    → Contains (flat_map f log) x
of_log f [] e x at there = absurd (none_in e at)
of_log f (d ∷ ds) e x at there =
    elim (Contains-append_cases (d ∷ []) ds e at) [
      | inl here ↦
          Contains-append_left (f d) (flat_map f ds) x
          (subst (λ (y : Entry). Contains (f y) x) (sym (only_one d e here)) there)
      | inr later ↦ Contains-append_right (f d) (flat_map f ds) x (of_log f ds e x later there)
    ]

yes_entry : (log : List Entry) (u : Limited) (e : Entry) → Contains log e → Contains (yes_of e) u → IsFoundYes log u
yes_entry log u (Test s q steps (Yes v)) at there = record {
  asked = s;
  query = q;
  steps = steps;
  is_test = subst (λ (w : Limited). Contains log (Test s q steps (Yes w))) (only_one v u there) at;
}
yes_entry log u (Test s q steps No) at there = absurd (none_in u there)
yes_entry log u (Test s q steps (Spent t)) at there = absurd (none_in u there)
yes_entry log u (Node s) at there = absurd (none_in u there)

pub found_yes : (log : List Entry) (u : Limited) → Contains (yes_sets log) u → IsFoundYes log u
found_yes log u at = let h = of_entry yes_of log u at in yes_entry log u h.0 h.1 h.2

no_entry : (log : List Entry) (s : Limited) (e : Entry) → Contains log e → Contains (no_of e) s → IsFoundNo log s
no_entry log s (Test t q steps (Yes v)) at there = absurd (none_in s there)
no_entry log s (Test t q steps No) at there = record {
  query = q;
  steps = steps;
  is_test = subst (λ (w : Limited). Contains log (Test w q steps No)) (only_one t s there) at;
}
no_entry log s (Test t q steps (Spent u)) at there = absurd (none_in s there)
no_entry log s (Node t) at there = absurd (none_in s there)

pub found_no : (log : List Entry) (s : Limited) → Contains (no_sets log) s → IsFoundNo log s
found_no log s at = let h = of_entry no_of log s at in no_entry log s h.0 h.1 h.2

-- ---- what is kept

pub kept_none : (kind : Kind) → AreKept kind [] []
kept_none kind = record {
  from = λ s at. at;
  above = λ s at. absurd (none_in s at);
  apart = λ i j d low high ne. absurd (omega arith);
}

pub kept_more : (f : Entry → List Limited) (kind : Kind) (log : List Entry) (seen : ℕ) (e d : Entry)
    (old new : List Limited)
    → seen < length log → get_or log seen d ≡ e
    → AreKept kind (flat_map f (take seen log)) old → KeepsWithAll kind (f e) old new
    → AreKept kind (flat_map f (take (seen + 1) log)) new
kept_more f kind log seen e d old new lt at kept more =
    let front : take (seen + 1) log ≡ take seen log ++ e ∷ [] =
    take_more log seen d lt ∙ ap (λ (x : Entry). take seen log ++ x ∷ []) at in
    let all : flat_map f (take (seen + 1) log) ≡ flat_map f (take seen log) ++ f e =
    ap (flat_map f) front ∙ flat_map-append f (take seen log) (e ∷ [])
    ∙ ap (λ (xs : List Limited). flat_map f (take seen log) ++ xs) (append-nil (f e)) in
    subst (λ (xs : List Limited). AreKept kind xs new) (sym all) (more (flat_map f (take seen log)) kept)

-- with nothing more, the same is kept
pub keeps_same : (kind : Kind) (old new : List Limited) → new ≡ old → KeepsWithAll kind [] old new
keeps_same kind old new e all kept =
    subst (λ (xs : List Limited). AreKept kind xs new) (sym (append-nil all)) (subst (AreKept kind all) (sym e) kept)

-- what stands in a front stands in the whole
in_front : {X : Type 0} (log : List X) (n : ℕ) (x : X) → Contains (take n log) x → Contains log x
in_front log n x at =
    subst (λ (xs : List _). Contains xs x) (take-append-drop n log)
    (Contains-append_left (take n log) (drop n log) x at)

listed_in_front : (f : Entry → List Limited) (log : List Entry) (n : ℕ) (x : Limited)
    → Contains (flat_map f (take n log)) x → Contains (flat_map f log) x
listed_in_front f log n x at = let h = of_entry f (take n log) x at in of_log f log h.0 x (in_front log n h.0 h.1) h.2

-- all sets have the limit of one that the next entry found
pub limits_of : (f : Entry → List Limited) (kind : Kind) (log : List Entry) (seen : ℕ) (e d : Entry)
    (kept : List Limited)
    → seen < length log → get_or log seen d ≡ e
    → HaveOneLimit (flat_map f log) → AreKept kind (flat_map f (take seen log)) kept → (u : Limited) → Contains (f e) u
    → All (λ s. s.limit ≡ u.limit) kept
limits_of f kind log seen e d kept lt at one are u there =
    let e_in : Contains log e = subst (Contains log) at (Contains-get_or log seen d lt) in
    All-weaker (Contains kept) (λ s. s.limit ≡ u.limit)
    (λ s s_in. one s u (listed_in_front f log seen s (are.from s s_in)) (of_log f log e u e_in there)) kept
    (All-contains_itself kept)

pub one_limit : (n : ℕ) (sets : List Limited) → All (λ s. s.limit ≡ n) sets → HaveOneLimit sets
one_limit n sets all s t s_in t_in =
    All-contains (λ x. x.limit ≡ n) sets s all s_in ∙ sym (All-contains (λ x. x.limit ≡ n) sets t all t_in)

pub kept_limits : (n : ℕ) (kind : Kind) (all kept : List Limited) → All (λ s. s.limit ≡ n) all → AreKept kind all kept
    → All (λ s. s.limit ≡ n) kept
kept_limits n kind all kept limits are =
    All-weaker (Contains kept) (λ s. s.limit ≡ n)
    (λ s s_in. All-contains (λ x. x.limit ≡ n) all s limits (are.from s s_in)) kept (All-contains_itself kept)

-- ---- what is found among the kept sets

pub no_part : (all kept : List Limited) (s : Limited) → AreKept Minimal all kept
    → All (λ t. ¬ IsPart t.members s.members) kept → (u : Limited) → Contains all u → ¬ IsPart u.members s.members
no_part all kept s are none u u_in part =
    let below = are.above u u_in in
    All-contains (λ t. ¬ IsPart t.members s.members) kept below.0 none below.1 (λ k h. part k (below.2 k h))

pub not_in_some : (all kept : List Limited) (s : Limited) → AreKept Maximal all kept → ¬ IsInSome s kept
    → ¬ IsInSome s all
not_in_some all kept s are none some =
    let over = are.above some.0 some.1 in
    none (over.0, over.1, λ k h. over.2 k (some.2 k h))

pub in_some : (all kept : List Limited) (s : Limited) → AreKept Maximal all kept → IsInSome s kept → IsInSome s all
in_some all kept s are some = (some.0, are.from some.0 some.1, some.2)

-- the memo of a log is one of a longer log
pub kept_still : (f : Entry → List Limited) (kind : Kind) (log more : List Entry) (seen : ℕ) (kept : List Limited)
    → seen ≤ length log → AreKept kind (flat_map f (take seen log)) kept
    → AreKept kind (flat_map f (take seen (log ++ more))) kept
kept_still f kind log more seen kept le are =
    subst (λ (xs : List Entry). AreKept kind (flat_map f xs) kept) (sym (take-append-le seen log more le)) are

-- all entries were seen
pub kept_whole : (f : Entry → List Limited) (kind : Kind) (log : List Entry) (seen : ℕ) (kept : List Limited)
    → seen ≡ length log → AreKept kind (flat_map f (take seen log)) kept → AreKept kind (flat_map f log) kept
kept_whole f kind log seen kept e are =
    subst (λ (xs : List Entry). AreKept kind (flat_map f xs) kept) (ap (λ (n : ℕ). take n log) e ∙ take-length log) are

pub if_none : (o : Option ℕ) (P : Type 0) → ((n : ℕ) → ¬ (o ≡ Some n)) → IfNone o P → P
if_none None P not_some h = h
if_none (Some n) P not_some h = absurd (not_some n refl)

pub rest_is : {X : Type 0} (xs : List X) (n : ℕ) → take (length xs - n) (drop n xs) ≡ drop n xs
rest_is xs n = ap (λ (k : ℕ). take k (drop n xs)) (sym (length-drop n xs)) ∙ take-length (drop n xs)
