-- An element with which no pair of a role begins has no successor in it.
use Rattle.std.proofs.Common.{◌≡◌, ℕ, zero, suc, Bool, true, false, not, ◌&&◌, ◌||◌, List, [], ◌∷◌, refl, ap, ◌∙◌}
use Rattle.std.proofs.Common.{arith}
use Rattle.std.specs.Prelude.{nat_eq, nat_le, eqb, leb, count_by}
use Rattle.std.specs.List.{list_any}
use Rattle.shq_meaning.specs.Below.{all_below, count_below}
use Rattle.shq_terms.specs.declared.axioms.Query.{Query}
use Rattle.shq_terms.specs.Concept.{Concept, some_of, at_least, exactly, parts_of}
use Rattle.shq_meaning.specs.Truth.{Interpretation, holds, hold_any, implies, same, none_twice, is_asked_at, refutes_at}
use Rattle.shq_meaning.specs.Truth.{out_degree, successors}
use Rattle.std.proofs.lemmas.Bool.{or_parts}
use Rattle.std.proofs.lemmas.Bool.Decides.{nat_tests}
use Rattle.finite_model.specs.ModelLists.{ModelLists, meaning, begins, is_from, is_link}
use Rattle.finite_model.specs.AtElement.{can_refute}

pub no_link : (r x : ℕ) (ls : List (ℕ × ℕ × ℕ)) → list_any (is_from r x) ls ≡ false → (y : ℕ)
    → list_any (is_link r x y) ls ≡ false
no_link r x [] none y = refl
no_link r x (l ∷ ls) none y =
    let both = or_parts (is_from r x l) (list_any (is_from r x) ls) none in
    let here : is_link r x y l ≡ false = ap (λ b. b && nat_eq l.2 y) both.0 in
    ap (λ b. b || list_any (is_link r x y) ls) here ∙ no_link r x ls both.1 y

pub all_of_none : (n : ℕ) (b q : ℕ → Bool) → ((y : ℕ) → b y ≡ false) → all_below n (λ y. implies (b y) (q y)) ≡ true
all_of_none zero b q none = refl
all_of_none (suc n) b q none = rw (none n) (ap (λ v. v && true) (all_of_none n b q none))

pub count_of_none : (n : ℕ) (b : ℕ → Bool) → ((y : ℕ) → b y ≡ false) → count_below n b ≡ 0
count_of_none zero b none = refl
count_of_none (suc n) b none = let rest = count_of_none n b none in rw (none n, rest)

module _ (k : ModelLists) (r x : ℕ) (none : begins k r x ≡ false) where
  pub no_pair : (y : ℕ) → (meaning k).in_role r x y ≡ false
  no_pair = no_link r x k.links none

  pub row_of_none : (q : ℕ → Bool) → all_below k.size (λ y. implies ((meaning k).in_role r x y) (q y)) ≡ true
  row_of_none q = all_of_none k.size ((meaning k).in_role r x) q no_pair

  degree_of_none : out_degree (meaning k) r x ≡ 0
  degree_of_none = count_of_none k.size ((meaning k).in_role r x) no_pair

  pub domain_of_none : (b : Bool) → implies (nat_le 1 (out_degree (meaning k) r x)) b ≡ true
  domain_of_none b = ap (λ n. implies (nat_le 1 n) b) degree_of_none

  pub single_of_none : nat_le (out_degree (meaning k) r x) 1 ≡ true
  single_of_none = ap (λ n. nat_le n 1) degree_of_none

  successors_of_none : (p : ℕ → Bool) → successors (meaning k) r p x ≡ 0
  successors_of_none p =
      count_of_none k.size (λ y. (meaning k).in_role r x y && p y) (λ y. ap (λ b. b && p y) (no_pair y))

  pub some_of_none : (c : Concept) → holds (meaning k) (some_of r c) x ≡ false
  some_of_none c = ap (leb 1) (successors_of_none (holds (meaning k) c))

  least_of_none : (n : ℕ) (c : Concept) → nat_eq n 0 ≡ false → holds (meaning k) (at_least n r c) x ≡ false
  least_of_none n c more =
      let above : leb n 0 ≡ false = grind (arith, nat_tests) in
      ap (leb n) (successors_of_none (holds (meaning k) c)) ∙ above

  count_of_no_successor : (n : ℕ) (c : Concept) → nat_eq n 0 ≡ false → holds (meaning k) (exactly n r c) x ≡ false
  count_of_no_successor n c more =
      let other : eqb 0 n ≡ false = grind (arith, nat_tests) in
      ap (λ m. eqb m n) (successors_of_none (holds (meaning k) c)) ∙ other

module _ (k : ModelLists) (n r x : ℕ) (c : Concept) (none : (nat_eq n 0 || begins k r x) ≡ false) where
  pub fails_at_least : holds (meaning k) (at_least n r c) x ≡ false
  fails_at_least = let both = or_parts (nat_eq n 0) (begins k r x) none in least_of_none k r x both.1 n c both.0

  pub fails_exactly : holds (meaning k) (exactly n r c) x ≡ false
  fails_exactly = let both = or_parts (nat_eq n 0) (begins k r x) none in count_of_no_successor k r x both.1 n c both.0

-- ---- an element that is in none of some class expressions

none_held : (i : Interpretation) (x : ℕ) (cs : List Concept) → hold_any i (parts_of cs) x ≡ false
    → count_by (λ c. holds i c x) cs ≡ 0
none_held i x [] none = refl
none_held i x (c ∷ cs) none =
    let both = or_parts (holds i c x) (hold_any i (parts_of cs) x) none in
    let rest = none_held i x cs both.1 in
    rw (both.0, rest)

pub twice_of_none : (i : Interpretation) (x : ℕ) (cs : List Concept) → hold_any i (parts_of cs) x ≡ false
    → none_twice i cs x ≡ true
twice_of_none i x cs none = ap (λ n. nat_le n 1) (none_held i x cs none)

pub split_of_none : (i : Interpretation) (x : ℕ) (w : Concept) (cs : List Concept)
    → (holds i w x || hold_any i (parts_of cs) x) ≡ false
    → (same (holds i w x) (hold_any i (parts_of cs) x) && none_twice i cs x) ≡ true
split_of_none i x w cs none =
    let both = or_parts (holds i w x) (hold_any i (parts_of cs) x) none in
    rw (both.0, both.1) (twice_of_none i x cs both.1)

-- an element of which a query does not speak, or that is outside its left side
pub unrefuted : (i : Interpretation) (q : Query) (x : ℕ) → can_refute i q x ≡ false → not (refutes_at i q x) ≡ true
unrefuted i q x none = by (is_asked_at i q.on x) none
  where
    by : (b : Bool) → (b && holds i q.sub x) ≡ false → not (b && (holds i q.sub x && not (holds i q.sup x))) ≡ true
    by true outside = ap (λ c. not (c && not (holds i q.sup x))) outside
    by false outside = refl
