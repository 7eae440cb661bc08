-- A name that is listed keeps its number.
use Rattle.std.proofs.Common.{◌≡◌, Bool, not, ℕ, suc, ◌+◌, ◌<◌, List, [], ◌∷◌, ◌++◌, cond, length, true, false, Option}
use Rattle.std.proofs.Common.{Some, None, refl, ap, sym, ◌∙◌, position, arith, subst}
use Rattle.std.specs.Prelude.{nat_lt, Result, Ok, Err}
use Rattle.std.specs.Str.{bytes_eq}
use Rattle.std.proofs.lemmas.Slice.Eq.{bytes_eq-Decides}
use Rattle.std.proofs.lemmas.Bool.Decides.{nat_tests}
use Rattle.std.specs.List.{prefix_len}
use Rattle.shq_terms.specs.Names.{number_at, with_at, number_of, with_name}
use Rattle.ofn_expressions.specs.Counts.{Counts}
use Rattle.ofn_expressions.specs.Walk.{Test, shape, prefix, clash, outside, numbered, parts, nodes, class, role}
use Rattle.ofn_expressions.specs.Walk.{individual, number, simple, counts_after, after_all, outcomes, first_failing}
use Rattle.ofn_expressions.specs.Walk.{verdict, walked}
use Rattle.ofn_expressions.specs.Classes.{Keeps, place}
use Rattle.ofn_expressions.specs.declared.refusal.Refusal.{Refusal}

lt-zero : (m : ℕ) → nat_lt 0 (suc m) ≡ true
lt-zero m = grind (arith, nat_tests)

lt-suc : (n m : ℕ) → nat_lt (1 + n) (suc m) ≡ nat_lt n m
lt-suc n m = grind (arith, nat_tests)

abbrev one_more : Option ℕ → Option ℕ
one_more None = None
one_more (Some k) = Some (suc k)

suc-cond : (b : Bool) (n : ℕ) → cond b (Some (1 + n)) None ≡ one_more (cond b (Some n) None)
suc-cond true n = ap Some (omega arith)
suc-cond false n = refl

abbrev behind : Bool → Option ℕ → Option ℕ
behind b r = cond b (Some 0) (one_more r)

position-cons : {A : Type 0} (p : A → Bool) (x : A) (xs : List A) → position p (x ∷ xs) ≡ behind (p x) (position p xs)
position-cons p x xs = by (p x) refl
  where
    by : (b : Bool) → p x ≡ b → position p (x ∷ xs) ≡ behind b (position p xs)
    by true is = rw is (ap (λ b. cond b (Some 0) None) (lt-zero (length xs)))
    by false is =
        let n : ℕ = prefix_len (λ y. not (p y)) xs in
        rw is (ap (λ b. cond b (Some (1 + n)) None) (lt-suc n (length xs)) ∙ suc-cond (nat_lt n (length xs)) n)

module _ {A : Type 0} (p : A → Bool) (x : A) (xs ys : List A) (k : ℕ) (is : position p (x ∷ xs) ≡ Some k)
    (deep : (j : ℕ) → position p xs ≡ Some j → position p (xs ++ ys) ≡ Some j) where
  append_by : (b : Bool) → p x ≡ b → (r : Option ℕ) → position p xs ≡ r → position p (x ∷ (xs ++ ys)) ≡ Some k
  append_by true px r rest =
      position-cons p x (xs ++ ys) ∙ ap (λ b. behind b (position p (xs ++ ys))) px
      ∙ (sym (ap (λ b. behind b (position p xs)) px) ∙ sym (position-cons p x xs) ∙ is)
  append_by false px (Some j) rest =
      let here : behind false (Some j) ≡ Some k = sym (λ i. behind (px i) (rest i)) ∙ sym (position-cons p x xs) ∙ is in
      let deeper : position p (xs ++ ys) ≡ Some j = deep j rest in
      position-cons p x (xs ++ ys) ∙ (λ i. behind (px i) (deeper i)) ∙ here
  append_by false px None rest =
      let clash : None ≡ Some k = sym (λ i. behind (px i) (rest i)) ∙ sym (position-cons p x xs) ∙ is in
      absurd (cc clash)

pub position-append : {A : Type 0} (p : A → Bool) (xs ys : List A) (k : ℕ) → position p xs ≡ Some k
    → position p (xs ++ ys) ≡ Some k
position-append p [] ys k is = let clash : None ≡ Some k = is in absurd (cc clash)
position-append p (x ∷ xs) ys k is =
    append_by p x xs ys k is (λ j. position-append p xs ys j) (p x) refl (position p xs) refl

module _ {A : Type 0} (p : A → Bool) (x : A) (xs : List A) (y : A) (none : position p (x ∷ xs) ≡ None)
    (deep : position p xs ≡ None → position p (xs ++ y ∷ []) ≡ Some (length xs)) where
  last_by : (b : Bool) → p x ≡ b → (r : Option ℕ) → position p xs ≡ r
      → position p (x ∷ (xs ++ y ∷ [])) ≡ Some (suc (length xs))
  last_by true px r rest =
      let clash : Some 0 ≡ None = sym (ap (λ b. behind b (position p xs)) px) ∙ sym (position-cons p x xs) ∙ none in
      absurd (cc clash)
  last_by false px (Some j) rest =
      let clash : Some (suc j) ≡ None = sym (λ i. behind (px i) (rest i)) ∙ sym (position-cons p x xs) ∙ none in
      absurd (cc clash)
  last_by false px None rest =
      let deeper : position p (xs ++ y ∷ []) ≡ Some (length xs) = deep rest in
      position-cons p x (xs ++ y ∷ []) ∙ (λ i. behind (px i) (deeper i))

pub position-last : {A : Type 0} (p : A → Bool) (xs : List A) (y : A) → position p xs ≡ None → p y ≡ true
    → position p (xs ++ y ∷ []) ≡ Some (length xs)
position-last p [] y none passes = position-cons p y [] ∙ ap (λ b. behind b None) passes
position-last p (x ∷ xs) y none passes =
    last_by p x xs y none (λ n. position-last p xs y n passes) (p x) refl (position p xs) refl

same_bytes : (w : List ℕ) → bytes_eq w w ≡ true
same_bytes w = grind (arith, bytes_eq-Decides w w)

pub place_listed : (w : List ℕ) (names : List (List ℕ)) → place w (with_name names w) ≡ Some (number_of names w)
place_listed w names = by (position (bytes_eq w) names) refl
  where
    by : (r : Option ℕ) → position (bytes_eq w) names ≡ r → place w (with_at r names w) ≡ Some (number_at r names)
    by (Some k) is = is
    by None is = position-last (bytes_eq w) names w is (same_bytes w)

pub keeps_name : (v : List ℕ) (names : List (List ℕ)) (w : List ℕ) (k : ℕ) → place w names ≡ Some k
    → place w (with_name names v) ≡ Some k
keeps_name v names w k is = by (position (bytes_eq v) names)
  where
    by : (r : Option ℕ) → place w (with_at r names v) ≡ Some k
    by (Some j) = is
    by None = position-append (bytes_eq w) names (v ∷ []) k is

pub keeps_all : (s : Counts) → Keeps s s
keeps_all s = record { classes = λ w k is. is; roles = λ w k is. is; individuals = λ w k is. is }

pub keeps_keeps : (a b c : Counts) → Keeps a b → Keeps b c → Keeps a c
keeps_keeps a b c f g = record {
  classes = λ w k is. g.classes w k (f.classes w k is);
  roles = λ w k is. g.roles w k (f.roles w k is);
  individuals = λ w k is. g.individuals w k (f.individuals w k is);
}

keeps_after : (s : Counts) (t : Test) → Keeps s (counts_after s t)
keeps_after s (shape line fits) = keeps_all s
keeps_after s (prefix line declared) = keeps_all s
keeps_after s (clash line agrees) = keeps_all s
keeps_after s (outside line construct) = keeps_all s
keeps_after s (numbered line) = record { classes = λ w k is. is; roles = λ w k is. is; individuals = λ w k is. is }
keeps_after s (parts line n) = record { classes = λ w k is. is; roles = λ w k is. is; individuals = λ w k is. is }
keeps_after s (nodes line n) = record { classes = λ w k is. is; roles = λ w k is. is; individuals = λ w k is. is }
keeps_after s (class line name) =
    record { classes = λ w k is. keeps_name name s.classes w k is; roles = λ w k is. is; individuals = λ w k is. is }
keeps_after s (role line name) =
    record { classes = λ w k is. is; roles = λ w k is. keeps_name name s.roles w k is; individuals = λ w k is. is }
keeps_after s (individual line name) = record {
  classes = λ w k is. is;
  roles = λ w k is. is;
  individuals = λ w k is. keeps_name name s.individuals w k is;
}
keeps_after s (number line n) = keeps_all s
keeps_after s (simple line fits) = keeps_all s

keeps_after_all : (s : Counts) (ts : List Test) → Keeps s (after_all s ts)
keeps_after_all s [] = keeps_all s
keeps_after_all s (t ∷ ts) =
    keeps_keeps s (counts_after s t) (after_all (counts_after s t) ts) (keeps_after s t)
    (keeps_after_all (counts_after s t) ts)

abbrev counts_in : Counts → Result Counts Refusal → Counts
counts_in d (Ok a) = a
counts_in d (Err e) = d

verdict_ok : (r : Option Refusal) (s t : Counts) → verdict r s ≡ Ok t → s ≡ t
verdict_ok None s t is = ap (counts_in s) is
verdict_ok (Some e) s t is = let clash : ◌≡◌ {A = Result Counts Refusal} (Err e) (Ok t) = is in absurd (cc clash)

pub walked_keeps : (s : Counts) (ts : List Test) (t : Counts) → walked s ts ≡ Ok t → Keeps s t
walked_keeps s ts t is =
    subst (λ u. Keeps s u) (verdict_ok (first_failing (outcomes s ts)) (after_all s ts) t is) (keeps_after_all s ts)

position_within : {A : Type 0} (p : A → Bool) (xs : List A) (k : ℕ) → position p xs ≡ Some k → k < length xs
position_within p xs k is = by (nat_lt (prefix_len (λ y. not (p y)) xs) (length xs)) refl
  where
    n : ℕ
    n = prefix_len (λ y. not (p y)) xs

    by : (b : Bool) → nat_lt (prefix_len (λ y. not (p y)) xs) (length xs) ≡ b → k < length xs
    by true less =
        let here : Some (prefix_len (λ y. not (p y)) xs) ≡ Some k = rw less at is in
        let same : prefix_len (λ y. not (p y)) xs ≡ k = cc here in
        let below : prefix_len (λ y. not (p y)) xs < length xs = grind (arith, nat_tests) in
        subst (λ m. m < length xs) same below
    by false less = let clash : None ≡ Some k = rw less at is in absurd (cc clash)

-- the number of a name is below the count of the names
pub place_within : (w : List ℕ) (names : List (List ℕ)) (k : ℕ) → place w names ≡ Some k
    → nat_lt k (length names) ≡ true
place_within w names k is = let below = position_within (bytes_eq w) names k is in grind (arith, nat_tests)
