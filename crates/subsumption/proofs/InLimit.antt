-- The classes of numbers, and the queries between them.
use Rattle.std.proofs.Common.{◌≡◌, ℕ, ◌+◌, ◌<◌, Bool, true, false, List, [], ◌++◌, length, refl, sym, ap, subst, ◌∙◌}
use Rattle.std.proofs.Common.{arith, inl, inr, eq-eqb}
use Rattle.std.specs.Prelude.{if◌then◌else◌, ◌==◌}
use Rattle.std.proofs.lemmas.Bool.{cases_eq, ne_eqb, and_from, lt-ltb}
use Rattle.shq_terms.specs.Concept.{Concept, top, bottom, name, complement, intersection, union, some_of, all_of}
use Rattle.shq_terms.specs.Concept.{at_least, at_most, exactly}
use Rattle.shq_terms.specs.Listed.{Listed}
use Rattle.shq_terms.specs.Uses.{uses_listed}
use Rattle.role_box.specs.Counted.{counted_roles}
use Rattle.role_box.specs.Simple.{are_simple, all_role_axioms}
use Rattle.shq_nnf.specs.Counts.{has_counts_within}
use Rattle.shq_oracle.specs.Limits.{IsOntologyInLimit, IsInLimit, has_enough_parts}
use Rattle.shq_oracle.specs.HonestLog.{IsClass}
use Rattle.subsumption.specs.Subsumption.{class_at, query_at}

-- ---- classes by number

module _ (n : ℕ) where
  at_number : (x : ℕ) (a b : Bool) → (x == n) ≡ a → (x == n + 1) ≡ b
      → class_at n x ≡ (if a then top else (if b then bottom else name x))
  at_number x a b e f = λ i. if e i then top else (if f i then bottom else name x)

  pub at_top : (x : ℕ) → x ≡ n → class_at n x ≡ top
  at_top x e = at_number x true (x == n + 1) (eq-eqb x n e) refl

  pub at_bottom : (x : ℕ) → x ≡ n + 1 → class_at n x ≡ bottom
  at_bottom x e = at_number x false true (ne_eqb x n (λ f. omega (arith, e, f))) (eq-eqb x (n + 1) e)

  pub at_name : (x : ℕ) → x < n → class_at n x ≡ name x
  at_name x lt =
      at_number x false false (ne_eqb x n (λ f. omega (arith, lt, f))) (ne_eqb x (n + 1) (λ f. omega (arith, lt, f)))

  -- what holds of each class holds of the class of each number
  pub of_class : (P : Concept → Type 0) → P top → P bottom → ((a : ℕ) → a < n → P (name a)) → (x : ℕ) → x < n + 2
      → P (class_at n x)
  of_class P t b each x lt = elim (cases_eq x n) [
    | inl e ↦ subst P (sym (at_top x e)) t
    | inr ne ↦ elim (cases_eq x (n + 1)) [
      | inl e ↦ subst P (sym (at_bottom x e)) b
      | inr ne' ↦ let less : x < n = omega (arith, lt, ne, ne') in subst P (sym (at_name x less)) (each x less)
    ]
  ]

  -- the number of a class
  number_of : Concept → ℕ
  number_of top = n
  number_of bottom = n + 1
  number_of (name a) = a
  number_of _ = 0

  number-class : (x : ℕ) → x < n + 2 → number_of (class_at n x) ≡ x
  unfolding number_of
  number-class x lt = elim (cases_eq x n) [
    | inl e ↦ ap number_of (at_top x e) ∙ sym e
    | inr ne ↦ elim (cases_eq x (n + 1)) [
      | inl e ↦ ap number_of (at_bottom x e) ∙ sym e
      | inr ne' ↦ ap number_of (at_name x (omega (arith, lt, ne, ne')))
    ]
  ]

  pub same_number : (x y : ℕ) → x < n + 2 → y < n + 2 → class_at n x ≡ class_at n y → x ≡ y
  same_number x y lx ly e = sym (number-class x lx) ∙ ap number_of e ∙ number-class y ly

  pub number_of_top : (x : ℕ) → x < n + 2 → class_at n x ≡ top → x ≡ n
  unfolding number_of
  number_of_top x lt e = sym (number-class x lt) ∙ ap number_of e

  pub number_of_bottom : (x : ℕ) → x < n + 2 → class_at n x ≡ bottom → x ≡ n + 1
  unfolding number_of
  number_of_bottom x lt e = sym (number-class x lt) ∙ ap number_of e

-- ---- the classes of an ontology

pub is_class : (o : Listed) (x : ℕ) → x < length o.classes + 2 → IsClass o (class_at (length o.classes) x)
is_class o = of_class (length o.classes) (IsClass o) tt tt (λ a lt. lt)

-- each class has a number
abbrev pub HasNumber : Listed → Concept → Type 0
HasNumber o c = (x : ℕ) × (x < length o.classes + 2) × (class_at (length o.classes) x ≡ c)

pub has_number : (o : Listed) (c : Concept) → IsClass o c → HasNumber o c
has_number o top h = (length o.classes, omega arith, at_top (length o.classes) (length o.classes) refl)
has_number o bottom h = (length o.classes + 1, omega arith, at_bottom (length o.classes) (length o.classes + 1) refl)
has_number o (name a) h = (a, omega (arith, h), at_name (length o.classes) a h)
has_number o (complement c) h = absurd h
has_number o (intersection cs) h = absurd h
has_number o (union cs) h = absurd h
has_number o (some_of r c) h = absurd h
has_number o (all_of r c) h = absurd h
has_number o (at_least k r c) h = absurd h
has_number o (at_most k r c) h = absurd h
has_number o (exactly k r c) h = absurd h

-- ---- the limits

-- a question between two classes is within the limits where the ontology is
pub query_in_limit : (o : Listed) (x y : ℕ) → IsOntologyInLimit o → x < length o.classes + 2 → y < length o.classes + 2
    → IsInLimit o (query_at (length o.classes) x y)
query_in_limit o x y limit lx ly =
    let n = length o.classes in
    let Listed : Concept → Type 0 = λ c. uses_listed n (length o.roles) c ≡ true in
    let listed = of_class n Listed refl refl (λ a lt. lt-ltb a n lt) in
    let Enough : Concept → Type 0 = λ c. has_enough_parts c ≡ true in
    let enough = of_class n Enough refl refl (λ a lt. refl) in
    let Counts : Concept → Type 0 = λ c. has_counts_within 100 c ≡ true in
    let counts = of_class n Counts refl refl (λ a lt. refl) in
    let Uncounted : Concept → Type 0 = λ c. counted_roles c ≡ [] in
    let uncounted = of_class n Uncounted refl refl (λ a lt. refl) in
    record {
      ontology = limit;
      listed =
          and_from (uses_listed n (length o.roles) (class_at n x)) (uses_listed n (length o.roles) (class_at n y))
          (listed x lx) (listed y ly);
      items = and_from (has_enough_parts (class_at n x)) (has_enough_parts (class_at n y)) (enough x lx) (enough y ly);
      counts =
          and_from (has_counts_within 100 (class_at n x)) (has_counts_within 100 (class_at n y)) (counts x lx)
          (counts y ly);
      simple =
          ap (λ (rs : List ℕ). are_simple (all_role_axioms o.axioms) (rs ++ counted_roles (class_at n y)))
          (uncounted x lx)
          ∙ ap (λ (rs : List ℕ). are_simple (all_role_axioms o.axioms) ([] ++ rs)) (uncounted y ly);
      on_listed = refl;
    }
