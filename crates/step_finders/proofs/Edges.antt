-- The edges of a node as a list.
use Rattle.std.proofs.Common.{◌≡◌, ℕ, zero, suc, ◌+◌, ◌<◌, ◌≤◌, ◌&&◌, eqb, Bool, true, false, List, [], ◌∷◌, length}
use Rattle.std.proofs.Common.{get_or, refl, ap, ◌∙◌, sym, subst, arith, inl, inr, eq-eqb}
use Rattle.std.specs.List.{list_any, range_with_len}
use Rattle.std.proofs.lemmas.Bool.{eqb-true, or_cases, and_parts, cases_Bool, or_right}
use Rattle.std.proofs.lemmas.Bool.Decides.{nat_tests}
use Rattle.calculus_specs.specs.declared.facts.Fact.{Fact}
use Rattle.calculus_specs.specs.declared.facts.Fact.TheVariants.{Has, Edge, Apart, Same}
use Rattle.calculus_specs.specs.State.{node_count_from, gives_edge, has, has_edge, is_successor}
use Rattle.tableau_specs.proofs.PlainClash.{successor_is_node, successor_has_edge}
use Rattle.tableau_specs.specs.Steps.{SearchContext, below_of}
use Rattle.calculus_specs.specs.Joins.{rep}
use Rattle.calculus_specs.proofs.Joined.{rep-joined, joined-rep}
use Rattle.tableau_specs.proofs.Moved.{has_at}
use Rattle.calculus_specs.specs.Listed.{AreEdges}
use Rattle.step_finders.specs.Found.{AllEndsHave, LacksAtEnd}
use Rattle.step_finders.specs.Reasons.{IsEdge}

-- an element that passes
pub any_at : {X : Type 0} (p : X → Bool) (xs : List X) (k : ℕ) (d : X) → k < length xs → p (get_or xs k d) ≡ true
    → list_any p xs ≡ true
any_at p [] k d lt h = absurd (omega (arith, lt))
any_at p (x ∷ xs) zero d lt h = rw h refl
any_at p (x ∷ xs) (suc k) d lt h = or_right (p x) (list_any p xs) (any_at p xs k d (omega (arith, lt)) h)

-- what holds wherever a test passes
pub where_any : {X : Type 0} (p : X → Bool) (P : Type 0) (xs : List X)
    → ((k : ℕ) (d : X) → k < length xs → p (get_or xs k d) ≡ true → P) → list_any p xs ≡ true → P
where_any p P [] each h = cc
where_any p P (x ∷ xs) each h = elim (or_cases (p x) (list_any p xs) h) [
  | inl here ↦ each 0 x (omega arith) here
  | inr later ↦ where_any p P xs (λ k d lt hit. each (suc k) d (omega (arith, lt)) hit) later
]

-- what holds of an element of the list
pub any_among : (p : ℕ → Bool) (y : ℕ) (xs : List ℕ) → list_any (λ z. eqb z y) xs ≡ true → p y ≡ true
    → list_any p xs ≡ true
any_among p y xs is h =
    where_any (λ z. eqb z y) (list_any p xs ≡ true) xs
    (λ k d lt hit. any_at p xs k d lt (ap p (eqb-true (get_or xs k d) y hit) ∙ h)) is

passed : (x a : ℕ) → a ≤ x → eqb a x ≡ false → a + 1 ≤ x
passed x a le miss = grind (arith, nat_tests)

in_range_from : (x a n : ℕ) → a ≤ x → x < a + n → list_any (λ y. eqb y x) (range_with_len a n) ≡ true
in_range_from x a zero le lt = absurd (omega arith)
in_range_from x a (suc n) le lt = elim (cases_Bool (eqb a x)) [
  | inl hit ↦ rw hit refl
  | inr miss ↦ rw miss (in_range_from x (a + 1) n (passed x a le miss) (omega arith))
]

pub in_range : (x n : ℕ) → x < n → list_any (λ y. eqb y x) (range_with_len 0 n) ≡ true
in_range x n lt = in_range_from x 0 n (omega arith) (omega arith)

pub rep_twice : (fs : List (Fact ℕ)) (x : ℕ) → rep fs (rep fs x) ≡ rep fs x
rep_twice fs x = sym (rep-joined fs x (rep fs x) (joined-rep fs x))

pub has_rep : (fs : List (Fact ℕ)) (x c : ℕ) → has fs (rep fs x) c ≡ has fs x c
has_rep fs x c = has_at fs (rep fs x) x c (rep_twice fs x)

-- the end of an edge of the list is a successor
pub next_at : (fs : List (Fact ℕ)) (x : ℕ) (edges : List (ℕ × ℕ)) (roles : ℕ → Bool) (k : ℕ) (d : ℕ × ℕ)
    → AreEdges fs x edges → k < length edges → roles (get_or edges k d).0 ≡ true
    → is_successor fs roles x (rep fs (get_or edges k d).1) ≡ true
next_at fs x edges roles k d are lt hit =
    let y : ℕ = rep fs (get_or edges k d).1 in
    sym (are roles y) ∙ any_at (λ p. roles p.0 && eqb (rep fs p.1) y) edges k d lt (rw (hit, eq-eqb y y refl) refl)

module _ (w : SearchContext) (fs : List (Fact ℕ)) (x s e : ℕ) (edges : List (ℕ × ℕ)) where
  pub all_ends_have : AreEdges fs x edges
      → ((k : ℕ) (d : ℕ × ℕ) → k < length edges → below_of w (get_or edges k d).0 s ≡ true
      → has fs (get_or edges k d).1 e ≡ true)
      → AllEndsHave w fs x s e
  all_ends_have are each = record {
    have = λ y next.
        where_any (λ p. below_of w p.0 s && eqb (rep fs p.1) y) (has fs y e ≡ true) edges
        (λ k d lt hit.
        let t = and_parts (below_of w (get_or edges k d).0 s) (eqb (rep fs (get_or edges k d).1) y) hit in
        subst (λ (z : ℕ). has fs z e ≡ true) (eqb-true (rep fs (get_or edges k d).1) y t.1)
        (has_rep fs (get_or edges k d).1 e ∙ each k d lt t.0))
        (are (λ r. below_of w r s) y ∙ next);
  }

  pub lacks_at_end : (k : ℕ) (d : ℕ × ℕ) (y : ℕ) → AreEdges fs x edges → k < length edges
      → below_of w (get_or edges k d).0 s ≡ true → has fs (get_or edges k d).1 e ≡ false
      → y ≡ rep fs (get_or edges k d).1 → LacksAtEnd w fs x s e (get_or edges k d).0 y
  lacks_at_end k d y are lt hit out at = subst (LacksAtEnd w fs x s e (get_or edges k d).0) (sym at) (record {
    next =
        next_at fs x edges (λ r. eqb r (get_or edges k d).0) k d are lt
        (eq-eqb (get_or edges k d).0 (get_or edges k d).0 refl);
    role_below = hit;
    lacks = has_rep fs (get_or edges k d).1 e ∙ out;
  })

-- ---- an edge of one role is one of each kind of roles that has it

any_implies : {X : Type 0} (p q : X → Bool) → ((v : X) → p v ≡ true → q v ≡ true) → (xs : List X) → list_any p xs ≡ true
    → list_any q xs ≡ true
any_implies p q imp [] h = cc
any_implies p q imp (x ∷ xs) h = elim (or_cases (p x) (list_any p xs) h) [
  | inl here ↦ rw (imp x here) refl
  | inr later ↦ or_right (q x) (list_any q xs) (any_implies p q imp xs later)
]

edge_is_of_kind : (m : ℕ → ℕ) (from to r : ℕ) (roles : ℕ → Bool) → roles r ≡ true → (f : Fact ℕ)
    → gives_edge (λ q. eqb q r) m from to f ≡ true → gives_edge roles m from to f ≡ true
edge_is_of_kind m from to r roles hit (Edge s v z) h =
    let t = and_parts (eqb s r && eqb (m v) from) (eqb (m z) to) h in
    let u = and_parts (eqb s r) (eqb (m v) from) t.0 in
    rw (ap roles (eqb-true s r u.0) ∙ hit, u.1) t.1
edge_is_of_kind m from to r roles hit (Has v c) h = cc
edge_is_of_kind m from to r roles hit (Apart v z) h = cc
edge_is_of_kind m from to r roles hit (Same v z) h = cc

pub edge_of_kind : (fs : List (Fact ℕ)) (roles : ℕ → Bool) (r x y : ℕ) → roles r ≡ true
    → has_edge fs (λ q. eqb q r) x y ≡ true → has_edge fs roles x y ≡ true
edge_of_kind fs roles r x y hit =
    any_implies (gives_edge (λ q. eqb q r) (rep fs) (rep fs x) (rep fs y))
    (gives_edge roles (rep fs) (rep fs x) (rep fs y)) (edge_is_of_kind (rep fs) (rep fs x) (rep fs y) r roles hit) fs

pub next_of_kind : (fs : List (Fact ℕ)) (roles : ℕ → Bool) (r x y : ℕ) → roles r ≡ true
    → is_successor fs (λ q. eqb q r) x y ≡ true → is_successor fs roles x y ≡ true
next_of_kind fs roles r x y hit h =
    let t = and_parts (eqb (rep fs y) y) (has_edge fs (λ q. eqb q r) x y) h in
    rw t.0 (edge_of_kind fs roles r x y hit t.1)

-- a successor by this very role is at the end of an edge
pub edge_to_next : (first : ℕ) (fs : List (Fact ℕ)) (r x y : ℕ) → x < node_count_from first fs
    → is_successor fs (λ q. eqb q r) x y ≡ true → IsEdge first fs r x y
edge_to_next first fs r x y lt h = record {
  begin_is_node = lt;
  end_is_node = successor_is_node first fs (λ q. eqb q r) x y h;
  leads = successor_has_edge fs (λ q. eqb q r) x y h;
}
