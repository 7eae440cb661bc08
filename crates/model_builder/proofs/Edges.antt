-- What the edges say that are collected element by element.
use Rattle.std.proofs.Common.{◌≡◌, ℕ, ◌+◌, ◌<◌, ◌&&◌, ◌||◌, Bool, true, false, eqb, List, [], ◌∷◌, ◌++◌, map, length}
use Rattle.std.proofs.Common.{get_or, Some, None, refl, ap, ◌∙◌, sym, eq-eqb}
use Rattle.std.specs.Prelude.{Option, nat_lt, All}
use Rattle.std.specs.List.{list_any, range_with_len}
use Rattle.std.proofs.Math.Bool.{or-false, and-or_distrib_left, and-false}
use Rattle.std.proofs.lemmas.Bool.{and_parts, and_from, eqb-true, ltb-true}
use Rattle.std.proofs.lemmas.List.Folds.{list_any-append, list_any_at}
use Rattle.shq_terms.proofs.Bools.{and_turned}
use Rattle.calculus_specs.specs.declared.facts.Fact.{Fact}
use Rattle.calculus_specs.specs.Joins.{rep}
use Rattle.calculus_specs.specs.State.{node_count_from, is_successor}
use Rattle.calculus_specs.specs.Listed.{AreEdges}
use Rattle.search_laws.specs.Elements.{elements, node_at}
use Rattle.model_builder.specs.declared.structure_model.Edge.{Edge}
use Rattle.model_builder.proofs.Tests.{lt_none, lt_more}
use Rattle.model_builder.specs.Numbered.{number_of}
use Rattle.model_builder.specs.Collected.{edge_to, edges_by, has_edge_by, leads_from, AreElementEdges}
use Rattle.model_builder.proofs.Numbers.{is_at, number_is}
use Rattle.model_builder.proofs.Members.{join_last}

-- ---- the edges of one element

turned : (r e k : Bool) → (r && e && k) ≡ (e && (r && k))
turned true e k = refl
turned false true k = refl
turned false false k = refl

edge_at : (roles : ℕ → Bool) (v r x u : ℕ) (o : Option ℕ)
    → has_edge_by roles (edge_to v r o) x u ≡ (eqb v x && (roles r && is_at o u))
edge_at roles v r x u None = sym (ap (λ (b : Bool). eqb v x && b) (and-false (roles r)) ∙ and-false (eqb v x))
edge_at roles v r x u (Some k) = or-false (roles r && eqb v x && eqb k u) ∙ turned (roles r) (eqb v x) (eqb k u)

module _ (m : ℕ → ℕ) (numbers : List (Option ℕ)) (roles : ℕ → Bool) (v x u : ℕ) where
  abbrev ends_at : ℕ × ℕ → Bool
  ends_at p = roles p.0 && is_at (get_or numbers (m p.1) None) u

  edges_at : (ps : List (ℕ × ℕ)) → has_edge_by roles (edges_by m numbers v ps) x u ≡ (eqb v x && list_any ends_at ps)
  edges_at [] = sym (and-false (eqb v x))
  edges_at (p ∷ ps) =
      list_any-append (λ (e : Edge). roles e.role && eqb e.from x && eqb e.to u)
      (edge_to v p.0 (get_or numbers (m p.1) None)) (edges_by m numbers v ps)
      ∙ (λ i. edge_at roles v p.0 x u (get_or numbers (m p.1) None) i || edges_at ps i)
      ∙ sym (and-or_distrib_left (eqb v x) (ends_at p) (list_any ends_at ps))

-- ---- where they end

any_where : (b : Bool) (q : ℕ × ℕ → Bool) (ps : List (ℕ × ℕ)) → list_any (λ p. b && q p) ps ≡ (b && list_any q ps)
any_where true q ps = refl
any_where false q [] = refl
any_where false q (p ∷ ps) = any_where false q ps

ends_are : (first : ℕ) (fs : List (Fact ℕ)) (numbers : List (Option ℕ)) (roles : ℕ → Bool) (x u : ℕ) (ps : List (ℕ × ℕ))
    → numbers ≡ map (number_of first fs) (range_with_len 0 (node_count_from first fs)) → AreEdges fs x ps
    → list_any (λ p. roles p.0 && is_at (get_or numbers (rep fs p.1) None) u) ps ≡ leads_from first fs roles x u
ends_are first fs numbers roles x u ps is are =
    (λ i. list_any (λ (p : ℕ × ℕ). one p i) ps)
    ∙ any_where (nat_lt u (length (elements first fs))) (λ p. roles p.0 && eqb (rep fs p.1) (node_at first fs u)) ps
    ∙ ap (λ (b : Bool). nat_lt u (length (elements first fs)) && b) (are roles (node_at first fs u))
  where
    one : (p : ℕ × ℕ)
        → (roles p.0 && is_at (get_or numbers (rep fs p.1) None) u)
        ≡ (nat_lt u (length (elements first fs)) && (roles p.0 && eqb (rep fs p.1) (node_at first fs u)))
    one p =
        ap (λ (os : List (Option ℕ)). roles p.0 && is_at (get_or os (rep fs p.1) None) u) is
        ∙ ap (λ (b : Bool). roles p.0 && b) (number_is first fs (rep fs p.1) u)
        ∙ and_turned (roles p.0) (nat_lt u (length (elements first fs))) (eqb (rep fs p.1) (node_at first fs u))

-- ---- all elements

pub edges_none : (first : ℕ) (fs : List (Fact ℕ)) (originals : List ℕ) → AreElementEdges first fs originals 0 []
edges_none first fs originals roles v u =
    sym (ap (λ (b : Bool). b && leads_from first fs roles (get_or originals v 0) u) (lt_none v))

pub edges_more : (first : ℕ) (fs : List (Fact ℕ)) (numbers : List (Option ℕ)) (originals : List ℕ) (n : ℕ)
    (old new : List Edge) (ps : List (ℕ × ℕ))
    → numbers ≡ map (number_of first fs) (range_with_len 0 (node_count_from first fs))
    → AreElementEdges first fs originals n old → AreEdges fs (get_or originals n 0) ps
    → new ≡ old ++ edges_by (rep fs) numbers n ps → AreElementEdges first fs originals (n + 1) new
edges_more first fs numbers originals n old new ps is before are put roles v u =
    ap (λ (es : List Edge). has_edge_by roles es v u) put
    ∙ list_any-append (λ (e : Edge). roles e.role && eqb e.from v && eqb e.to u) old (edges_by (rep fs) numbers n ps)
    ∙ (λ i. before roles v u i || edges_at (rep fs) numbers roles n v u ps i)
    ∙ join_last (nat_lt v n) (eqb n v) (leads_from first fs roles (get_or originals v 0) u)
    (list_any (λ p. roles p.0 && is_at (get_or numbers (rep fs p.1) None) u) ps) here
    ∙ ap (λ (b : Bool). b && leads_from first fs roles (get_or originals v 0) u) (sym (lt_more n v))
  where
    here : eqb n v ≡ true
        → list_any (λ p. roles p.0 && is_at (get_or numbers (rep fs p.1) None) u) ps
        ≡ leads_from first fs roles (get_or originals v 0) u
    here e =
        ends_are first fs numbers roles (get_or originals n 0) u ps is are
        ∙ ap (λ (k : ℕ). leads_from first fs roles (get_or originals k 0) u) (eqb-true n v e)

-- both ends of each are elements
module _ (first : ℕ) (fs : List (Fact ℕ)) (originals : List ℕ) (n : ℕ) (es : List Edge)
    (are : AreElementEdges first fs originals n es) where
  inside : (k : ℕ) (d : Edge) → k < length es
      → ((get_or es k d).from < n) × ((get_or es k d).to < length (elements first fs))
  inside k d lt =
      let e = get_or es k d in
      let any : ℕ → Bool = λ r. true in
      let found : has_edge_by any es e.from e.to ≡ true =
      list_any_at (λ (o : Edge). any o.role && eqb o.from e.from && eqb o.to e.to) es k d lt
      (and_from (eqb e.from e.from) (eqb e.to e.to) (eq-eqb e.from e.from refl) (eq-eqb e.to e.to refl)) in
      let t =
      and_parts (nat_lt e.from n) (leads_from first fs any (get_or originals e.from 0) e.to)
      (sym (are any e.from e.to) ∙ found) in
      let s =
      and_parts (nat_lt e.to (length (elements first fs)))
      (is_successor fs any (get_or originals e.from 0) (node_at first fs e.to)) t.1 in
      (ltb-true e.from n t.0, ltb-true e.to (length (elements first fs)) s.0)

  pub begins_inside : All (λ (e : Edge). e.from < n) es
  begins_inside k d lt = (inside k d lt).0

  pub ends_inside : All (λ (e : Edge). e.to < length (elements first fs)) es
  ends_inside k d lt = (inside k d lt).1
