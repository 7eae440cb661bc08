-- The trails of a run whose blocks are asked for.
use Rattle.std.proofs.Common.{◌≡◌, ℕ, cond, Bool, true, false, List, [], ◌∷◌, ◌++◌, refl, ap, ◌∙◌, subst, arith}
use Rattle.std.proofs.Common.{lt-ltb}
use Rattle.std.specs.List.{All}
use Rattle.std.proofs.lemmas.List.Elements.{All-cons, All-head, All-nil, All-tail}
use Rattle.calculus_specs.specs.declared.facts.Fact.{Fact}
use Rattle.calculus_specs.specs.State.{node_count_from}
use Rattle.tableau_specs.specs.declared.Item.{Item}
use Rattle.tableau_specs.specs.Items.{facts_of, says}
use Rattle.tableau_specs.specs.Steps.{SearchContext, Generates}
use Rattle.search_laws.specs.Runs.{makes_node, before_nodes, asked_for_blocks}
use Rattle.search_laws.proofs.Counts.{generates_more}
use Rattle.search_laws.proofs.Grown.{facts_of-append, facts_of-says}

-- ---- a list that may have one more in front

module _ {X : Type 0} (P : X → Type 0) where
  pub first_of : (b : Bool) (x : X) (xs : List X) → b ≡ true → All P (cond b (x ∷ xs) xs) → P x
  first_of b x xs is h = All-head P x xs (subst (λ (t : Bool). All P (cond t (x ∷ xs) xs)) is h)

  pub rest_of : (b : Bool) (x : X) (xs : List X) → All P (cond b (x ∷ xs) xs) → All P xs
  rest_of true x xs h = All-tail P x xs h
  rest_of false x xs h = h

  pub with_first : (b : Bool) (x : X) (xs : List X) → (b ≡ true → P x) → All P xs → All P (cond b (x ∷ xs) xs)
  with_first true x xs p h = All-cons P x xs (p refl) h
  with_first false x xs p h = h

-- ---- what is so of each trail of a run

module _ (P : List Item → Type 0) (first : ℕ) where
  before_each : (run : List (List Item)) → All P run → All P (before_nodes first run)
  before_each [] h = h
  before_each (trail ∷ []) h = All-nil P
  before_each (trail ∷ before ∷ earlier) h =
      let rest = All-tail P trail (before ∷ earlier) h in
      with_first P (makes_node first before trail) before (before_nodes first (before ∷ earlier))
      (λ makes. All-head P before earlier rest) (before_each (before ∷ earlier) rest)

  pub asked_each : (run : List (List Item)) → All P run → All P (asked_for_blocks first run)
  asked_each [] h = h
  asked_each (trail ∷ earlier) h =
      All-cons P trail (before_nodes first (trail ∷ earlier)) (All-head P trail earlier h)
      (before_each (trail ∷ earlier) h)

-- ---- a step that makes nodes

pub generate_makes_node : (w : SearchContext) (old : List Item) (fs : List (Fact ℕ)) → Generates w (facts_of old) fs
    → makes_node w.first old (old ++ says fs) ≡ true
generate_makes_node w old fs makes =
    let same : facts_of (old ++ says fs) ≡ facts_of old ++ fs =
    facts_of-append old (says fs) ∙ ap (λ (gs : List (Fact ℕ)). facts_of old ++ gs) (facts_of-says fs) in
    lt-ltb (node_count_from w.first (facts_of old)) (node_count_from w.first (facts_of (old ++ says fs)))
    (omega (
      arith,
      generates_more w (facts_of old) fs makes,
      ap (λ (gs : List (Fact ℕ)). node_count_from w.first gs) same,
    ))
