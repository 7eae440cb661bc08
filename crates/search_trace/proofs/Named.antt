-- Lines close over the axioms that they name as over all.
use Rattle.std.proofs.Common.{◌≡◌, ℕ, ltb, Bool, List, [], ◌∷◌, ◌++◌, Option, Some, None, refl, ap, ◌∙◌}
use Rattle.std.specs.List.{range_with_len, All}
use Rattle.std.specs.Option.{option_and_then, option_map}
use Rattle.std.proofs.lemmas.List.Elements.{All-head, All-tail}
use Rattle.calculus_specs.specs.Concept.{Concept}
use Rattle.calculus_specs.specs.Rows.{Theory, part_at}
use Rattle.calculus_specs.specs.Line.{Line}
use Rattle.calculus_specs.specs.Line.Line.{start_line, and_line, or_line, all_line, carry_line, row_line, range_line}
use Rattle.calculus_specs.specs.Line.Line.{some_line, least_line, choose_line, pair_line, bottom_line, clash_line}
use Rattle.calculus_specs.specs.Line.Line.{most_line, fact_line, differ_line}
use Rattle.calculus_specs.specs.Rules.{Question, Known, when, asked_facts, start_children, at_concept, all_children}
use Rattle.calculus_specs.specs.Rules.{carry_children, row_children, range_children, most_children, fact_children}
use Rattle.calculus_specs.specs.Rules.{children_of}
use Rattle.calculus_specs.specs.Valid.{open_after_all}
use Rattle.search_trace.specs.Named.{AskTheSame, HaveSamePart}
use Rattle.search_trace.proofs.Leaves.{some_eq}

-- the theory with other roles
abbrev with_roles : Theory → (ℕ → ℕ → Bool) → (ℕ → Bool) → Theory
with_roles theory below transitive = record { parts = theory.parts; below = below; is_transitive = transitive }

module _ (one other : Question) (concept : ℕ → Option Concept) (same : AskTheSame one other) where
  -- a theory's roles turn from those of one to those of the other
  roles_turn : {A : Type 0} → (f : Theory → A)
      → f one.theory ≡ f (with_roles one.theory other.theory.below other.theory.is_transitive)
  roles_turn f = λ i. f (with_roles one.theory (λ r s. same.roles.below r s i) (λ t. same.roles.transitive t i))

  same_start : (nodes : List ℕ) → start_children one nodes ≡ start_children other nodes
  same_start [] =
      λ i. when (ltb (same.at i) (same.first i))
      (Some (record {
        nodes = range_with_len 0 (same.first i);
        facts = asked_facts (same.at i) (same.sub i) (same.sup i);
      } ∷ []))
  same_start (x ∷ xs) = refl

  pub same_children : (k : Known) (line : Line) → HaveSamePart one other line
      → children_of one concept k line ≡ children_of other concept k line
  same_children k start_line h = same_start k.nodes
  same_children k (and_line x c) h = refl
  same_children k (or_line x c) h = refl
  same_children k (all_line x y c) h = roles_turn (λ t. at_concept k x (concept c) (all_children t k x y)) ∙ refl
  same_children k (carry_line x y r c) h = roles_turn (λ t. at_concept k x (concept c) (carry_children t k x y r))
  same_children k (row_line x a p positions) h = ap (row_children k x positions) h
  same_children k (range_line x y a) h =
      roles_turn (λ t. range_children t k x y (part_at one.theory a 1)) ∙ ap (range_children other.theory k x y) h
  same_children k (some_line x y c) h = refl
  same_children k (least_line x y c) h = refl
  same_children k (choose_line y c) h = refl
  same_children k (pair_line y z) h = refl
  same_children k (bottom_line x) h = refl
  same_children k (clash_line x c) h = refl
  same_children k (most_line x c ys) h = roles_turn (λ t. at_concept k x (concept c) (most_children t k x ys))
  same_children k (fact_line a p) h = ap (fact_children k) h
  same_children k (differ_line y z) h = refl

  after_same : (lines : List Line) (ks : List Known) (r s : Option (List Known)) → r ≡ s
      → ((now : List Known) → open_after_all one concept now lines ≡ open_after_all other concept now lines)
      → option_and_then (λ (left : List Known). open_after_all one concept left lines)
      (option_map (λ (kids : List Known). kids ++ ks) r)
      ≡ option_and_then (λ (left : List Known). open_after_all other concept left lines)
      (option_map (λ (kids : List Known). kids ++ ks) s)
  after_same lines ks None None e on = refl
  after_same lines ks None (Some s) e on = cc
  after_same lines ks (Some r) None e on = cc
  after_same lines ks (Some r) (Some s) e on =
      on (r ++ ks) ∙ ap (λ (xs : List Known). open_after_all other concept (xs ++ ks) lines) (some_eq r s e)

  pub same_run : (lines : List Line) → All (HaveSamePart one other) lines → (ks : List Known)
      → open_after_all one concept ks lines ≡ open_after_all other concept ks lines
  same_run [] h ks = refl
  same_run (line ∷ lines) h [] = refl
  same_run (line ∷ lines) h (k ∷ ks) =
      after_same lines ks (children_of one concept k line) (children_of other concept k line)
      (same_children k line (All-head (HaveSamePart one other) line lines h))
      (same_run lines (All-tail (HaveSamePart one other) line lines h))
