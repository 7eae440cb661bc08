-- A line that neither branches nor clashes has one child.
use Rattle.std.proofs.Common.{◌≡◌, ℕ, ◌^◌, ◌+◌, ◌&&◌, Bool, true, false, leb, List, [], ◌∷◌, Option, Some, None, refl}
use Rattle.calculus_specs.specs.Concept.{Concept, intersection, all_of, some_of, at_least}
use Rattle.calculus_specs.specs.Rows.{Part, Theory, part_at, are_name_positions}
use Rattle.calculus_specs.specs.Rows.Part.{inclusion, range}
use Rattle.calculus_specs.specs.declared.facts.Fact.{Fact}
use Rattle.calculus_specs.specs.Line.{Line}
use Rattle.calculus_specs.specs.Line.Line.{start_line, and_line, or_line, all_line, carry_line, row_line, range_line}
use Rattle.calculus_specs.specs.Line.Line.{some_line, least_line, choose_line, pair_line, bottom_line, clash_line}
use Rattle.calculus_specs.specs.Line.Line.{most_line, fact_line, differ_line}
use Rattle.calculus_specs.specs.Rules.{Question, when}
use Rattle.search_trace.specs.Premises.{Added, Rule, and_rule, all_rule, carry_rule, row_rule, range_rule, some_rule}
use Rattle.search_trace.specs.Premises.{least_rule, fact_rule, rule_of, is_single}

pub when_some : {A : Type 0} → (b : Bool) (o : Option A) (v : A) → when b o ≡ Some v → (b ≡ true) × (o ≡ Some v)
when_some true o v h = (refl, h)
when_some false o v h = cc

abbrev pub HasOneChild : Option Rule → Type 0
HasOneChild None = Unit {0}
HasOneChild (Some r) = (a : Added) × (r.children ≡ a ∷ [])

when_one : (b : Bool) (o : Option Rule) → HasOneChild o → HasOneChild (when b o)
when_one true o h = h
when_one false o h = tt

and_one : (x : ℕ) (o : Option Concept) → HasOneChild (and_rule x o)
and_one x (Some (intersection cs)) = (_, refl)
and_one x _ = tt

all_one : (x y : ℕ) (o : Option Concept) → HasOneChild (all_rule x y o)
all_one x y (Some (all_of s e)) = (_, refl)
all_one x y _ = tt

carry_one : (theory : Theory) (x y t : ℕ) (o : Option Concept) → HasOneChild (carry_rule theory x y t o)
carry_one theory x y t (Some (all_of s e)) = when_one (theory.is_transitive t && theory.below t s) _ (_, refl)
carry_one theory x y t _ = tt

row_one : (x : ℕ) (positions : List ℕ) (o : Option Part) → HasOneChild (row_rule x positions o)
row_one x positions (Some (inclusion cs d)) = when_one (are_name_positions cs positions) _ (_, refl)
row_one x positions _ = tt

range_one : (x y : ℕ) (o : Option Part) → HasOneChild (range_rule x y o)
range_one x y (Some (range s d)) = (_, refl)
range_one x y _ = tt

some_one : (x y : ℕ) (o : Option Concept) → HasOneChild (some_rule x y o)
some_one x y (Some (some_of s e)) = (_, refl)
some_one x y _ = tt

least_one : (x y : ℕ) (o : Option Concept) → HasOneChild (least_rule x y o)
least_one x y (Some (at_least n s e)) = when_one (leb (y + n) (2 ^ 32)) _ (_, refl)
least_one x y _ = tt

fact_one : (o : Option (Fact Concept)) → HasOneChild (fact_rule o)
fact_one None = tt
fact_one (Some f) = (_, refl)

pub has_one : (q : Question) (concept : ℕ → Option Concept) (line : Line) → is_single line ≡ true
    → HasOneChild (rule_of q concept line)
has_one q concept start_line h = tt
has_one q concept (and_line x c) h = and_one x (concept c)
has_one q concept (or_line x c) h = cc
has_one q concept (all_line x y c) h = all_one x y (concept c)
has_one q concept (carry_line x y t c) h = carry_one q.theory x y t (concept c)
has_one q concept (row_line x a p positions) h = row_one x positions (part_at q.theory a p)
has_one q concept (range_line x y a) h = range_one x y (part_at q.theory a 1)
has_one q concept (some_line x y c) h = some_one x y (concept c)
has_one q concept (least_line x y c) h = least_one x y (concept c)
has_one q concept (choose_line y c) h = cc
has_one q concept (pair_line y z) h = cc
has_one q concept (bottom_line x) h = cc
has_one q concept (clash_line x c) h = cc
has_one q concept (most_line x c ys) h = cc
has_one q concept (fact_line a p) h = fact_one (q.fact_of a p)
has_one q concept (differ_line y z) h = cc
