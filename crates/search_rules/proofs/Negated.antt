-- The complement of a number, found by making it.
use Rattle.std.proofs.Common.{◌≡◌, ℕ, ◌<◌, ◌≤◌, List, length, sym, ap, ◌∙◌, arith}
use Rattle.std.proofs.Math.ListN.{get_or-eq_default}
use Rattle.std.specs.Prelude.{Option, None, Some}
use Rattle.shq_terms.specs.Concept.{top}
use Rattle.calculus_specs.specs.Normal.{negated_form}
use Rattle.calculus_specs.specs.Shape.{Shape, IsTable}
use Rattle.calculus_specs.specs.Tree.{trees_of, tree_of, IsComplement}
use Rattle.calculus_specs.proofs.Tree.{length-trees_of}
use Rattle.calculus_specs.proofs.Unique.{numbers_unique}
use Rattle.ontology_limits.specs.Numbers.{Extends, IsNumber}
use Rattle.ontology_limits.proofs.Numbers.{length_extends, tree_stays, top_number}
use Rattle.search_rules.specs.Tables.{FindsComplement}

module _ (old new : List Shape) (grown : Extends old new) (c n : ℕ) (lt : c < length old)
    (is : IsNumber new n (negated_form (tree_of old c))) where
  pub there_is : n < length old → IsComplement old c n
  there_is less = record { listed = less; negates = sym (tree_stays old new grown n less) ∙ is.stands_for }

  pub there_is_none : IsTable new → length old ≤ n → (d : ℕ) → ¬ IsComplement old c d
  there_is_none good le d h =
      let same : tree_of new d ≡ tree_of new n = tree_stays old new grown d h.listed ∙ h.negates ∙ sym is.stands_for in
      let long = length_extends old new grown in
      let equal = numbers_unique new good d n (omega (arith, long, h.listed)) is.listed same in
      omega (arith, equal, h.listed)

-- a number that is not there stands for what number 0 does
pub tree_behind : (table : List Shape) → IsTable table → (c : ℕ) → length table ≤ c → tree_of table 0 ≡ tree_of table c
tree_behind table good c le =
    (top_number table good).stands_for
    ∙ sym (get_or-eq_default (trees_of table) top (omega (arith, le, length-trees_of table)))

pub complement_behind : (table : List Shape) → IsTable table → (c d : ℕ) → length table ≤ c → IsComplement table 0 d
    → IsComplement table c d
complement_behind table good c d le h =
    record { listed = h.listed; negates = h.negates ∙ ap negated_form (tree_behind table good c le) }

pub complement_first : (table : List Shape) → IsTable table → (c d : ℕ) → length table ≤ c → IsComplement table c d
    → IsComplement table 0 d
complement_first table good c d le h =
    record { listed = h.listed; negates = h.negates ∙ ap negated_form (sym (tree_behind table good c le)) }

pub finds_behind : (table : List Shape) → IsTable table → (c : ℕ) → length table ≤ c → (o : Option ℕ)
    → FindsComplement table 0 o → FindsComplement table c o
finds_behind table good c le None h = λ d is. h d (complement_first table good c d le is)
finds_behind table good c le (Some d) h = complement_behind table good c d le h
