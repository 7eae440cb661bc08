-- Normal forms of a class expression and its complement by one word, and what those of cardinalities use.
use Rattle.std.specs.Prelude.{ℕ, zero, suc, Bool, true, false, List, [], ◌∷◌, map}
use Rattle.shq_meaning.specs.Concept.{Concept, some_of, all_of}
use Rattle.calculus_specs.specs.Normal.{and_of, or_of, least_form, fewer_form, most_form, more_form, normal_form}
use Rattle.calculus_specs.specs.Normal.{negated_form}
use Rattle.calculus_specs.specs.Shape.{Shape}
use Rattle.calculus_specs.specs.Tree.{tree_of}
use Rattle.shq_nnf.specs.Numbers.{IsNumber}
use Rattle.shq_nnf.specs.declared.counts.Bound.{Bound}
use Rattle.shq_nnf.specs.declared.counts.Bound.TheVariants.{AtLeast, AtMost, Exactly}

-- the normal form of the expression, or that of its complement
abbrev pub signed_form : Bool → Concept → Concept
signed_form false c = normal_form c
signed_form true c = negated_form c

-- of each class expression the normal form, or that of its complement
abbrev pub signed_forms : Bool → List Concept → List Concept
signed_forms negated cs = map (signed_form negated) cs

-- the normal form of the complement of a number of a table, and of several
abbrev pub negated_tree : List Shape → ℕ → Concept
negated_tree table n = negated_form (tree_of table n)

-- of each number the tree of its complement
abbrev pub negated_trees : List Shape → List ℕ → List Concept
negated_trees table ns = map (negated_tree table) ns

-- the intersection of some normal forms, or, for the complement, their union
abbrev pub joined_form : Bool → List Concept → Concept
joined_form false cs = and_of cs
joined_form true cs = or_of cs

-- the restriction 'some', or, for the complement, 'all'
abbrev pub quantified_form : Bool → ℕ → Concept → Concept
quantified_form false r c = some_of r c
quantified_form true r c = all_of r c

-- the same over the normal form of the filler, or that of its complement
abbrev pub quantifier_form : Bool → ℕ → Bool → Concept → Concept
quantifier_form all r negated c = quantified_form all r (signed_form negated c)

-- and over the complement of a number
abbrev pub complement_quantifier : List Shape → Bool → ℕ → ℕ → Concept
complement_quantifier table all r n = quantified_form all r (negated_tree table n)

-- a cardinality or its complement, over the normal forms of the filler and of the filler's complement
abbrev pub bound_form : Bound → Bool → ℕ → ℕ → Concept → Concept → Concept
bound_form AtLeast false n r c not_c = least_form n r c
bound_form AtLeast true n r c not_c = fewer_form n r c not_c
bound_form AtMost false n r c not_c = most_form n r c not_c
bound_form AtMost true n r c not_c = more_form n r c
bound_form Exactly false n r c not_c = and_of (least_form n r c ∷ most_form n r c not_c ∷ [])
bound_form Exactly true n r c not_c = or_of (fewer_form n r c not_c ∷ more_form n r c ∷ [])

-- the normal form of a number restriction, or that of its complement
abbrev pub bounded_form : Bound → Bool → ℕ → ℕ → Concept → Concept
bounded_form bound negated n r c = bound_form bound negated n r (normal_form c) (negated_form c)

-- the number stands for it in the later table, over numbers of the earlier one for the filler and the filler's
-- complement
abbrev pub IsBounded : List Shape → List Shape → Bound → Bool → ℕ → ℕ → ℕ → ℕ → ℕ → Type 0
IsBounded earlier later bound negated n r c not_c number =
    IsNumber later number (bound_form bound negated n r (tree_of earlier c) (tree_of earlier not_c))

-- whether the normal form of the filler matters there
abbrev pub uses_plain : Bound → Bool → ℕ → Bool
uses_plain AtLeast false zero = false
uses_plain AtLeast true zero = false
uses_plain AtLeast true (suc zero) = false
uses_plain AtMost false zero = false
uses_plain Exactly false zero = false
uses_plain _ _ _ = true

-- whether that of its complement does
abbrev pub uses_negated : Bound → Bool → ℕ → Bool
uses_negated AtLeast true (suc zero) = true
uses_negated AtMost false zero = true
uses_negated Exactly false zero = true
uses_negated Exactly true (suc zero) = true
uses_negated _ _ _ = false
