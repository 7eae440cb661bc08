-- Worked examples. Names are numbers from 10, roles from 0.
use Rattle.std.specs.Prelude.{◌≡◌, [], ◌∷◌, Some, refl}
use Rattle.shq_terms.specs.Concept.{Concept, name, complement, union, some_of, all_of, parts_of}
use Rattle.calculus_specs.specs.Rows.{Part, inclusion, range}
use Rattle.calculus_specs.specs.Rows.Trigger.{always, names, edge, end_of}
use Rattle.absorption.specs.Triggers.{trigger_for, premises_for, fixed_concept}

abbrev a : Concept
a = name 10

abbrev b : Concept
b = name 11

abbrev c : Concept
c = name 12

-- 'a and some 0 b and c in b' waits for both names
abbrev two_names : Part
two_names = inclusion (a ∷ some_of 0 b ∷ c ∷ []) b

pub both : trigger_for two_names ≡ names (1 ∷ 3 ∷ [])
both = refl

pub both_premises : premises_for two_names (trigger_for two_names) ≡ a ∷ c ∷ []
both_premises = refl

pub both_concept : fixed_concept two_names ≡ Some (union (parts_of (all_of 0 (complement b) ∷ b ∷ [])))
both_concept = refl

-- 'all 0 b and some 1 a and some 0 b in c' waits for an edge of role 1
abbrev no_name : Part
no_name = inclusion (all_of 0 b ∷ some_of 1 a ∷ some_of 0 b ∷ []) c

pub first_edge : trigger_for no_name ≡ edge 1
first_edge = refl

-- 'all 0 b in c' and 'anything in c' wait for nothing
pub neither : trigger_for (inclusion (all_of 0 b ∷ []) c) ≡ always
neither = refl

pub nothing_left : trigger_for (inclusion [] c) ≡ always
nothing_left = refl

pub range_at_ends : trigger_for (range 0 c) ≡ end_of 0
range_at_ends = refl

-- 'a in b' gives b at a
pub plain_inclusion : fixed_concept (inclusion (a ∷ []) b) ≡ Some b
plain_inclusion = refl
