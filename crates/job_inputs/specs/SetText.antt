-- Sets of axioms as they are written.
use Rattle.std.specs.Prelude.{ℕ, List, [], ◌∷◌, map, codes, decimal}
use Rattle.axiom_sets.specs.Sets.{Limited, member_list}
use Rattle.text_laws.specs.Canonical.{items_text}

-- numbers with one blank between; none of them are the word `empty`
abbrev pub numbers_text : List ℕ → List ℕ
numbers_text [] = codes "empty"
numbers_text (k ∷ ks) = items_text (map decimal (k ∷ ks))

-- the members, ascending
abbrev pub set_text : Limited → List ℕ
set_text s = numbers_text (member_list s)
