-- Lists of classes as they are written.
use Rattle.std.specs.Prelude.{ℕ, Bool, List, [], ◌∷◌, codes, map, nat_lt}
use Rattle.std.specs.List.{list_all}
use Rattle.shq_terms.specs.Listed.{Listed}
use Rattle.ofn_writer.specs.Canonical.{class_text, spaced}

-- the numbers of the classes are below a count
abbrev pub are_listed : ℕ → List ℕ → Bool
are_listed count classes = list_all (λ x. nat_lt x count) classes

-- each class after a blank
abbrev pub names_text : Listed → List ℕ → List ℕ
names_text o classes = spaced (map (class_text o) classes)

-- the same; where there is none, it is owl:Thing
abbrev pub names_or_thing_text : Listed → List ℕ → List ℕ
names_or_thing_text o [] = spaced (codes "owl:Thing" ∷ [])
names_or_thing_text o (x ∷ xs) = names_text o (x ∷ xs)
