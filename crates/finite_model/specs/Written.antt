-- The text that is written of a model.
use Rattle.std.specs.Prelude.{ℕ, ◌+◌, Bool, ◌&&◌, List, [], ◌∷◌, ◌++◌, map, length, codes, decimal, nat_eq, nat_lt}
use Rattle.std.specs.List.{filter, flat_map, list_all}
use Rattle.shq_terms.specs.Listed.{Listed}
use Rattle.finite_model.specs.ModelLists.{ModelLists, element_at}

-- the elements of a class, ascending
abbrev pub elements_of : ℕ → List (ℕ × ℕ) → List ℕ
elements_of a members = map (λ m. m.1) (filter (λ m. nat_eq m.0 a) members)

-- the pairs of a role with the role, ascending
abbrev pub pairs_of : ℕ → List (ℕ × ℕ × ℕ) → List (ℕ × ℕ × ℕ)
pairs_of r links = filter (λ l. nat_eq l.0 r) links

-- ` X`
abbrev pub element_text : ℕ → List ℕ
element_text x = 32 ∷ decimal x

-- ` X,Y`
abbrev pub pair_text : ℕ × ℕ × ℕ → List ℕ
pair_text l = 32 ∷ decimal l.1 ++ 44 ∷ decimal l.2

-- `KIND <IRI>`, the items, and a line feed
abbrev pub line_text : List ℕ → List ℕ → List ℕ → List ℕ
line_text kind name items = kind ++ codes " <" ++ name ++ codes ">" ++ items ++ 10 ∷ []

-- the line of a class, where it has elements
abbrev pub class_line : List ℕ → List ℕ → List ℕ
class_line name [] = []
class_line name (x ∷ xs) = line_text (codes "class") name (flat_map element_text (x ∷ xs))

-- the line of a role, where it has pairs
abbrev pub role_line : List ℕ → List (ℕ × ℕ × ℕ) → List ℕ
role_line name [] = []
role_line name (l ∷ ls) = line_text (codes "role") name (flat_map pair_text (l ∷ ls))

-- the line of an individual, which is the element
abbrev pub individual_line : List ℕ → ℕ → List ℕ
individual_line name x = line_text (codes "individual") name (element_text x)

-- the lines of classes in list order, where the first has the number a
abbrev pub class_lines : ℕ → List (List ℕ) → List (ℕ × ℕ) → List ℕ
class_lines a [] members = []
class_lines a (name ∷ names) members = class_line name (elements_of a members) ++ class_lines (a + 1) names members

-- the lines of roles in list order, where the first has the number r
abbrev pub role_lines : ℕ → List (List ℕ) → List (ℕ × ℕ × ℕ) → List ℕ
role_lines r [] links = []
role_lines r (name ∷ names) links = role_line name (pairs_of r links) ++ role_lines (r + 1) names links

-- the lines of individuals in list order, where the first has the number a
abbrev pub individual_lines : ℕ → List (List ℕ) → List (ℕ × ℕ) → List ℕ
individual_lines a [] individuals = []
individual_lines a (name ∷ names) individuals =
    individual_line name (element_at individuals a) ++ individual_lines (a + 1) names individuals

-- the line of the size, the lines of classes, of roles and of individuals, and the line `end`
abbrev pub model_text : Listed → ModelLists → List ℕ
model_text o k =
    codes "model " ++ decimal k.size ++ 10 ∷ [] ++ class_lines 0 o.classes k.members ++ role_lines 0 o.roles k.links
    ++ individual_lines 0 o.individuals k.individuals ++ codes "end" ++ 10 ∷ []

-- each class and each role of which something was put is listed, and so is each individual that is another element
-- than 0
abbrev pub uses_listed_names : Listed → ModelLists → Bool
uses_listed_names o k =
    list_all (λ m. nat_lt m.0 (length o.classes)) k.members && list_all (λ l. nat_lt l.0 (length o.roles)) k.links
    && list_all (λ p. nat_lt p.0 (length o.individuals)) k.individuals
