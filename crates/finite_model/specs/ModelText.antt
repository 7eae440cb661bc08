-- The text of a model in a certificate, from its line `model N` on, and what it stands for.
use Rattle.std.specs.Prelude.{◌≡◌, ℕ, ◌+◌, Bool, false, ◌&&◌, ◌||◌, nat_eq, nat_lt, nat_le, List, [], ◌∷◌, take, drop}
use Rattle.std.specs.Prelude.{codes, position, Option, Some, None, option_map, option_and_then, if◌then◌else◌}
use Rattle.std.specs.List.{list_any}
use Rattle.std.specs.Ordering.{nat_cmp}
use Rattle.std.specs.BTreeSet.{insert_key}
use Rattle.std.specs.Str.{bytes_eq}
use Rattle.certificate_lines.specs.Lines.{words, number_in}
use Rattle.certificate_lines.specs.Names.{name_place}
use Rattle.certificate_lines.specs.Body.{after_line, read_body}
use Rattle.shq_terms.specs.Listed.{Listed}
use Rattle.finite_model.specs.ModelLists.{ModelLists, with_member, with_link, with_individual}
use Rattle.finite_model.specs.declared.reading.Pair.{Pair}
use Rattle.finite_model.specs.declared.reading.Placed.{Placed}

-- the number of a word, where it is at least low and below the size
abbrev pub element_in : ℕ → ℕ → List ℕ → Option ℕ
element_in low size word =
    option_and_then (λ x. if nat_le low x && nat_lt x size then Some x else None) (number_in word)

-- the numbers of words, each below the size, and the first at least low and each other above the one before it
abbrev pub elements_from : ℕ → ℕ → List (List ℕ) → Option (List ℕ)
elements_from low size [] = Some []
elements_from low size (w ∷ ws) =
    elim (element_in low size w) [ None ↦ None | Some x ↦ option_map (λ xs. x ∷ xs) (elements_from (x + 1) size ws) ]

-- the elements of `X,Y`, where both are below the size
abbrev pub pair_at : ℕ → List ℕ → ℕ → Option Pair
pair_at size word comma =
    option_and_then (λ x. option_map (λ y. record { from = x; to = y }) (element_in 0 size (drop (comma + 1) word)))
    (element_in 0 size (take comma word))

-- the pair that a word says: two elements with a comma between them
abbrev pub pair_in : ℕ → List ℕ → Option Pair
pair_in size word = option_and_then (pair_at size word) (position (nat_eq 44) word)

-- a pair comes before another by its first element, and then by its second
abbrev pub is_at_least : Pair → Pair → Bool
is_at_least low p = nat_lt low.from p.from || (nat_eq low.from p.from && nat_le low.to p.to)

-- the pair that a word says, where it is not before the least that may stand there
abbrev pub pair_from : Pair → ℕ → List ℕ → Option Pair
pair_from low size word = option_and_then (λ p. if is_at_least low p then Some p else None) (pair_in size word)

-- the pairs of words, the first at least low and each other after the one before it
abbrev pub pairs_from : Pair → ℕ → List (List ℕ) → Option (List Pair)
pairs_from low size [] = Some []
pairs_from low size (w ∷ ws) = elim (pair_from low size w)
    [ None ↦ None | Some p ↦ option_map (λ ps. p ∷ ps) (pairs_from (record { from = p.from; to = p.to + 1 }) size ws) ]

-- the pairs of words in ascending order, whatever the first
abbrev pub pairs_in : ℕ → List (List ℕ) → Option (List Pair)
pairs_in size ws = pairs_from (record { from = 0; to = 0 }) size ws

-- the number of the name of `KIND NAME X ..`, where there is an X
abbrev pub subject_in : List ℕ → List (List ℕ) → List (List ℕ) → Option ℕ
subject_in kind names (k ∷ name ∷ w ∷ ws) = if bytes_eq k kind then name_place names name else None
subject_in kind names _ = None

-- a class with its elements
pub record ClassLine : Type 0 where
  pub class : ℕ
  pub elements : List ℕ

-- what a line says as that of a class: the class and its elements
abbrev pub class_line_in : Listed → ℕ → List (List ℕ) → Option ClassLine
class_line_in o size ws =
    option_and_then (λ a. option_map (λ xs. record { class = a; elements = xs }) (elements_from 0 size (drop 2 ws)))
    (subject_in (codes "class") o.classes ws)

-- a role with its pairs
pub record RoleLine : Type 0 where
  pub role : ℕ
  pub pairs : List Pair

-- what a line says as that of a role: the role and its pairs
abbrev pub role_line_in : Listed → ℕ → List (List ℕ) → Option RoleLine
role_line_in o size ws =
    option_and_then (λ r. option_map (λ ps. record { role = r; pairs = ps }) (pairs_in size (drop 2 ws)))
    (subject_in (codes "role") o.roles ws)

-- an individual, by the word of its name, with its element
abbrev pub placed_in : Listed → ℕ → List ℕ → List ℕ → Option Placed
placed_in o size name word =
    option_and_then (λ a. option_map (λ x. record { individual = a; element = x }) (element_in 0 size word))
    (name_place o.individuals name)

-- `individual NAME X`
abbrev pub individual_line_in : Listed → ℕ → List (List ℕ) → Option Placed
individual_line_in o size (k ∷ name ∷ w ∷ []) =
    if bytes_eq k (codes "individual") then placed_in o size name w else None
individual_line_in o size _ = None

-- the model with these elements in a class
abbrev pub with_elements : ℕ → List ℕ → ModelLists → ModelLists
with_elements a [] k = k
with_elements a (x ∷ xs) k = with_elements a xs (with_member a x k)

-- the model with these pairs in a role
abbrev pub with_pairs : ℕ → List Pair → ModelLists → ModelLists
with_pairs r [] k = k
with_pairs r (p ∷ ps) k = with_pairs r ps (with_link r p.from p.to k)

-- what was read: the classes, the roles and the individuals that had a line, and the model so far
pub record Body : Type 0 where
  pub classes : List ℕ
  pub roles : List ℕ
  pub individuals : List ℕ
  pub model : ModelLists

-- one line more, of a class that had none
abbrev pub with_class : Body → ClassLine → Option Body
with_class b c =
    if list_any (nat_eq c.class) b.classes then None
    else Some
    (record b { classes = insert_key nat_cmp b.classes c.class; model = with_elements c.class c.elements b.model })

-- one line more, of a role that had none
abbrev pub with_role : Body → RoleLine → Option Body
with_role b r =
    if list_any (nat_eq r.role) b.roles then None
    else Some (record b { roles = insert_key nat_cmp b.roles r.role; model = with_pairs r.role r.pairs b.model })

-- one line more, of an individual that had none
abbrev pub with_placed : Body → Placed → Option Body
with_placed b p =
    if list_any (nat_eq p.individual) b.individuals then None
    else Some (record b {
      individuals = insert_key nat_cmp b.individuals p.individual;
      model = with_individual p.individual p.element b.model;
    })

-- the line begins with the word `role`
abbrev pub is_role_line : List (List ℕ) → Bool
is_role_line [] = false
is_role_line (k ∷ ws) = bytes_eq k (codes "role")

-- the line begins with the word `individual`
abbrev pub is_individual_line : List (List ℕ) → Bool
is_individual_line [] = false
is_individual_line (k ∷ ws) = bytes_eq k (codes "individual")

-- what was read after a line of a class, if it is one
abbrev pub class_read : Listed → Body → List (List ℕ) → Option Body
class_read o b ws = option_and_then (with_class b) (class_line_in o b.model.size ws)

-- what was read after a line of a role, if it is one
abbrev pub role_read : Listed → Body → List (List ℕ) → Option Body
role_read o b ws = option_and_then (with_role b) (role_line_in o b.model.size ws)

-- what was read after a line of an individual, if it is one
abbrev pub individual_read : Listed → Body → List (List ℕ) → Option Body
individual_read o b ws = option_and_then (with_placed b) (individual_line_in o b.model.size ws)

-- a line of a class, of a role, or of an individual leads from what is read so far to the next
abbrev pub ReadsClass : Listed → List (List ℕ) → Body → Body → Type 0
ReadsClass o ws before after = class_read o before ws ≡ Some after

-- the line is that of a role, and adds what it says
abbrev pub ReadsRole : Listed → List (List ℕ) → Body → Body → Type 0
ReadsRole o ws before after = role_read o before ws ≡ Some after

-- the line is that of an individual, and adds what it says
abbrev pub ReadsIndividual : Listed → List (List ℕ) → Body → Body → Type 0
ReadsIndividual o ws before after = individual_read o before ws ≡ Some after

-- what was read after a line, given as its words: that of a role, of an individual, or else of a class
abbrev pub model_words_read : Listed → Body → List (List ℕ) → Option Body
model_words_read o b ws =
    if is_role_line ws then role_read o b ws
    else if is_individual_line ws then individual_read o b ws
    else class_read o b ws

-- what was read after a line
abbrev pub model_line_read : Listed → Body → List ℕ → Option Body
model_line_read o b line = model_words_read o b (words line)

-- the lines after the first: lines of classes, roles and individuals, then the line `end`, and then blank lines
abbrev pub model_body : Listed → Body → List (List ℕ) → Option ModelLists
model_body o b ls = read_body (model_line_read o) (λ c. c.model) b ls

-- `model N`, with at least one element
abbrev pub size_line : List (List ℕ) → Option ℕ
size_line (k ∷ n ∷ []) =
    if bytes_eq k (codes "model") then option_and_then (λ x. if nat_eq x 0 then None else Some x) (number_in n)
    else None
size_line _ = None

-- the size that a line `model N` says
abbrev pub size_in : List ℕ → Option ℕ
size_in line = size_line (words line)

-- nothing was put
abbrev pub empty_body : ℕ → Body
empty_body n = record {
  classes = [];
  roles = [];
  individuals = [];
  model = record { size = n; members = []; links = []; individuals = [] };
}

-- the model that the lines stand for, where they are the text of one
abbrev pub model_of : Listed → List (List ℕ) → Option ModelLists
model_of o ls = after_line size_in (λ n. model_body o (empty_body n)) ls
