-- Documents and queries as text.
use Rattle.std.specs.Prelude.{ℕ, Bool, not, ◌==◌, List, [], ◌∷◌, ◌++◌, take, codes, if◌then◌else◌}
use Rattle.std.specs.List.{prefix_len}
use Rattle.std.specs.Str.{bytes_eq}

-- a document with axioms, which begin on its third line
abbrev pub document_text : List ℕ → List ℕ
document_text axioms =
    (codes "Prefix(:=<http://e.org/>)" ++ 10 ∷ codes "Ontology(" ++ 10 ∷ []) ++ axioms ++ 10 ∷ codes ")" ++ 10 ∷ []

-- the axiom that a question asks for: that the class expression of `sat` is part of nothing, or that of `entails`
abbrev pub query_text : List ℕ → List ℕ → List ℕ
query_text job asked =
    if bytes_eq job (codes "entails") then asked else codes "SubClassOf(" ++ asked ++ codes " owl:Nothing)"

-- the byte ends no line
abbrev pub is_in_line : ℕ → Bool
is_in_line byte = not (byte == 10)

-- the first line of a text, without its end
abbrev pub first_line : List ℕ → List ℕ
first_line text = take (prefix_len is_in_line text) text
