-- The text of a model as lines of words.
use Rattle.std.proofs.Common.{◌≡◌, ℕ, ◌+◌, ◌^◌, ◌<◌, true, List, [], ◌∷◌, ◌++◌, map, refl, ap, sym, ◌∙◌, append_assoc}
use Rattle.std.specs.Prelude.{codes, decimal}
use Rattle.std.specs.List.{list_all, flat_map}
use Rattle.std.proofs.lemmas.Bool.{and_from}
use Rattle.std.proofs.lemmas.Grind.{flat_map-append}
use Rattle.std.proofs.lemmas.List.{append-nil}
use Rattle.std.proofs.lemmas.List.Folds.{list_all-append}
use Rattle.certificate_lines.specs.Names.{is_word_byte, name_word}
use Rattle.certificate_lines.specs.Written.{line_of, text_of}
use Rattle.certificate_lines.proofs.Plain.{plain_decimal}
use Rattle.shq_terms.specs.Listed.{Listed}
use Rattle.finite_model.specs.ModelLists.{ModelLists, element_at}
use Rattle.finite_model.specs.Written.{elements_of, pairs_of, element_text, pair_text, line_text, class_line, role_line}
use Rattle.finite_model.specs.Written.{individual_line, class_lines, role_lines, individual_lines, model_text}
use Rattle.finite_model.proofs.Numerals.{pair_word}

abbrev pub class_row : List ℕ → List ℕ → List ℕ
class_row name xs = line_of (codes "class") (name_word name ∷ map decimal xs)

abbrev pub role_row : List ℕ → List (ℕ × ℕ × ℕ) → List ℕ
role_row name ls = line_of (codes "role") (name_word name ∷ map pair_word ls)

abbrev pub individual_row : List ℕ → ℕ → List ℕ
individual_row name x = line_of (codes "individual") (name_word name ∷ decimal x ∷ [])

-- the line of a class or role, unless it is empty
abbrev pub rows_of_class : List ℕ → List ℕ → List (List ℕ)
rows_of_class name [] = []
rows_of_class name (x ∷ xs) = class_row name (x ∷ xs) ∷ []

abbrev pub rows_of_role : List ℕ → List (ℕ × ℕ × ℕ) → List (List ℕ)
rows_of_role name [] = []
rows_of_role name (l ∷ ls) = role_row name (l ∷ ls) ∷ []

abbrev pub class_rows : ℕ → List (List ℕ) → List (ℕ × ℕ) → List (List ℕ)
class_rows a [] ms = []
class_rows a (n ∷ ns) ms = rows_of_class n (elements_of a ms) ++ class_rows (a + 1) ns ms

abbrev pub role_rows : ℕ → List (List ℕ) → List (ℕ × ℕ × ℕ) → List (List ℕ)
role_rows r [] ls = []
role_rows r (n ∷ ns) ls = rows_of_role n (pairs_of r ls) ++ role_rows (r + 1) ns ls

abbrev pub individual_rows : ℕ → List (List ℕ) → List (ℕ × ℕ) → List (List ℕ)
individual_rows a [] ps = []
individual_rows a (n ∷ ns) ps = individual_row n (element_at ps a) ∷ individual_rows (a + 1) ns ps

abbrev pub size_row : ℕ → List ℕ
size_row n = line_of (codes "model") (decimal n ∷ [])

abbrev pub model_rows : Listed → ModelLists → List (List ℕ)
model_rows o k =
    size_row k.size ∷ class_rows 0 o.classes k.members ++ role_rows 0 o.roles k.links
    ++ individual_rows 0 o.individuals k.individuals ++ codes "end" ∷ []

-- ---- the text is that of these lines

bracketed : (kind lower name upper items end : List ℕ)
    → kind ++ lower ++ name ++ upper ++ items ++ end ≡ kind ++ (lower ++ (name ++ upper) ++ items) ++ end
bracketed kind lower name upper items end = simp append_assoc

line_same : (kind name items : List ℕ) (ws : List (List ℕ)) → items ≡ flat_map (λ w. 32 ∷ w) ws
    → line_text kind name items ≡ line_of kind (name_word name ∷ ws) ++ 10 ∷ []
line_same kind name items ws is =
    ap (line_text kind name) is ∙ bracketed kind (codes " <") name (codes ">") (flat_map (λ w. 32 ∷ w) ws) (10 ∷ [])

flat_elements : (xs : List ℕ) → flat_map element_text xs ≡ flat_map (λ w. 32 ∷ w) (map decimal xs)
flat_elements [] = refl
flat_elements (x ∷ xs) = ap (λ t. (32 ∷ decimal x) ++ t) (flat_elements xs)

flat_pairs : (ls : List (ℕ × ℕ × ℕ)) → flat_map pair_text ls ≡ flat_map (λ w. 32 ∷ w) (map pair_word ls)
flat_pairs [] = refl
flat_pairs (l ∷ ls) = ap (λ t. (32 ∷ pair_word l) ++ t) (flat_pairs ls)

text_of-append : (as_ bs : List (List ℕ)) → text_of (as_ ++ bs) ≡ text_of as_ ++ text_of bs
text_of-append as_ bs = flat_map-append (λ l. l ++ 10 ∷ []) as_ bs

class_line_same : (name xs : List ℕ) → class_line name xs ≡ text_of (rows_of_class name xs)
class_line_same name [] = refl
class_line_same name (x ∷ xs) =
    line_same (codes "class") name (flat_map element_text (x ∷ xs)) (map decimal (x ∷ xs)) (flat_elements (x ∷ xs))
    ∙ sym (append-nil (class_row name (x ∷ xs) ++ 10 ∷ []))

role_line_same : (name : List ℕ) (ls : List (ℕ × ℕ × ℕ)) → role_line name ls ≡ text_of (rows_of_role name ls)
role_line_same name [] = refl
role_line_same name (l ∷ ls) =
    line_same (codes "role") name (flat_map pair_text (l ∷ ls)) (map pair_word (l ∷ ls)) (flat_pairs (l ∷ ls))
    ∙ sym (append-nil (role_row name (l ∷ ls) ++ 10 ∷ []))

class_lines_same : (a : ℕ) (ns : List (List ℕ)) (ms : List (ℕ × ℕ)) → class_lines a ns ms ≡ text_of (class_rows a ns ms)
class_lines_same a [] ms = refl
class_lines_same a (n ∷ ns) ms =
    ap (λ t. t ++ class_lines (a + 1) ns ms) (class_line_same n (elements_of a ms))
    ∙ ap (λ t. text_of (rows_of_class n (elements_of a ms)) ++ t) (class_lines_same (a + 1) ns ms)
    ∙ sym (text_of-append (rows_of_class n (elements_of a ms)) (class_rows (a + 1) ns ms))

role_lines_same : (r : ℕ) (ns : List (List ℕ)) (ls : List (ℕ × ℕ × ℕ))
    → role_lines r ns ls ≡ text_of (role_rows r ns ls)
role_lines_same r [] ls = refl
role_lines_same r (n ∷ ns) ls =
    ap (λ t. t ++ role_lines (r + 1) ns ls) (role_line_same n (pairs_of r ls))
    ∙ ap (λ t. text_of (rows_of_role n (pairs_of r ls)) ++ t) (role_lines_same (r + 1) ns ls)
    ∙ sym (text_of-append (rows_of_role n (pairs_of r ls)) (role_rows (r + 1) ns ls))

individual_line_same : (name : List ℕ) (x : ℕ) → individual_line name x ≡ individual_row name x ++ 10 ∷ []
individual_line_same name x =
    line_same (codes "individual") name (element_text x) (decimal x ∷ []) (sym (append-nil (element_text x)))

individual_lines_same : (a : ℕ) (ns : List (List ℕ)) (ps : List (ℕ × ℕ))
    → individual_lines a ns ps ≡ text_of (individual_rows a ns ps)
individual_lines_same a [] ps = refl
individual_lines_same a (n ∷ ns) ps =
    ap (λ t. t ++ individual_lines (a + 1) ns ps) (individual_line_same n (element_at ps a))
    ∙ ap (λ t. (individual_row n (element_at ps a) ++ 10 ∷ []) ++ t) (individual_lines_same (a + 1) ns ps)

joined : (begin blank d feed cs rs is end : List ℕ)
    → begin ++ blank ++ d ++ feed ++ cs ++ rs ++ is ++ end ++ feed
    ≡ begin ++ (blank ++ d ++ []) ++ feed ++ cs ++ rs ++ is ++ (end ++ feed ++ [])
joined begin blank d feed cs rs is end = simp (append_assoc, append-nil)

pub model_text_same : (o : Listed) (k : ModelLists) → model_text o k ≡ text_of (model_rows o k)
model_text_same o k =
    let begin = codes "model " ++ decimal k.size ++ 10 ∷ [] in
    let cs = class_rows 0 o.classes k.members in
    let rs = role_rows 0 o.roles k.links in
    let is = individual_rows 0 o.individuals k.individuals in
    ap (λ t. begin ++ t ++ role_lines 0 o.roles k.links ++ individual_lines 0 o.individuals k.individuals ++ codes "end"
    ++ 10 ∷ [])
    (class_lines_same 0 o.classes k.members)
    ∙ ap (λ t. begin ++ text_of cs ++ t ++ individual_lines 0 o.individuals k.individuals ++ codes "end" ++ 10 ∷ [])
    (role_lines_same 0 o.roles k.links)
    ∙ ap (λ t. begin ++ text_of cs ++ text_of rs ++ t ++ codes "end" ++ 10 ∷ [])
    (individual_lines_same 0 o.individuals k.individuals)
    ∙ joined (codes "model") (32 ∷ []) (decimal k.size) (10 ∷ []) (text_of cs) (text_of rs) (text_of is) (codes "end")
    ∙ ap (λ t. t ++ text_of is ++ text_of (codes "end" ∷ [])) (sym (text_of-append (size_row k.size ∷ cs) rs))
    ∙ ap (λ t. t ++ text_of (codes "end" ∷ [])) (sym (text_of-append ((size_row k.size ∷ cs) ++ rs) is))
    ∙ sym (text_of-append ((size_row k.size ∷ cs) ++ rs ++ is) (codes "end" ∷ []))

-- ---- the words of a row are plain

pub plain_pair : (l : ℕ × ℕ × ℕ) → l.1 < 2 ^ 32 → l.2 < 2 ^ 32 → list_all is_word_byte (pair_word l) ≡ true
plain_pair l from to =
    list_all-append is_word_byte (decimal l.1) (44 ∷ decimal l.2)
    ∙ and_from (list_all is_word_byte (decimal l.1)) (list_all is_word_byte (decimal l.2)) (plain_decimal l.1 from)
    (plain_decimal l.2 to)
