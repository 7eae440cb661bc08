-- The lines of a model's text are read back.
use Rattle.std.proofs.Common.{◌≡◌, ℕ, suc, ◌+◌, ◌^◌, ◌<◌, ◌≤◌, true, false, ◌&&◌, ◌||◌, List, [], ◌∷◌, ◌++◌, map, refl}
use Rattle.std.proofs.Common.{ap, sym, subst, ◌∙◌, Some, None, option_map, arith}
use Rattle.std.specs.Prelude.{nat_eq, nat_lt, codes, decimal, position, slice_get, option_and_then, if◌then◌else◌}
use Rattle.std.specs.List.{flat_map, list_all, list_any}
use Rattle.std.specs.List.Sorted.{IsStrictlySortedBy}
use Rattle.std.specs.Str.{bytes_eq}
use Rattle.std.specs.BTreeSet.{insert_key}
use Rattle.std.specs.declared.cmp.Ordering.{Ordering}
use Rattle.std.specs.declared.cmp.Ordering.TheVariants.{Less, Equal, Greater}
use Rattle.std.specs.Ordering.{nat_cmp, match_ordering}
use Rattle.std.proofs.lemmas.Bool.{and_parts, and_from, or_parts, false_from_ne_true}
use Rattle.std.proofs.lemmas.Bool.Decides.{nat_tests}
use Rattle.std.proofs.lemmas.Slice.Eq.{bytes_eq-Decides}
use Rattle.certificate_lines.specs.Lines.{words}
use Rattle.certificate_lines.specs.Names.{is_word_byte, name_word, name_place}
use Rattle.certificate_lines.specs.Body.{is_end_line}
use Rattle.certificate_lines.specs.Written.{line_of, is_line}
use Rattle.certificate_lines.proofs.ReadBack.{iri_read}
use Rattle.certificate_lines.proofs.Plain.{plain_words, plain_line, plain_decimal, plain_name}
use Rattle.certificate_lines.proofs.Body.{body_line}
use Rattle.shq_terms.specs.Listed.{Listed}
use Rattle.shq_terms.specs.Distinct.{AreDistinct}
use Rattle.shq_terms.proofs.Distinct.{place_is_number}
use Rattle.finite_model.specs.ModelLists.{ModelLists, member_cmp, link_cmp, element_at, with_individual}
use Rattle.finite_model.specs.ModelText.{element_in, elements_from, pairs_from, subject_in, class_line_in, role_line_in}
use Rattle.finite_model.specs.ModelText.{individual_line_in, with_elements, with_pairs, Body, with_class, with_role}
use Rattle.finite_model.specs.ModelText.{with_placed, model_words_read, model_line_read, model_body}
use Rattle.finite_model.specs.Written.{elements_of, pairs_of}
use Rattle.finite_model.specs.declared.reading.Pair.{Pair}
use Rattle.finite_model.proofs.Numerals.{pair_word, pair_of, Ascend, PairsAscend, element_read, elements_read}
use Rattle.finite_model.proofs.Numerals.{pairs_read, elements_ascend, at_least_none, pairs_ascend, pair_at_least_none}
use Rattle.finite_model.proofs.TextLines.{class_row, role_row, individual_row, rows_of_class, rows_of_role, class_rows}
use Rattle.finite_model.proofs.TextLines.{role_rows, individual_rows, plain_pair}

-- ---- plain rows

pub plain_decimals : (low size : ℕ) (xs : List ℕ) → size < 2 ^ 32 → Ascend low size xs
    → list_all (list_all is_word_byte) (map decimal xs) ≡ true
plain_decimals low size [] small up = refl
plain_decimals low size (x ∷ xs) small up =
    and_from (list_all is_word_byte (decimal x)) (list_all (list_all is_word_byte) (map decimal xs))
    (plain_decimal x (omega (arith, up.1))) (plain_decimals (x + 1) size xs small up.2)

pub plain_pairs : (low : Pair) (size : ℕ) (ls : List (ℕ × ℕ × ℕ)) → size < 2 ^ 32 → PairsAscend low size ls
    → list_all (list_all is_word_byte) (map pair_word ls) ≡ true
plain_pairs low size [] small up = refl
plain_pairs low size (l ∷ ls) small up =
    and_from (list_all is_word_byte (pair_word l)) (list_all (list_all is_word_byte) (map pair_word ls))
    (plain_pair l (omega (arith, up.1)) (omega (arith, up.2)))
    (plain_pairs (record { from = l.1; to = l.2 + 1 }) size ls small up.3)

module _ (kind name : List ℕ) (ws : List (List ℕ)) (kind_plain : list_all is_word_byte kind ≡ true)
    (name_plain : list_all is_word_byte name ≡ true) (ws_plain : list_all (list_all is_word_byte) ws ≡ true) where
  all_plain : list_all (list_all is_word_byte) (kind ∷ name_word name ∷ ws) ≡ true
  all_plain =
      and_from (list_all is_word_byte kind) (list_all (list_all is_word_byte) (name_word name ∷ ws)) kind_plain
      (and_from (list_all is_word_byte (name_word name)) (list_all (list_all is_word_byte) ws)
      (plain_name name name_plain) ws_plain)

  row_words : words (line_of kind (name_word name ∷ ws)) ≡ kind ∷ name_word name ∷ ws
  row_words = plain_words kind (name_word name ∷ ws) all_plain

  pub row_is_line : is_line (line_of kind (name_word name ∷ ws)) ≡ true
  row_is_line = plain_line kind (name_word name ∷ ws) all_plain

-- ---- a line

class_named : (names : List (List ℕ)) (name w : List ℕ) (ws : List (List ℕ)) (a : ℕ)
    → position (bytes_eq name) names ≡ Some a
    → subject_in (codes "class") names (codes "class" ∷ name_word name ∷ w ∷ ws) ≡ Some a
class_named names name w ws a at = ap (option_and_then (λ i. position (bytes_eq i) names)) (iri_read name) ∙ at

role_named : (names : List (List ℕ)) (name w : List ℕ) (ws : List (List ℕ)) (r : ℕ)
    → position (bytes_eq name) names ≡ Some r
    → subject_in (codes "role") names (codes "role" ∷ name_word name ∷ w ∷ ws) ≡ Some r
role_named names name w ws r at = ap (option_and_then (λ i. position (bytes_eq i) names)) (iri_read name) ∙ at

abbrev after_class : Body → ℕ → List ℕ → Body
after_class b a xs = record b { classes = insert_key nat_cmp b.classes a; model = with_elements a xs b.model }

abbrev after_role : Body → ℕ → List Pair → Body
after_role b r ps = record b { roles = insert_key nat_cmp b.roles r; model = with_pairs r ps b.model }

abbrev after_individual : Body → ℕ → ℕ → Body
after_individual b a x =
    record b { individuals = insert_key nat_cmp b.individuals a; model = with_individual a x b.model }

pub plain_element : (size x : ℕ) → size < 2 ^ 32 → x < size → list_all (list_all is_word_byte) (decimal x ∷ []) ≡ true
plain_element size x small below =
    and_from (list_all is_word_byte (decimal x)) true (plain_decimal x (omega arith)) refl

module _ (o : Listed) (b : Body) (name : List ℕ) (name_plain : list_all is_word_byte name ≡ true)
    (small : b.model.size < 2 ^ 32) where
  class_row_read : (a x : ℕ) (xs : List ℕ) → position (bytes_eq name) o.classes ≡ Some a
      → Ascend 0 b.model.size (x ∷ xs) → list_any (nat_eq a) b.classes ≡ false
      → model_line_read o b (class_row name (x ∷ xs)) ≡ Some (after_class b a (x ∷ xs))
  class_row_read a x xs at up fresh =
      let ws = map decimal (x ∷ xs) in
      let split : words (class_row name (x ∷ xs)) ≡ codes "class" ∷ name_word name ∷ ws =
      row_words (codes "class") name ws refl name_plain (plain_decimals 0 b.model.size (x ∷ xs) small up) in
      let line : class_line_in o b.model.size (codes "class" ∷ name_word name ∷ ws)
      ≡ Some (record { class = a; elements = x ∷ xs }) =
      ap
      (option_and_then (λ c. option_map (λ ys. record { class = c; elements = ys }) (elements_from 0 b.model.size ws)))
      (class_named o.classes name (decimal x) (map decimal xs) a at)
      ∙ ap (option_map (λ ys. record { class = a; elements = ys })) (elements_read 0 b.model.size (x ∷ xs) small up) in
      ap (model_words_read o b) split ∙ ap (option_and_then (with_class b)) line
      ∙ ap (λ v. if v then None else Some (after_class b a (x ∷ xs))) fresh

  role_row_read : (r : ℕ) (l : ℕ × ℕ × ℕ) (ls : List (ℕ × ℕ × ℕ)) → position (bytes_eq name) o.roles ≡ Some r
      → PairsAscend (record { from = 0; to = 0 }) b.model.size (l ∷ ls) → list_any (nat_eq r) b.roles ≡ false
      → model_line_read o b (role_row name (l ∷ ls)) ≡ Some (after_role b r (map pair_of (l ∷ ls)))
  role_row_read r l ls at up fresh =
      let ws = map pair_word (l ∷ ls) in
      let split : words (role_row name (l ∷ ls)) ≡ codes "role" ∷ name_word name ∷ ws =
      row_words (codes "role") name ws refl name_plain
      (plain_pairs (record { from = 0; to = 0 }) b.model.size (l ∷ ls) small up) in
      let line : role_line_in o b.model.size (codes "role" ∷ name_word name ∷ ws)
      ≡ Some (record { role = r; pairs = map pair_of (l ∷ ls) }) =
      ap (option_and_then
      (λ s. option_map (λ ps. record { role = s; pairs = ps })
      (pairs_from (record { from = 0; to = 0 }) b.model.size ws)))
      (role_named o.roles name (pair_word l) (map pair_word ls) r at)
      ∙ ap (option_map (λ ps. record { role = r; pairs = ps }))
      (pairs_read (record { from = 0; to = 0 }) b.model.size (l ∷ ls) small up) in
      ap (model_words_read o b) split ∙ ap (option_and_then (with_role b)) line
      ∙ ap (λ v. if v then None else Some (after_role b r (map pair_of (l ∷ ls)))) fresh

  individual_row_read : (a x : ℕ) → position (bytes_eq name) o.individuals ≡ Some a → x < b.model.size
      → list_any (nat_eq a) b.individuals ≡ false
      → model_line_read o b (individual_row name x) ≡ Some (after_individual b a x)
  individual_row_read a x at below fresh =
      let ws = decimal x ∷ [] in
      let split : words (individual_row name x) ≡ codes "individual" ∷ name_word name ∷ ws =
      row_words (codes "individual") name ws refl name_plain (plain_element b.model.size x small below) in
      let named : name_place o.individuals (name_word name) ≡ Some a =
      ap (option_and_then (λ i. position (bytes_eq i) o.individuals)) (iri_read name) ∙ at in
      let line : individual_line_in o b.model.size (codes "individual" ∷ name_word name ∷ ws)
      ≡ Some (record { individual = a; element = x }) =
      ap (option_and_then
      (λ c. option_map (λ y. record { individual = c; element = y }) (element_in 0 b.model.size (decimal x))))
      named
      ∙ ap (option_map (λ y. record { individual = a; element = y }))
      (element_read 0 b.model.size x small (omega arith) below) in
      ap (model_words_read o b) split ∙ ap (option_and_then (with_placed b)) line
      ∙ ap (λ v. if v then None else Some (after_individual b a x)) fresh

not_end : (c : ℕ) (rest : List ℕ) → (c ≡ 101 → ⊥) → is_end_line (c ∷ rest) ≡ false
not_end c rest other =
    false_from_ne_true (is_end_line (c ∷ rest))
    (λ h.
    let same : c ∷ rest ≡ codes "end" = (bytes_eq-Decides (c ∷ rest) (codes "end")).0 h in
    let head : c ≡ 101 = cc in other head)

class_goes_on : (rest : List ℕ) → is_end_line (codes "class" ++ rest) ≡ false
class_goes_on rest = not_end 99 (codes "lass" ++ rest) (λ e. absurd (omega arith))

role_goes_on : (rest : List ℕ) → is_end_line (codes "role" ++ rest) ≡ false
role_goes_on rest = not_end 114 (codes "ole" ++ rest) (λ e. absurd (omega arith))

individual_goes_on : (rest : List ℕ) → is_end_line (codes "individual" ++ rest) ≡ false
individual_goes_on rest = not_end 105 (codes "ndividual" ++ rest) (λ e. absurd (omega arith))

body_step : (o : Listed) (b next : Body) (l : List ℕ) (ls : List (List ℕ)) → is_end_line l ≡ false
    → model_line_read o b l ≡ Some next → model_body o b (l ∷ ls) ≡ model_body o next ls
body_step o b next l ls more read = body_line (model_line_read o) (λ c. c.model) b l ls (Some next) more read

-- ---- all lines

pub record IsRead (o : Listed) (b : Body) (rows rest : List (List ℕ)) (model : ModelLists) : Type 0 where
  pub next : Body
  pub reads : model_body o b (rows ++ rest) ≡ model_body o next rest
  pub same_roles : next.roles ≡ b.roles
  pub same_individuals : next.individuals ≡ b.individuals
  pub becomes : next.model ≡ model

abbrev pub with_classes : ℕ → List (List ℕ) → List (ℕ × ℕ) → ModelLists → ModelLists
with_classes a [] ms k = k
with_classes a (n ∷ ns) ms k = with_classes (a + 1) ns ms (with_elements a (elements_of a ms) k)

abbrev pub with_roles : ℕ → List (List ℕ) → List (ℕ × ℕ × ℕ) → ModelLists → ModelLists
with_roles r [] ls k = k
with_roles r (n ∷ ns) ls k = with_roles (r + 1) ns ls (with_pairs r (map pair_of (pairs_of r ls)) k)

abbrev pub with_individuals : ℕ → List (List ℕ) → List (ℕ × ℕ) → ModelLists → ModelLists
with_individuals a [] ps k = k
with_individuals a (n ∷ ns) ps k = with_individuals (a + 1) ns ps (with_individual a (element_at ps a) k)

same_size : (a : ℕ) (xs : List ℕ) (k : ModelLists) → (with_elements a xs k).size ≡ k.size
same_size a [] k = refl
same_size a (x ∷ xs) k = same_size a xs (record k { members = insert_key member_cmp k.members (a, x) })

same_size_pairs : (r : ℕ) (ps : List Pair) (k : ModelLists) → (with_pairs r ps k).size ≡ k.size
same_size_pairs r [] k = refl
same_size_pairs r (p ∷ ps) k = same_size_pairs r ps (record k { links = insert_key link_cmp k.links (r, p.from, p.to) })

inserted_other : (cs : List ℕ) (a c : ℕ) → a < c → list_any (nat_eq c) cs ≡ false
    → list_any (nat_eq c) (insert_key nat_cmp cs a) ≡ false
inserted_other [] a c less h = let other : nat_eq c a ≡ false = grind (arith, nat_tests) in ap (λ v. v || false) other
inserted_other (d ∷ ds) a c less h = by (nat_cmp a d) (inserted_other ds a c less)
  where
    other : nat_eq c a ≡ false
    other = grind (arith, nat_tests)

    by : (q : Ordering) → (list_any (nat_eq c) ds ≡ false → list_any (nat_eq c) (insert_key nat_cmp ds a) ≡ false)
        → list_any (nat_eq c) (match_ordering q (a ∷ d ∷ ds) (d ∷ ds) (d ∷ insert_key nat_cmp ds a)) ≡ false
    by Less rest = ap (λ v. v || list_any (nat_eq c) (d ∷ ds)) other ∙ h
    by Equal rest = h
    by Greater rest =
        let p = or_parts (nat_eq c d) (list_any (nat_eq c) ds) h in
        ap (λ v. v || list_any (nat_eq c) (insert_key nat_cmp ds a)) p.0 ∙ rest p.1

-- names that stand after a number of others
abbrev pub StandAt : List (List ℕ) → ℕ → List (List ℕ) → Type 0
StandAt all a names = (j : ℕ) (name : List ℕ) → slice_get names j ≡ Some name → slice_get all (a + j) ≡ Some name

stand_next : (all : List (List ℕ)) (a : ℕ) (n : List ℕ) (ns : List (List ℕ)) → StandAt all a (n ∷ ns)
    → StandAt all (a + 1) ns
stand_next all a n ns stand j name at =
    let same : a + suc j ≡ a + 1 + j = omega arith in
    subst (λ k. slice_get all k ≡ Some name) same (stand (suc j) name at)

first_number : (all : List (List ℕ)) (a : ℕ) (n : List ℕ) (ns : List (List ℕ)) → AreDistinct all
    → StandAt all a (n ∷ ns) → position (bytes_eq n) all ≡ Some a
first_number all a n ns distinct stand =
    let same : a + 0 ≡ a = omega arith in
    place_is_number all n a distinct (subst (λ k. slice_get all k ≡ Some n) same (stand 0 n refl))

module _ (o : Listed) (size : ℕ) (small : size < 2 ^ 32) where
  pub classes_read : (ms : List (ℕ × ℕ)) → IsStrictlySortedBy member_cmp ms → list_all (λ m. nat_lt m.1 size) ms ≡ true
      → AreDistinct o.classes → (names : List (List ℕ)) (a : ℕ) → StandAt o.classes a names
      → list_all (list_all is_word_byte) names ≡ true → (b : Body) → b.model.size ≡ size
      → ((c : ℕ) → a ≤ c → list_any (nat_eq c) b.classes ≡ false) → (rest : List (List ℕ))
      → IsRead o b (class_rows a names ms) rest (with_classes a names ms b.model)
  classes_read ms sorted below distinct [] a stand plain b same fresh rest =
      record { next = b; reads = refl; same_roles = refl; same_individuals = refl; becomes = refl }
  classes_read ms sorted below distinct (n ∷ ns) a stand plain b same fresh rest =
      by (elements_of a ms) (elements_ascend a 0 size ms sorted (at_least_none a ms) below)
      (λ next eq free. classes_read ms sorted below distinct ns (a + 1) (stand_next o.classes a n ns stand) parts.1 next
      eq free rest)
    where
      parts : (list_all is_word_byte n ≡ true) × (list_all (list_all is_word_byte) ns ≡ true)
      parts = and_parts (list_all is_word_byte n) (list_all (list_all is_word_byte) ns) plain

      by : (xs : List ℕ) → Ascend 0 size xs
          → ((next : Body) → next.model.size ≡ size → ((c : ℕ) → a + 1 ≤ c → list_any (nat_eq c) next.classes ≡ false)
          → IsRead o next (class_rows (a + 1) ns ms) rest (with_classes (a + 1) ns ms next.model))
          → IsRead o b (rows_of_class n xs ++ class_rows (a + 1) ns ms) rest
          (with_classes (a + 1) ns ms (with_elements a xs b.model))
      by [] up more = more b same (λ c le. fresh c (omega arith))
      by (x ∷ xs) up more =
          let next = after_class b a (x ∷ xs) in
          let eq : next.model.size ≡ size = same_size a (x ∷ xs) b.model ∙ same in
          let read = more next eq (λ c le. inserted_other b.classes a c (omega arith) (fresh c (omega arith))) in
          let ascend : Ascend 0 b.model.size (x ∷ xs) = subst (λ s. Ascend 0 s (x ∷ xs)) (sym same) up in
          let line =
          class_row_read o b n parts.0 (omega arith) a x xs (first_number o.classes a n ns distinct stand) ascend
          (fresh a (omega arith)) in
          record {
            next = read.next;
            reads =
                body_step o b next (class_row n (x ∷ xs)) (class_rows (a + 1) ns ms ++ rest)
                (class_goes_on (flat_map (λ w. 32 ∷ w) (name_word n ∷ map decimal (x ∷ xs)))) line
                ∙ read.reads;
            same_roles = read.same_roles;
            same_individuals = read.same_individuals;
            becomes = read.becomes;
          }

  pub roles_read : (ls : List (ℕ × ℕ × ℕ)) → IsStrictlySortedBy link_cmp ls
      → list_all (λ l. nat_lt l.1 size && nat_lt l.2 size) ls ≡ true → AreDistinct o.roles
      → (names : List (List ℕ)) (r : ℕ) → StandAt o.roles r names → list_all (list_all is_word_byte) names ≡ true
      → (b : Body) → b.model.size ≡ size → ((c : ℕ) → r ≤ c → list_any (nat_eq c) b.roles ≡ false)
      → (rest : List (List ℕ))
      → (next : Body) × (model_body o b (role_rows r names ls ++ rest) ≡ model_body o next rest)
      × (next.model ≡ with_roles r names ls b.model) × (next.individuals ≡ b.individuals)
  roles_read ls sorted below distinct [] r stand plain b same fresh rest = (b, refl, refl, refl)
  roles_read ls sorted below distinct (n ∷ ns) r stand plain b same fresh rest =
      by (pairs_of r ls) (pairs_ascend r (record { from = 0; to = 0 }) size ls sorted (pair_at_least_none r ls) below)
      (λ next eq free. roles_read ls sorted below distinct ns (r + 1) (stand_next o.roles r n ns stand) parts.1 next eq
      free rest)
    where
      parts : (list_all is_word_byte n ≡ true) × (list_all (list_all is_word_byte) ns ≡ true)
      parts = and_parts (list_all is_word_byte n) (list_all (list_all is_word_byte) ns) plain

      by : (ps : List (ℕ × ℕ × ℕ)) → PairsAscend (record { from = 0; to = 0 }) size ps
          → ((next : Body) → next.model.size ≡ size → ((c : ℕ) → r + 1 ≤ c → list_any (nat_eq c) next.roles ≡ false)
          → (last : Body) × (model_body o next (role_rows (r + 1) ns ls ++ rest) ≡ model_body o last rest)
          × (last.model ≡ with_roles (r + 1) ns ls next.model) × (last.individuals ≡ next.individuals))
          → (last : Body)
          × (model_body o b ((rows_of_role n ps ++ role_rows (r + 1) ns ls) ++ rest) ≡ model_body o last rest)
          × (last.model ≡ with_roles (r + 1) ns ls (with_pairs r (map pair_of ps) b.model))
          × (last.individuals ≡ b.individuals)
      by [] up more = more b same (λ c le. fresh c (omega arith))
      by (l ∷ ps) up more =
          let next = after_role b r (map pair_of (l ∷ ps)) in
          let eq : next.model.size ≡ size = same_size_pairs r (map pair_of (l ∷ ps)) b.model ∙ same in
          let read = more next eq (λ c le. inserted_other b.roles r c (omega arith) (fresh c (omega arith))) in
          let ascend : PairsAscend (record { from = 0; to = 0 }) b.model.size (l ∷ ps) =
          subst (λ s. PairsAscend (record { from = 0; to = 0 }) s (l ∷ ps)) (sym same) up in
          let line =
          role_row_read o b n parts.0 (omega arith) r l ps (first_number o.roles r n ns distinct stand) ascend
          (fresh r (omega arith)) in (
            read.0,
            body_step o b next (role_row n (l ∷ ps)) (role_rows (r + 1) ns ls ++ rest)
                (role_goes_on (flat_map (λ w. 32 ∷ w) (name_word n ∷ map pair_word (l ∷ ps)))) line
                ∙ read.1,
            read.2,
            read.3,
          )

  pub individuals_read : (ps : List (ℕ × ℕ)) → ((a : ℕ) → element_at ps a < size) → AreDistinct o.individuals
      → (names : List (List ℕ)) (a : ℕ) → StandAt o.individuals a names → list_all (list_all is_word_byte) names ≡ true
      → (b : Body) → b.model.size ≡ size → ((c : ℕ) → a ≤ c → list_any (nat_eq c) b.individuals ≡ false)
      → (rest : List (List ℕ))
      → (next : Body) × (model_body o b (individual_rows a names ps ++ rest) ≡ model_body o next rest)
      × (next.model ≡ with_individuals a names ps b.model)
  individuals_read ps inside distinct [] a stand plain b same fresh rest = (b, refl, refl)
  individuals_read ps inside distinct (n ∷ ns) a stand plain b same fresh rest =
      let parts = and_parts (list_all is_word_byte n) (list_all (list_all is_word_byte) ns) plain in
      let x = element_at ps a in
      let next = after_individual b a x in
      let below : x < b.model.size = subst (λ s. x < s) (sym same) (inside a) in
      let read =
      individuals_read ps inside distinct ns (a + 1) (stand_next o.individuals a n ns stand) parts.1 next same
      (λ c le. inserted_other b.individuals a c (omega arith) (fresh c (omega arith))) rest in
      let line =
      individual_row_read o b n parts.0 (omega arith) a x (first_number o.individuals a n ns distinct stand) below
      (fresh a (omega arith)) in (
        read.0,
        body_step o b next (individual_row n x) (individual_rows (a + 1) ns ps ++ rest)
            (individual_goes_on (flat_map (λ w. 32 ∷ w) (name_word n ∷ decimal x ∷ []))) line
            ∙ read.1,
        read.2,
      )
