-- The text of a model is read back whole.
use Rattle.std.proofs.Common.{◌≡◌, ℕ, ◌+◌, ◌^◌, ◌<◌, ◌≤◌, Bool, true, false, ◌&&◌, cond, List, [], ◌∷◌, ◌++◌, length}
use Rattle.std.proofs.Common.{map, refl, ap, sym, subst, ◌∙◌, Some, None, arith, append_assoc}
use Rattle.std.specs.Prelude.{nat_eq, nat_lt, codes, decimal, slice_get, option_and_then, if◌then◌else◌}
use Rattle.std.specs.List.{filter, list_all, list_any}
use Rattle.std.specs.List.Sorted.{IsStrictlySortedBy}
use Rattle.std.specs.declared.cmp.Ordering.TheVariants.{Less, Greater}
use Rattle.std.proofs.lemmas.Bool.{and_parts, and_from}
use Rattle.std.proofs.lemmas.Bool.Decides.{nat_tests}
use Rattle.certificate_lines.specs.Lines.{lines, words}
use Rattle.certificate_lines.specs.Names.{is_word_byte, AreNames}
use Rattle.certificate_lines.specs.Written.{is_line}
use Rattle.certificate_lines.proofs.ReadBack.{lines_read, number_read}
use Rattle.certificate_lines.proofs.Plain.{plain_words, plain_line, plain_decimal, lines_both}
use Rattle.shq_terms.specs.Listed.{Listed}
use Rattle.std.specs.Ordering.{nat_cmp}
use Rattle.finite_model.specs.ModelLists.{ModelLists, member_cmp, link_cmp, element_at}
use Rattle.finite_model.specs.ModelText.{with_elements, with_pairs, model_body, size_line, empty_body, model_of}
use Rattle.finite_model.specs.Written.{elements_of, pairs_of, model_text}
use Rattle.finite_model.specs.ReadBack.{IsKept}
use Rattle.finite_model.specs.declared.reading.Pair.{Pair}
use Rattle.finite_model.proofs.Groups.{insert_each, insert_each-append, inserted_each, groups, all_groups}
use Rattle.finite_model.proofs.Numerals.{pair_word, pair_of, Ascend, PairsAscend, elements_ascend, at_least_none}
use Rattle.finite_model.proofs.Numerals.{pairs_ascend, pair_at_least_none}
use Rattle.finite_model.proofs.TextLines.{class_row, role_row, individual_row, rows_of_class, rows_of_role, class_rows}
use Rattle.finite_model.proofs.TextLines.{role_rows, individual_rows, size_row, model_rows, model_text_same}
use Rattle.finite_model.proofs.TextRead.{plain_decimals, plain_pairs, plain_element, row_is_line, StandAt, with_classes}
use Rattle.finite_model.proofs.TextRead.{with_roles, with_individuals, classes_read, roles_read, individuals_read}
use Rattle.finite_model.proofs.Entries.{with_individuals_is, sorted_entries}
use Rattle.finite_model.proofs.Inside.{element_below}

-- ---- what is put in is what is kept

with_elements_is : (a : ℕ) (xs : List ℕ) (k : ModelLists)
    → with_elements a xs k ≡ record k { members = insert_each member_cmp k.members (map (λ x. (a, x)) xs) }
with_elements_is a [] k = refl
with_elements_is a (x ∷ xs) k =
    with_elements_is a xs (record k { members = insert_each member_cmp k.members ((a, x) ∷ []) })

with_pairs_is : (r : ℕ) (ps : List Pair) (k : ModelLists)
    → with_pairs r ps k ≡ record k { links = insert_each link_cmp k.links (map (λ p. (r, p.from, p.to)) ps) }
with_pairs_is r [] k = refl
with_pairs_is r (p ∷ ps) k =
    with_pairs_is r ps (record k { links = insert_each link_cmp k.links ((r, p.from, p.to) ∷ []) })

same_number : (m a : ℕ) → nat_eq m a ≡ true → m ≡ a
same_number m a h = grind (arith, nat_tests)

elements_again : (a : ℕ) (ms : List (ℕ × ℕ)) → map (λ x. (a, x)) (elements_of a ms) ≡ filter (λ m. nat_eq m.0 a) ms
elements_again a [] = refl
elements_again a (m ∷ ms) = by (nat_eq m.0 a) refl (elements_again a ms)
  where
    by : (b : Bool) → nat_eq m.0 a ≡ b
        → map (λ x. (a, x)) (map (λ n. n.1) (filter (λ n. nat_eq n.0 a) ms)) ≡ filter (λ n. nat_eq n.0 a) ms
        → map (λ x. (a, x))
        (map (λ n. n.1) (cond b (m ∷ filter (λ n. nat_eq n.0 a) ms) (filter (λ n. nat_eq n.0 a) ms)))
        ≡ cond b (m ∷ filter (λ n. nat_eq n.0 a) ms) (filter (λ n. nat_eq n.0 a) ms)
    by true h rest = let same = same_number m.0 a h in λ i. (sym same i, m.1) ∷ rest i
    by false h rest = rest

pairs_again : (r : ℕ) (ls : List (ℕ × ℕ × ℕ))
    → map (λ p. (r, p.from, p.to)) (map pair_of (pairs_of r ls)) ≡ filter (λ l. nat_eq l.0 r) ls
pairs_again r [] = refl
pairs_again r (l ∷ ls) = by (nat_eq l.0 r) refl (pairs_again r ls)
  where
    by : (b : Bool) → nat_eq l.0 r ≡ b
        → map (λ p. (r, p.from, p.to)) (map pair_of (filter (λ n. nat_eq n.0 r) ls)) ≡ filter (λ n. nat_eq n.0 r) ls
        → map (λ p. (r, p.from, p.to))
        (map pair_of (cond b (l ∷ filter (λ n. nat_eq n.0 r) ls) (filter (λ n. nat_eq n.0 r) ls)))
        ≡ cond b (l ∷ filter (λ n. nat_eq n.0 r) ls) (filter (λ n. nat_eq n.0 r) ls)
    by true h rest = let same = same_number l.0 r h in λ i. (sym same i, l.1, l.2) ∷ rest i
    by false h rest = rest

with_classes_is : (ns : List (List ℕ)) (a : ℕ) (ms : List (ℕ × ℕ)) (k : ModelLists)
    → with_classes a ns ms k ≡ record k { members = insert_each member_cmp k.members (groups (λ m. m.0) a ns ms) }
with_classes_is [] a ms k = refl
with_classes_is (n ∷ ns) a ms k =
    ap (with_classes (a + 1) ns ms)
    (with_elements_is a (elements_of a ms) k
    ∙ ap (λ us. record k { members = insert_each member_cmp k.members us }) (elements_again a ms))
    ∙ with_classes_is ns (a + 1) ms
    (record k { members = insert_each member_cmp k.members (filter (λ m. nat_eq m.0 a) ms) })
    ∙ ap (λ us. record k { members = us })
    (sym (insert_each-append member_cmp (filter (λ m. nat_eq m.0 a) ms) (groups (λ m. m.0) (a + 1) ns ms) k.members))

with_roles_is : (ns : List (List ℕ)) (r : ℕ) (ls : List (ℕ × ℕ × ℕ)) (k : ModelLists)
    → with_roles r ns ls k ≡ record k { links = insert_each link_cmp k.links (groups (λ l. l.0) r ns ls) }
with_roles_is [] r ls k = refl
with_roles_is (n ∷ ns) r ls k =
    ap (with_roles (r + 1) ns ls)
    (with_pairs_is r (map pair_of (pairs_of r ls)) k
    ∙ ap (λ us. record k { links = insert_each link_cmp k.links us }) (pairs_again r ls))
    ∙ with_roles_is ns (r + 1) ls (record k { links = insert_each link_cmp k.links (filter (λ l. nat_eq l.0 r) ls) })
    ∙ ap (λ us. record k { links = us })
    (sym (insert_each-append link_cmp (filter (λ l. nat_eq l.0 r) ls) (groups (λ l. l.0) (r + 1) ns ls) k.links))

member_turned : (m n : ℕ × ℕ) → member_cmp m n ≡ Less → member_cmp n m ≡ Greater
member_turned m n h = grind (arith, nat_tests)

member_rises : (m n : ℕ × ℕ) → member_cmp m n ≡ Less → m.0 ≤ n.0
member_rises m n h = grind (arith, nat_tests)

link_turned : (l m : ℕ × ℕ × ℕ) → link_cmp l m ≡ Less → link_cmp m l ≡ Greater
link_turned l m h = grind (arith, nat_tests)

link_rises : (l m : ℕ × ℕ × ℕ) → link_cmp l m ≡ Less → l.0 ≤ m.0
link_rises l m h = grind (arith, nat_tests)

-- ---- each line is a line

class_rows_lines : (size : ℕ) → size < 2 ^ 32 → (ms : List (ℕ × ℕ)) → IsStrictlySortedBy member_cmp ms
    → list_all (λ m. nat_lt m.1 size) ms ≡ true → (ns : List (List ℕ)) (a : ℕ)
    → list_all (list_all is_word_byte) ns ≡ true → list_all is_line (class_rows a ns ms) ≡ true
class_rows_lines size small ms sorted below [] a plain = refl
class_rows_lines size small ms sorted below (n ∷ ns) a plain =
    let parts = and_parts (list_all is_word_byte n) (list_all (list_all is_word_byte) ns) plain in
    lines_both (rows_of_class n (elements_of a ms)) (class_rows (a + 1) ns ms)
    (by parts.0 (elements_of a ms) (elements_ascend a 0 size ms sorted (at_least_none a ms) below))
    (class_rows_lines size small ms sorted below ns (a + 1) parts.1)
  where
    by : list_all is_word_byte n ≡ true → (xs : List ℕ) → Ascend 0 size xs
        → list_all is_line (rows_of_class n xs) ≡ true
    by name [] up = refl
    by name (x ∷ xs) up =
        and_from (is_line (class_row n (x ∷ xs))) true
        (row_is_line (codes "class") n (map decimal (x ∷ xs)) refl name (plain_decimals 0 size (x ∷ xs) small up)) refl

role_rows_lines : (size : ℕ) → size < 2 ^ 32 → (ls : List (ℕ × ℕ × ℕ)) → IsStrictlySortedBy link_cmp ls
    → list_all (λ l. nat_lt l.1 size && nat_lt l.2 size) ls ≡ true → (ns : List (List ℕ)) (r : ℕ)
    → list_all (list_all is_word_byte) ns ≡ true → list_all is_line (role_rows r ns ls) ≡ true
role_rows_lines size small ls sorted below [] r plain = refl
role_rows_lines size small ls sorted below (n ∷ ns) r plain =
    let parts = and_parts (list_all is_word_byte n) (list_all (list_all is_word_byte) ns) plain in
    lines_both (rows_of_role n (pairs_of r ls)) (role_rows (r + 1) ns ls)
    (by parts.0 (pairs_of r ls)
    (pairs_ascend r (record { from = 0; to = 0 }) size ls sorted (pair_at_least_none r ls) below))
    (role_rows_lines size small ls sorted below ns (r + 1) parts.1)
  where
    by : list_all is_word_byte n ≡ true → (ps : List (ℕ × ℕ × ℕ)) → PairsAscend (record { from = 0; to = 0 }) size ps
        → list_all is_line (rows_of_role n ps) ≡ true
    by name [] up = refl
    by name (p ∷ ps) up =
        and_from (is_line (role_row n (p ∷ ps))) true
        (row_is_line (codes "role") n (map pair_word (p ∷ ps)) refl name
        (plain_pairs (record { from = 0; to = 0 }) size (p ∷ ps) small up))
        refl

individual_rises : (p q : ℕ × ℕ) → nat_cmp p.0 q.0 ≡ Less → p.0 ≤ q.0
individual_rises p q h = grind (arith, nat_tests)

individual_rows_lines : (size : ℕ) → size < 2 ^ 32 → (ps : List (ℕ × ℕ)) → ((a : ℕ) → element_at ps a < size)
    → (ns : List (List ℕ)) (a : ℕ) → list_all (list_all is_word_byte) ns ≡ true
    → list_all is_line (individual_rows a ns ps) ≡ true
individual_rows_lines size small ps inside [] a plain = refl
individual_rows_lines size small ps inside (n ∷ ns) a plain =
    let parts = and_parts (list_all is_word_byte n) (list_all (list_all is_word_byte) ns) plain in
    let x = element_at ps a in
    and_from (is_line (individual_row n x)) (list_all is_line (individual_rows (a + 1) ns ps))
    (row_is_line (codes "individual") n (decimal x ∷ []) refl parts.0 (plain_element size x small (inside a)))
    (individual_rows_lines size small ps inside ns (a + 1) parts.1)

regrouped : (as_ bs cs ds es : List (List ℕ)) → as_ ++ bs ++ cs ++ ds ++ es ≡ as_ ++ (bs ++ (cs ++ (ds ++ es)))
regrouped as_ bs cs ds es = simp append_assoc

size_plain : (n : ℕ) → n < 2 ^ 32 → list_all (list_all is_word_byte) (codes "model" ∷ decimal n ∷ []) ≡ true
size_plain n small =
    and_from (list_all is_word_byte (codes "model")) (list_all (list_all is_word_byte) (decimal n ∷ [])) refl
    (and_from (list_all is_word_byte (decimal n)) true (plain_decimal n small) refl)

module _ (o : Listed) (k : ModelLists) (classes : AreNames o.classes) (roles : AreNames o.roles)
    (individuals : AreNames o.individuals) (kept : IsKept o k) where
  inside : (a : ℕ) → element_at k.individuals a < k.size
  inside a = element_below k.size a k.individuals kept.some kept.individuals_inside

  all_lines : list_all is_line (model_rows o k) ≡ true
  all_lines =
      let first = plain_line (codes "model") (decimal k.size ∷ []) (size_plain k.size kept.small) in
      let cs =
      class_rows_lines k.size kept.small k.members kept.members_ascend kept.members_inside o.classes 0 classes.plain in
      let rs = role_rows_lines k.size kept.small k.links kept.links_ascend kept.links_inside o.roles 0 roles.plain in
      let is = individual_rows_lines k.size kept.small k.individuals inside o.individuals 0 individuals.plain in
      let front = (size_row k.size ∷ class_rows 0 o.classes k.members) ++ role_rows 0 o.roles k.links in
      lines_both (front ++ individual_rows 0 o.individuals k.individuals) (codes "end" ∷ [])
      (lines_both front (individual_rows 0 o.individuals k.individuals)
      (lines_both (size_row k.size ∷ class_rows 0 o.classes k.members) (role_rows 0 o.roles k.links)
      (and_from (is_line (size_row k.size)) (list_all is_line (class_rows 0 o.classes k.members)) first cs) rs)
      is) refl

  text_lines : lines (model_text o k) ≡ model_rows o k ++ [] ∷ []
  text_lines = ap lines (model_text_same o k) ∙ lines_read (model_rows o k) all_lines

  size_read : size_line (words (size_row k.size)) ≡ Some k.size
  size_read =
      let some = kept.some in
      let more : nat_eq k.size 0 ≡ false = grind (arith, nat_tests) in
      ap size_line (plain_words (codes "model") (decimal k.size ∷ []) (size_plain k.size kept.small))
      ∙ ap (option_and_then (λ x. if nat_eq x 0 then None else Some x)) (number_read k.size kept.small)
      ∙ ap (λ b. if b then None else Some k.size) more

  abbrev members_listed : Bool
  members_listed = list_all (λ m. nat_lt m.0 (length o.classes)) k.members

  abbrev links_listed : Bool
  links_listed = list_all (λ l. nat_lt l.0 (length o.roles)) k.links

  abbrev individuals_listed : Bool
  individuals_listed = list_all (λ p. nat_lt p.0 (length o.individuals)) k.individuals

  both_listed : (members_listed && links_listed) ≡ true
  both_listed = (and_parts (members_listed && links_listed) individuals_listed kept.listed).0

  listed_members : members_listed ≡ true
  listed_members = (and_parts members_listed links_listed both_listed).0

  listed_links : links_listed ≡ true
  listed_links = (and_parts members_listed links_listed both_listed).1

  listed_individuals : individuals_listed ≡ true
  listed_individuals = (and_parts (members_listed && links_listed) individuals_listed kept.listed).1

  stand : (all : List (List ℕ)) → StandAt all 0 all
  stand all j name at = let same : j ≡ 0 + j = omega arith in subst (λ i. slice_get all i ≡ Some name) same at

  members_in : with_classes 0 o.classes k.members (record { size = k.size; members = []; links = []; individuals = [] })
      ≡ record { size = k.size; members = k.members; links = []; individuals = [] }
  members_in =
      with_classes_is o.classes 0 k.members (record { size = k.size; members = []; links = []; individuals = [] })
      ∙ ap (λ (ms : List (ℕ × ℕ)). record {
        size = k.size;
        members = insert_each member_cmp [] ms;
        links = [];
        individuals = [];
      })
      (all_groups (λ m. m.0) member_cmp member_rises o.classes k.members kept.members_ascend listed_members)
      ∙ ap (λ (ms : List (ℕ × ℕ)). record { size = k.size; members = ms; links = []; individuals = [] })
      (inserted_each member_cmp member_turned k.members [] kept.members_ascend)

  links_in : with_roles 0 o.roles k.links (record { size = k.size; members = k.members; links = []; individuals = [] })
      ≡ record { size = k.size; members = k.members; links = k.links; individuals = [] }
  links_in =
      with_roles_is o.roles 0 k.links (record { size = k.size; members = k.members; links = []; individuals = [] })
      ∙ ap (λ (ls : List (ℕ × ℕ × ℕ)). record {
        size = k.size;
        members = k.members;
        links = insert_each link_cmp [] ls;
        individuals = [];
      })
      (all_groups (λ l. l.0) link_cmp link_rises o.roles k.links kept.links_ascend listed_links)
      ∙ ap (λ (ls : List (ℕ × ℕ × ℕ)). record { size = k.size; members = k.members; links = ls; individuals = [] })
      (inserted_each link_cmp link_turned k.links [] kept.links_ascend)

  individuals_in : with_individuals 0 o.individuals k.individuals
      (record { size = k.size; members = k.members; links = k.links; individuals = [] })
      ≡ k
  individuals_in =
      with_individuals_is k.size k.individuals kept.individuals_ascend kept.individuals_inside o.individuals 0
      (record { size = k.size; members = k.members; links = k.links; individuals = [] }) tt
      ∙ ap (λ (ps : List (ℕ × ℕ)). record { size = k.size; members = k.members; links = k.links; individuals = ps })
      (all_groups (λ p. p.0) (λ p q. nat_cmp p.0 q.0) individual_rises o.individuals k.individuals
      (sorted_entries k.individuals kept.individuals_ascend) listed_individuals)

  pub model_read_back : model_of o (lines (model_text o k)) ≡ Some k
  model_read_back =
      let cs = class_rows 0 o.classes k.members in
      let rs = role_rows 0 o.roles k.links in
      let is = individual_rows 0 o.individuals k.individuals in
      let last = codes "end" ∷ [] ∷ [] in
      let empty = empty_body k.size in
      let first =
      classes_read o k.size kept.small k.members kept.members_ascend kept.members_inside classes.distinct o.classes 0
      (stand o.classes) classes.plain empty refl (λ c le. refl) (rs ++ (is ++ last)) in
      let after = first.next in
      let model : after.model ≡ record { size = k.size; members = k.members; links = []; individuals = [] } =
      first.becomes ∙ members_in in
      let size : after.model.size ≡ k.size = ap (λ m. m.size) model in
      let none : (c : ℕ) → 0 ≤ c → list_any (nat_eq c) after.roles ≡ false =
      λ c le. ap (list_any (nat_eq c)) first.same_roles in
      let second =
      roles_read o k.size kept.small k.links kept.links_ascend kept.links_inside roles.distinct o.roles 0
      (stand o.roles) roles.plain after size none (is ++ last) in
      let linked = second.2 ∙ ap (with_roles 0 o.roles k.links) model ∙ links_in in
      let same_size : second.0.model.size ≡ k.size = ap (λ m. m.size) linked in
      let unplaced : (c : ℕ) → 0 ≤ c → list_any (nat_eq c) second.0.individuals ≡ false =
      λ c le. ap (list_any (nat_eq c)) (second.3 ∙ first.same_individuals) in
      let third =
      individuals_read o k.size kept.small k.individuals inside individuals.distinct o.individuals 0
      (stand o.individuals) individuals.plain second.0 same_size unplaced last in
      let whole : third.0.model ≡ k =
      third.2 ∙ ap (with_individuals 0 o.individuals k.individuals) linked ∙ individuals_in in
      ap (model_of o) text_lines
      ∙ ap (option_and_then (λ n. model_body o (empty_body n) (cs ++ rs ++ is ++ codes "end" ∷ [] ++ [] ∷ [])))
      size_read
      ∙ ap (model_body o empty) (regrouped cs rs is (codes "end" ∷ []) ([] ∷ []))
      ∙ first.reads
      ∙ second.1
      ∙ third.1
      ∙ ap Some whole
