-- What the lines of a workload say, by the numbers of its names.
use Rattle.std.proofs.Common.{◌≡◌, ℕ, zero, suc, ◌+◌, ◌<◌, ◌≤◌, cond, List, [], ◌∷◌, ◌++◌, length, position, Some, refl}
use Rattle.std.proofs.Common.{ap, sym, ◌∙◌, arith, append_assoc, codes, decimal}
use Rattle.std.specs.Str.{bytes_eq}
use Rattle.std.proofs.lemmas.List.{map-append}
use Rattle.shq_terms.specs.Concept.{Concept, top, bottom, name, intersection, union, some_of, all_of, at_least, part}
use Rattle.shq_terms.specs.Concept.{no_parts}
use Rattle.shq_terms.specs.declared.axioms.Axiom.{Axiom}
use Rattle.shq_terms.specs.declared.axioms.Axiom.TheVariants.{SubClassOf, SubRole}
use Rattle.shq_terms.specs.declared.axioms.Numbered.{Numbered}
use Rattle.ofn_tree.specs.Items.{Item, name_item, group_item, Items, no_items, item}
use Rattle.ofn_expressions.specs.Counts.{Counts}
use Rattle.ofn_expressions.specs.Names.{Prefix, prefix_iri, full_iri}
use Rattle.ofn_expressions.specs.Classes.{or_zero, class_named, role_named, role_of, cardinality_of, concept_of}
use Rattle.ofn_reader.specs.Axioms.{axiom_in, axioms_in, numbered_at}
use Rattle.text_laws.specs.WritingLaws.{axioms_of}
use Rattle.text_laws.proofs.Checks.{no_more, one_further}
use Rattle.text_laws.proofs.Phrases.{Phrase, item_of, lines_items}
use Rattle.text_laws.proofs.Keywords as keywords
use Rattle.workload.specs.WorkloadAxioms.{prefix_iri_of_workloads, full_name, workload_classes, workload_roles, role_s}
use Rattle.workload.specs.WorkloadAxioms.{role_r, class_a, class_b, class_c, class_d, kernel_axioms, group_axioms}
use Rattle.workload.specs.WorkloadAxioms.{workload_axioms}
use Rattle.workload.proofs.Names.{KernelPlaces, GroupPlaces, kernel_found, group_found}
use Rattle.workload.proofs.Lines.{both_phrase, kernel_phrases, group_phrases, workload_phrases}
use Rattle.workload.proofs.Tests.{no_thing, no_nothing, name_is, word_item, sub_item}

-- the name has this number
abbrev IsAt : List (List ℕ) → List ℕ → ℕ → Type 0
IsAt names local k = position (bytes_eq (full_name local)) names ≡ Some k

module _ (ps : List Prefix) (knows : prefix_iri ps [] ≡ Some prefix_iri_of_workloads) (s : Counts) (line : ℕ) where
  pub class_value : (local : List ℕ) (k : ℕ) → IsAt s.classes local k → concept_of ps s (word_item local line) ≡ name k
  class_value local k found =
      ap (λ r. class_named s (full_iri r local)) knows
      ∙ ap (class_named s) (name_is local)
      ∙ (λ i. cond (no_thing local i) top (cond (no_nothing local i) bottom (name (or_zero (found i)))))

  role_value : (local : List ℕ) (k : ℕ) → IsAt s.roles local k → role_of ps s (word_item local line) ≡ k
  role_value local k found =
      ap (λ r. role_named s (full_iri r local)) knows ∙ ap (role_named s) (name_is local) ∙ ap or_zero found

  -- the one axiom on the line
  abbrev says : Axiom → List Numbered
  says a = numbered_at line (a ∷ [])

  sub_value : (local : List ℕ) (k : ℕ) (second : Item) (c : Concept) → IsAt s.classes local k
      → concept_of ps s second ≡ c → axiom_in ps s (sub_item ps knows line local second) ≡ says (SubClassOf (name k) c)
  sub_value local k second c found value =
      let is : Items = item (word_item local line) (item second no_items) in
      let first : concept_of ps s (word_item local line) ≡ name k = class_value local k found in
      keywords.sub_class_value ps line is is refl s ∙ (λ i. says (SubClassOf (first i) (value i)))

  name_value : (u v : List ℕ) (j k : ℕ) → IsAt s.classes u j → IsAt s.classes v k
      → axiom_in ps s (sub_item ps knows line u (word_item v line)) ≡ says (SubClassOf (name j) (name k))
  name_value u v j k first second = sub_value u j (word_item v line) (name k) first (class_value v k second)

  both_value : (u v w : List ℕ) (j k l : ℕ) → IsAt s.classes u j → IsAt s.classes v k → IsAt s.classes w l
      → axiom_in ps s (sub_item ps knows line u (item_of line (both_phrase v w)))
      ≡ says (SubClassOf (name j) (intersection (part (name k) (part (name l) no_parts))))
  both_value u v w j k l first second third =
      let one : concept_of ps s (word_item v line) ≡ name k = class_value v k second in
      let other : concept_of ps s (word_item w line) ≡ name l = class_value w l third in
      sub_value u j (item_of line (both_phrase v w)) (intersection (part (name k) (part (name l) no_parts))) first
      (keywords.intersection_value ps line (item (word_item v line) (item (word_item w line) no_items)) s
      ∙ (λ i. intersection (part (one i) (part (other i) no_parts))))

  either_value : (u v w : List ℕ) (j k l : ℕ) → IsAt s.classes u j → IsAt s.classes v k → IsAt s.classes w l
      → axiom_in ps s
      (sub_item ps knows line u
      (group_item (Some (codes "ObjectUnionOf")) (item (word_item v line) (item (word_item w line) no_items)) line))
      ≡ says (SubClassOf (name j) (union (part (name k) (part (name l) no_parts))))
  either_value u v w j k l first second third =
      let is : Items = item (word_item v line) (item (word_item w line) no_items) in
      let one : concept_of ps s (word_item v line) ≡ name k = class_value v k second in
      let other : concept_of ps s (word_item w line) ≡ name l = class_value w l third in
      sub_value u j (group_item (Some (codes "ObjectUnionOf")) is line) (union (part (name k) (part (name l) no_parts)))
      first
      (keywords.union_value ps line is s ∙ (λ i. union (part (one i) (part (other i) no_parts))))

  some_value : (u r v : List ℕ) (j t k : ℕ) → IsAt s.classes u j → IsAt s.roles r t → IsAt s.classes v k
      → axiom_in ps s
      (sub_item ps knows line u
      (group_item (Some (codes "ObjectSomeValuesFrom")) (item (word_item r line) (item (word_item v line) no_items))
      line))
      ≡ says (SubClassOf (name j) (some_of t (name k)))
  some_value u r v j t k first role second =
      let role_is : role_of ps s (word_item r line) ≡ t = role_value r t role in
      let class_is : concept_of ps s (word_item v line) ≡ name k = class_value v k second in
      sub_value u j
      (group_item (Some (codes "ObjectSomeValuesFrom")) (item (word_item r line) (item (word_item v line) no_items))
      line)
      (some_of t (name k)) first
      (keywords.some_value ps line (word_item r line) (word_item v line) s ∙ (λ i. some_of (role_is i) (class_is i)))

  all_value : (u r v : List ℕ) (j t k : ℕ) → IsAt s.classes u j → IsAt s.roles r t → IsAt s.classes v k
      → axiom_in ps s
      (sub_item ps knows line u
      (group_item (Some (codes "ObjectAllValuesFrom")) (item (word_item r line) (item (word_item v line) no_items))
      line))
      ≡ says (SubClassOf (name j) (all_of t (name k)))
  all_value u r v j t k first role second =
      let role_is : role_of ps s (word_item r line) ≡ t = role_value r t role in
      let class_is : concept_of ps s (word_item v line) ≡ name k = class_value v k second in
      sub_value u j
      (group_item (Some (codes "ObjectAllValuesFrom")) (item (word_item r line) (item (word_item v line) no_items))
      line)
      (all_of t (name k)) first
      (keywords.all_value ps line (word_item r line) (word_item v line) s ∙ (λ i. all_of (role_is i) (class_is i)))

  two_value : (u r v : List ℕ) (j t k : ℕ) → IsAt s.classes u j → IsAt s.roles r t → IsAt s.classes v k
      → axiom_in ps s
      (sub_item ps knows line u
      (group_item (Some (codes "ObjectMinCardinality"))
      (item (name_item (codes "2") line) (item (word_item r line) (item (word_item v line) no_items))) line))
      ≡ says (SubClassOf (name j) (at_least 2 t (name k)))
  two_value u r v j t k first role second =
      let role_is : role_of ps s (word_item r line) ≡ t = role_value r t role in
      let class_is : concept_of ps s (word_item v line) ≡ name k = class_value v k second in
      let number_is : cardinality_of (name_item (codes "2") line) ≡ 2 = refl in
      sub_value u j
      (group_item (Some (codes "ObjectMinCardinality"))
      (item (name_item (codes "2") line) (item (word_item r line) (item (word_item v line) no_items))) line)
      (at_least 2 t (name k)) first
      (keywords.least_value ps line (name_item (codes "2") line) (word_item r line) (word_item v line) s
      ∙ (λ i. at_least (number_is i) (role_is i) (class_is i)))

  sub_role_value : (r t : List ℕ) (j k : ℕ) → IsAt s.roles r j → IsAt s.roles t k
      → axiom_in ps s
      (group_item (Some (codes "SubObjectPropertyOf")) (item (word_item r line) (item (word_item t line) no_items))
      line)
      ≡ says (SubRole j k)
  sub_role_value r t j k first second =
      let is : Items = item (word_item r line) (item (word_item t line) no_items) in
      let one : role_of ps s (word_item r line) ≡ j = role_value r j first in
      let other : role_of ps s (word_item t line) ≡ k = role_value t k second in
      keywords.sub_role_value ps line is is refl s ∙ (λ i. says (SubRole (one i) (other i)))

-- ---- lines one after another

module _ (ps : List Prefix) (s : Counts) where
  axioms_append : (n : ℕ) (xs ys : List Phrase)
      → axioms_in ps s (lines_items n (xs ++ ys))
      ≡ axioms_in ps s (lines_items n xs) ++ axioms_in ps s (lines_items (n + length xs) ys)
  axioms_append n [] ys = ap (λ m. axioms_in ps s (lines_items m ys)) (no_more n)
  axioms_append n (x ∷ xs) ys =
      let here : List Numbered = axiom_in ps s (item_of n x) in
      ap (λ ts. here ++ ts) (axioms_append (n + 1) xs ys)
      ∙ sym (append_assoc here (axioms_in ps s (lines_items (n + 1) xs))
      (axioms_in ps s (lines_items (n + 1 + length xs) ys)))
      ∙ ap (λ m. (here ++ axioms_in ps s (lines_items (n + 1) xs)) ++ axioms_in ps s (lines_items m ys))
      (one_further n (length xs))

-- ---- roles

s_is_first : IsAt workload_roles (codes "s") role_s
unfolding full_name
s_is_first = refl

r_is_second : IsAt workload_roles (codes "r") role_r
unfolding full_name
r_is_second = refl

-- ---- the kernel and groups

module _ (ps : List Prefix) (knows : prefix_iri ps [] ≡ Some prefix_iri_of_workloads) (x p e n : ℕ) where
  abbrev final : Counts
  final = record {
    axioms = x;
    parts = p;
    nodes = e;
    classes = workload_classes n;
    roles = workload_roles;
    individuals = [];
  }

  kernel_value : (line : ℕ) → axioms_of (axioms_in ps final (lines_items line kernel_phrases)) ≡ kernel_axioms
  kernel_value line =
      let at : KernelPlaces (workload_classes n) = kernel_found n in
      let v1 = name_value ps knows final line (codes "Q0") (codes "Q1") 0 1 at.q0 at.q1 in
      let v2 = both_value ps knows final (line + 1) (codes "Q0") (codes "Q1") (codes "P0") 0 1 2 at.q0 at.q1 at.p0 in
      let v3 = name_value ps knows final (line + 1 + 1) (codes "Q1") (codes "Q2") 1 3 at.q1 at.q2 in
      let v4 =
      both_value ps knows final (line + 1 + 1 + 1) (codes "Q1") (codes "Q2") (codes "P1") 1 3 4 at.q1 at.q2 at.p1 in
      let v5 = name_value ps knows final (line + 1 + 1 + 1 + 1) (codes "Q2") (codes "Q3") 3 5 at.q2 at.q3 in
      let v6 =
      both_value ps knows final (line + 1 + 1 + 1 + 1 + 1) (codes "Q2") (codes "Q3") (codes "P2") 3 5 6 at.q2 at.q3
      at.p2 in
      let v7 =
      sub_role_value ps knows final (line + 1 + 1 + 1 + 1 + 1 + 1) (codes "s") (codes "r") role_s role_r s_is_first
      r_is_second in
      λ i. axioms_of (v1 i ++ (v2 i ++ (v3 i ++ (v4 i ++ (v5 i ++ (v6 i ++ (v7 i ++ [])))))))

  group_value : (k line : ℕ) → k < n → n ≤ 4000
      → axioms_of (axioms_in ps final (lines_items line (group_phrases (k + 1)))) ≡ group_axioms (k + 1)
  group_value k line less few =
      let m : ℕ = k + 1 in
      let d : List ℕ = decimal (k + 1) in
      let at : GroupPlaces (k + 1) (workload_classes n) = group_found k n less few in
      let v1 =
      some_value ps knows final line (65 ∷ d) (codes "r") (66 ∷ d) (class_a m) role_r (class_b m) at.a r_is_second
      at.b in
      let v2 =
      two_value ps knows final (line + 1) (65 ∷ d) (codes "s") (66 ∷ d) (class_a m) role_s (class_b m) at.a s_is_first
      at.b in
      let v3 =
      all_value ps knows final (line + 1 + 1) (66 ∷ d) (codes "r") (67 ∷ d) (class_b m) role_r (class_c m) at.b
      r_is_second at.c in
      let v4 =
      either_value ps knows final (line + 1 + 1 + 1) (67 ∷ d) (65 ∷ d) (68 ∷ d) (class_c m) (class_a m) (class_d m) at.c
      at.a at.d in
      λ i. axioms_of (v1 i ++ (v2 i ++ (v3 i ++ (v4 i ++ []))))

  -- the axioms without their lines
  abbrev plain : Numbered → Axiom
  plain a = a.axiom

  pub workload_value : (line k : ℕ) → k ≤ n → n ≤ 4000
      → axioms_of (axioms_in ps final (lines_items line (workload_phrases k))) ≡ workload_axioms k
  workload_value line zero less few = kernel_value line
  workload_value line (suc k) less few =
      let front : List Numbered = axioms_in ps final (lines_items line (workload_phrases k)) in
      let last : List Numbered =
      axioms_in ps final (lines_items (line + length (workload_phrases k)) (group_phrases (k + 1))) in
      let front_is : axioms_of front ≡ workload_axioms k = workload_value line k (omega (arith, less)) few in
      let last_is : axioms_of last ≡ group_axioms (k + 1) =
      group_value k (line + length (workload_phrases k)) (omega (arith, less)) few in
      ap axioms_of (axioms_append ps final line (workload_phrases k) (group_phrases (k + 1)))
      ∙ map-append plain front last ∙ (λ i. front_is i ++ last_is i)
