-- Behind the lines of a workload its names are listed in order, and so many axioms, parts and expressions are counted.
use Rattle.std.proofs.Common.{◌≡◌, ℕ, zero, suc, ◌+◌, ◌*◌, ◌≤◌, true, List, [], ◌∷◌, ◌++◌, length, take, drop, Some, Ok}
use Rattle.std.proofs.Common.{refl, ap, sym, ◌∙◌, subst, arith, append_assoc, length-append, codes, decimal}
use Rattle.std.specs.Prelude.{nat_le}
use Rattle.shq_terms.specs.Names.{with_name}
use Rattle.ofn_tree.specs.Items.{Item, name_item, no_items, item}
use Rattle.ofn_expressions.specs.Counts.{Counts}
use Rattle.ofn_expressions.specs.Walk.{Test, walked}
use Rattle.ofn_expressions.specs.Names.{Prefix, prefix_iri}
use Rattle.ofn_expressions.proofs.Walks.{goes_on}
use Rattle.ofn_reader.specs.Axioms.{axiom_tests, axioms_tests}
use Rattle.ofn_reader.specs.Documents.{start}
use Rattle.text_laws.proofs.Checks.{le_true, no_more, one_further}
use Rattle.text_laws.proofs.Phrases.{Phrase, word, call, item_of, lines_items}
use Rattle.text_laws.proofs.Terms.{two, three}
use Rattle.text_laws.proofs.Keywords as keywords
use Rattle.workload.specs.WorkloadAxioms.{prefix_iri_of_workloads, full_name, kernel_classes, numbered_class}
use Rattle.workload.specs.WorkloadAxioms.{workload_classes, workload_roles}
use Rattle.workload.proofs.Names.{is_new, class_count, a_is_new, b_is_new, c_is_new, d_is_new, grows, stays}
use Rattle.workload.proofs.Lines.{local_word, sub_phrase, both_phrase, kernel_phrases, some_phrase, two_phrase}
use Rattle.workload.proofs.Lines.{all_phrase, either_phrase, group_phrases, workload_phrases}
use Rattle.workload.proofs.Tests.{state, Lists, ListsRole, word_item, valued_walk, bounded_walk, pair_walk, class_walk}
use Rattle.workload.proofs.Tests.{sub_item, sub_walk, sub_role_walk}

-- where the kernel and so many groups were read
abbrev pub behind_groups : ℕ → Counts
behind_groups k = state (4 * k + 7) (4 * k + 6) (13 * k + 18) (workload_classes k) workload_roles

-- ---- the lists of names in the kernel

abbrev kernel_front : ℕ → List (List ℕ)
kernel_front k = take k kernel_classes

lists_q0 : Lists [] (codes "Q0") (kernel_front 1)
unfolding full_name
lists_q0 = record { names = refl; room = refl }

lists_q1 : Lists (kernel_front 1) (codes "Q1") (kernel_front 2)
unfolding full_name
lists_q1 = record { names = refl; room = refl }

finds_q0 : Lists (kernel_front 2) (codes "Q0") (kernel_front 2)
unfolding full_name
finds_q0 = record { names = refl; room = refl }

finds_q1 : Lists (kernel_front 2) (codes "Q1") (kernel_front 2)
unfolding full_name
finds_q1 = record { names = refl; room = refl }

lists_p0 : Lists (kernel_front 2) (codes "P0") (kernel_front 3)
unfolding full_name
lists_p0 = record { names = refl; room = refl }

finds_q1_again : Lists (kernel_front 3) (codes "Q1") (kernel_front 3)
unfolding full_name
finds_q1_again = record { names = refl; room = refl }

lists_q2 : Lists (kernel_front 3) (codes "Q2") (kernel_front 4)
unfolding full_name
lists_q2 = record { names = refl; room = refl }

finds_q1_at_last : Lists (kernel_front 4) (codes "Q1") (kernel_front 4)
unfolding full_name
finds_q1_at_last = record { names = refl; room = refl }

finds_q2 : Lists (kernel_front 4) (codes "Q2") (kernel_front 4)
unfolding full_name
finds_q2 = record { names = refl; room = refl }

lists_p1 : Lists (kernel_front 4) (codes "P1") (kernel_front 5)
unfolding full_name
lists_p1 = record { names = refl; room = refl }

finds_q2_again : Lists (kernel_front 5) (codes "Q2") (kernel_front 5)
unfolding full_name
finds_q2_again = record { names = refl; room = refl }

lists_q3 : Lists (kernel_front 5) (codes "Q3") (kernel_front 6)
unfolding full_name
lists_q3 = record { names = refl; room = refl }

finds_q2_at_last : Lists (kernel_front 6) (codes "Q2") (kernel_front 6)
unfolding full_name
finds_q2_at_last = record { names = refl; room = refl }

finds_q3 : Lists (kernel_front 6) (codes "Q3") (kernel_front 6)
unfolding full_name
finds_q3 = record { names = refl; room = refl }

lists_p2 : Lists (kernel_front 6) (codes "P2") (kernel_front 7)
unfolding full_name
lists_p2 = record { names = refl; room = refl }

-- ---- roles

lists_s : ListsRole [] (codes "s") (full_name (codes "s") ∷ [])
unfolding full_name
lists_s = record { names = refl; room = refl }

lists_r : ListsRole (full_name (codes "s") ∷ []) (codes "r") workload_roles
unfolding full_name
lists_r = record { names = refl; room = refl }

finds_s : ListsRole workload_roles (codes "s") workload_roles
unfolding full_name
finds_s = record { names = refl; room = refl }

finds_r : ListsRole workload_roles (codes "r") workload_roles
unfolding full_name
finds_r = record { names = refl; room = refl }

-- ---- the lists of names in a group

module _ (k : ℕ) (few : k + 1 ≤ 4000) where
  abbrev digits : List ℕ
  digits = decimal (k + 1)

  abbrev before : List (List ℕ)
  before = workload_classes k

  abbrev a : List ℕ
  a = numbered_class (codes "A") (k + 1)

  abbrev b : List ℕ
  b = numbered_class (codes "B") (k + 1)

  abbrev c : List ℕ
  c = numbered_class (codes "C") (k + 1)

  abbrev d : List ℕ
  d = numbered_class (codes "D") (k + 1)

  room_for : (more : List (List ℕ)) → length more ≤ 4 → nat_le (length (before ++ more)) 20000 ≡ true
  room_for more short =
      le_true (length (before ++ more)) 20000 (omega (arith, length-append before more, class_count k, short, few))

  -- a new name behind those of the group
  goes_last : (w : List ℕ) (first : List (List ℕ)) → is_new w (before ++ first) ≡ true
      → with_name (before ++ first) w ≡ before ++ (first ++ w ∷ [])
  goes_last w first new = grows w (before ++ first) new ∙ append_assoc before first (w ∷ [])

  -- one that is among them
  stays_there : (w : List ℕ) (first others : List (List ℕ)) → is_new w (before ++ first) ≡ true
      → with_name (before ++ (first ++ w ∷ others)) w ≡ before ++ (first ++ w ∷ others)
  stays_there w first others new =
      subst (λ l. with_name l w ≡ l) (append_assoc before first (w ∷ others)) (stays w (before ++ first) others new)

  lists_a : Lists before (65 ∷ digits) (before ++ a ∷ [])
  lists_a = record { names = grows a before (a_is_new k few); room = room_for (a ∷ []) (omega arith) }

  lists_b : Lists (before ++ a ∷ []) (66 ∷ digits) (before ++ a ∷ b ∷ [])
  lists_b = record { names = goes_last b (a ∷ []) (b_is_new k few); room = room_for (a ∷ b ∷ []) (omega arith) }

  lists_c : Lists (before ++ a ∷ b ∷ []) (67 ∷ digits) (before ++ a ∷ b ∷ c ∷ [])
  lists_c = record { names = goes_last c (a ∷ b ∷ []) (c_is_new k few); room = room_for (a ∷ b ∷ c ∷ []) (omega arith) }

  lists_d : Lists (before ++ a ∷ b ∷ c ∷ []) (68 ∷ digits) (before ++ a ∷ b ∷ c ∷ d ∷ [])
  lists_d = record {
    names = goes_last d (a ∷ b ∷ c ∷ []) (d_is_new k few);
    room = room_for (a ∷ b ∷ c ∷ d ∷ []) (omega arith);
  }

  finds_a : Lists (before ++ a ∷ b ∷ []) (65 ∷ digits) (before ++ a ∷ b ∷ [])
  finds_a = record { names = stays a before (b ∷ []) (a_is_new k few); room = room_for (a ∷ b ∷ []) (omega arith) }

  finds_b : Lists (before ++ a ∷ b ∷ []) (66 ∷ digits) (before ++ a ∷ b ∷ [])
  finds_b = record { names = stays_there b (a ∷ []) [] (b_is_new k few); room = room_for (a ∷ b ∷ []) (omega arith) }

  finds_c : Lists (before ++ a ∷ b ∷ c ∷ []) (67 ∷ digits) (before ++ a ∷ b ∷ c ∷ [])
  finds_c =
      record { names = stays_there c (a ∷ b ∷ []) [] (c_is_new k few); room = room_for (a ∷ b ∷ c ∷ []) (omega arith) }

  finds_a_again : Lists (before ++ a ∷ b ∷ c ∷ []) (65 ∷ digits) (before ++ a ∷ b ∷ c ∷ [])
  finds_a_again =
      record { names = stays a before (b ∷ c ∷ []) (a_is_new k few); room = room_for (a ∷ b ∷ c ∷ []) (omega arith) }

-- ---- lines one after another

module _ (ps : List Prefix) where
  tests_append : (n : ℕ) (xs ys : List Phrase)
      → axioms_tests ps (lines_items n (xs ++ ys))
      ≡ axioms_tests ps (lines_items n xs) ++ axioms_tests ps (lines_items (n + length xs) ys)
  tests_append n [] ys = ap (λ m. axioms_tests ps (lines_items m ys)) (no_more n)
  tests_append n (x ∷ xs) ys =
      let here : List Test = axiom_tests ps (item_of n x) in
      ap (λ ts. here ++ ts) (tests_append (n + 1) xs ys)
      ∙ sym (append_assoc here (axioms_tests ps (lines_items (n + 1) xs))
      (axioms_tests ps (lines_items (n + 1 + length xs) ys)))
      ∙ ap (λ m. (here ++ axioms_tests ps (lines_items (n + 1) xs)) ++ axioms_tests ps (lines_items m ys))
      (one_further n (length xs))

  -- a line, and then the others
  line_walk : (s mid new : Counts) (n : ℕ) (p : Phrase) (more : List Phrase)
      → walked s (axiom_tests ps (item_of n p)) ≡ Ok mid
      → walked mid (axioms_tests ps (lines_items (n + 1) more)) ≡ Ok new
      → walked s (axioms_tests ps (lines_items n (p ∷ more))) ≡ Ok new
  line_walk s mid new n p more first others =
      goes_on s mid (axiom_tests ps (item_of n p)) (axioms_tests ps (lines_items (n + 1) more)) first ∙ others

module _ (ps : List Prefix) (knows : prefix_iri ps [] ≡ Some prefix_iri_of_workloads) where
  -- ---- the kernel

  -- a class in another
  name_line : (line x p n : ℕ) (cs rs : List (List ℕ)) (u v : List ℕ) (ds es : List (List ℕ)) → Lists cs u ds
      → Lists ds v es → x + 1 ≤ 20000 → p + 1 ≤ 500000 → n + 2 ≤ 262144
      → walked (state x p n cs rs) (axiom_tests ps (sub_item ps knows line u (word_item v line)))
      ≡ Ok (state (x + 1) (p + 1) (n + 1 + 1) es rs)
  name_line line x p n cs rs u v ds es first second few few_parts few_nodes =
      sub_walk ps knows line x p n (n + 1 + 1) cs rs u (word_item v line) ds es first
      (class_walk ps knows line (x + 1) (p + 1) (n + 1) ds rs v es second (omega (arith, few_nodes))) few few_parts
      (omega (arith, few_nodes))

  -- a class in two others
  both_line : (line x p n : ℕ) (cs rs : List (List ℕ)) (u v w : List ℕ) (ds es fs : List (List ℕ)) → Lists cs u ds
      → Lists ds v es → Lists es w fs → x + 1 ≤ 20000 → p + 1 ≤ 500000 → n + 4 ≤ 262144
      → walked (state x p n cs rs) (axiom_tests ps (sub_item ps knows line u (item_of line (both_phrase v w))))
      ≡ Ok (state (x + 1) (p + 1) (n + 1 + 1 + 1 + 1) fs rs)
  both_line line x p n cs rs u v w ds es fs first second third few few_parts few_nodes =
      let second_item : Item = item_of line (both_phrase v w) in
      sub_walk ps knows line x p n (n + 1 + 1 + 1 + 1) cs rs u second_item ds fs first
      (pair_walk ps knows line (x + 1) (p + 1) (n + 1) ds rs v w es fs _
      (keywords.intersection_tests ps line (item (word_item v line) (item (word_item w line) no_items))) second third
      (omega (arith, few_nodes)))
      few few_parts (omega (arith, few_nodes))

  kernel_walk : (line : ℕ) → walked start (axioms_tests ps (lines_items line kernel_phrases)) ≡ Ok (behind_groups 0)
  kernel_walk line =
      let end : Counts = behind_groups 0 in
      line_walk ps (state 0 0 0 [] []) (state 1 1 2 (kernel_front 2) []) end line
      (sub_phrase (codes "Q0") (local_word (codes "Q1"))) (drop 1 kernel_phrases)
      (name_line line 0 0 0 [] [] (codes "Q0") (codes "Q1") (kernel_front 1) (kernel_front 2) lists_q0 lists_q1
      (omega arith) (omega arith) (omega arith))
      (line_walk ps (state 1 1 2 (kernel_front 2) []) (state 2 2 6 (kernel_front 3) []) end (line + 1)
      (sub_phrase (codes "Q0") (both_phrase (codes "Q1") (codes "P0"))) (drop 2 kernel_phrases)
      (both_line (line + 1) 1 1 2 (kernel_front 2) [] (codes "Q0") (codes "Q1") (codes "P0") (kernel_front 2)
      (kernel_front 2) (kernel_front 3) finds_q0 finds_q1 lists_p0 (omega arith) (omega arith) (omega arith))
      (line_walk ps (state 2 2 6 (kernel_front 3) []) (state 3 3 8 (kernel_front 4) []) end (line + 1 + 1)
      (sub_phrase (codes "Q1") (local_word (codes "Q2"))) (drop 3 kernel_phrases)
      (name_line (line + 1 + 1) 2 2 6 (kernel_front 3) [] (codes "Q1") (codes "Q2") (kernel_front 3) (kernel_front 4)
      finds_q1_again lists_q2 (omega arith) (omega arith) (omega arith))
      (line_walk ps (state 3 3 8 (kernel_front 4) []) (state 4 4 12 (kernel_front 5) []) end (line + 1 + 1 + 1)
      (sub_phrase (codes "Q1") (both_phrase (codes "Q2") (codes "P1"))) (drop 4 kernel_phrases)
      (both_line (line + 1 + 1 + 1) 3 3 8 (kernel_front 4) [] (codes "Q1") (codes "Q2") (codes "P1") (kernel_front 4)
      (kernel_front 4) (kernel_front 5) finds_q1_at_last finds_q2 lists_p1 (omega arith) (omega arith) (omega arith))
      (line_walk ps (state 4 4 12 (kernel_front 5) []) (state 5 5 14 (kernel_front 6) []) end (line + 1 + 1 + 1 + 1)
      (sub_phrase (codes "Q2") (local_word (codes "Q3"))) (drop 5 kernel_phrases)
      (name_line (line + 1 + 1 + 1 + 1) 4 4 12 (kernel_front 5) [] (codes "Q2") (codes "Q3") (kernel_front 5)
      (kernel_front 6) finds_q2_again lists_q3 (omega arith) (omega arith) (omega arith))
      (line_walk ps (state 5 5 14 (kernel_front 6) []) (state 6 6 18 (kernel_front 7) []) end (line + 1 + 1 + 1 + 1 + 1)
      (sub_phrase (codes "Q2") (both_phrase (codes "Q3") (codes "P2"))) (drop 6 kernel_phrases)
      (both_line (line + 1 + 1 + 1 + 1 + 1) 5 5 14 (kernel_front 6) [] (codes "Q2") (codes "Q3") (codes "P2")
      (kernel_front 6) (kernel_front 6) (kernel_front 7) finds_q2_at_last finds_q3 lists_p2 (omega arith) (omega arith)
      (omega arith))
      (line_walk ps (state 6 6 18 (kernel_front 7) []) end end (line + 1 + 1 + 1 + 1 + 1 + 1)
      (call (codes "SubObjectPropertyOf") (two (local_word (codes "s")) (local_word (codes "r")))) []
      (sub_role_walk ps knows (line + 1 + 1 + 1 + 1 + 1 + 1) 6 6 18 (kernel_front 7) [] (codes "s") (codes "r")
      (full_name (codes "s") ∷ []) workload_roles lists_s lists_r (omega arith) (omega arith))
      refl))))))

  -- ---- a group

  module _ (k : ℕ) (few : k + 1 ≤ 4000) (line x p n : ℕ) (few_axioms : x + 1 ≤ 20000) (few_parts : p + 1 ≤ 500000)
      (few_nodes : n + 4 ≤ 262144) where
    abbrev after_a : List (List ℕ)
    after_a = before k few ++ a k few ∷ []

    abbrev after_b : List (List ℕ)
    after_b = before k few ++ a k few ∷ b k few ∷ []

    abbrev after_c : List (List ℕ)
    after_c = before k few ++ a k few ∷ b k few ∷ c k few ∷ []

    abbrev after_d : List (List ℕ)
    after_d = before k few ++ a k few ∷ b k few ∷ c k few ∷ d k few ∷ []

    abbrev few_here : n + 1 ≤ 262144
    few_here = omega (arith, few_nodes)

    abbrev few_inner : n + 1 + 2 ≤ 262144
    few_inner = omega (arith, few_nodes)

    some_line : walked (state x p n (before k few) workload_roles)
        (axiom_tests ps (item_of line (some_phrase (digits k few))))
        ≡ Ok (state (x + 1) (p + 1) (n + 1 + 1 + 1) after_b workload_roles)
    some_line =
        let role_item : Item = word_item (codes "r") line in
        let class_item : Item = word_item (66 ∷ digits k few) line in
        sub_walk ps knows line x p n (n + 1 + 1 + 1) (before k few) workload_roles (65 ∷ digits k few)
        (item_of line
        (call (codes "ObjectSomeValuesFrom") (two (local_word (codes "r")) (local_word (66 ∷ digits k few)))))
        after_a after_b (lists_a k few)
        (valued_walk ps knows line (x + 1) (p + 1) (n + 1) after_a workload_roles (codes "r") (66 ∷ digits k few)
        after_b _ (keywords.some_tests ps line role_item class_item) finds_r (lists_b k few) few_inner)
        few_axioms few_parts few_here

    two_line : walked (state x p n after_b workload_roles) (axiom_tests ps (item_of line (two_phrase (digits k few))))
        ≡ Ok (state (x + 1) (p + 1) (n + 1 + 1 + 1) after_b workload_roles)
    two_line =
        let role_item : Item = word_item (codes "s") line in
        let class_item : Item = word_item (66 ∷ digits k few) line in
        sub_walk ps knows line x p n (n + 1 + 1 + 1) after_b workload_roles (65 ∷ digits k few)
        (item_of line
        (call (codes "ObjectMinCardinality")
        (three (word (codes "2")) (local_word (codes "s")) (local_word (66 ∷ digits k few)))))
        after_b after_b (finds_a k few)
        (bounded_walk ps knows line (x + 1) (p + 1) (n + 1) after_b workload_roles (codes "s") (66 ∷ digits k few)
        after_b _ (keywords.least_tests ps line (name_item (codes "2") line) role_item class_item) finds_s
        (finds_b k few) few_inner)
        few_axioms few_parts few_here

    all_line : walked (state x p n after_b workload_roles) (axiom_tests ps (item_of line (all_phrase (digits k few))))
        ≡ Ok (state (x + 1) (p + 1) (n + 1 + 1 + 1) after_c workload_roles)
    all_line =
        let role_item : Item = word_item (codes "r") line in
        let class_item : Item = word_item (67 ∷ digits k few) line in
        sub_walk ps knows line x p n (n + 1 + 1 + 1) after_b workload_roles (66 ∷ digits k few)
        (item_of line
        (call (codes "ObjectAllValuesFrom") (two (local_word (codes "r")) (local_word (67 ∷ digits k few)))))
        after_b after_c (finds_b k few)
        (valued_walk ps knows line (x + 1) (p + 1) (n + 1) after_b workload_roles (codes "r") (67 ∷ digits k few)
        after_c _ (keywords.all_tests ps line role_item class_item) finds_r (lists_c k few) few_inner)
        few_axioms few_parts few_here

    either_line : walked (state x p n after_c workload_roles)
        (axiom_tests ps (item_of line (either_phrase (digits k few))))
        ≡ Ok (state (x + 1) (p + 1) (n + 1 + 1 + 1 + 1) after_d workload_roles)
    either_line =
        let first_item : Item = word_item (65 ∷ digits k few) line in
        let second_item : Item = word_item (68 ∷ digits k few) line in
        sub_walk ps knows line x p n (n + 1 + 1 + 1 + 1) after_c workload_roles (67 ∷ digits k few)
        (item_of line
        (call (codes "ObjectUnionOf") (two (local_word (65 ∷ digits k few)) (local_word (68 ∷ digits k few)))))
        after_c after_d (finds_c k few)
        (pair_walk ps knows line (x + 1) (p + 1) (n + 1) after_c workload_roles (65 ∷ digits k few) (68 ∷ digits k few)
        after_c after_d _ (keywords.union_tests ps line (item first_item (item second_item no_items)))
        (finds_a_again k few) (lists_d k few) (omega (arith, few_nodes)))
        few_axioms few_parts few_here

  group_walk : (k line : ℕ) → k + 1 ≤ 4000
      → walked (behind_groups k) (axioms_tests ps (lines_items line (group_phrases (k + 1))))
      ≡ Ok (behind_groups (suc k))
  group_walk k line few =
      let dd : List ℕ = decimal (k + 1) in
      let w : List (List ℕ) = before k few in
      let w2 : List (List ℕ) = w ++ a k few ∷ b k few ∷ [] in
      let w3 : List (List ℕ) = w ++ a k few ∷ b k few ∷ c k few ∷ [] in
      let w4 : List (List ℕ) = w ++ a k few ∷ b k few ∷ c k few ∷ d k few ∷ [] in
      let x : ℕ = 4 * k + 7 in
      let p : ℕ = 4 * k + 6 in
      let n : ℕ = 13 * k + 18 in
      let n1 : ℕ = n + 1 + 1 + 1 in
      let n2 : ℕ = n1 + 1 + 1 + 1 in
      let n3 : ℕ = n2 + 1 + 1 + 1 in
      let s1 : Counts = state (x + 1) (p + 1) n1 w2 workload_roles in
      let s2 : Counts = state (x + 1 + 1) (p + 1 + 1) n2 w2 workload_roles in
      let s3 : Counts = state (x + 1 + 1 + 1) (p + 1 + 1 + 1) n3 w3 workload_roles in
      let s4 : Counts = state (x + 1 + 1 + 1 + 1) (p + 1 + 1 + 1 + 1) (n3 + 1 + 1 + 1 + 1) w4 workload_roles in
      let x_is : x + 1 + 1 + 1 + 1 ≡ 4 * suc k + 7 = omega arith in
      let p_is : p + 1 + 1 + 1 + 1 ≡ 4 * suc k + 6 = omega arith in
      let n_is : n3 + 1 + 1 + 1 + 1 ≡ 13 * suc k + 18 = omega arith in
      line_walk ps (behind_groups k) s1 s4 line (some_phrase dd) (two_phrase dd ∷ all_phrase dd ∷ either_phrase dd ∷ [])
      (some_line k few line x p n (omega (arith, few)) (omega (arith, few)) (omega (arith, few)))
      (line_walk ps s1 s2 s4 (line + 1) (two_phrase dd) (all_phrase dd ∷ either_phrase dd ∷ [])
      (two_line k few (line + 1) (x + 1) (p + 1) n1 (omega (arith, few)) (omega (arith, few)) (omega (arith, few)))
      (line_walk ps s2 s3 s4 (line + 1 + 1) (all_phrase dd) (either_phrase dd ∷ [])
      (all_line k few (line + 1 + 1) (x + 1 + 1) (p + 1 + 1) n2 (omega (arith, few)) (omega (arith, few))
      (omega (arith, few)))
      (line_walk ps s3 s4 s4 (line + 1 + 1 + 1) (either_phrase dd) []
      (either_line k few (line + 1 + 1 + 1) (x + 1 + 1 + 1) (p + 1 + 1 + 1) n3 (omega (arith, few)) (omega (arith, few))
      (omega (arith, few)))
      refl)))
      ∙ (λ i. Ok (state (x_is i) (p_is i) (n_is i) (workload_classes (suc k)) workload_roles))

  -- ---- all lines

  pub workload_walk : (line n : ℕ) → n ≤ 4000
      → walked start (axioms_tests ps (lines_items line (workload_phrases n))) ≡ Ok (behind_groups n)
  workload_walk line zero few = kernel_walk line
  workload_walk line (suc n) few =
      ap (walked start) (tests_append ps line (workload_phrases n) (group_phrases (n + 1)))
      ∙ goes_on start (behind_groups n) (axioms_tests ps (lines_items line (workload_phrases n)))
      (axioms_tests ps (lines_items (line + length (workload_phrases n)) (group_phrases (n + 1))))
      (workload_walk line n (omega (arith, few)))
      ∙ group_walk n (line + length (workload_phrases n)) (omega (arith, few))
