-- Class expressions and queries are read from their texts.
use Rattle.std.proofs.Common.{◌≡◌, ℕ, ◌+◌, ◌≤◌, ◌^◌, max, Bool, true, List, [], ◌∷◌, ◌++◌, length, Ok, refl, ap, sym}
use Rattle.std.proofs.Common.{◌∙◌, subst, arith, append-nil}
use Rattle.std.specs.Prelude.{nat_eq, nat_lt}
use Rattle.std.proofs.lemmas.Bool.{and_parts, and_from}
use Rattle.shq_terms.specs.declared.axioms.On.{On}
use Rattle.shq_terms.specs.declared.axioms.On.TheVariants.{Any, Individual}
use Rattle.shq_terms.specs.Concept.{Concept, top, bottom, name, complement, intersection, union, some_of, all_of}
use Rattle.shq_terms.specs.Concept.{at_least, at_most, exactly}
use Rattle.shq_terms.specs.Listed.{Listed}
use Rattle.shq_terms.specs.Uses.{uses_listed}
use Rattle.shq_terms.specs.declared.axioms.Axiom.TheVariants.{SubClassOf, Member}
use Rattle.ontology_limits.specs.Counted.{counted_roles}
use Rattle.ontology_limits.specs.Simple.{are_simple, all_role_axioms}
use Rattle.ontology_limits.specs.Counts.{has_counts_within}
use Rattle.ontology_limits.specs.Limits.{has_enough_parts, IsInLimit}
use Rattle.ofn_tree.specs.Lexemes.{end_line}
use Rattle.ofn_tree.specs.Items.{Item, Items, no_items, item}
use Rattle.ofn_expressions.specs.Counts.{Counts}
use Rattle.ofn_expressions.specs.Walk.{Test, shape, simple, after_all, walked}
use Rattle.ofn_expressions.specs.Names.{Prefix, item_line}
use Rattle.ofn_expressions.specs.Classes.{item_count, joined, class_tests, each_class, concept_of}
use Rattle.ofn_expressions.specs.Individuals.{individual_tests}
use Rattle.ofn_expressions.proofs.Walks.{goes_on}
use Rattle.ofn_reader.specs.Keywords.{axiom_keyword}
use Rattle.ofn_reader.specs.Axioms.{class_and_individual_tests}
use Rattle.ofn_reader.specs.Queries.{axiom_query_tests, class_form_tests, query_form_tests, first_query}
use Rattle.ofn_reader.specs.Queries.{counted_by_first, class_query_tests, query_tests, query_in, pair_in, member_in}
use Rattle.ofn_reader.specs.Queries.{roles_test, query_start, IsClass, IsQuery}
use Rattle.ofn_writer.specs.Canonical.{axiom_text}
use Rattle.ofn_reader.specs.Held.{expressions, axiom_expressions}
use Rattle.text_laws.specs.Writable.{brackets, axiom_brackets, CanBeWritten}
use Rattle.text_laws.specs.WritingLaws.{KnowsOwl, axiom_on, HasAxiomOn, ClassTextsAreRead, QueryTextsAreRead}
use Rattle.text_laws.proofs.Whole.{is_whole, whole_is}
use Rattle.text_laws.proofs.Phrases.{Phrase, text_of, item_of}
use Rattle.text_laws.proofs.Terms.{individual_phrase, concept_phrase, axiom_phrase, concept_written, axiom_written}
use Rattle.text_laws.proofs.Terms.{concept_nests, axiom_nests, concept_stands, axiom_stands}
use Rattle.text_laws.proofs.Walks.{step, alone, individual_walk, concept_walk}
use Rattle.text_laws.proofs.Checks.{true_lt}
use Rattle.text_laws.proofs.Axioms.{plain_first, individual_value, concept_value}
use Rattle.text_laws.proofs.Counting.{walked_after}
use Rattle.text_laws.proofs.Alone.{IsAlone, phrase_items}
use Rattle.text_laws.proofs.Read.{spelled, known}

concept_alone : (o : Listed) (c : Concept) → IsAlone (concept_phrase o c)
concept_alone o top = record { no_mark = refl; no_document = refl }
concept_alone o bottom = record { no_mark = refl; no_document = refl }
concept_alone o (name a) = record { no_mark = refl; no_document = refl }
concept_alone o (complement c) = record { no_mark = refl; no_document = refl }
concept_alone o (intersection cs) = record { no_mark = refl; no_document = refl }
concept_alone o (union cs) = record { no_mark = refl; no_document = refl }
concept_alone o (some_of r c) = record { no_mark = refl; no_document = refl }
concept_alone o (all_of r c) = record { no_mark = refl; no_document = refl }
concept_alone o (at_least n r c) = record { no_mark = refl; no_document = refl }
concept_alone o (at_most n r c) = record { no_mark = refl; no_document = refl }
concept_alone o (exactly n r c) = record { no_mark = refl; no_document = refl }

query_alone : (o : Listed) (c d : Concept) → IsAlone (axiom_phrase o (SubClassOf c d))
query_alone o c d = record { no_mark = refl; no_document = refl }

member_alone : (o : Listed) (c : Concept) (a : ℕ) → IsAlone (axiom_phrase o (Member c a))
member_alone o c a = record { no_mark = refl; no_document = refl }

-- the tests for simple roles come last
roles_last : (o : Listed) (s t : Counts) (form : List Test) (line : ℕ) (roles : List ℕ) → walked s form ≡ Ok t
    → are_simple (all_role_axioms o.axioms) roles ≡ true → walked s (form ++ roles_test o.axioms line roles) ≡ Ok t
roles_last o s t form line roles holds simple_are =
    goes_on s t form (roles_test o.axioms line roles) holds
    ∙ step t (simple line (are_simple (all_role_axioms o.axioms) roles)) [] simple_are

module _ (o : Listed) (ps : List Prefix) (can : CanBeWritten o) (knows : KnowsOwl ps) where
  abbrev is_listed : Concept → Bool
  is_listed c = uses_listed (length o.classes) (length o.roles) c

  whole : (c : Concept) → has_enough_parts c ≡ true → has_counts_within 100 c ≡ true → is_whole c ≡ true
  whole c enough counts = whole_is c ∙ and_from (has_enough_parts c) (has_counts_within 100 c) enough counts

  abbrev concept_item : Concept → Item
  concept_item c = item_of 1 (concept_phrase o c)

  walks : (nodes : ℕ) (c : Concept) → is_listed c ≡ true → is_whole c ≡ true → nodes + expressions c ≤ 262144
      → walked (query_start o nodes) (class_tests ps (concept_item c)) ≡ Ok (query_start o (nodes + expressions c))
  walks nodes c listed good few = concept_walk ps knows o (known o can) (length o.axioms) 0 nodes 1 c listed good few

  value : (nodes : ℕ) (c : Concept) → is_listed c ≡ true → is_whole c ≡ true
      → concept_of ps (query_start o nodes) (concept_item c) ≡ c
  value nodes c listed good = concept_value ps knows o (known o can) (length o.axioms) 0 nodes 1 c listed good

  -- ---- a class expression

  class_holds : (nodes : ℕ) (c : Concept) (last : ℕ) → is_listed c ≡ true → is_whole c ≡ true
      → nodes + expressions c ≤ 262144 → are_simple (all_role_axioms o.axioms) (counted_roles c) ≡ true
      → walked (query_start o nodes) (class_query_tests ps o.axioms (query_start o nodes) last (concept_item c ∷ []))
      ≡ Ok (query_start o (nodes + expressions c))
  class_holds nodes c last listed good few simple_are =
      let s : Counts = query_start o nodes in
      let t : Counts = query_start o (nodes + expressions c) in
      let form : List Test = class_form_tests ps last (concept_item c ∷ []) in
      let holds : walked s form ≡ Ok t = alone s t (class_tests ps (concept_item c)) (walks nodes c listed good few) in
      let roles_are : counted_roles (concept_of ps (after_all s form) (concept_item c)) ≡ counted_roles c =
      ap (λ (u : Counts). counted_roles (concept_of ps u (concept_item c))) (walked_after s form t holds)
      ∙ ap counted_roles (value (nodes + expressions c) c listed good) in
      roles_last o s t form (item_line (concept_item c))
      (counted_roles (concept_of ps (after_all s form) (concept_item c))) holds
      (ap (are_simple (all_role_axioms o.axioms)) roles_are ∙ simple_are)

  class_is_read : (nodes : ℕ) (c : Concept) → is_listed c ≡ true → is_whole c ≡ true → nodes + expressions c ≤ 262144
      → are_simple (all_role_axioms o.axioms) (counted_roles c) ≡ true
      → IsAlone (concept_phrase o c) → length (text_of (concept_phrase o c)) ≤ 2 ^ 24 → brackets c ≤ 64
      → IsClass ps o.axioms (query_start o nodes) (text_of (concept_phrase o c)) (query_start o (nodes + expressions c))
      c
  class_is_read nodes c listed good few simple_are single short deep = record {
    short = short;
    items = concept_item c ∷ [];
    end = length (text_of (concept_phrase o c));
    made = phrase_items (concept_phrase o c) (concept_stands o (spelled o can) c listed good) single
        (omega (arith, concept_nests o 1 c, deep));
    holds = class_holds nodes c (end_line (text_of (concept_phrase o c))) listed good few simple_are;
    class = ap (λ e. e ∷ []) (value (nodes + expressions c) c listed good);
  }

  -- ---- a query

  abbrev query_items : Concept → Concept → Items
  query_items c d = item (concept_item c) (item (concept_item d) no_items)

  abbrev query_item : Concept → Concept → Item
  query_item c d = item_of 1 (axiom_phrase o (SubClassOf c d))

  tests_are : (c d : Concept)
      → axiom_query_tests ps (query_item c d)
      ≡ shape 1 true ∷ (class_tests ps (concept_item c) ++ (class_tests ps (concept_item d) ++ []))
  unfolding axiom_keyword
  tests_are c d =
      ap (λ is. shape 1 (nat_eq (item_count is) 2) ∷ joined (each_class ps is))
      (plain_first o 1 c (item (concept_item d) no_items))

  query_walks : (nodes : ℕ) (c d : Concept) → is_listed c ≡ true → is_listed d ≡ true → is_whole c ≡ true
      → is_whole d ≡ true → nodes + (expressions c + expressions d) ≤ 262144
      → walked (query_start o nodes) (axiom_query_tests ps (query_item c d))
      ≡ Ok (query_start o (nodes + (expressions c + expressions d)))
  query_walks nodes c d c_listed d_listed c_good d_good few =
      let s : Counts = query_start o nodes in
      let mid : Counts = query_start o (nodes + expressions c) in
      let ts : List Test = class_tests ps (concept_item c) in
      let us : List Test = class_tests ps (concept_item d) in
      let sum : nodes + expressions c + expressions d ≡ nodes + (expressions c + expressions d) = omega arith in
      ap (walked s) (tests_are c d)
      ∙ step s (shape 1 true) (ts ++ (us ++ [])) refl
      ∙ goes_on s mid ts (us ++ []) (walks nodes c c_listed c_good (omega (arith, few)))
      ∙ alone mid (query_start o (nodes + expressions c + expressions d)) us
      (walks (nodes + expressions c) d d_listed d_good (omega (arith, few)))
      ∙ ap (λ n. Ok (query_start o n)) sum

  query_value : (nodes : ℕ) (c d : Concept) → is_listed c ≡ true → is_listed d ≡ true → is_whole c ≡ true
      → is_whole d ≡ true
      → query_in ps (query_start o nodes) (query_item c d) ≡ record { sub = c; sup = d; on = Any } ∷ []
  unfolding axiom_keyword
  query_value nodes c d c_listed d_listed c_good d_good =
      let first = value nodes c c_listed c_good in
      let second = value nodes d d_listed d_good in
      ap (pair_in ps (query_start o nodes)) (plain_first o 1 c (item (concept_item d) no_items))
      ∙ (λ i. record { sub = first i; sup = second i; on = Any } ∷ [])

  query_holds : (nodes : ℕ) (c d : Concept) (last : ℕ) → is_listed c ≡ true → is_listed d ≡ true → is_whole c ≡ true
      → is_whole d ≡ true → nodes + (expressions c + expressions d) ≤ 262144
      → are_simple (all_role_axioms o.axioms) (counted_roles c ++ counted_roles d) ≡ true
      → walked (query_start o nodes) (query_tests ps o.axioms (query_start o nodes) last (query_item c d ∷ []))
      ≡ Ok (query_start o (nodes + (expressions c + expressions d)))
  query_holds nodes c d last c_listed d_listed c_good d_good few simple_are =
      let s : Counts = query_start o nodes in
      let n : ℕ = nodes + (expressions c + expressions d) in
      let t : Counts = query_start o n in
      let form : List Test = query_form_tests ps last (query_item c d ∷ []) in
      let holds : walked s form ≡ Ok t =
      alone s t (axiom_query_tests ps (query_item c d)) (query_walks nodes c d c_listed d_listed c_good d_good few) in
      let roles_are : counted_by_first (first_query ps (after_all s form) (query_item c d ∷ []))
      ≡ counted_roles c ++ counted_roles d =
      ap (λ (u : Counts). counted_by_first (first_query ps u (query_item c d ∷ []))) (walked_after s form t holds)
      ∙ ap counted_by_first (query_value n c d c_listed d_listed c_good d_good) in
      roles_last o s t form 1 (counted_by_first (first_query ps (after_all s form) (query_item c d ∷ []))) holds
      (ap (are_simple (all_role_axioms o.axioms)) roles_are ∙ simple_are)

  query_is_read : (nodes : ℕ) (c d : Concept) → is_listed c ≡ true → is_listed d ≡ true → is_whole c ≡ true
      → is_whole d ≡ true → nodes + (expressions c + expressions d) ≤ 262144
      → are_simple (all_role_axioms o.axioms) (counted_roles c ++ counted_roles d) ≡ true
      → length (text_of (axiom_phrase o (SubClassOf c d))) ≤ 2 ^ 24 → max (brackets c) (brackets d) + 1 ≤ 64
      → IsQuery ps o.axioms (query_start o nodes) (text_of (axiom_phrase o (SubClassOf c d)))
      (query_start o (nodes + (expressions c + expressions d))) (record { sub = c; sup = d; on = Any })
  query_is_read nodes c d c_listed d_listed c_good d_good few simple_are short deep =
      let p : Phrase = axiom_phrase o (SubClassOf c d) in
      let both_listed = and_from (is_listed c) (is_listed d) c_listed d_listed in
      let both_good = and_from (is_whole c) (is_whole d) c_good d_good in
      record {
        short = short;
        items = query_item c d ∷ [];
        end = length (text_of (axiom_phrase o (SubClassOf c d)));
        made =
            phrase_items (axiom_phrase o (SubClassOf c d))
            (axiom_stands o (spelled o can) (SubClassOf c d) both_listed both_good) (query_alone o c d)
            (omega (arith, axiom_nests o 1 (SubClassOf c d) both_good, deep));
        holds =
            query_holds nodes c d (end_line (text_of (axiom_phrase o (SubClassOf c d)))) c_listed d_listed c_good d_good
            few simple_are;
        pair = query_value (nodes + (expressions c + expressions d)) c d c_listed d_listed c_good d_good;
      }

  -- ---- a query on an individual

  abbrev is_individual : ℕ → Bool
  is_individual a = nat_lt a (length o.individuals)

  abbrev individual_item : ℕ → Item
  individual_item a = item_of 1 (individual_phrase o a)

  abbrev member_item : Concept → ℕ → Item
  member_item c a = item_of 1 (axiom_phrase o (Member c a))

  member_tests_are : (c : Concept) (a : ℕ)
      → axiom_query_tests ps (member_item c a)
      ≡ shape 1 true ∷ (class_tests ps (concept_item c) ++ (individual_tests ps (individual_item a) ++ []))
  unfolding axiom_keyword
  member_tests_are c a =
      ap (λ is. shape 1 (nat_eq (item_count is) 2) ∷ class_and_individual_tests ps is)
      (plain_first o 1 c (item (individual_item a) no_items))

  member_walks : (nodes : ℕ) (c : Concept) (a : ℕ) → is_listed c ≡ true → is_individual a ≡ true → is_whole c ≡ true
      → nodes + expressions c ≤ 262144
      → walked (query_start o nodes) (axiom_query_tests ps (member_item c a))
      ≡ Ok (query_start o (nodes + expressions c))
  member_walks nodes c a listed at good few =
      let s : Counts = query_start o nodes in
      let t : Counts = query_start o (nodes + expressions c) in
      let ts : List Test = class_tests ps (concept_item c) in
      let us : List Test = individual_tests ps (individual_item a) in
      ap (walked s) (member_tests_are c a)
      ∙ step s (shape 1 true) (ts ++ (us ++ [])) refl
      ∙ goes_on s t ts (us ++ []) (walks nodes c listed good few)
      ∙ alone t t us
      (individual_walk ps knows o (known o can) (length o.axioms) 0 (nodes + expressions c) 1 a
      (true_lt a (length o.individuals) at))

  member_value : (nodes : ℕ) (c : Concept) (a : ℕ) → is_listed c ≡ true → is_individual a ≡ true → is_whole c ≡ true
      → query_in ps (query_start o nodes) (member_item c a) ≡ record { sub = top; sup = c; on = Individual a } ∷ []
  unfolding axiom_keyword
  member_value nodes c a listed at good =
      let first = value nodes c listed good in
      let second = individual_value ps knows o (known o can) (length o.axioms) 0 nodes 1 a at in
      ap (member_in ps (query_start o nodes)) (plain_first o 1 c (item (individual_item a) no_items))
      ∙ (λ i. record { sub = top; sup = first i; on = Individual (second i) } ∷ [])

  member_holds : (nodes : ℕ) (c : Concept) (a last : ℕ) → is_listed c ≡ true → is_individual a ≡ true
      → is_whole c ≡ true → nodes + expressions c ≤ 262144
      → are_simple (all_role_axioms o.axioms) (counted_roles c) ≡ true
      → walked (query_start o nodes) (query_tests ps o.axioms (query_start o nodes) last (member_item c a ∷ []))
      ≡ Ok (query_start o (nodes + expressions c))
  member_holds nodes c a last listed at good few simple_are =
      let s : Counts = query_start o nodes in
      let n : ℕ = nodes + expressions c in
      let t : Counts = query_start o n in
      let form : List Test = query_form_tests ps last (member_item c a ∷ []) in
      let holds : walked s form ≡ Ok t =
      alone s t (axiom_query_tests ps (member_item c a)) (member_walks nodes c a listed at good few) in
      let roles_are : counted_by_first (first_query ps (after_all s form) (member_item c a ∷ [])) ≡ counted_roles c =
      ap (λ (u : Counts). counted_by_first (first_query ps u (member_item c a ∷ []))) (walked_after s form t holds)
      ∙ ap counted_by_first (member_value n c a listed at good) in
      roles_last o s t form 1 (counted_by_first (first_query ps (after_all s form) (member_item c a ∷ []))) holds
      (ap (are_simple (all_role_axioms o.axioms)) roles_are ∙ simple_are)

  member_is_read : (nodes : ℕ) (c : Concept) (a : ℕ) → is_listed c ≡ true → is_individual a ≡ true → is_whole c ≡ true
      → nodes + expressions c ≤ 262144 → are_simple (all_role_axioms o.axioms) (counted_roles c) ≡ true
      → length (text_of (axiom_phrase o (Member c a))) ≤ 2 ^ 24 → brackets c + 1 ≤ 64
      → IsQuery ps o.axioms (query_start o nodes) (text_of (axiom_phrase o (Member c a)))
      (query_start o (nodes + expressions c)) (record { sub = top; sup = c; on = Individual a })
  member_is_read nodes c a listed at good few simple_are short deep = record {
    short = short;
    items = member_item c a ∷ [];
    end = length (text_of (axiom_phrase o (Member c a)));
    made =
        phrase_items (axiom_phrase o (Member c a))
        (axiom_stands o (spelled o can) (Member c a) (and_from (is_listed c) (is_individual a) listed at) good)
        (member_alone o c a) (omega (arith, axiom_nests o 1 (Member c a) good, deep));
    holds = member_holds nodes c a (end_line (text_of (axiom_phrase o (Member c a)))) listed at good few simple_are;
    pair = member_value (nodes + expressions c) c a listed at good;
  }

pub class_texts_read : ClassTextsAreRead
class_texts_read o c ps nodes can limit knows short deep few =
    let listed = and_parts (uses_listed (length o.classes) (length o.roles) c) true limit.listed in
    let items = and_parts (has_enough_parts c) true limit.items in
    let counts = and_parts (has_counts_within 100 c) true limit.counts in
    let simple_are : are_simple (all_role_axioms o.axioms) (counted_roles c) ≡ true =
    ap (are_simple (all_role_axioms o.axioms)) (sym (append-nil (counted_roles c))) ∙ limit.simple in
    let written = concept_written o c in
    subst (λ (t : List ℕ). IsClass ps o.axioms (query_start o nodes) t (query_start o (nodes + expressions c)) c)
    written
    (class_is_read o ps can knows nodes c listed.0 (whole o ps can knows c items.0 counts.0) few simple_are
    (concept_alone o c) (subst (λ (t : List ℕ). length t ≤ 2 ^ 24) (sym written) short) deep)

module _ (o : Listed) (ps : List Prefix) (nodes : ℕ) (can : CanBeWritten o) (knows : KnowsOwl ps) where
  texts_read : (c d : Concept) (on : On) → IsInLimit o (record { sub = c; sup = d; on = on }) → HasAxiomOn on c
      → length (axiom_text o (axiom_on on c d)) ≤ 2 ^ 24 → axiom_brackets (axiom_on on c d) ≤ 64
      → nodes + axiom_expressions (axiom_on on c d) ≤ 262144
      → IsQuery ps o.axioms (query_start o nodes) (axiom_text o (axiom_on on c d))
      (query_start o (nodes + axiom_expressions (axiom_on on c d))) (record { sub = c; sup = d; on = on })
  texts_read c d Any limit asks short deep few =
      let listed =
      and_parts (uses_listed (length o.classes) (length o.roles) c) (uses_listed (length o.classes) (length o.roles) d)
      limit.listed in
      let items = and_parts (has_enough_parts c) (has_enough_parts d) limit.items in
      let counts = and_parts (has_counts_within 100 c) (has_counts_within 100 d) limit.counts in
      let written = axiom_written o (SubClassOf c d) in
      subst (λ (t : List ℕ). IsQuery ps o.axioms (query_start o nodes) t
      (query_start o (nodes + (expressions c + expressions d))) (record { sub = c; sup = d; on = Any }))
      written
      (query_is_read o ps can knows nodes c d listed.0 listed.1 (whole o ps can knows c items.0 counts.0)
      (whole o ps can knows d items.1 counts.1) few limit.simple
      (subst (λ (t : List ℕ). length t ≤ 2 ^ 24) (sym written) short) deep)
  texts_read c d (Individual a) limit asks short deep few =
      let listed =
      and_parts (uses_listed (length o.classes) (length o.roles) c) (uses_listed (length o.classes) (length o.roles) d)
      limit.listed in
      let items = and_parts (has_enough_parts c) (has_enough_parts d) limit.items in
      let counts = and_parts (has_counts_within 100 c) (has_counts_within 100 d) limit.counts in
      let simple_are : are_simple (all_role_axioms o.axioms) (counted_roles d) ≡ true =
      ap (λ (e : Concept). are_simple (all_role_axioms o.axioms) (counted_roles e ++ counted_roles d)) (sym asks)
      ∙ limit.simple in
      let written = axiom_written o (Member d a) in
      subst (λ (e : Concept). IsQuery ps o.axioms (query_start o nodes) (axiom_text o (Member d a))
      (query_start o (nodes + expressions d)) (record { sub = e; sup = d; on = Individual a }))
      (sym asks)
      (subst (λ (t : List ℕ). IsQuery ps o.axioms (query_start o nodes) t (query_start o (nodes + expressions d))
      (record { sub = top; sup = d; on = Individual a }))
      written
      (member_is_read o ps can knows nodes d a listed.1 limit.on_listed (whole o ps can knows d items.1 counts.1) few
      simple_are
      (subst (λ (t : List ℕ). length t ≤ 2 ^ 24) (sym written) short) deep))

pub query_texts_read : QueryTextsAreRead
query_texts_read o q ps nodes can limit asks knows short deep few =
    texts_read o ps nodes can knows q.sub q.sup q.on limit asks short deep few
