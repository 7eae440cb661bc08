-- Documents, and queries on them, are within the limits.
use Rattle.std.proofs.Common.{◌≡◌, ℕ, ◌≤◌, Bool, true, not, ◌&&◌, List, [], ◌∷◌, ◌++◌, length, take, Ok, refl, ap, sym}
use Rattle.std.proofs.Common.{◌∙◌, subst, append-nil, arith}
use Rattle.std.proofs.lemmas.List.{take_all}
use Rattle.std.proofs.lemmas.Bool.{and_parts}
use Rattle.std.proofs.lemmas.Grind.{common_steps}
use Rattle.std.specs.List.{list_all}
use Rattle.std.specs.Prelude.{is_none}
use Rattle.std.specs.Str.{is_utf8}
use Rattle.ofn_expressions.specs.Constructs.{excluded_role_name}
use Rattle.ofn_expressions.specs.Classes.{is_thing, is_nothing}
use Rattle.shq_terms.specs.Concept.{Concept, bottom}
use Rattle.shq_terms.specs.Listed.{Listed}
use Rattle.shq_terms.specs.Names.{with_name}
use Rattle.shq_terms.specs.declared.axioms.Numbered.{Numbered}
use Rattle.shq_terms.specs.declared.axioms.On.TheVariants.{Any}
use Rattle.shq_terms.specs.declared.axioms.Query.{Query}
use Rattle.shq_terms.proofs.Uses.{all_use_more}
use Rattle.ontology_limits.specs.Counted.{counted_roles, counted_by_query}
use Rattle.ontology_limits.specs.Simple.{are_simple, all_role_axioms}
use Rattle.ontology_limits.specs.Limits.{IsOntologyInLimit, IsInLimit}
use Rattle.ofn_tree.specs.Lexemes.{end_line, is_iri_byte}
use Rattle.ofn_tree.specs.Items.{Item, items_of}
use Rattle.ofn_expressions.specs.Counts.{Counts}
use Rattle.ofn_expressions.specs.Walk.{Test, shape, prefix, clash, outside, numbered, parts, nodes, class, role}
use Rattle.ofn_expressions.specs.Walk.{individual, number, simple, holds, counts_after, after_all, walked}
use Rattle.ofn_expressions.specs.Names.{Prefix}
use Rattle.ofn_expressions.proofs.Kept.{keeps_all}
use Rattle.ofn_expressions.proofs.Growing.{grows_name}
use Rattle.ofn_reader.specs.DocumentContext.{DocumentContext}
use Rattle.ofn_reader.specs.Documents.{IsDocument}
use Rattle.ofn_reader.specs.Texts.{HasItems}
use Rattle.ofn_reader.specs.Queries.{IsQuery, IsClass, query_form_tests, class_form_tests, query_tests}
use Rattle.ofn_reader.specs.Queries.{class_query_tests, first_query, first_class, first_line, counted_by_first}
use Rattle.ofn_reader.specs.Queries.{counted_in_first, query_start}
use Rattle.text_laws.specs.Writable.{is_iri, is_class_iri, is_role_iri}
use Rattle.text_laws.proofs.GoodTokens.{AreGoodItems, tokens_good, tree_good}
use Rattle.text_laws.proofs.Checks.{true_le}
use Rattle.text_laws.proofs.Counting.{held, both, nothing_held, walked_after}
use Rattle.text_laws.proofs.CanWrite.{can_be_written, prefixes_kept, query_within}
use Rattle.certificate_lines.specs.Names.{is_word_byte}
use Rattle.text_laws.specs.LimitLaws.{with_names, DocumentsAreInLimit, QueriesAreInLimit, ClassesAreInLimit}
use Rattle.text_laws.specs.LimitLaws.{AreWritable, QueriesListNames, ClassesListNames, QueriesStayInLimit}
use Rattle.text_laws.specs.LimitLaws.{ClassesStayInLimit}
use Rattle.text_laws.proofs.Names.{front, no_longer}
use Rattle.text_laws.proofs.Queries.{IsAsked, first_query_asked, first_class_asked}

pub documents_in_limit : DocumentsAreInLimit
documents_in_limit text o kept end d = (can_be_written text o kept end d).within

-- ---- what holds of counts while tests hold

pub walked_keeps_that : (P : Counts → Type 0)
    → ((s : Counts) (t : Test) → holds s t ≡ true → P s → P (counts_after s t))
    → (s : Counts) (ts : List Test) (new : Counts) → walked s ts ≡ Ok new → P s → P new
walked_keeps_that P step s [] new h p = subst P (nothing_held s new h) p
walked_keeps_that P step s (t ∷ ts) new h p =
    let x = held s t ts new h in walked_keeps_that P step (counts_after s t) ts new x.later (step s t x.now p)

-- there are not too many names
record NamesAreFew (s : Counts) : Type 0 where
  classes : length s.classes ≤ 20000
  roles : length s.roles ≤ 1000
  individuals : length s.individuals ≤ 20000

few_names_step : (s : Counts) (t : Test) → holds s t ≡ true → NamesAreFew s → NamesAreFew (counts_after s t)
few_names_step s (shape n fits) h few = few
few_names_step s (prefix n declared) h few = few
few_names_step s (clash n agrees) h few = few
few_names_step s (outside n c) h few = few
few_names_step s (numbered n) h few = record { classes = few.classes; roles = few.roles; individuals = few.individuals }
few_names_step s (parts n k) h few = record { classes = few.classes; roles = few.roles; individuals = few.individuals }
few_names_step s (nodes n k) h few = record { classes = few.classes; roles = few.roles; individuals = few.individuals }
few_names_step s (class n w) h few = record {
  classes = true_le (length (with_name s.classes w)) 20000 h;
  roles = few.roles;
  individuals = few.individuals;
}
few_names_step s (role n w) h few = record {
  classes = few.classes;
  roles = true_le (length (with_name s.roles w)) 1000 h;
  individuals = few.individuals;
}
few_names_step s (individual n w) h few = record {
  classes = few.classes;
  roles = few.roles;
  individuals = true_le (length (with_name s.individuals w)) 20000 h;
}
few_names_step s (number n k) h few = few
few_names_step s (simple n fits) h few = few

-- the names that were listed stand first
pub record StandFirst (s new : Counts) : Type 0 where
  pub classes : take (length s.classes) new.classes ≡ s.classes
  pub roles : take (length s.roles) new.roles ≡ s.roles
  pub individuals : take (length s.individuals) new.individuals ≡ s.individuals

first_step : (s : Counts) (mid : Counts) (t : Test) → holds mid t ≡ true → StandFirst s mid
    → StandFirst s (counts_after mid t)
first_step s mid (shape n fits) h first = first
first_step s mid (prefix n declared) h first = first
first_step s mid (clash n agrees) h first = first
first_step s mid (outside n c) h first = first
first_step s mid (numbered n) h first =
    record { classes = first.classes; roles = first.roles; individuals = first.individuals }
first_step s mid (parts n k) h first =
    record { classes = first.classes; roles = first.roles; individuals = first.individuals }
first_step s mid (nodes n k) h first =
    record { classes = first.classes; roles = first.roles; individuals = first.individuals }
first_step s mid (class n w) h first = record {
  classes = front s.classes mid.classes (with_name mid.classes w) first.classes (grows_name mid.classes w);
  roles = first.roles;
  individuals = first.individuals;
}
first_step s mid (role n w) h first = record {
  classes = first.classes;
  roles = front s.roles mid.roles (with_name mid.roles w) first.roles (grows_name mid.roles w);
  individuals = first.individuals;
}
first_step s mid (individual n w) h first = record {
  classes = first.classes;
  roles = first.roles;
  individuals =
      front s.individuals mid.individuals (with_name mid.individuals w) first.individuals
      (grows_name mid.individuals w);
}
first_step s mid (number n k) h first = first
first_step s mid (simple n fits) h first = first

pub stand_first : (s : Counts) (ts : List Test) (new : Counts) → walked s ts ≡ Ok new → StandFirst s new
stand_first s ts new h =
    walked_keeps_that (StandFirst s) (first_step s) s ts new h
    (record {
      classes = take_all (length s.classes) s.classes (omega arith);
      roles = take_all (length s.roles) s.roles (omega arith);
      individuals = take_all (length s.individuals) s.individuals (omega arith);
    })

-- ---- with more names

pub still_in_limit : (o : Listed) (s : Counts) (ts : List Test) (after : Counts) → IsOntologyInLimit o
    → s.classes ≡ o.classes → s.roles ≡ o.roles → s.individuals ≡ o.individuals → walked s ts ≡ Ok after
    → IsOntologyInLimit (with_names o after)
still_in_limit o s ts after within same_classes same_roles same_individuals h =
    let first = stand_first s ts after h in
    let start : NamesAreFew s =
    record {
      classes = subst (λ (l : List (List ℕ)). length l ≤ 20000) (sym same_classes) within.few_classes;
      roles = subst (λ (l : List (List ℕ)). length l ≤ 1000) (sym same_roles) within.few_roles;
      individuals = subst (λ (l : List (List ℕ)). length l ≤ 20000) (sym same_individuals) within.few_individuals;
    } in
    let few = walked_keeps_that NamesAreFew few_names_step s ts after h start in
    let classes : length o.classes ≤ length after.classes =
    subst (λ (l : List (List ℕ)). length l ≤ length after.classes) same_classes
    (no_longer s.classes after.classes first.classes) in
    let roles : length o.roles ≤ length after.roles =
    subst (λ (l : List (List ℕ)). length l ≤ length after.roles) same_roles
    (no_longer s.roles after.roles first.roles) in
    let individuals : length o.individuals ≤ length after.individuals =
    subst (λ (l : List (List ℕ)). length l ≤ length after.individuals) same_individuals
    (no_longer s.individuals after.individuals first.individuals) in
    record {
      listed =
          all_use_more (length o.classes) (length after.classes) (length o.roles) (length after.roles)
          (length o.individuals) (length after.individuals) classes roles individuals o.axioms within.listed;
      items = within.items;
      counts = within.counts;
      simple = within.simple;
      few_axioms = within.few_axioms;
      few_classes = few.classes;
      few_roles = few.roles;
      few_individuals = few.individuals;
      few_parts = within.few_parts;
    }

pub items_good : (text : List ℕ) (items : List Item) (end : ℕ) → HasItems text items end → AreGoodItems (items_of items)
items_good text items end made = tree_good made.tokens.tokens items made.tree (tokens_good text made.tokens made.cut)

-- ---- the tests for simple roles come last

pub record FormHolds (s : Counts) (form : List Test) (fits : Bool) (after : Counts) : Type 0 where
  pub form_holds : walked s form ≡ Ok after
  pub counts_are : after_all s form ≡ after
  pub simple_are : fits ≡ true

pub form_holds : (s : Counts) (form : List Test) (line : ℕ) (fits : Bool) (after : Counts)
    → walked s (form ++ simple line fits ∷ []) ≡ Ok after → FormHolds s form fits after
form_holds s form line fits after h =
    let b = both s form (simple line fits ∷ []) after h in
    let test = held b.mid (simple line fits) [] after b.second in
    let same : b.mid ≡ after = nothing_held b.mid after test.later in
    record {
      form_holds = b.first ∙ ap Ok same;
      counts_are = walked_after s form b.mid b.first ∙ same;
      simple_are = test.now;
    }

-- ---- what was walked

-- what a query that is read says, and what it lists
pub record Walks (ps : List Prefix) (s after : Counts) (axioms : List Numbered) (q : Query) : Type 0 where
  pub asked : IsAsked ps after s after q
  pub tests : List Test
  pub hold : walked s tests ≡ Ok after
  pub simple_are : are_simple (all_role_axioms axioms) (counted_by_query q) ≡ true

query_walks : (ps : List Prefix) (axioms : List Numbered) (s : Counts) (query : List ℕ) (after : Counts) (q : Query)
    → IsQuery ps axioms s query after q → Walks ps s after axioms q
query_walks ps axioms s query after q x =
    let last : ℕ = end_line query in
    let form : List Test = query_form_tests ps last x.items in
    let h =
    form_holds s form (first_line last x.items)
    (are_simple (all_role_axioms axioms) (counted_by_first (first_query ps (after_all s form) x.items))) after
    x.holds in
    let roles : counted_by_first (first_query ps (after_all s form) x.items) ≡ counted_by_query q =
    ap (λ (c : Counts). counted_by_first (first_query ps c x.items)) h.counts_are ∙ ap counted_by_first x.pair in
    record {
      asked =
          first_query_asked ps after last x.items (items_good query x.items x.end x.made) q x.pair s after h.form_holds
          (keeps_all after);
      tests = query_tests ps axioms s last x.items;
      hold = x.holds;
      simple_are = subst (λ (rs : List ℕ). are_simple (all_role_axioms axioms) rs ≡ true) roles h.simple_are;
    }

class_walks : (ps : List Prefix) (axioms : List Numbered) (s : Counts) (text : List ℕ) (after : Counts) (c : Concept)
    → IsClass ps axioms s text after c → Walks ps s after axioms (record { sub = c; sup = bottom; on = Any })
class_walks ps axioms s text after c x =
    let last : ℕ = end_line text in
    let form : List Test = class_form_tests ps last x.items in
    let h =
    form_holds s form (first_line last x.items)
    (are_simple (all_role_axioms axioms) (counted_in_first (first_class ps (after_all s form) x.items))) after
    x.holds in
    let roles : counted_in_first (first_class ps (after_all s form) x.items) ≡ counted_roles c ++ [] =
    ap (λ (t : Counts). counted_in_first (first_class ps t x.items)) h.counts_are ∙ ap counted_in_first x.class
    ∙ sym (append-nil (counted_roles c)) in
    record {
      asked =
          first_class_asked ps after last x.items (items_good text x.items x.end x.made) c x.class s after h.form_holds
          (keeps_all after);
      tests = class_query_tests ps axioms s last x.items;
      hold = x.holds;
      simple_are = subst (λ (rs : List ℕ). are_simple (all_role_axioms axioms) rs ≡ true) roles h.simple_are;
    }

-- ---- the laws

asked_in_limit : (ps : List Prefix) (o : Listed) (n : ℕ) (after : Counts) (q : Query) → IsOntologyInLimit o
    → Walks ps (query_start o n) after o.axioms q → IsInLimit (with_names o after) q
asked_in_limit ps o n after q within w = record {
  ontology = still_in_limit o (query_start o n) w.tests after within refl refl refl w.hold;
  listed = w.asked.listed;
  items = w.asked.items;
  counts = w.asked.counts;
  simple = w.simple_are;
  on_listed = w.asked.on_listed;
}

pub queries_stay : QueriesStayInLimit
queries_stay ps o n query after q within x =
    asked_in_limit ps o n after q within (query_walks ps o.axioms (query_start o n) query after q x)

pub classes_stay : ClassesStayInLimit
classes_stay ps o n text after c within x =
    asked_in_limit ps o n after (record { sub = c; sup = bottom; on = Any }) within
    (class_walks ps o.axioms (query_start o n) text after c x)

pub queries_in_limit : QueriesAreInLimit
queries_in_limit text o kept end d query after q x =
    queries_stay kept.prefixes o kept.nodes query after q (documents_in_limit text o kept end d) x

pub classes_in_limit : ClassesAreInLimit
classes_in_limit text o kept end d asked after c x =
    classes_stay kept.prefixes o kept.nodes asked after c (documents_in_limit text o kept end d) x

-- each byte of an IRI is one of a word
iri_is_word : (b : ℕ) → is_iri_byte b ≡ true → is_word_byte b ≡ true
iri_is_word b h = grind (arith, common_steps, h)

words : (iri : List ℕ) → list_all is_iri_byte iri ≡ true → list_all is_word_byte iri ≡ true
words [] all = refl
words (b ∷ bs) all =
    let both = and_parts (is_iri_byte b) (list_all is_iri_byte bs) all in
    rw (iri_is_word b both.0, words bs both.1) refl

plain : (names : List (List ℕ)) → list_all is_iri names ≡ true → list_all (list_all is_word_byte) names ≡ true
plain [] all = refl
plain (n ∷ ns) all =
    let both = and_parts (is_iri n) (list_all is_iri ns) all in
    let iri = and_parts (is_utf8 n) (list_all is_iri_byte n) both.0 in
    rw (words n iri.1, plain ns both.1) refl

iris_of_classes : (names : List (List ℕ)) → list_all is_class_iri names ≡ true → list_all is_iri names ≡ true
iris_of_classes [] all = refl
iris_of_classes (n ∷ ns) all =
    let both = and_parts (is_class_iri n) (list_all is_class_iri ns) all in
    rw ((and_parts (is_iri n) (not (is_thing n) && not (is_nothing n)) both.0).0, iris_of_classes ns both.1) refl

iris_of_roles : (names : List (List ℕ)) → list_all is_role_iri names ≡ true → list_all is_iri names ≡ true
iris_of_roles [] all = refl
iris_of_roles (n ∷ ns) all =
    let both = and_parts (is_role_iri n) (list_all is_role_iri ns) all in
    rw ((and_parts (is_iri n) (is_none (excluded_role_name n)) both.0).0, iris_of_roles ns both.1) refl

names_written : (text : List ℕ) (o : Listed) (kept : DocumentContext) (end : ℕ) → IsDocument text o kept end
    → (after : Counts) (q : Query) → Walks kept.prefixes (query_start o kept.nodes) after o.axioms q
    → AreWritable (with_names o after)
names_written text o kept end d after q w =
    let within = w.asked.within (prefixes_kept text o kept end d) (query_within text o kept end d) in
    record {
      classes = record {
        distinct = within.distinct_classes;
        plain = plain after.classes (iris_of_classes after.classes within.class_iris);
      };
      roles = record {
        distinct = within.distinct_roles;
        plain = plain after.roles (iris_of_roles after.roles within.role_iris);
      };
      individuals =
          record { distinct = within.distinct_individuals; plain = plain after.individuals within.individual_iris };
    }

pub queries_list_names : QueriesListNames
queries_list_names text o kept end d query after q x =
    names_written text o kept end d after q
    (query_walks kept.prefixes o.axioms (query_start o kept.nodes) query after q x)

pub classes_list_names : ClassesListNames
classes_list_names text o kept end d asked after c x =
    names_written text o kept end d after (record { sub = c; sup = bottom; on = Any })
    (class_walks kept.prefixes o.axioms (query_start o kept.nodes) asked after c x)
