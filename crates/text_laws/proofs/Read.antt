-- What is written is read again.
use Rattle.std.proofs.Common.{◌≡◌, ℕ, ◌+◌, ◌<◌, ◌≤◌, true, ◌&&◌, List, [], ◌∷◌, ◌++◌, length, Option, Some, None, Ok}
use Rattle.std.proofs.Common.{refl, ap, sym, ◌∙◌, subst, arith, append-nil, codes}
use Rattle.std.specs.Prelude.{slice_index_or, not, is_none}
use Rattle.std.specs.Result.{result_ok}
use Rattle.std.specs.Str.{IsUtf8}
use Rattle.std.proofs.lemmas.Bool.{and_parts}
use Rattle.shq_terms.proofs.Bools.{false_from_not}
use Rattle.shq_terms.specs.Listed.{Listed}
use Rattle.shq_terms.specs.declared.axioms.Axiom.{Axiom}
use Rattle.shq_terms.specs.declared.axioms.Axiom.TheVariants.{SubClassOf, EquivalentClasses, DisjointClasses}
use Rattle.shq_terms.specs.declared.axioms.Axiom.TheVariants.{DisjointUnion, SubRole, EquivalentRoles, Domain, Range}
use Rattle.shq_terms.specs.declared.axioms.Axiom.TheVariants.{Functional, Transitive, Member, Pair, SameAll, Different}
use Rattle.shq_terms.specs.declared.axioms.Numbered.{Numbered}
use Rattle.ofn_tree.specs.declared.token.Kind.TheVariants.{OpenBracket, CloseBracket, Name}
use Rattle.ofn_tree.specs.Token.{PlainToken}
use Rattle.ofn_tree.specs.Lexemes.{whole, end_line, pieces}
use Rattle.ofn_tree.specs.Document.{Met, DocumentTokens, nothing_met, met_after, with_token, document_front, document}
use Rattle.ofn_tree.specs.Items.{Item, group_item, Items, item, Mark, opening, closing, written_all, nesting_all}
use Rattle.ofn_tree.specs.Items.{IsTree}
use Rattle.ofn_tree.specs.Faults.{bracket_fault}
use Rattle.ofn_expressions.specs.Counts.{Counts}
use Rattle.ofn_expressions.specs.Walk.{Test, shape, after_all, walked}
use Rattle.ofn_expressions.specs.Names.{predeclared}
use Rattle.ofn_expressions.specs.Constructs.{excluded_role_name}
use Rattle.ofn_expressions.specs.Classes.{is_thing, is_nothing}
use Rattle.ofn_expressions.specs.declared.construct.Construct.{Construct}
use Rattle.ofn_expressions.proofs.Walks.{goes_on}
use Rattle.ofn_reader.specs.Texts.{HasItems}
use Rattle.ofn_reader.specs.Groups.{axiom_items}
use Rattle.ofn_reader.specs.Axioms.{axioms_tests, axioms_in}
use Rattle.ofn_reader.specs.Documents.{start, form_tests, all_simple_tests, document_tests, document_axioms}
use Rattle.ofn_writer.specs.Canonical.{ontology_text}
use Rattle.ofn_reader.specs.Held.{axiom_expressions}
use Rattle.text_laws.specs.Writable.{is_iri, is_class_iri, is_role_iri, CanBeWritten}
use Rattle.text_laws.proofs.Whole.{counted_parts, total, whole_of, part_total, expression_total}
use Rattle.text_laws.specs.WritingLaws.{axioms_of, IsDocumentOf}
use Rattle.text_laws.proofs.Checks.{all_at}
use Rattle.text_laws.proofs.Phrases.{Phrase, item_of, token, lines_text, lines_items, lines_tokens, all_can_stand}
use Rattle.text_laws.proofs.Cuts.{wholes, wholes_append, Cuts, cuts_both, cuts_name, cuts_open, cuts_close, cuts_feed}
use Rattle.text_laws.proofs.Cuts.{cuts_lines}
use Rattle.text_laws.proofs.Alone.{pieces_of_utf8, with_ok}
use Rattle.text_laws.proofs.Made.{marks_lines, fault_lines, Passes, passes_lines}
use Rattle.text_laws.proofs.Terms.{axiom_phrase, AreSpelled}
use Rattle.text_laws.proofs.Walks.{step, AreKnown, counted}
use Rattle.text_laws.proofs.Counting.{walked_after}
use Rattle.text_laws.proofs.Simple.{simple_again}
use Rattle.text_laws.proofs.Places.{own_place}
use Rattle.text_laws.proofs.Declared.{declarations, axiom_phrases, classes_walk, roles_walk, individuals_walk}
use Rattle.text_laws.proofs.Declared.{declarations_value, axioms_walk, axioms_value}
use Rattle.text_laws.proofs.Texts.{document_phrases, opened, text_is, opened_utf8, document_stands, document_nests}

-- ---- the tokens of lines in a group `Ontology`

abbrev close_of : List Phrase → PlainToken
close_of ps = token CloseBracket (41 ∷ []) (10 + length (lines_text ps)) (2 + length ps)

abbrev document_tokens : List Phrase → List PlainToken
document_tokens ps =
    token Name (codes "Ontology") 0 1 ∷ (token OpenBracket (40 ∷ []) 8 1 ∷ (lines_tokens 2 10 ps ++ close_of ps ∷ []))

abbrev document_items : List Phrase → List Item
document_items ps = group_item (Some (codes "Ontology")) (lines_items 2 ps) 1 ∷ []

module _ (ps : List Phrase) (stands : all_can_stand ps ≡ true) (utf8 : IsUtf8 (opened (lines_text ps)))
    (nests : nesting_all (lines_items 2 ps) ≤ 63) where
  text : List ℕ
  text = opened (lines_text ps)

  abbrev place : ℕ
  place = 10 + length (lines_text ps)

  abbrev end : ℕ
  end = 2 + length ps

  cuts : Cuts None 0 1 (opened (lines_text ps)) (document_tokens ps) (place + 1) end (10 ∷ [])
  cuts =
      cuts_both None 0 1 (opened (lines_text ps)) (token Name (codes "Ontology") 0 1 ∷ []) 8 1
      (40 ∷ (10 ∷ (lines_text ps ++ (41 ∷ (10 ∷ [])))))
      (token OpenBracket (40 ∷ []) 8 1 ∷ (lines_tokens 2 10 ps ++ close_of ps ∷ [])) (place + 1) end (10 ∷ [])
      (cuts_name None 0 1 (codes "Ontology") (40 ∷ (10 ∷ (lines_text ps ++ (41 ∷ (10 ∷ []))))) refl refl)
      (cuts_both None 8 1 (40 ∷ (10 ∷ (lines_text ps ++ (41 ∷ (10 ∷ []))))) (token OpenBracket (40 ∷ []) 8 1 ∷ []) 9 1
      (10 ∷ (lines_text ps ++ (41 ∷ (10 ∷ [])))) (lines_tokens 2 10 ps ++ close_of ps ∷ []) (place + 1) end (10 ∷ [])
      (cuts_open None 8 1 (10 ∷ (lines_text ps ++ (41 ∷ (10 ∷ [])))))
      (cuts_both None 9 1 (10 ∷ (lines_text ps ++ (41 ∷ (10 ∷ [])))) [] 10 2 (lines_text ps ++ (41 ∷ (10 ∷ [])))
      (lines_tokens 2 10 ps ++ close_of ps ∷ []) (place + 1) end (10 ∷ [])
      (cuts_feed None 9 1 (lines_text ps ++ (41 ∷ (10 ∷ []))))
      (cuts_both None 10 2 (lines_text ps ++ (41 ∷ (10 ∷ []))) (lines_tokens 2 10 ps) place end (41 ∷ (10 ∷ []))
      (close_of ps ∷ []) (place + 1) end (10 ∷ [])
      (cuts_lines None 10 2 ps (41 ∷ (10 ∷ [])) stands)
      (cuts_close None place end (10 ∷ [])))))

  pieces_are : pieces (opened (lines_text ps)) ≡ wholes (document_tokens ps)
  pieces_are =
      pieces_of_utf8 (opened (lines_text ps)) utf8
      ∙ cuts.cut
      ∙ append-nil (wholes (document_tokens ps))

  -- ---- the reading

  abbrev read_tokens : DocumentTokens
  read_tokens = record { tokens = document_tokens ps; place_behind = place + 1 }

  begun : Met
  begun = met_after OpenBracket (40 ∷ []) (met_after Name (codes "Ontology") nothing_met)

  document_is : document (opened (lines_text ps)) ≡ Ok read_tokens
  document_is =
      let n : ℕ = length (opened (lines_text ps)) in
      let m : Met = met_after OpenBracket (40 ∷ []) (met_after Name (codes "Ontology") nothing_met) in
      let middle : Passes true n 1 m (lines_tokens 2 10 ps) 1 = passes_lines true n 1 m 2 10 ps (omega arith) in
      let name : PlainToken = token Name (codes "Ontology") 0 1 in
      let bracket : PlainToken = token OpenBracket (40 ∷ []) 8 1 in
      ap (document_front n nothing_met)
      (pieces_are
      ∙ ap (λ l. whole name 8 ∷ (whole bracket 9 ∷ l)) (wholes_append (lines_tokens 2 10 ps) (close_of ps ∷ [])))
      ∙ ap (λ r. with_token name (with_token bracket r))
      (middle.goes (wholes (close_of ps ∷ [])) ∙ with_ok (lines_tokens 2 10 ps) (close_of ps ∷ []) (place + 1))

  -- ---- the tree

  tree : IsTree (document_tokens ps) (document_items ps)
  tree = record {
    made =
        append-nil (opening (Some (codes "Ontology")) 1 ∷ (written_all (lines_items 2 ps) ++ closing ∷ []))
        ∙ ap (λ (l : List Mark). opening (Some (codes "Ontology")) 1 ∷ l)
        (sym (marks_lines 2 10 ps (close_of ps ∷ []) refl));
    nested = omega (arith, nests);
  }

  balanced : (last : ℕ) → bracket_fault last 0 (document_tokens ps) ≡ None
  balanced last = fault_lines last 1 2 10 ps (close_of ps ∷ []) (omega (arith, nests))

  pub has_items : HasItems (opened (lines_text ps)) (document_items ps) (place + 1)
  has_items = record {
    tokens = read_tokens;
    cut = ap result_ok document_is;
    balanced = balanced (end_line (opened (lines_text ps)));
    tree = tree;
    behind = refl;
  }

-- ---- the items of an ontology

axiom_first : (o : Listed) (n : ℕ) (a : Axiom) (is : Items)
    → axiom_items (item (item_of n (axiom_phrase o a)) is) ≡ item (item_of n (axiom_phrase o a)) is
axiom_first o n (SubClassOf c d) is = refl
axiom_first o n (EquivalentClasses cs) is = refl
axiom_first o n (DisjointClasses cs) is = refl
axiom_first o n (DisjointUnion c cs) is = refl
axiom_first o n (SubRole r s) is = refl
axiom_first o n (EquivalentRoles rs) is = refl
axiom_first o n (Domain r c) is = refl
axiom_first o n (Range r c) is = refl
axiom_first o n (Functional r) is = refl
axiom_first o n (Transitive r) is = refl
axiom_first o n (Member c a) is = refl
axiom_first o n (Pair r a b) is = refl
axiom_first o n (SameAll as_) is = refl
axiom_first o n (Different as_) is = refl

axioms_first : (o : Listed) (n : ℕ) (as_ : List Numbered)
    → axiom_items (lines_items n (axiom_phrases o as_)) ≡ lines_items n (axiom_phrases o as_)
axioms_first o n [] = refl
axioms_first o n (a ∷ rest) = axiom_first o n a.axiom (lines_items (n + 1) (axiom_phrases o rest))

declared_first : (kind : List ℕ) (n : ℕ) (ws : List (List ℕ)) (qs : List Phrase)
    → axiom_items (lines_items n qs) ≡ lines_items n qs
    → axiom_items (lines_items n (declarations kind ws ++ qs)) ≡ lines_items n (declarations kind ws ++ qs)
declared_first kind n [] qs others = others
declared_first kind n (w ∷ ws) qs others = refl

no_name_first : (o : Listed) (n : ℕ)
    → axiom_items (lines_items n (document_phrases o)) ≡ lines_items n (document_phrases o)
no_name_first o n =
    declared_first (codes "Class") n o.classes
    (declarations (codes "ObjectProperty") o.roles
    ++ (declarations (codes "NamedIndividual") o.individuals ++ axiom_phrases o o.axioms))
    (declared_first (codes "ObjectProperty") n o.roles
    (declarations (codes "NamedIndividual") o.individuals ++ axiom_phrases o o.axioms)
    (declared_first (codes "NamedIndividual") n o.individuals (axiom_phrases o o.axioms) (axioms_first o n o.axioms)))

-- ---- the names

pub spelled : (o : Listed) → CanBeWritten o → AreSpelled o
spelled o can = record {
  class_iri = λ a less. all_at is_class_iri o.classes a can.class_iris less;
  role_iri = λ r less. all_at is_role_iri o.roles r can.role_iris less;
  individual_iri = λ a less. all_at is_iri o.individuals a can.individual_iris less;
}

no_construct : (e : Option Construct) → is_none e ≡ true → e ≡ None
no_construct None h = refl
no_construct (Some c) h = cc

pub known : (o : Listed) → CanBeWritten o → AreKnown o
known o can =
    let class_names : (a : ℕ) → a < length o.classes
    → (not (is_thing (slice_index_or o.classes a [])) && not (is_nothing (slice_index_or o.classes a []))) ≡ true =
    λ a less.
    let w : List ℕ = slice_index_or o.classes a [] in
    (and_parts (is_iri w) (not (is_thing w) && not (is_nothing w))
    (all_at is_class_iri o.classes a can.class_iris less)).1 in
    record {
      no_thing = λ a less.
          let w : List ℕ = slice_index_or o.classes a [] in
          false_from_not (is_thing w) (and_parts (not (is_thing w)) (not (is_nothing w)) (class_names a less)).0;
      no_nothing = λ a less.
          let w : List ℕ = slice_index_or o.classes a [] in
          false_from_not (is_nothing w) (and_parts (not (is_thing w)) (not (is_nothing w)) (class_names a less)).1;
      class_place = λ a less. own_place o.classes a can.distinct_classes less;
      no_excluded = λ r less.
          let w : List ℕ = slice_index_or o.roles r [] in
          no_construct (excluded_role_name w)
          (and_parts (is_iri w) (is_none (excluded_role_name w)) (all_at is_role_iri o.roles r can.role_iris less)).1;
      role_place = λ r less. own_place o.roles r can.distinct_roles less;
      individual_place = λ a less. own_place o.individuals a can.distinct_individuals less;
      few_classes = can.within.few_classes;
      few_roles = can.within.few_roles;
      few_individuals = can.within.few_individuals;
    }

-- ---- the document

module _ (o : Listed) (can : CanBeWritten o) where
  abbrev phrases : List Phrase
  phrases = document_phrases o

  abbrev behind : Counts
  behind = counted o (0 + length o.axioms) (0 + total counted_parts o.axioms) (0 + total axiom_expressions o.axioms)

  abbrev first_axiom : ℕ
  first_axiom = 2 + length o.classes + length o.roles + length o.individuals

  form_holds : (last : ℕ) → walked start (form_tests predeclared last (document_items (document_phrases o))) ≡ Ok behind
  form_holds last =
      step start (shape 1 true) (axioms_tests predeclared (axiom_items (lines_items 2 (document_phrases o)))) refl
      ∙ ap (λ is. walked start (axioms_tests predeclared is)) (no_name_first o 2)
      ∙ classes_walk o.classes 2
      (declarations (codes "ObjectProperty") o.roles
      ++ (declarations (codes "NamedIndividual") o.individuals ++ axiom_phrases o o.axioms))
      can.distinct_classes can.class_iris can.within.few_classes
      ∙ roles_walk o.classes o.roles (2 + length o.classes)
      (declarations (codes "NamedIndividual") o.individuals ++ axiom_phrases o o.axioms) can.distinct_roles
      can.role_iris can.within.few_roles
      ∙ individuals_walk o.classes o.roles o.individuals (2 + length o.classes + length o.roles)
      (axiom_phrases o o.axioms) can.distinct_individuals can.individual_iris can.within.few_individuals
      ∙ axioms_walk o (known o can) o.axioms 0 0 0 first_axiom can.within.listed (whole_of o can)
      (omega (arith, can.within.few_axioms)) (omega (arith, can.within.few_parts, part_total o.axioms))
      (omega (arith, can.few_expressions, expression_total o.axioms))

  same_axioms : axioms_of (document_axioms predeclared behind (document_items (document_phrases o)))
      ≡ axioms_of o.axioms
  same_axioms =
      ap (λ is. axioms_of (axioms_in predeclared behind is)) (no_name_first o 2)
      ∙ ap axioms_of
      (declarations_value (codes "Class") behind o.classes 2
      (declarations (codes "ObjectProperty") o.roles
      ++ (declarations (codes "NamedIndividual") o.individuals ++ axiom_phrases o o.axioms))
      ∙ declarations_value (codes "ObjectProperty") behind o.roles (2 + length o.classes)
      (declarations (codes "NamedIndividual") o.individuals ++ axiom_phrases o o.axioms)
      ∙ declarations_value (codes "NamedIndividual") behind o.individuals (2 + length o.classes + length o.roles)
      (axiom_phrases o o.axioms))
      ∙ axioms_value o (known o can) (0 + length o.axioms) (0 + total counted_parts o.axioms)
      (0 + total axiom_expressions o.axioms) o.axioms first_axiom can.within.listed (whole_of o can)

  holds : (last : ℕ) → walked start (document_tests predeclared last (document_items (document_phrases o))) ≡ Ok behind
  holds last =
      let form : List Test = form_tests predeclared last (document_items (document_phrases o)) in
      let counts_are : after_all start form ≡ behind = walked_after start form behind (form_holds last) in
      goes_on start behind form
      (all_simple_tests (document_axioms predeclared (after_all start form) (document_items (document_phrases o))))
      (form_holds last)
      ∙ ap (λ s. walked behind (all_simple_tests (document_axioms predeclared s (document_items (document_phrases o)))))
      counts_are
      ∙ simple_again (document_axioms predeclared behind (document_items (document_phrases o))) o.axioms behind
      same_axioms can.within.simple

  says : IsDocumentOf (opened (lines_text (document_phrases o))) o
  says =
      let stands = document_stands o (spelled o can) can in
      record {
        read = record {
          axioms = document_axioms predeclared behind (document_items (document_phrases o));
          classes = o.classes;
          roles = o.roles;
          individuals = o.individuals;
        };
        kept = record { prefixes = predeclared; nodes = behind.nodes };
        end = 10 + length (lines_text (document_phrases o)) + 1;
        is_document = record {
          items = document_items (document_phrases o);
          made =
              has_items (document_phrases o) stands.0 (opened_utf8 (document_phrases o) stands.1)
              (document_nests o can 2);
          behind = behind;
          holds = holds (end_line (opened (lines_text (document_phrases o))));
          listed = refl;
          takes = refl;
        };
        classes = refl;
        roles = refl;
        individuals = refl;
        axioms = same_axioms;
      }

pub written_is_read : (o : Listed) → CanBeWritten o → IsDocumentOf (ontology_text o) o
written_is_read o can = subst (λ t. IsDocumentOf t o) (sym (text_is o)) (says o can)
