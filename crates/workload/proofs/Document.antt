-- The tokens of lines behind the two that begin a document, and the items that they make.
use Rattle.std.proofs.Common.{◌≡◌, ℕ, ◌+◌, ◌≤◌, true, List, [], ◌∷◌, ◌++◌, length, Option, Some, None, Ok, refl, ap}
use Rattle.std.proofs.Common.{sym, ◌∙◌, arith, append-nil, codes}
use Rattle.std.specs.Result.{result_ok}
use Rattle.std.specs.Str.{IsUtf8}
use Rattle.ofn_tree.specs.declared.token.Kind.TheVariants.{OpenBracket, CloseBracket, Equals, Iri, Name}
use Rattle.ofn_tree.specs.Token.{PlainToken}
use Rattle.ofn_tree.specs.Lexemes.{whole, end_line, pieces}
use Rattle.ofn_tree.specs.Document.{DocumentTokens, nothing_met, with_token, document_front, document}
use Rattle.ofn_tree.specs.Items.{Item, name_item, iri_item, sign_item, group_item, no_items, item, Mark, opening}
use Rattle.ofn_tree.specs.Items.{closing, single, written_all, nesting_all, IsTree}
use Rattle.ofn_tree.specs.Faults.{bracket_fault}
use Rattle.ofn_reader.specs.Texts.{HasItems}
use Rattle.ofn_writer.specs.Canonical.{iri_text}
use Rattle.text_laws.proofs.Phrases.{Phrase, token, lines_text, lines_items, lines_tokens, all_can_stand}
use Rattle.text_laws.proofs.Cuts.{wholes, wholes_append, Cuts, cuts_both, cuts_name, cuts_iri, cuts_open, cuts_close}
use Rattle.text_laws.proofs.Cuts.{cuts_feed, cuts_lines}
use Rattle.text_laws.proofs.Alone.{pieces_of_utf8, with_ok}
use Rattle.text_laws.proofs.Made.{marks_lines, fault_lines, Passes, passes_lines}
use Rattle.workload.specs.WorkloadAxioms.{prefix_iri_of_workloads}
use Rattle.workload.proofs.Lines.{ontology_iri, opened}

cuts_equals : (bad : Option ℕ) (place n : ℕ) (rest : List ℕ)
    → Cuts bad place n (61 ∷ rest) (token Equals (61 ∷ []) place n ∷ []) (place + 1) n rest
cuts_equals bad place n rest = record { cut = refl }

-- ---- the declaration of the prefix, on the first line

abbrev prefix_tokens : List PlainToken
prefix_tokens =
    token Name (codes "Prefix") 0 1
    ∷ (token OpenBracket (40 ∷ []) 6 1
    ∷ (token Name (58 ∷ []) 7 1
    ∷ (token Equals (61 ∷ []) 8 1
    ∷ (token Iri prefix_iri_of_workloads 9 1
    ∷ (token CloseBracket (41 ∷ []) 32 1
    ∷ [])))))

abbrev pub prefix_item : Item
prefix_item =
    group_item (Some (codes "Prefix"))
    (item (name_item (58 ∷ []) 1) (item (sign_item Equals 1) (item (iri_item prefix_iri_of_workloads 1) no_items))) 1

module _ (rest : List ℕ) where
  abbrev behind_iri : List ℕ
  behind_iri = 41 ∷ (10 ∷ rest)

  abbrev behind_equals : List ℕ
  behind_equals = iri_text prefix_iri_of_workloads ++ behind_iri

  abbrev behind_open : List ℕ
  behind_open = 58 ∷ (61 ∷ behind_equals)

  abbrev first_line : List ℕ
  first_line = codes "Prefix" ++ (40 ∷ behind_open)

  cuts_prefix : Cuts None 0 1
      (codes "Prefix" ++ (40 ∷ (58 ∷ (61 ∷ (iri_text prefix_iri_of_workloads ++ (41 ∷ (10 ∷ rest))))))) prefix_tokens 34
      2 rest
  cuts_prefix =
      cuts_both None 0 1 first_line (token Name (codes "Prefix") 0 1 ∷ []) 6 1 (40 ∷ behind_open)
      (token OpenBracket (40 ∷ []) 6 1
      ∷ (token Name (58 ∷ []) 7 1
      ∷ (token Equals (61 ∷ []) 8 1
      ∷ (token Iri prefix_iri_of_workloads 9 1 ∷ (token CloseBracket (41 ∷ []) 32 1 ∷ [])))))
      34 2 rest
      (cuts_name None 0 1 (codes "Prefix") (40 ∷ behind_open) refl refl)
      (cuts_both None 6 1 (40 ∷ behind_open) (token OpenBracket (40 ∷ []) 6 1 ∷ []) 7 1 behind_open
      (token Name (58 ∷ []) 7 1
      ∷ (token Equals (61 ∷ []) 8 1
      ∷ (token Iri prefix_iri_of_workloads 9 1 ∷ (token CloseBracket (41 ∷ []) 32 1 ∷ []))))
      34 2 rest
      (cuts_open None 6 1 behind_open)
      (cuts_both None 7 1 behind_open (token Name (58 ∷ []) 7 1 ∷ []) 8 1 (61 ∷ behind_equals)
      (token Equals (61 ∷ []) 8 1 ∷ (token Iri prefix_iri_of_workloads 9 1 ∷ (token CloseBracket (41 ∷ []) 32 1 ∷ [])))
      34 2 rest
      (cuts_name None 7 1 (58 ∷ []) (61 ∷ behind_equals) refl refl)
      (cuts_both None 8 1 (61 ∷ behind_equals) (token Equals (61 ∷ []) 8 1 ∷ []) 9 1 behind_equals
      (token Iri prefix_iri_of_workloads 9 1 ∷ (token CloseBracket (41 ∷ []) 32 1 ∷ [])) 34 2 rest
      (cuts_equals None 8 1 behind_equals)
      (cuts_both None 9 1 behind_equals (token Iri prefix_iri_of_workloads 9 1 ∷ []) 32 1 behind_iri
      (token CloseBracket (41 ∷ []) 32 1 ∷ []) 34 2 rest
      (cuts_iri None 9 1 prefix_iri_of_workloads behind_iri refl)
      (cuts_both None 32 1 behind_iri (token CloseBracket (41 ∷ []) 32 1 ∷ []) 33 1 (10 ∷ rest) [] 34 2 rest
      (cuts_close None 32 1 (10 ∷ rest))
      (cuts_feed None 33 1 rest))))))

-- ---- the lines in the group `Ontology`

abbrev close_of : List Phrase → PlainToken
close_of ps = token CloseBracket (41 ∷ []) (66 + length (lines_text ps)) (3 + length ps)

abbrev ontology_tokens : List Phrase → List PlainToken
ontology_tokens ps =
    token Name (codes "Ontology") 34 2
    ∷ (token OpenBracket (40 ∷ []) 42 2 ∷ (token Iri ontology_iri 43 2 ∷ (lines_tokens 3 66 ps ++ close_of ps ∷ [])))

abbrev document_tokens : List Phrase → List PlainToken
document_tokens ps = prefix_tokens ++ ontology_tokens ps

abbrev pub ontology_item : List Phrase → Item
ontology_item ps = group_item (Some (codes "Ontology")) (item (iri_item ontology_iri 2) (lines_items 3 ps)) 2

abbrev pub document_items : List Phrase → List Item
document_items ps = prefix_item ∷ (ontology_item ps ∷ [])

module _ (ps : List Phrase) (stands : all_can_stand ps ≡ true) (utf8 : IsUtf8 (opened (lines_text ps)))
    (nests : nesting_all (lines_items 3 ps) ≤ 63) where
  abbrev place : ℕ
  place = 66 + length (lines_text ps)

  abbrev end : ℕ
  end = 3 + length ps

  abbrev closing_text : List ℕ
  closing_text = 41 ∷ (10 ∷ [])

  abbrev behind_ontology : List ℕ
  behind_ontology = iri_text ontology_iri ++ (10 ∷ (lines_text ps ++ closing_text))

  abbrev second_line : List ℕ
  second_line = codes "Ontology" ++ (40 ∷ behind_ontology)

  cuts_ontology : Cuts None 34 2
      (codes "Ontology" ++ (40 ∷ (iri_text ontology_iri ++ (10 ∷ (lines_text ps ++ (41 ∷ (10 ∷ [])))))))
      (ontology_tokens ps) (place + 1) end (10 ∷ [])
  cuts_ontology =
      cuts_both None 34 2 second_line (token Name (codes "Ontology") 34 2 ∷ []) 42 2 (40 ∷ behind_ontology)
      (token OpenBracket (40 ∷ []) 42 2 ∷ (token Iri ontology_iri 43 2 ∷ (lines_tokens 3 66 ps ++ close_of ps ∷ [])))
      (place + 1) end (10 ∷ [])
      (cuts_name None 34 2 (codes "Ontology") (40 ∷ behind_ontology) refl refl)
      (cuts_both None 42 2 (40 ∷ behind_ontology) (token OpenBracket (40 ∷ []) 42 2 ∷ []) 43 2 behind_ontology
      (token Iri ontology_iri 43 2 ∷ (lines_tokens 3 66 ps ++ close_of ps ∷ [])) (place + 1) end (10 ∷ [])
      (cuts_open None 42 2 behind_ontology)
      (cuts_both None 43 2 behind_ontology (token Iri ontology_iri 43 2 ∷ []) 65 2
      (10 ∷ (lines_text ps ++ closing_text)) (lines_tokens 3 66 ps ++ close_of ps ∷ []) (place + 1) end (10 ∷ [])
      (cuts_iri None 43 2 ontology_iri (10 ∷ (lines_text ps ++ closing_text)) refl)
      (cuts_both None 65 2 (10 ∷ (lines_text ps ++ closing_text)) [] 66 3 (lines_text ps ++ closing_text)
      (lines_tokens 3 66 ps ++ close_of ps ∷ []) (place + 1) end (10 ∷ [])
      (cuts_feed None 65 2 (lines_text ps ++ closing_text))
      (cuts_both None 66 3 (lines_text ps ++ closing_text) (lines_tokens 3 66 ps) place end closing_text
      (close_of ps ∷ []) (place + 1) end (10 ∷ [])
      (cuts_lines None 66 3 ps closing_text stands)
      (cuts_close None place end (10 ∷ []))))))

  cuts : Cuts None 0 1 (opened (lines_text ps)) (document_tokens ps) (place + 1) end (10 ∷ [])
  cuts =
      cuts_both None 0 1 (opened (lines_text ps)) prefix_tokens 34 2 second_line (ontology_tokens ps) (place + 1) end
      (10 ∷ []) (cuts_prefix second_line) cuts_ontology

  pieces_are : pieces (opened (lines_text ps)) ≡ wholes (document_tokens ps)
  pieces_are = pieces_of_utf8 (opened (lines_text ps)) utf8 ∙ cuts.cut ∙ append-nil (wholes (document_tokens ps))

  -- ---- the reading

  abbrev read_tokens : DocumentTokens
  read_tokens = record { tokens = document_tokens ps; place_behind = place + 1 }

  document_is : document (opened (lines_text ps)) ≡ Ok read_tokens
  document_is =
      let n : ℕ = length (opened (lines_text ps)) in
      let middle : Passes true n 1 nothing_met (lines_tokens 3 66 ps) 1 =
      passes_lines true n 1 nothing_met 3 66 ps (omega arith) in
      let name : PlainToken = token Name (codes "Ontology") 34 2 in
      let bracket : PlainToken = token OpenBracket (40 ∷ []) 42 2 in
      let iri : PlainToken = token Iri ontology_iri 43 2 in
      let split = wholes_append (lines_tokens 3 66 ps) (close_of ps ∷ []) in
      let inner =
      middle.goes (wholes (close_of ps ∷ [])) ∙ with_ok (lines_tokens 3 66 ps) (close_of ps ∷ []) (place + 1) in
      ap (document_front n nothing_met)
      (pieces_are ∙ ap (λ l. wholes prefix_tokens ++ (whole name 42 ∷ (whole bracket 43 ∷ (whole iri 65 ∷ l)))) split)
      ∙ ap (λ r. with_token (token Name (codes "Prefix") 0 1)
      (with_token (token OpenBracket (40 ∷ []) 6 1)
      (with_token (token Name (58 ∷ []) 7 1) (with_token (token Equals (61 ∷ []) 8 1)
      (with_token (token Iri prefix_iri_of_workloads 9 1)
      (with_token (token CloseBracket (41 ∷ []) 32 1) (with_token name (with_token bracket (with_token iri r)))))))))
      inner

  -- ---- the tree

  tree : IsTree (document_tokens ps) (document_items ps)
  tree = record {
    made =
        ap (λ (l : List Mark). opening (Some (codes "Prefix")) 1
        ∷ (single (name_item (58 ∷ []) 1)
        ∷ (single (sign_item Equals 1) ∷ (single (iri_item prefix_iri_of_workloads 1) ∷ (closing ∷ l)))))
        (append-nil
        (opening (Some (codes "Ontology")) 2
        ∷ (single (iri_item ontology_iri 2) ∷ (written_all (lines_items 3 ps) ++ closing ∷ [])))
        ∙ ap (λ (l : List Mark). opening (Some (codes "Ontology")) 2 ∷ (single (iri_item ontology_iri 2) ∷ l))
        (sym (marks_lines 3 66 ps (close_of ps ∷ []) refl)));
    nested = omega (arith, nests);
  }

  balanced : (last : ℕ) → bracket_fault last 0 (document_tokens ps) ≡ None
  balanced last = fault_lines last 1 3 66 ps (close_of ps ∷ []) (omega (arith, nests))

  pub has_items : HasItems (opened (lines_text ps)) (document_items ps) (place + 1)
  has_items = record {
    tokens = read_tokens;
    cut = ap result_ok document_is;
    balanced = balanced (end_line (opened (lines_text ps)));
    tree = tree;
    behind = refl;
  }
