-- The text of an ontology as lines of phrases.
use Rattle.std.proofs.Common.{◌≡◌, ℕ, ◌+◌, ◌≤◌, Bool, true, ◌&&◌, List, [], ◌∷◌, ◌++◌, length, refl, ap, sym, ◌∙◌}
use Rattle.std.proofs.Common.{arith, append_assoc, codes}
use Rattle.std.specs.Prelude.{nat_le, is_none, not}
use Rattle.std.specs.List.{list_all}
use Rattle.std.specs.Str.{IsUtf8}
use Rattle.std.proofs.lemmas.Str.{IsUtf8-append, IsUtf8-nil}
use Rattle.std.proofs.lemmas.Bool.{and_parts, and_from}
use Rattle.shq_terms.specs.Listed.{Listed}
use Rattle.shq_terms.specs.Uses.{axiom_uses_listed, all_use_listed}
use Rattle.shq_terms.specs.declared.axioms.Numbered.{Numbered}
use Rattle.ofn_tree.specs.Items.{nesting, nesting_all}
use Rattle.ofn_expressions.specs.Constructs.{excluded_role_name}
use Rattle.ofn_expressions.specs.Classes.{is_thing, is_nothing}
use Rattle.ofn_writer.specs.Canonical.{items_text, line, declaration_lines, axiom_lines, ontology_text}
use Rattle.text_laws.specs.Writable.{is_iri, axiom_brackets, CanBeWritten}
use Rattle.text_laws.proofs.Whole.{has_item_count, has_whole_items, is_whole_axiom, whole_of}
use Rattle.text_laws.proofs.Checks.{true_le}
use Rattle.text_laws.proofs.Phrases.{Phrase, word, iri, call, Phrases, none, more, text_of, texts_of, can_stand}
use Rattle.text_laws.proofs.Phrases.{all_can_stand, item_of, lines_text, lines_items}
use Rattle.text_laws.proofs.Terms.{one, axiom_phrase, axiom_written, axiom_nests, IsText, AreTexts, AreSpelled, Stands}
use Rattle.text_laws.proofs.Terms.{iri_stands, stands_call, stand_one, low_text, axiom_stands}
use Rattle.text_laws.proofs.Declared.{declaration, declarations, axiom_phrases}

-- ---- UTF-8

mutual
  pub text_utf8 : (p : Phrase) → IsText p → IsUtf8 (text_of p)
  text_utf8 (word w) h = h
  text_utf8 (iri w) h =
      IsUtf8-append (60 ∷ []) (w ++ 62 ∷ []) (low_text (60 ∷ []) refl)
      (IsUtf8-append w (62 ∷ []) h (low_text (62 ∷ []) refl))
  text_utf8 (call w ps) h =
      IsUtf8-append w (40 ∷ (items_text (texts_of ps) ++ 41 ∷ [])) h.0
      (IsUtf8-append (40 ∷ []) (items_text (texts_of ps) ++ 41 ∷ []) (low_text (40 ∷ []) refl)
      (IsUtf8-append (items_text (texts_of ps)) (41 ∷ []) (texts_utf8 ps h.1) (low_text (41 ∷ []) refl)))

  texts_utf8 : (ps : Phrases) → AreTexts ps → IsUtf8 (items_text (texts_of ps))
  texts_utf8 none h = IsUtf8-nil
  texts_utf8 (more p none) h = IsUtf8-append (text_of p) [] (text_utf8 p h.0) IsUtf8-nil
  texts_utf8 (more p (more q qs)) h =
      IsUtf8-append (text_of p) (32 ∷ items_text (texts_of (more q qs))) (text_utf8 p h.0)
      (IsUtf8-append (32 ∷ []) (items_text (texts_of (more q qs))) (low_text (32 ∷ []) refl)
      (texts_utf8 (more q qs) h.1))

abbrev pub AllText : List Phrase → Type 0
AllText [] = Unit {0}
AllText (p ∷ ps) = IsText p × AllText ps

pub lines_utf8 : (ps : List Phrase) → AllText ps → IsUtf8 (lines_text ps)
lines_utf8 [] h = IsUtf8-nil
lines_utf8 (p ∷ ps) h =
    IsUtf8-append (line (text_of p)) (lines_text ps)
    (IsUtf8-append (text_of p) (10 ∷ []) (text_utf8 p h.0) (low_text (10 ∷ []) refl)) (lines_utf8 ps h.1)

-- ---- the lines of an ontology

abbrev pub document_phrases : Listed → List Phrase
document_phrases o =
    declarations (codes "Class") o.classes
    ++ (declarations (codes "ObjectProperty") o.roles
    ++ (declarations (codes "NamedIndividual") o.individuals ++ axiom_phrases o o.axioms))

pub lines_append : (ps qs : List Phrase) → lines_text (ps ++ qs) ≡ lines_text ps ++ lines_text qs
lines_append [] qs = refl
lines_append (p ∷ ps) qs =
    ap (λ l. line (text_of p) ++ l) (lines_append ps qs)
    ∙ sym (append_assoc (line (text_of p)) (lines_text ps) (lines_text qs))

declared_lines : (kind : List ℕ) (ws : List (List ℕ)) → declaration_lines kind ws ≡ lines_text (declarations kind ws)
declared_lines kind [] = refl
declared_lines kind (w ∷ ws) = ap (λ l. line (text_of (declaration kind w)) ++ l) (declared_lines kind ws)

said_lines : (o : Listed) (as_ : List Numbered) → axiom_lines o as_ ≡ lines_text (axiom_phrases o as_)
said_lines o [] = refl
said_lines o (a ∷ rest) =
    let first = axiom_written o a.axiom in
    let others = said_lines o rest in
    λ i. line (sym first i) ++ others i

abbrev pub opened : List ℕ → List ℕ
opened inner = codes "Ontology" ++ (40 ∷ (10 ∷ (inner ++ (41 ∷ (10 ∷ [])))))

brought : (a b c d end : List ℕ) → a ++ (b ++ (c ++ (d ++ end))) ≡ (a ++ (b ++ (c ++ d))) ++ end
brought a b c d end =
    ap (λ l. a ++ (b ++ l)) (sym (append_assoc c d end))
    ∙ ap (λ l. a ++ l) (sym (append_assoc b (c ++ d) end))
    ∙ sym (append_assoc a (b ++ (c ++ d)) end)

pub text_is : (o : Listed) → ontology_text o ≡ opened (lines_text (document_phrases o))
text_is o =
    let classes : List Phrase = declarations (codes "Class") o.classes in
    let roles : List Phrase = declarations (codes "ObjectProperty") o.roles in
    let individuals : List Phrase = declarations (codes "NamedIndividual") o.individuals in
    let d1 : declaration_lines (codes "Class") o.classes ≡ lines_text classes =
    declared_lines (codes "Class") o.classes in
    let d2 : declaration_lines (codes "ObjectProperty") o.roles ≡ lines_text roles =
    declared_lines (codes "ObjectProperty") o.roles in
    let d3 : declaration_lines (codes "NamedIndividual") o.individuals ≡ lines_text individuals =
    declared_lines (codes "NamedIndividual") o.individuals in
    let a : axiom_lines o o.axioms ≡ lines_text (axiom_phrases o o.axioms) = said_lines o o.axioms in
    let inner : lines_text (document_phrases o)
    ≡ lines_text classes ++ (lines_text roles ++ (lines_text individuals ++ lines_text (axiom_phrases o o.axioms))) =
    lines_append classes (roles ++ (individuals ++ axiom_phrases o o.axioms))
    ∙ ap (λ l. lines_text classes ++ l) (lines_append roles (individuals ++ axiom_phrases o o.axioms))
    ∙ ap (λ l. lines_text classes ++ (lines_text roles ++ l)) (lines_append individuals (axiom_phrases o o.axioms)) in
    let whole :
    declaration_lines (codes "Class") o.classes
    ++ (declaration_lines (codes "ObjectProperty") o.roles
    ++ (declaration_lines (codes "NamedIndividual") o.individuals ++ (axiom_lines o o.axioms ++ (41 ∷ (10 ∷ [])))))
    ≡ lines_text (document_phrases o) ++ (41 ∷ (10 ∷ [])) =
    (λ i. d1 i ++ (d2 i ++ (d3 i ++ (a i ++ (41 ∷ (10 ∷ []))))))
    ∙ brought (lines_text classes) (lines_text roles) (lines_text individuals) (lines_text (axiom_phrases o o.axioms))
    (41 ∷ (10 ∷ []))
    ∙ ap (λ l. l ++ (41 ∷ (10 ∷ []))) (sym inner) in
    ap (λ l. codes "Ontology" ++ (40 ∷ (10 ∷ l))) whole

pub opened_utf8 : (ps : List Phrase) → AllText ps → IsUtf8 (opened (lines_text ps))
opened_utf8 ps h =
    IsUtf8-append (codes "Ontology(" ++ 10 ∷ []) (lines_text ps ++ (41 ∷ (10 ∷ [])))
    (low_text (codes "Ontology(" ++ 10 ∷ []) refl)
    (IsUtf8-append (lines_text ps) (41 ∷ (10 ∷ [])) (lines_utf8 ps h) (low_text (41 ∷ (10 ∷ [])) refl))

-- ---- each line may stand

abbrev AllStand : List Phrase → Type 0
AllStand ps = (all_can_stand ps ≡ true) × AllText ps

append_stand : (ps qs : List Phrase) → AllStand ps → AllStand qs → AllStand (ps ++ qs)
append_stand [] qs first second = second
append_stand (p ∷ ps) qs first second =
    let others : AllStand (ps ++ qs) =
    append_stand ps qs ((and_parts (can_stand p) (all_can_stand ps) first.0).1, first.1.1) second in (
      and_from (can_stand p) (all_can_stand (ps ++ qs)) (and_parts (can_stand p) (all_can_stand ps) first.0).0 others.0,
      (first.1.0, others.1),
    )

cons_stand : (p : Phrase) (ps : List Phrase) → Stands p → AllStand ps → AllStand (p ∷ ps)
cons_stand p ps first others = (and_from (can_stand p) (all_can_stand ps) first.0 others.0, (first.1, others.1))

class_stands : (w : List ℕ) → Stands (iri w) → Stands (declaration (codes "Class") w)
class_stands w h =
    stands_call (codes "Declaration") (one (call (codes "Class") (one (iri w)))) refl refl
    (stand_one (call (codes "Class") (one (iri w)))
    (stands_call (codes "Class") (one (iri w)) refl refl (stand_one (iri w) h)))

role_stands : (w : List ℕ) → Stands (iri w) → Stands (declaration (codes "ObjectProperty") w)
role_stands w h =
    stands_call (codes "Declaration") (one (call (codes "ObjectProperty") (one (iri w)))) refl refl
    (stand_one (call (codes "ObjectProperty") (one (iri w)))
    (stands_call (codes "ObjectProperty") (one (iri w)) refl refl (stand_one (iri w) h)))

individual_stands : (w : List ℕ) → Stands (iri w) → Stands (declaration (codes "NamedIndividual") w)
individual_stands w h =
    stands_call (codes "Declaration") (one (call (codes "NamedIndividual") (one (iri w)))) refl refl
    (stand_one (call (codes "NamedIndividual") (one (iri w)))
    (stands_call (codes "NamedIndividual") (one (iri w)) refl refl (stand_one (iri w) h)))

-- nothing else is asked of the name of an individual
nothing_else : (ws : List (List ℕ)) → list_all is_iri ws ≡ true → list_all (λ w. is_iri w && true) ws ≡ true
nothing_else [] h = refl
nothing_else (w ∷ ws) h =
    let both = and_parts (is_iri w) (list_all is_iri ws) h in
    and_from (is_iri w && true) (list_all (λ v. is_iri v && true) ws) (and_from (is_iri w) true both.0 refl)
    (nothing_else ws both.1)

declarations_stand : (kind : List ℕ) → ((w : List ℕ) → Stands (iri w) → Stands (declaration kind w))
    → (also : List ℕ → Bool) (ws : List (List ℕ)) → list_all (λ w. is_iri w && also w) ws ≡ true
    → AllStand (declarations kind ws)
declarations_stand kind stands also [] h = (refl, tt)
declarations_stand kind stands also (w ∷ ws) h =
    cons_stand (declaration kind w) (declarations kind ws)
    (stands w (iri_stands w (also w) (and_parts (is_iri w && also w) (list_all (λ v. is_iri v && also v) ws) h).0))
    (declarations_stand kind stands also ws
    (and_parts (is_iri w && also w) (list_all (λ v. is_iri v && also v) ws) h).1)

module _ (o : Listed) (names : AreSpelled o) where
  abbrev known : Numbered → Bool
  known a = axiom_uses_listed (length o.classes) (length o.roles) (length o.individuals) a.axiom

  axioms_stand : (as_ : List Numbered)
      → all_use_listed (length o.classes) (length o.roles) (length o.individuals) as_ ≡ true
      → list_all (λ (a : Numbered). is_whole_axiom a.axiom) as_ ≡ true → AllStand (axiom_phrases o as_)
  axioms_stand [] listed whole = (refl, tt)
  axioms_stand (a ∷ rest) listed whole =
      let others : Bool = all_use_listed (length o.classes) (length o.roles) (length o.individuals) rest in
      let good : Bool = list_all (λ (b : Numbered). is_whole_axiom b.axiom) rest in
      let here : is_whole_axiom a.axiom ≡ true = (and_parts (is_whole_axiom a.axiom) good whole).0 in
      cons_stand (axiom_phrase o a.axiom) (axiom_phrases o rest)
      (axiom_stands o names a.axiom (and_parts (known a) others listed).0
      (and_parts (has_item_count a.axiom) (has_whole_items a.axiom) here).1)
      (axioms_stand rest (and_parts (known a) others listed).1 (and_parts (is_whole_axiom a.axiom) good whole).1)

  pub document_stands : CanBeWritten o → AllStand (document_phrases o)
  document_stands can =
      append_stand (declarations (codes "Class") o.classes)
      (declarations (codes "ObjectProperty") o.roles
      ++ (declarations (codes "NamedIndividual") o.individuals ++ axiom_phrases o o.axioms))
      (declarations_stand (codes "Class") class_stands (λ w. not (is_thing w) && not (is_nothing w)) o.classes
      can.class_iris)
      (append_stand (declarations (codes "ObjectProperty") o.roles)
      (declarations (codes "NamedIndividual") o.individuals ++ axiom_phrases o o.axioms)
      (declarations_stand (codes "ObjectProperty") role_stands (λ w. is_none (excluded_role_name w)) o.roles
      can.role_iris)
      (append_stand (declarations (codes "NamedIndividual") o.individuals) (axiom_phrases o o.axioms)
      (declarations_stand (codes "NamedIndividual") individual_stands (λ w. true) o.individuals
      (nothing_else o.individuals can.individual_iris))
      (axioms_stand o.axioms can.within.listed (whole_of o can))))

-- ---- how deep they nest

abbrev pub Nests : ℕ → List Phrase → Type 0
Nests n ps = nesting_all (lines_items n ps) ≤ 63

pub append_nests : (n : ℕ) (ps qs : List Phrase) → Nests n ps → ((m : ℕ) → Nests m qs) → Nests n (ps ++ qs)
append_nests n [] qs first second = second n
append_nests n (p ∷ ps) qs first second =
    let others : nesting_all (lines_items (n + 1) (ps ++ qs)) ≤ 63 =
    append_nests (n + 1) ps qs (omega (arith, first)) second in
    omega (arith, first, others)

declarations_nest : (kind : List ℕ) (n : ℕ) (ws : List (List ℕ)) → Nests n (declarations kind ws)
declarations_nest kind n [] = omega arith
declarations_nest kind n (w ∷ ws) = omega (arith, declarations_nest kind (n + 1) ws)

axioms_nest : (o : Listed) (as_ : List Numbered) → list_all (λ (a : Numbered). is_whole_axiom a.axiom) as_ ≡ true
    → list_all (λ (a : Numbered). nat_le (axiom_brackets a.axiom) 63) as_ ≡ true → (n : ℕ)
    → Nests n (axiom_phrases o as_)
axioms_nest o [] whole nested n = omega arith
axioms_nest o (a ∷ rest) whole nested n =
    let good : Bool = list_all (λ (b : Numbered). is_whole_axiom b.axiom) rest in
    let flat : Bool = list_all (λ (b : Numbered). nat_le (axiom_brackets b.axiom) 63) rest in
    let here : is_whole_axiom a.axiom ≡ true = (and_parts (is_whole_axiom a.axiom) good whole).0 in
    let deep : nesting (item_of n (axiom_phrase o a.axiom)) ≡ axiom_brackets a.axiom =
    axiom_nests o n a.axiom (and_parts (has_item_count a.axiom) (has_whole_items a.axiom) here).1 in
    let few : axiom_brackets a.axiom ≤ 63 =
    true_le (axiom_brackets a.axiom) 63 (and_parts (nat_le (axiom_brackets a.axiom) 63) flat nested).0 in
    let others : nesting_all (lines_items (n + 1) (axiom_phrases o rest)) ≤ 63 =
    axioms_nest o rest (and_parts (is_whole_axiom a.axiom) good whole).1
    (and_parts (nat_le (axiom_brackets a.axiom) 63) flat nested).1 (n + 1) in
    omega (arith, deep, few, others)

pub document_nests : (o : Listed) → CanBeWritten o → (n : ℕ) → Nests n (document_phrases o)
document_nests o can n =
    append_nests n (declarations (codes "Class") o.classes)
    (declarations (codes "ObjectProperty") o.roles
    ++ (declarations (codes "NamedIndividual") o.individuals ++ axiom_phrases o o.axioms))
    (declarations_nest (codes "Class") n o.classes)
    (λ m. append_nests m (declarations (codes "ObjectProperty") o.roles)
    (declarations (codes "NamedIndividual") o.individuals ++ axiom_phrases o o.axioms)
    (declarations_nest (codes "ObjectProperty") m o.roles)
    (λ k. append_nests k (declarations (codes "NamedIndividual") o.individuals) (axiom_phrases o o.axioms)
    (declarations_nest (codes "NamedIndividual") k o.individuals) (axioms_nest o o.axioms (whole_of o can) can.nested)))
