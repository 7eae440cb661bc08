-- The tests of the lines of a document, and what they say.
use Rattle.std.proofs.Common.{◌≡◌, ℕ, suc, ◌+◌, ◌≤◌, Bool, true, false, not, cond, ◌&&◌, List, [], ◌∷◌, ◌++◌, length}
use Rattle.std.proofs.Common.{Option, Some, None, Ok, refl, ap, sym, ◌∙◌, subst, arith, append_assoc, append-nil}
use Rattle.std.proofs.Common.{length-append, codes, position}
use Rattle.std.specs.Prelude.{nat_le, is_none}
use Rattle.std.specs.List.{list_all}
use Rattle.std.specs.Str.{bytes_eq}
use Rattle.std.proofs.lemmas.Bool.{and_parts}
use Rattle.shq_terms.proofs.Bools.{false_from_not}
use Rattle.shq_terms.specs.Listed.{Listed}
use Rattle.shq_terms.specs.Names.{with_at, with_name}
use Rattle.shq_terms.specs.Uses.{axiom_uses_listed, all_use_listed}
use Rattle.shq_terms.specs.Distinct.{AreDistinct}
use Rattle.shq_terms.specs.declared.axioms.Numbered.{Numbered}
use Rattle.ofn_tree.specs.Items.{iri_item}
use Rattle.ofn_expressions.specs.Counts.{Counts}
use Rattle.ofn_expressions.specs.Walk.{Test, shape, class, role, individual, walked}
use Rattle.ofn_expressions.specs.Names.{predeclared}
use Rattle.ofn_expressions.specs.Constructs.{excluded_role_name}
use Rattle.ofn_expressions.specs.Classes.{is_thing, is_nothing, unless_excluded, declared_class_tests}
use Rattle.ofn_expressions.specs.Classes.{declared_role_tests}
use Rattle.ofn_expressions.specs.Individuals.{individual_tests}
use Rattle.ofn_expressions.specs.declared.construct.Construct.{Construct}
use Rattle.ofn_expressions.proofs.Walks.{goes_on}
use Rattle.ofn_reader.specs.Axioms.{axiom_tests, axioms_tests, axioms_in}
use Rattle.ofn_reader.specs.Held.{axiom_expressions}
use Rattle.text_laws.specs.Writable.{is_iri, is_class_iri, is_role_iri}
use Rattle.text_laws.proofs.Whole.{is_whole_axiom, counted_parts, total}
use Rattle.text_laws.specs.WritingLaws.{axioms_of}
use Rattle.text_laws.proofs.Checks.{le_true, no_more, one_further}
use Rattle.text_laws.proofs.Phrases.{Phrase, iri, call, item_of, lines_items}
use Rattle.text_laws.proofs.Terms.{one, axiom_phrase}
use Rattle.text_laws.proofs.Keywords.{class_declared, role_declared, individual_declared, no_axiom}
use Rattle.text_laws.proofs.Walks.{step, AreKnown, counted}
use Rattle.text_laws.proofs.Axioms.{axiom_walk, axiom_value}
use Rattle.text_laws.proofs.Prefixes.{owl_known}
use Rattle.text_laws.proofs.Places.{fresh}

abbrev pub declaration : List ℕ → List ℕ → Phrase
declaration kind w = call (codes "Declaration") (one (call kind (one (iri w))))

abbrev pub declarations : List ℕ → List (List ℕ) → List Phrase
declarations kind [] = []
declarations kind (w ∷ ws) = declaration kind w ∷ declarations kind ws

abbrev pub axiom_phrases : Listed → List Numbered → List Phrase
axiom_phrases o [] = []
axiom_phrases o (a ∷ more) = axiom_phrase o a.axiom ∷ axiom_phrases o more

-- ---- declarations

-- the tests of lines, from a line on
abbrev tests_on : ℕ → List Phrase → List Test
tests_on n ps = axioms_tests predeclared (lines_items n ps)

-- names that are declared one after another are listed so
module _ (kind : List ℕ) (holding : List (List ℕ) → Counts) (is_good : List ℕ → Bool) (limit : ℕ)
    (declares : (before : List (List ℕ)) (w : List ℕ) (n : ℕ) → position (bytes_eq w) before ≡ None → is_good w ≡ true
    → length before + 1 ≤ limit
    → walked (holding before) (axiom_tests predeclared (item_of n (declaration kind w)))
    ≡ Ok (holding (before ++ w ∷ []))) where
  names_walk : (before after : List (List ℕ)) (n : ℕ) (ps : List Phrase) → AreDistinct (before ++ after)
      → list_all is_good after ≡ true → length (before ++ after) ≤ limit
      → walked (holding before) (tests_on n (declarations kind after ++ ps))
      ≡ walked (holding (before ++ after)) (tests_on (n + length after) ps)
  names_walk before [] n ps distinct good few =
      let same : before ≡ before ++ [] = sym (append-nil before) in
      λ i. walked (holding (same i)) (tests_on (no_more n i) ps)
  names_walk before (w ∷ after) n ps distinct good few =
      let moved : (before ++ w ∷ []) ++ after ≡ before ++ w ∷ after = append_assoc before (w ∷ []) after in
      let long : length (before ++ w ∷ after) ≡ length before + suc (length after) = length-append before (w ∷ after) in
      goes_on (holding before) (holding (before ++ w ∷ [])) (axiom_tests predeclared (item_of n (declaration kind w)))
      (tests_on (n + 1) (declarations kind after ++ ps))
      (declares before w n (fresh before w after distinct) (and_parts (is_good w) (list_all is_good after) good).0
      (omega (arith, long, few)))
      ∙ names_walk (before ++ w ∷ []) after (n + 1) ps (subst AreDistinct (sym moved) distinct)
      (and_parts (is_good w) (list_all is_good after) good).1 (subst (λ l. length l ≤ limit) (sym moved) few)
      ∙ (λ i. walked (holding (moved i)) (tests_on (one_further n (length after) i) ps))

abbrev no_names : List (List ℕ)
no_names = []

-- so many names are listed
abbrev pub naming : List (List ℕ) → List (List ℕ) → List (List ℕ) → Counts
naming classes roles individuals =
    record { axioms = 0; parts = 0; nodes = 0; classes = classes; roles = roles; individuals = individuals }

with_new : (before : List (List ℕ)) (w : List ℕ) → position (bytes_eq w) before ≡ None
    → with_name before w ≡ before ++ w ∷ []
with_new before w new = ap (λ r. with_at r before w) new

one_longer : (before : List (List ℕ)) (w : List ℕ) (limit : ℕ) → length before + 1 ≤ limit
    → nat_le (length (before ++ w ∷ [])) limit ≡ true
one_longer before w limit few =
    le_true (length (before ++ w ∷ [])) limit (omega (arith, length-append before (w ∷ []), few))

class_step : (before : List (List ℕ)) (w : List ℕ) (n : ℕ) → position (bytes_eq w) before ≡ None → is_class_iri w ≡ true
    → length before + 1 ≤ 20000
    → walked (naming before [] []) (axiom_tests predeclared (item_of n (declaration (codes "Class") w)))
    ≡ Ok (naming (before ++ w ∷ []) [] [])
class_step before w n new good few =
    let names : (not (is_thing w) && not (is_nothing w)) ≡ true =
    (and_parts (is_iri w) (not (is_thing w) && not (is_nothing w)) good).1 in
    let no_thing : is_thing w ≡ false =
    false_from_not (is_thing w) (and_parts (not (is_thing w)) (not (is_nothing w)) names).0 in
    let no_nothing : is_nothing w ≡ false =
    false_from_not (is_nothing w) (and_parts (not (is_thing w)) (not (is_nothing w)) names).1 in
    let s : Counts = naming before [] [] in
    let same : with_name before w ≡ before ++ w ∷ [] = with_new before w new in
    ap (walked s) (class_declared predeclared n (iri_item w n))
    ∙ step s (shape n true) (shape n true ∷ declared_class_tests predeclared (iri_item w n)) refl
    ∙ step s (shape n true) (declared_class_tests predeclared (iri_item w n)) refl
    ∙ (λ i. walked s (cond (no_thing i) [] (cond (no_nothing i) [] (class n w ∷ []))))
    ∙ step s (class n w) [] (ap (λ l. nat_le (length l) 20000) same ∙ one_longer before w 20000 few)
    ∙ ap (λ l. Ok (naming l [] [])) same

role_step : (classes before : List (List ℕ)) (w : List ℕ) (n : ℕ) → position (bytes_eq w) before ≡ None
    → is_role_iri w ≡ true → length before + 1 ≤ 1000
    → walked (naming classes before []) (axiom_tests predeclared (item_of n (declaration (codes "ObjectProperty") w)))
    ≡ Ok (naming classes (before ++ w ∷ []) [])
role_step classes before w n new good few =
    let included : excluded_role_name w ≡ None =
    none_of (excluded_role_name w) (and_parts (is_iri w) (is_none (excluded_role_name w)) good).1 in
    let s : Counts = naming classes before [] in
    let same : with_name before w ≡ before ++ w ∷ [] = with_new before w new in
    ap (walked s) (role_declared predeclared n (iri_item w n))
    ∙ step s (shape n true) (shape n true ∷ declared_role_tests predeclared (iri_item w n)) refl
    ∙ step s (shape n true) (declared_role_tests predeclared (iri_item w n)) refl
    ∙ ap (λ e. walked s (unless_excluded e n w)) included
    ∙ step s (role n w) [] (ap (λ l. nat_le (length l) 1000) same ∙ one_longer before w 1000 few)
    ∙ ap (λ l. Ok (naming classes l [])) same
  where
    none_of : (e : Option Construct) → is_none e ≡ true → e ≡ None
    none_of None h = refl
    none_of (Some c) h = cc

individual_step : (classes roles before : List (List ℕ)) (w : List ℕ) (n : ℕ) → position (bytes_eq w) before ≡ None
    → is_iri w ≡ true → length before + 1 ≤ 20000
    → walked (naming classes roles before)
    (axiom_tests predeclared (item_of n (declaration (codes "NamedIndividual") w)))
    ≡ Ok (naming classes roles (before ++ w ∷ []))
individual_step classes roles before w n new good few =
    let s : Counts = naming classes roles before in
    let same : with_name before w ≡ before ++ w ∷ [] = with_new before w new in
    ap (walked s) (individual_declared predeclared n (iri_item w n))
    ∙ step s (shape n true) (shape n true ∷ individual_tests predeclared (iri_item w n)) refl
    ∙ step s (shape n true) (individual_tests predeclared (iri_item w n)) refl
    ∙ step s (individual n w) [] (ap (λ l. nat_le (length l) 20000) same ∙ one_longer before w 20000 few)
    ∙ ap (λ l. Ok (naming classes roles l)) same

pub classes_walk : (classes : List (List ℕ)) (n : ℕ) (ps : List Phrase) → AreDistinct classes
    → list_all is_class_iri classes ≡ true → length classes ≤ 20000
    → walked (naming [] [] []) (tests_on n (declarations (codes "Class") classes ++ ps))
    ≡ walked (naming classes [] []) (tests_on (n + length classes) ps)
classes_walk classes n ps distinct good few =
    names_walk (codes "Class") (λ l. naming l [] []) is_class_iri 20000 class_step [] classes n ps distinct good few

pub roles_walk : (classes roles : List (List ℕ)) (n : ℕ) (ps : List Phrase) → AreDistinct roles
    → list_all is_role_iri roles ≡ true → length roles ≤ 1000
    → walked (naming classes [] []) (tests_on n (declarations (codes "ObjectProperty") roles ++ ps))
    ≡ walked (naming classes roles []) (tests_on (n + length roles) ps)
roles_walk classes roles n ps distinct good few =
    names_walk (codes "ObjectProperty") (λ l. naming classes l []) is_role_iri 1000 (role_step classes) [] roles n ps
    distinct good few

pub individuals_walk : (classes roles individuals : List (List ℕ)) (n : ℕ) (ps : List Phrase) → AreDistinct individuals
    → list_all is_iri individuals ≡ true → length individuals ≤ 20000
    → walked (naming classes roles []) (tests_on n (declarations (codes "NamedIndividual") individuals ++ ps))
    ≡ walked (naming classes roles individuals) (tests_on (n + length individuals) ps)
individuals_walk classes roles individuals n ps distinct good few =
    names_walk (codes "NamedIndividual") (λ l. naming classes roles l) is_iri 20000 (individual_step classes roles) []
    individuals n ps distinct good few

-- declarations are no axioms
pub declarations_value : (kind : List ℕ) (s : Counts) (ws : List (List ℕ)) (n : ℕ) (ps : List Phrase)
    → axioms_in predeclared s (lines_items n (declarations kind ws ++ ps))
    ≡ axioms_in predeclared s (lines_items (n + length ws) ps)
declarations_value kind s [] n ps = ap (λ k. axioms_in predeclared s (lines_items k ps)) (no_more n)
declarations_value kind s (w ∷ ws) n ps =
    ap (λ l. l ++ axioms_in predeclared s (lines_items (n + 1) (declarations kind ws ++ ps)))
    (no_axiom predeclared n (iri_item w n) kind s)
    ∙ declarations_value kind s ws (n + 1) ps
    ∙ ap (λ k. axioms_in predeclared s (lines_items k ps)) (one_further n (length ws))

-- ---- axioms

module _ (o : Listed) (names : AreKnown o) where
  abbrev known : Numbered → Bool
  known a = axiom_uses_listed (length o.classes) (length o.roles) (length o.individuals) a.axiom

  pub axioms_walk : (as_ : List Numbered) (x p k n : ℕ)
      → all_use_listed (length o.classes) (length o.roles) (length o.individuals) as_ ≡ true
      → list_all (λ (a : Numbered). is_whole_axiom a.axiom) as_ ≡ true
      → x + length as_ ≤ 20000 → p + total counted_parts as_ ≤ 500000 → k + total axiom_expressions as_ ≤ 262144
      → walked (counted o x p k) (tests_on n (axiom_phrases o as_))
      ≡ Ok (counted o (x + length as_) (p + total counted_parts as_) (k + total axiom_expressions as_))
  axioms_walk [] x p k n listed whole few few_parts few_nodes =
      λ i. Ok (counted o (no_more x i) (no_more p i) (no_more k i))
  axioms_walk (a ∷ more) x p k n listed whole few few_parts few_nodes =
      let e : ℕ = axiom_expressions a.axiom in
      let q : ℕ = counted_parts a.axiom in
      let others : Bool = all_use_listed (length o.classes) (length o.roles) (length o.individuals) more in
      let good : Bool = list_all (λ (b : Numbered). is_whole_axiom b.axiom) more in
      let x_is : x + 1 + length more ≡ x + suc (length more) = omega arith in
      let p_is : p + q + total counted_parts more ≡ p + (q + total counted_parts more) = omega arith in
      let k_is : k + e + total axiom_expressions more ≡ k + (e + total axiom_expressions more) = omega arith in
      goes_on (counted o x p k) (counted o (x + 1) (p + q) (k + e))
      (axiom_tests predeclared (item_of n (axiom_phrase o a.axiom))) (tests_on (n + 1) (axiom_phrases o more))
      (axiom_walk predeclared owl_known o names x p k n a.axiom (and_parts (known a) others listed).0
      (and_parts (is_whole_axiom a.axiom) good whole).0 (omega (arith, few)) (omega (arith, few_parts))
      (omega (arith, few_nodes)))
      ∙ axioms_walk more (x + 1) (p + q) (k + e) (n + 1) (and_parts (known a) others listed).1
      (and_parts (is_whole_axiom a.axiom) good whole).1 (omega (arith, few)) (omega (arith, few_parts))
      (omega (arith, few_nodes))
      ∙ (λ i. Ok (counted o (x_is i) (p_is i) (k_is i)))

  pub axioms_value : (x p k : ℕ) (as_ : List Numbered) (n : ℕ)
      → all_use_listed (length o.classes) (length o.roles) (length o.individuals) as_ ≡ true
      → list_all (λ (a : Numbered). is_whole_axiom a.axiom) as_ ≡ true
      → axioms_of (axioms_in predeclared (counted o x p k) (lines_items n (axiom_phrases o as_))) ≡ axioms_of as_
  axioms_value x p k [] n listed whole = refl
  axioms_value x p k (a ∷ more) n listed whole =
      let s : Counts = counted o x p k in
      let others : Bool = all_use_listed (length o.classes) (length o.roles) (length o.individuals) more in
      let good : Bool = list_all (λ (b : Numbered). is_whole_axiom b.axiom) more in
      ap (λ l. axioms_of (l ++ axioms_in predeclared s (lines_items (n + 1) (axiom_phrases o more))))
      (axiom_value predeclared owl_known o names x p k n a.axiom (and_parts (known a) others listed).0
      (and_parts (is_whole_axiom a.axiom) good whole).0)
      ∙ ap (λ l. a.axiom ∷ l)
      (axioms_value x p k more (n + 1) (and_parts (known a) others listed).1
      (and_parts (is_whole_axiom a.axiom) good whole).1)
