-- What a text says is unique.
use Rattle.std.proofs.Common.{◌≡◌, ℕ, List, [], ◌∷◌, Option, Some, None, Ok, Err, ap, sym, ◌∙◌, subst, arith}
use Rattle.shq_terms.specs.Concept.{Concept}
use Rattle.shq_terms.specs.Listed.{Listed}
use Rattle.shq_terms.specs.declared.axioms.Axiom.{Axiom}
use Rattle.shq_terms.specs.declared.axioms.Numbered.{Numbered}
use Rattle.shq_terms.specs.declared.axioms.Query.{Query}
use Rattle.ofn_tree.specs.Lexemes.{end_line}
use Rattle.ofn_tree.specs.Items.{Item, IsTree}
use Rattle.ofn_tree.specs.Document.{DocumentTokens, reading}
use Rattle.ofn_tree.specs.declared.fault.TextFault.{TextFault}
use Rattle.ofn_tree.proofs.Unique.{unique}
use Rattle.ofn_expressions.specs.Counts.{Counts}
use Rattle.ofn_expressions.specs.Walk.{Test, walked}
use Rattle.ofn_expressions.specs.Names.{Prefix, predeclared}
use Rattle.ofn_expressions.specs.declared.refusal.Refusal.{Refusal}
use Rattle.ofn_expressions.specs.declared.refusal.Refusal.TheVariants.{Text, BadShape, UnknownPrefix, PrefixClash}
use Rattle.ofn_expressions.specs.declared.refusal.Refusal.TheVariants.{Outside, NotSimple, Limit, NoMemory}
use Rattle.ofn_reader.specs.DocumentContext.{DocumentContext}
use Rattle.ofn_reader.specs.Texts.{tree_fault, fault_or_else, text_fault, HasItems, Fails, IsRefusedBy}
use Rattle.ofn_reader.specs.Documents.{start, document_tests, document_axioms, document_prefixes, IsDocument}
use Rattle.ofn_reader.specs.Documents.{IsNoDocument}
use Rattle.ofn_reader.specs.Queries.{query_tests, class_query_tests, first_query, first_class, IsQuery, IsClass}
use Rattle.ofn_reader.specs.Queries.{IsNoQuery, IsNoClass, long, refused}
use Rattle.ofn_reader.specs.Additions.{addition_tests, first_axiom, IsAddition, IsNoAddition}
use Rattle.ofn_reader.proofs.Faultless.{no_token_fault}

pub some_same : {A : Type 0} (a b : A) → Some a ≡ Some b → a ≡ b
some_same a b same = cc same

module _ (text : List ℕ) (is js : List Item) (d e : ℕ) (a : HasItems text is d) (b : HasItems text js e) where
  same_reading : a.tokens ≡ b.tokens
  same_reading = some_same a.tokens b.tokens (sym a.cut ∙ b.cut)

  pub same_items : is ≡ js
  same_items =
      unique b.tokens.tokens is js (subst (λ (r : DocumentTokens). IsTree r.tokens is) same_reading a.tree) b.tree

  same_end : d ≡ e
  same_end = sym a.behind ∙ ap (λ (r : DocumentTokens). r.place_behind) same_reading ∙ b.behind

pub no_fault : (text : List ℕ) (is : List Item) (d : ℕ) (f : TextFault) → HasItems text is d → text_fault text ≡ Some f
    → ⊥
no_fault text is d f a fault =
    let whole : text_fault text ≡ None =
    ap (λ (t : Option TextFault). fault_or_else t (tree_fault (end_line text) (reading text)))
    (no_token_fault text a.tokens a.cut)
    ∙ ap (tree_fault (end_line text)) a.cut
    ∙ a.balanced in
    let clash : None ≡ Some f = sym whole ∙ fault in
    absurd (cc clash)

module _ (tests : List Item → List Test) (s : Counts) where
  same_walk : (is js : List Item) (a b : Counts) → is ≡ js → walked s (tests is) ≡ Ok a → walked s (tests js) ≡ Ok b
      → a ≡ b
  same_walk is js a b same first second =
      let told : walked s (tests is) ≡ Ok b = ap (λ ks. walked s (tests ks)) same ∙ second in
      let ok : Ok a ≡ Ok b = sym first ∙ told in cc ok

  module _ (text : List ℕ) (is : List Item) (d : ℕ) (a : Counts) (made : HasItems text is d)
      (holds : walked s (tests is) ≡ Ok a) where
    no_failure : (e : Refusal) → Fails tests s text e → ⊥
    no_failure e failed =
        let same : is ≡ failed.items = same_items text is failed.items d failed.end made failed.made in
        let clash : Ok a ≡ Err e = sym holds ∙ ap (λ ks. walked s (tests ks)) same ∙ failed.fails in
        absurd (cc clash)

    not_refused : (e : Refusal) → IsRefusedBy tests s text e → ⊥
    not_refused (Text f) why = no_fault text is d f made why
    not_refused (BadShape line) why = no_failure (BadShape line) why
    not_refused (UnknownPrefix line) why = no_failure (UnknownPrefix line) why
    not_refused (PrefixClash line) why = no_failure (PrefixClash line) why
    not_refused (Outside line construct) why = no_failure (Outside line construct) why
    not_refused (NotSimple line) why = no_failure (NotSimple line) why
    not_refused (Limit w line) why = no_failure (Limit w line) why
    not_refused NoMemory why = why

abbrev all_tests : List ℕ → List Item → List Test
all_tests text is = document_tests predeclared (end_line text) is

pub documents : (text : List ℕ) (o p : Listed) (j k : DocumentContext) (d e : ℕ) → IsDocument text o j d
    → IsDocument text p k e → (o ≡ p) × (j ≡ k) × (d ≡ e)
documents text o p j k d e a b =
    let same = same_items text a.items b.items d e a.made b.made in
    let behind = same_walk (all_tests text) start a.items b.items a.behind b.behind same a.holds b.holds in
    let listed : o ≡ p =
    a.listed ∙ (λ i. record {
      axioms = document_axioms predeclared (behind i) (same i);
      classes = (behind i).classes;
      roles = (behind i).roles;
      individuals = (behind i).individuals;
    })
    ∙ sym b.listed in
    let taken : j ≡ k =
    a.takes ∙ (λ i. record { prefixes = document_prefixes predeclared (same i); nodes = (behind i).nodes })
    ∙ sym b.takes in
    (listed, taken, same_end text a.items b.items d e a.made b.made)

pub documents_not_refused : (text : List ℕ) (o : Listed) (k : DocumentContext) (d : ℕ) (e : Refusal)
    → IsDocument text o k d → IsNoDocument text e → ⊥
documents_not_refused text o k d e a why =
    not_refused (all_tests text) start text a.items d a.behind a.made a.holds e why

module _ (ps : List Prefix) (axioms : List Numbered) (s : Counts) (text : List ℕ) (a b : Counts) where
  pub queries : (p q : Query) → IsQuery ps axioms s text a p → IsQuery ps axioms s text b q → (a ≡ b) × (p ≡ q)
  queries p q x y =
      let same = same_items text x.items y.items x.end y.end x.made y.made in
      let behind = same_walk (query_tests ps axioms s (end_line text)) s x.items y.items a b same x.holds y.holds in
      let pairs : p ∷ [] ≡ q ∷ [] = sym x.pair ∙ (λ i. first_query ps (behind i) (same i)) ∙ y.pair in
      (behind, cc pairs)

  pub classes : (c d : Concept) → IsClass ps axioms s text a c → IsClass ps axioms s text b d → (a ≡ b) × (c ≡ d)
  classes c d x y =
      let same = same_items text x.items y.items x.end y.end x.made y.made in
      let behind =
      same_walk (class_query_tests ps axioms s (end_line text)) s x.items y.items a b same x.holds y.holds in
      let pairs : c ∷ [] ≡ d ∷ [] = sym x.class ∙ (λ i. first_class ps (behind i) (same i)) ∙ y.class in
      (behind, cc pairs)

  pub additions : (p q : Axiom) → IsAddition ps axioms s text a p → IsAddition ps axioms s text b q → (a ≡ b) × (p ≡ q)
  additions p q x y =
      let same = same_items text x.items y.items x.end y.end x.made y.made in
      let behind = same_walk (addition_tests ps axioms s (end_line text)) s x.items y.items a b same x.holds y.holds in
      let said : p ∷ [] ≡ q ∷ [] = sym x.says ∙ (λ i. first_axiom ps (behind i) (same i)) ∙ y.says in
      (behind, cc said)

pub queries_not_refused : (ps : List Prefix) (axioms : List Numbered) (s : Counts) (text : List ℕ) (a : Counts)
    (q : Query) (e : Refusal)
    → IsQuery ps axioms s text a q → IsNoQuery ps axioms s text e → ⊥
queries_not_refused ps axioms s text a q _ x (long more) = let short = x.short in absurd (omega arith)
queries_not_refused ps axioms s text a q _ x (refused e short why) =
    not_refused (query_tests ps axioms s (end_line text)) s text x.items x.end a x.made x.holds e why

pub classes_not_refused : (ps : List Prefix) (axioms : List Numbered) (s : Counts) (text : List ℕ) (a : Counts)
    (c : Concept) (e : Refusal)
    → IsClass ps axioms s text a c → IsNoClass ps axioms s text e → ⊥
classes_not_refused ps axioms s text a c _ x (long more) = let short = x.short in absurd (omega arith)
classes_not_refused ps axioms s text a c _ x (refused e short why) =
    not_refused (class_query_tests ps axioms s (end_line text)) s text x.items x.end a x.made x.holds e why

pub additions_not_refused : (ps : List Prefix) (axioms : List Numbered) (s : Counts) (text : List ℕ) (a : Counts)
    (p : Axiom) (e : Refusal)
    → IsAddition ps axioms s text a p → IsNoAddition ps axioms s text e → ⊥
additions_not_refused ps axioms s text a p _ x (long more) = let short = x.short in absurd (omega arith)
additions_not_refused ps axioms s text a p _ x (refused e short why) =
    not_refused (addition_tests ps axioms s (end_line text)) s text x.items x.end a x.made x.holds e why
