-- A text is refused for one reason at most.
use Rattle.std.proofs.Common.{◌≡◌, ℕ, List, Some, Result, Err, refl, ap, sym, ◌∙◌, arith}
use Rattle.shq_terms.specs.declared.axioms.Numbered.{Numbered}
use Rattle.ofn_tree.specs.Lexemes.{end_line}
use Rattle.ofn_tree.specs.Items.{Item}
use Rattle.ofn_tree.specs.declared.fault.TextFault.{TextFault}
use Rattle.ofn_expressions.specs.Counts.{Counts}
use Rattle.ofn_expressions.specs.Walk.{Test, walked}
use Rattle.ofn_expressions.specs.Names.{Prefix, predeclared}
use Rattle.ofn_expressions.specs.declared.refusal.Refusal.{Refusal}
use Rattle.ofn_expressions.specs.declared.refusal.Refusal.TheVariants.{Text, BadShape, UnknownPrefix, PrefixClash}
use Rattle.ofn_expressions.specs.declared.refusal.Refusal.TheVariants.{Outside, NotSimple, Limit, NoMemory}
use Rattle.ofn_reader.specs.Texts.{text_fault, Fails, IsRefusedBy}
use Rattle.ofn_reader.specs.Documents.{start, document_tests, IsNoDocument}
use Rattle.ofn_reader.specs.Queries.{query_tests, class_query_tests, IsRefused, IsNoQuery, IsNoClass, long, refused}
use Rattle.ofn_reader.specs.Additions.{addition_tests, IsNoAddition}
use Rattle.ofn_reader.proofs.Unique.{some_same, same_items, no_fault}

-- a fault of the text, or a test of its items
data Cause (tests : List Item → List Test) (s : Counts) (text : List ℕ) (e : Refusal) : Type 0 where
  by_fault : (f : TextFault) → text_fault text ≡ Some f → e ≡ Text f → Cause tests s text e
  by_test : Fails tests s text e → Cause tests s text e

module _ (tests : List Item → List Test) (s : Counts) (text : List ℕ) where
  cause : (e : Refusal) → IsRefusedBy tests s text e → Cause tests s text e
  cause (Text f) why = by_fault f why refl
  cause (BadShape line) why = by_test why
  cause (UnknownPrefix line) why = by_test why
  cause (PrefixClash line) why = by_test why
  cause (Outside line construct) why = by_test why
  cause (NotSimple line) why = by_test why
  cause (Limit w line) why = by_test why
  cause NoMemory why = absurd why

  same_cause : (e f : Refusal) → Cause tests s text e → Cause tests s text f → e ≡ f
  same_cause e f (by_fault x a p) (by_fault y b q) = p ∙ ap Text (some_same x y (sym a ∙ b)) ∙ sym q
  same_cause e f (by_fault x a p) (by_test u) = absurd (no_fault text u.items u.end x u.made a)
  same_cause e f (by_test t) (by_fault y b q) = absurd (no_fault text t.items t.end y t.made b)
  same_cause e f (by_test t) (by_test u) =
      let same = same_items text t.items u.items t.end u.end t.made u.made in
      let told : ◌≡◌ {A = Result Counts Refusal} (Err e) (Err f) =
      sym t.fails ∙ ap (λ is. walked s (tests is)) same ∙ u.fails in
      cc told

  refused_once : (e f : Refusal) → IsRefusedBy tests s text e → IsRefusedBy tests s text f → e ≡ f
  refused_once e f why because = same_cause e f (cause e why) (cause f because)

  pub one_reason : (e f : Refusal) → IsRefused tests s text e → IsRefused tests s text f → e ≡ f
  one_reason _ _ (long more) (long most) = refl
  one_reason _ _ (long more) (refused f short because) = absurd (omega arith)
  one_reason _ _ (refused e short why) (long more) = absurd (omega arith)
  one_reason _ _ (refused e short why) (refused f less because) = refused_once e f why because

pub document_refusals : (text : List ℕ) (e f : Refusal) → IsNoDocument text e → IsNoDocument text f → e ≡ f
document_refusals text e f why because =
    refused_once (document_tests predeclared (end_line text)) start text e f why because

pub query_refusals : (ps : List Prefix) (axioms : List Numbered) (s : Counts) (text : List ℕ) (e f : Refusal)
    → IsNoQuery ps axioms s text e → IsNoQuery ps axioms s text f → e ≡ f
query_refusals ps axioms s text e f why because =
    one_reason (query_tests ps axioms s (end_line text)) s text e f why because

pub class_refusals : (ps : List Prefix) (axioms : List Numbered) (s : Counts) (text : List ℕ) (e f : Refusal)
    → IsNoClass ps axioms s text e → IsNoClass ps axioms s text f → e ≡ f
class_refusals ps axioms s text e f why because =
    one_reason (class_query_tests ps axioms s (end_line text)) s text e f why because

pub addition_refusals : (ps : List Prefix) (axioms : List Numbered) (s : Counts) (text : List ℕ) (e f : Refusal)
    → IsNoAddition ps axioms s text e → IsNoAddition ps axioms s text f → e ≡ f
addition_refusals ps axioms s text e f why because =
    one_reason (addition_tests ps axioms s (end_line text)) s text e f why because
