-- Why a text is refused.
use Rattle.std.proofs.Common.{◌≡◌, ◌≢◌, ℕ, List, [], ◌∷◌, Bool, true, false, cond, Result, Ok, Err, refl, ap, sym, ◌∙◌}
use Rattle.std.proofs.Common.{subst}
use Rattle.std.specs.Prelude.{IfErr, ◌^◌, ◌≤◌, length}
use Rattle.shq_terms.specs.Listed.{Listed}
use Rattle.shq_terms.specs.declared.axioms.Numbered.{Numbered}
use Rattle.ofn_tree.specs.Lexemes.{end_line}
use Rattle.ofn_tree.specs.Items.{Item}
use Rattle.ofn_expressions.specs.Counts.{Counts}
use Rattle.ofn_expressions.specs.Walk.{Test, shape, prefix, clash, outside, numbered, parts, nodes, class, role}
use Rattle.ofn_expressions.specs.Walk.{individual, number, simple, holds, refusal, counts_after, walked}
use Rattle.ofn_expressions.specs.declared.refusal.Refusal.{Refusal}
use Rattle.ofn_expressions.specs.declared.refusal.Refusal.TheVariants.{Text, BadShape, UnknownPrefix, PrefixClash}
use Rattle.ofn_expressions.specs.declared.refusal.Refusal.TheVariants.{Outside, NotSimple, Limit, NoMemory}
use Rattle.ofn_expressions.specs.Names.{Prefix}
use Rattle.ofn_expressions.proofs.Walks.{walked-cons}
use Rattle.ofn_reader.specs.Queries.{query_start, IsRefused, refused}
use Rattle.ofn_reader.specs.Texts.{HasItems, IsRefusedBy}
use Rattle.ofn_reader.specs.Held.{counts_of}
use Rattle.ofn_reader.specs.Additions.{addition_tests, addition_walk, IsNoAddition}

-- a test may be refused so
abbrev is_of_test : Refusal → Bool
is_of_test (Text fault) = false
is_of_test (BadShape line) = true
is_of_test (UnknownPrefix line) = true
is_of_test (PrefixClash line) = true
is_of_test (Outside line construct) = true
is_of_test (NotSimple line) = true
is_of_test (Limit w line) = true
is_of_test NoMemory = false

of_test : (t : Test) → is_of_test (refusal t) ≡ true
of_test (shape line fits) = refl
of_test (prefix line declared) = refl
of_test (clash line agrees) = refl
of_test (outside line construct) = refl
of_test (numbered line) = refl
of_test (parts line n) = refl
of_test (nodes line n) = refl
of_test (class line name) = refl
of_test (role line name) = refl
of_test (individual line name) = refl
of_test (number line n) = refl
of_test (simple line fits) = refl

walked_of_test : (s : Counts) (ts : List Test) (e : Refusal) → walked s ts ≡ Err e → is_of_test e ≡ true
walked_of_test s [] e is = let clashes : Ok s ≡ Err e = is in absurd (cc clashes)
walked_of_test s (t ∷ ts) e is = by (walked_of_test (counts_after s t) ts e) (holds s t) (sym (walked-cons s t ts) ∙ is)
  where
    by : (walked (counts_after s t) ts ≡ Err e → is_of_test e ≡ true) → (b : Bool)
        → cond b (walked (counts_after s t) ts) (Err (refusal t)) ≡ Err e → is_of_test e ≡ true
    by rest true here = rest here
    by rest false here =
        let failed : Result Counts Refusal = Err (refusal t) in
        let told : failed ≡ Err e = here in
        let same : refusal t ≡ e = cc told in
        sym (ap is_of_test same) ∙ of_test t

-- a test that fails is why the text is refused
fails_refused : (tests : List Item → List Test) (s : Counts) (text : List ℕ) (items : List Item) (end : ℕ) (e : Refusal)
    → HasItems text items end → (e ≢ NoMemory → walked s (tests items) ≡ Err e) → e ≢ NoMemory
    → IsRefusedBy tests s text e
fails_refused tests s text items end (Text fault) made fails known =
    let clashes : false ≡ true = walked_of_test s (tests items) (Text fault) (fails known) in absurd (cc clashes)
fails_refused tests s text items end (BadShape line) made fails known =
    record { items = items; end = end; made = made; fails = fails known }
fails_refused tests s text items end (UnknownPrefix line) made fails known =
    record { items = items; end = end; made = made; fails = fails known }
fails_refused tests s text items end (PrefixClash line) made fails known =
    record { items = items; end = end; made = made; fails = fails known }
fails_refused tests s text items end (Outside line construct) made fails known =
    record { items = items; end = end; made = made; fails = fails known }
fails_refused tests s text items end (NotSimple line) made fails known =
    record { items = items; end = end; made = made; fails = fails known }
fails_refused tests s text items end (Limit w line) made fails known =
    record { items = items; end = end; made = made; fails = fails known }
fails_refused tests s text items end NoMemory made fails known = absurd (known refl)

-- the same, of items and of a line of the end that are equal to those of the text
pub fails_at : (tests : ℕ → List Item → List Test) (s : Counts) (text : List ℕ) (items own : List Item) (place line : ℕ)
    (e : Refusal)
    → HasItems text items place → own ≡ items → line ≡ end_line text
    → (e ≢ NoMemory → walked s (tests line own) ≡ Err e) → e ≢ NoMemory → IsRefusedBy (tests (end_line text)) s text e
fails_at tests s text items own place line e made same at fails known =
    fails_refused (tests (end_line text)) s text items place e made
    (λ k. (λ i. walked s (tests (sym at i) (sym same i))) ∙ fails k) known

query_fails : {T : Type 0} (tests : List Prefix → List Numbered → Counts → ℕ → List Item → List Test) (o : Listed)
    (text : List ℕ) (items own : List Item) (place line n m : ℕ) (ps qs : List Prefix) (r : Result T Refusal)
    → length text ≤ 2 ^ 24 → HasItems text items place
    → own ≡ items → line ≡ end_line text → qs ≡ ps → n ≡ m
    → IfErr r (λ e. e ≢ NoMemory → walked (query_start o n) (tests qs o.axioms (query_start o n) line own) ≡ Err e)
    → IfErr r
    (λ e. e ≢ NoMemory → IsRefused (tests ps o.axioms (query_start o m) (end_line text)) (query_start o m) text e)
query_fails tests o text items own place line n m ps qs (Ok x) short made same at same_prefixes same_nodes fails = tt
query_fails tests o text items own place line n m ps qs (Err e) short made same at same_prefixes same_nodes fails =
    λ known.
    refused e short
    (fails_refused (tests ps o.axioms (query_start o m) (end_line text)) (query_start o m) text items place e made
    (λ k. (λ i. walked (query_start o (sym same_nodes i))
    (tests (sym same_prefixes i) o.axioms (query_start o (sym same_nodes i)) (sym at i) (sym same i)))
    ∙ fails k)
    known)

-- a query is refused for a test of its items
pub query_refused : {T : Type 0} (tests : List Prefix → List Numbered → Counts → ℕ → List Item → List Test) (o : Listed)
    (bytes text : List ℕ) (items own : List Item) (line n m : ℕ) (ps qs : List Prefix) (r : Result T Refusal)
    → bytes ≡ text → length bytes ≤ 2 ^ 24
    → (place : ℕ) × HasItems bytes items place → own ≡ items → line ≡ end_line bytes → qs ≡ ps → n ≡ m
    → IfErr r (λ e. e ≢ NoMemory → walked (query_start o n) (tests qs o.axioms (query_start o n) line own) ≡ Err e)
    → IfErr r
    (λ e. e ≢ NoMemory → IsRefused (tests ps o.axioms (query_start o m) (end_line text)) (query_start o m) text e)
query_refused tests o bytes text items own line n m ps qs r same_text short made same at same_prefixes same_nodes fails
    =
    subst (λ t. IfErr r
    (λ e. e ≢ NoMemory → IsRefused (tests ps o.axioms (query_start o m) (end_line t)) (query_start o m) t e))
    same_text
    (query_fails tests o bytes items own made.0 line n m ps qs r short made.1 same at same_prefixes same_nodes fails)

-- so is an axiom that is put into an ontology
pub addition_refused : (o : Listed) (bytes text : List ℕ) (items own : List Item) (line : ℕ) (ps qs : List Prefix)
    (e : Refusal)
    → bytes ≡ text → length bytes ≤ 2 ^ 24 → (place : ℕ) × HasItems bytes items place → own ≡ items
    → line ≡ end_line bytes → qs ≡ ps
    → (e ≢ NoMemory → addition_walk qs o line own ≡ Err e) → e ≢ NoMemory
    → IsNoAddition ps o.axioms (counts_of o) text e
addition_refused o bytes text items own line ps qs e same_text short made same at same_prefixes fails =
    let told : e ≢ NoMemory
    → walked (counts_of o) (addition_tests ps o.axioms (counts_of o) (end_line bytes) items) ≡ Err e =
    (λ known. (λ i. walked (counts_of o)
    (addition_tests (sym same_prefixes i) o.axioms (counts_of o) (sym at i) (sym same i)))
    ∙ fails known) in
    subst (λ t. e ≢ NoMemory → IsNoAddition ps o.axioms (counts_of o) t e) same_text
    (λ known. refused e short
    (fails_refused (addition_tests ps o.axioms (counts_of o) (end_line bytes)) (counts_of o) bytes items made.0 e made.1
    told known))
