-- The tests for simple roles, after those of the form.
use Rattle.std.proofs.Common.{◌≡◌, ◌≢◌, ℕ, Bool, true, false, not, cond, List, [], ◌∷◌, ◌++◌, length, take, Option}
use Rattle.std.proofs.Common.{Some, None, Result, Ok, Err, refl, ap, sym, ◌∙◌, subst}
use Rattle.std.specs.Prelude.{IfOk, IfErr, OnOk, OnErr}
use Rattle.std.specs.Result.{is_err}
use Rattle.std.specs.List.{find}
use Rattle.std.specs.Option.{option_map}
use Rattle.shq_terms.specs.Listed.{Listed, with_names_cut}
use Rattle.shq_terms.specs.declared.axioms.Numbered.{Numbered}
use Rattle.role_box.specs.declared.role_axiom.RoleAxiom.{RoleAxiom}
use Rattle.role_box.specs.Simple.{are_simple, counts_simple, first_not_simple, all_role_axioms}
use Rattle.ofn_tree.specs.Items.{Item}
use Rattle.ofn_expressions.specs.Counts.{Counts, State, ontology_of, Grows}
use Rattle.ofn_expressions.specs.Walk.{Test, simple, after_all, outcomes, first_failing, verdict, walked, Judged}
use Rattle.ofn_expressions.specs.Names.{Prefix}
use Rattle.ofn_expressions.specs.declared.refusal.Refusal.{Refusal}
use Rattle.ofn_expressions.specs.declared.refusal.Refusal.TheVariants.{NotSimple, NoMemory}
use Rattle.ofn_expressions.proofs.Walks.{walked-cons, goes_on, stops}
use Rattle.ofn_reader.specs.Documents.{start, simple_tests, all_simple_tests, form_tests, document_axioms}
use Rattle.ofn_reader.specs.Documents.{document_tests}
use Rattle.ofn_reader.specs.Queries.{roles_test, read_simple, query_start}

-- ---- where tests end

abbrev counts_in : Counts → Result Counts Refusal → Counts
counts_in d (Ok a) = a
counts_in d (Err e) = d

verdict_ok : (r : Option Refusal) (s t : Counts) → verdict r s ≡ Ok t → s ≡ t
verdict_ok None s t is = ap (counts_in s) is
verdict_ok (Some e) s t is = let clash : ◌≡◌ {A = Result Counts Refusal} (Err e) (Ok t) = is in absurd (cc clash)

pub ends_at : (s t : Counts) (ts : List Test) → walked s ts ≡ Ok t → after_all s ts ≡ t
ends_at s t ts is = verdict_ok (first_failing (outcomes s ts)) (after_all s ts) t is

-- ---- documents

abbrev line_verdict : Counts → Option ℕ → Result Counts Refusal
line_verdict s None = Ok s
line_verdict s (Some line) = Err (NotSimple line)

simple_walk : (roles : List RoleAxiom) (ns : List Numbered) (s : Counts)
    → walked s (simple_tests roles ns) ≡ line_verdict s (first_not_simple roles ns)
simple_walk roles [] s = refl
simple_walk roles (n ∷ ns) s =
    walked-cons s (simple n.line (counts_simple roles n)) (simple_tests roles ns)
    ∙ by (simple_walk roles ns s) (counts_simple roles n)
  where
    by : walked s (simple_tests roles ns) ≡ line_verdict s (first_not_simple roles ns) → (b : Bool)
        → cond b (walked s (simple_tests roles ns)) (Err (NotSimple n.line))
        ≡ line_verdict s
        (option_map (λ (m : Numbered). m.line) (cond (not b) (Some n) (find (λ m. not (counts_simple roles m)) ns)))
    by rest true = rest
    by rest false = refl

pub simple_judged : (roles : List RoleAxiom) (ns : List Numbered) (s : Counts) (line : Option ℕ)
    → line ≡ first_not_simple roles ns → walked s (simple_tests roles ns) ≡ line_verdict s line
simple_judged roles ns s line is = simple_walk roles ns s ∙ ap (line_verdict s) (sym is)

module _ (ps : List Prefix) (end : ℕ) (items : List Item) where
  pub document_refused : (e : Refusal) → walked start (form_tests ps end items) ≡ Err e
      → walked start (document_tests ps end items) ≡ Err e
  document_refused e first =
      stops start (form_tests ps end items)
      (all_simple_tests (document_axioms ps (after_all start (form_tests ps end items)) items)) e first

  pub document_walk : (behind : Counts) (axioms : List Numbered) → walked start (form_tests ps end items) ≡ Ok behind
      → axioms ≡ document_axioms ps behind items
      → walked start (document_tests ps end items) ≡ walked behind (all_simple_tests axioms)
  document_walk behind axioms first same =
      let ends : after_all start (form_tests ps end items) ≡ behind =
      ends_at start behind (form_tests ps end items) first in
      goes_on start behind (form_tests ps end items)
      (all_simple_tests (document_axioms ps (after_all start (form_tests ps end items)) items)) first
      ∙ ap (λ c. walked behind (all_simple_tests (document_axioms ps c items))) ends
      ∙ ap (λ l. walked behind (all_simple_tests l)) (sym same)

-- ---- queries

module _ (axioms : List Numbered) (line : ℕ) (rs : List ℕ) (s new : Counts) (ts : List Test) where
  last_test : (b : Bool) → are_simple (all_role_axioms axioms) rs ≡ b
      → walked new (roles_test axioms line rs) ≡ cond b (Ok new) (Err (NotSimple line))
  last_test b is =
      walked-cons new (simple line (are_simple (all_role_axioms axioms) rs)) []
      ∙ ap (λ (c : Bool). cond c (Ok new) (Err (NotSimple line))) is

  pub simple_read : {X E : Type 0} (x : X) (told : Result Bool E) (result : Result X Refusal)
      → result ≡ read_simple line x told → IfOk told (λ b. b ≡ are_simple (all_role_axioms axioms) rs)
      → walked s ts ≡ Ok new → Judged result s (ts ++ roles_test axioms line rs) new
  simple_read {X = X} x (Ok true) result is test first =
      subst (λ (r : Result X Refusal). Judged r s (ts ++ roles_test axioms line rs) new) (sym is)
      (goes_on s new ts (roles_test axioms line rs) first ∙ last_test true (sym test))
  simple_read {X = X} x (Ok false) result is test first =
      subst (λ (r : Result X Refusal). Judged r s (ts ++ roles_test axioms line rs) new) (sym is)
      (λ known. goes_on s new ts (roles_test axioms line rs) first ∙ last_test false (sym test))
  simple_read {X = X} x (Err e) result is test first =
      subst (λ (r : Result X Refusal). Judged r s (ts ++ roles_test axioms line rs) new) (sym is)
      (λ known. absurd (known refl))

-- what was read, or what it was refused for, and then the test of its roles
pub simple_ok : {X E : Type 0} (count : List X → List ℕ) (axioms : List Numbered) (line : ℕ) (read : Result X Refusal)
    (x : X) (told : Result Bool E) (result : Result X Refusal)
    → read ≡ Ok x → result ≡ read_simple line x told
    → IfOk told (λ b. b ≡ are_simple (all_role_axioms axioms) (count (x ∷ [])))
    → (s new : Counts) (ts : List Test) (xs : List X) → Judged read s ts new → IfOk read (λ y. xs ≡ y ∷ [])
    → Judged result s (ts ++ roles_test axioms line (count xs)) new
simple_ok {X = X} count axioms line read x told result is made test s new ts xs judged first =
    let walk : walked s ts ≡ Ok new = subst (λ (r : Result X Refusal). Judged r s ts new) is judged in
    let one : xs ≡ x ∷ [] = subst (λ (r : Result X Refusal). IfOk r (λ y. xs ≡ y ∷ [])) is first in
    subst (λ (l : List X). Judged result s (ts ++ roles_test axioms line (count l)) new) (sym one)
    (simple_read axioms line (count (x ∷ [])) s new ts x told result made test walk)

pub simple_err : {X : Type 0} (axioms : List Numbered) (line : ℕ) (rs : List ℕ) (read : Result X Refusal) (e : Refusal)
    → read ≡ Err e → (s new : Counts) (ts : List Test) → Judged read s ts new → e ≢ NoMemory
    → walked s (ts ++ roles_test axioms line rs) ≡ Err e
simple_err {X = X} axioms line rs read e is s new ts judged known =
    let told : e ≢ NoMemory → walked s ts ≡ Err e = subst (λ (r : Result X Refusal). Judged r s ts new) is judged in
    stops s ts (roles_test axioms line rs) e (told known)

-- what was read says the same where the tests end
pub first_read : {X : Type 0} (f : Counts → List X) (r : Result X Refusal) (s new : Counts) (ts : List Test)
    → Judged r s ts new → IfOk r (λ x. f new ≡ x ∷ []) → IfOk r (λ x. f (after_all s ts) ≡ x ∷ [])
first_read f (Ok x) s new ts judged first = ap f (ends_at s new ts judged) ∙ first
first_read f (Err e) s new ts judged first = tt

-- what is known of what was read is known of what is kept of it
pub same_ok : {X : Type 0} (P : X → Type 0) (r kept : Result X Refusal) → IfOk kept (λ x. r ≡ Ok x) → IfOk r P
    → IfOk kept P
same_ok P r (Ok x) is p = subst (λ k. IfOk k P) is p
same_ok P r (Err e) is p = tt

pub not_ok : {X : Type 0} (r : Result X Refusal) (P : Type 0) → is_err r ≡ true → OnOk r P
not_ok (Ok x) P h = let clash : false ≡ true = h in absurd (cc clash)
not_ok (Err e) P h = tt

pub on_ok : {X : Type 0} (r : Result X Refusal) (P : Type 0) → P → OnOk r P
on_ok (Ok x) P p = p
on_ok (Err e) P p = tt

judged_err : {X : Type 0} (r : Result X Refusal) (s new : Counts) (ts : List Test) → Judged r s ts new
    → IfErr r (λ e. e ≢ NoMemory → walked s ts ≡ Err e)
judged_err (Ok x) s new ts judged = tt
judged_err (Err e) s new ts judged = judged

pub not_err : {X : Type 0} (r : Result X Refusal) (P : Type 0) → is_err r ≡ false → OnErr r P
not_err (Ok x) P h = tt
not_err (Err e) P h = let clash : true ≡ false = h in absurd (cc clash)

pub on_err : {X : Type 0} (r : Result X Refusal) (P : Type 0) → P → OnErr r P
on_err (Ok x) P p = tt
on_err (Err e) P p = p

pub cut_back : (n : ℕ) (before grown known : List (List ℕ)) → n ≡ length known → before ≡ known
    → take (length before) grown ≡ before → take n grown ≡ known
cut_back n before grown known count same front = ap (λ k. take k grown) (count ∙ sym (ap length same)) ∙ front ∙ same

-- with the names alone that a document lists, all is as before a query was read
pub names_cut : (o own left : Listed) (nodes classes roles individuals : ℕ) (old new : State)
    → old ≡ record { counts = query_start o nodes; read = o.axioms } → own ≡ ontology_of new → Grows old new
    → classes ≡ length o.classes → roles ≡ length o.roles → individuals ≡ length o.individuals
    → left ≡ with_names_cut own classes roles individuals → left ≡ o
names_cut o own left nodes classes roles individuals old new begun made grown class_count role_count individual_count
    cut =
    let axioms : new.read ≡ o.axioms = grown.read ∙ ap (λ (s : State). s.read) begun in
    let few_classes =
    cut_back classes old.counts.classes new.counts.classes o.classes class_count
    (ap (λ (s : State). s.counts.classes) begun) grown.classes in
    let few_roles =
    cut_back roles old.counts.roles new.counts.roles o.roles role_count (ap (λ (s : State). s.counts.roles) begun)
    grown.roles in
    let few_individuals =
    cut_back individuals old.counts.individuals new.counts.individuals o.individuals individual_count
    (ap (λ (s : State). s.counts.individuals) begun) grown.individuals in
    cut ∙ ap (λ l. with_names_cut l classes roles individuals) made
    ∙ (λ i. record { axioms = axioms i; classes = few_classes i; roles = few_roles i; individuals = few_individuals i })

-- what was read on a document, and then the test of its roles by the axioms of the document
module _ {X : Type 0} (count : List X → List ℕ) (form : List Test) (firsts : Counts → List X) (o own : Listed)
    (line place nodes : ℕ) (old new : State) (read result : Result X Refusal)
    (begun : old ≡ record { counts = query_start o nodes; read = o.axioms })
    (made : own
    ≡ record {
      axioms = new.read;
      classes = new.counts.classes;
      roles = new.counts.roles;
      individuals = new.counts.individuals;
    })
    (grown : Grows old new) (same_line : line ≡ place)
    (judged : Judged read old.counts form new.counts) (first : IfOk read (λ x. firsts new.counts ≡ x ∷ []))
    (tests : (s t : Counts) (ts : List Test) (xs : List X) → Judged read s ts t → IfOk read (λ x. xs ≡ x ∷ [])
    → Judged result s (ts ++ roles_test own.axioms line (count xs)) t) where
  same_axioms : new.read ≡ o.axioms
  same_axioms = grown.read ∙ ap (λ (s : State). s.read) begun

  query_judged : Judged result (query_start o nodes)
      (form ++ roles_test o.axioms place (count (firsts (after_all (query_start o nodes) form)))) new.counts
  query_judged =
      let start : old.counts ≡ query_start o nodes = ap (λ (s : State). s.counts) begun in
      let axioms : own.axioms ≡ o.axioms = ap (λ (l : Listed). l.axioms) made ∙ same_axioms in
      subst (λ (s : Counts). Judged result s (form ++ roles_test o.axioms place (count (firsts (after_all s form))))
      new.counts)
      start
      (subst (λ (a : List Numbered). Judged result old.counts
      (form ++ roles_test a place (count (firsts (after_all old.counts form)))) new.counts)
      axioms
      (subst (λ (l : ℕ). Judged result old.counts
      (form ++ roles_test own.axioms l (count (firsts (after_all old.counts form)))) new.counts)
      same_line
      (tests old.counts new.counts form (firsts (after_all old.counts form)) judged
      (first_read firsts read old.counts new.counts form judged first))))

  pub query_faults : IfErr result
      (λ e. e ≢ NoMemory
      → walked (query_start o nodes)
      (form ++ roles_test o.axioms place (count (firsts (after_all (query_start o nodes) form))))
      ≡ Err e)
  query_faults =
      judged_err result (query_start o nodes) new.counts
      (form ++ roles_test o.axioms place (count (firsts (after_all (query_start o nodes) form)))) query_judged

  pub query_kept : (Q : Counts → X → Type 0) (left : Listed) → IfOk result (λ x. read ≡ Ok x) → IfOk read (Q new.counts)
      → OnOk result (left ≡ own)
      → IfOk result
      (λ x. (behind : Counts)
      × (walked (query_start o nodes)
      (form ++ roles_test o.axioms place (count (firsts (after_all (query_start o nodes) form))))
      ≡ Ok behind)
      × (firsts behind ≡ x ∷ []) × Q behind x
      × (left
      ≡ record { axioms = o.axioms; classes = behind.classes; roles = behind.roles; individuals = behind.individuals }))
  query_kept Q left same listed kept = by result query_judged same kept
    where
      by : (r : Result X Refusal)
          → Judged r (query_start o nodes)
          (form ++ roles_test o.axioms place (count (firsts (after_all (query_start o nodes) form)))) new.counts
          → IfOk r (λ x. read ≡ Ok x) → OnOk r (left ≡ own)
          → IfOk r (λ x. (behind : Counts)
          × (walked (query_start o nodes)
          (form ++ roles_test o.axioms place (count (firsts (after_all (query_start o nodes) form))))
          ≡ Ok behind)
          × (firsts behind ≡ x ∷ []) × Q behind x
          × (left ≡ record {
            axioms = o.axioms;
            classes = behind.classes;
            roles = behind.roles;
            individuals = behind.individuals;
          }))
      by (Ok x) walk is stays =
          let names : left
          ≡ record {
            axioms = o.axioms;
            classes = new.counts.classes;
            roles = new.counts.roles;
            individuals = new.counts.individuals;
          } =
          stays ∙ made
          ∙ (λ i. record {
            axioms = same_axioms i;
            classes = new.counts.classes;
            roles = new.counts.roles;
            individuals = new.counts.individuals;
          }) in (
            new.counts,
            walk,
            same_ok (λ y. firsts new.counts ≡ y ∷ []) read (Ok x) is first,
            same_ok (Q new.counts) read (Ok x) is listed,
            names,
          )
      by (Err e) walk is stays = tt

-- the least line on which a role is counted that is not simple is refused, if there is one
pub line_judged : {X : Type 0} (axioms : List Numbered) (s : Counts) (line : Option ℕ) (r : Result X Refusal)
    → line ≡ first_not_simple (all_role_axioms axioms) axioms → OnOk r (line ≡ None)
    → IfErr r (λ e. option_map NotSimple line ≡ Some e) → Judged r s (all_simple_tests axioms) s
line_judged axioms s line (Ok x) same passed refused =
    simple_judged (all_role_axioms axioms) axioms s line same ∙ ap (line_verdict s) passed
line_judged axioms s None (Err e) same passed refused =
    let clash : ◌≡◌ {A = Option Refusal} None (Some e) = refused in absurd (cc clash)
line_judged axioms s (Some n) (Err e) same passed refused = λ known.
    let is : NotSimple n ≡ e = cc refused in
    simple_judged (all_role_axioms axioms) axioms s (Some n) same ∙ ap Err is
