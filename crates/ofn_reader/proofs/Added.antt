-- An axiom that was read on an ontology and put last.
use Rattle.std.proofs.Common.{◌≡◌, ◌≢◌, ℕ, ◌+◌, ◌≤◌, Bool, true, false, cond, List, [], ◌∷◌, ◌++◌, length, take, Result}
use Rattle.std.proofs.Common.{Ok, Err, refl, ap, sym, ◌∙◌, subst, arith}
use Rattle.std.specs.Prelude.{IfOk, IfErr, OnOk, OnErr, ◌<◌, IsTrue}
use Rattle.std.specs.Result.{is_err}
use Rattle.shq_terms.specs.Uses.{all_use_listed}
use Rattle.shq_terms.specs.Listed.{Listed, with_axiom, with_names_cut}
use Rattle.shq_terms.specs.declared.axioms.Axiom.{Axiom}
use Rattle.shq_terms.specs.declared.axioms.Numbered.{Numbered}
use Rattle.ofn_tree.specs.Items.{Item}
use Rattle.ofn_expressions.specs.Counts.{Counts, State, ontology_of, Grows}
use Rattle.ofn_expressions.specs.Walk.{Test, simple, after_all, walked, Judged}
use Rattle.ofn_expressions.specs.Names.{Prefix}
use Rattle.ofn_expressions.specs.Classes.{IsListedAxiom}
use Rattle.ofn_expressions.specs.declared.refusal.Refusal.{Refusal}
use Rattle.ofn_expressions.specs.declared.refusal.Refusal.TheVariants.{NotSimple, NoMemory}
use Rattle.ofn_expressions.proofs.Kept.{keeps_all}
use Rattle.ofn_expressions.proofs.Walks.{walked-cons, goes_on, stops}
use Rattle.ofn_reader.specs.Held.{counts_of}
use Rattle.ofn_reader.specs.Queries.{read_alone, first_line, read_simple}
use Rattle.ofn_reader.specs.Additions.{all_count_simple, with_added, all_simple_test, added_form_tests, first_axiom}
use Rattle.ofn_reader.specs.Additions.{addition_tests, added_to, CountsAlone, ListsMore, ItemSays, TestsAllRoles}
use Rattle.ofn_reader.specs.Additions.{IsListedIn, PutsAxiom, MayCut, addition_walk, AdditionIsRead}
use Rattle.ofn_reader.proofs.Alone.{alone_ok}
use Rattle.ofn_reader.proofs.Simple.{first_read, same_ok, cut_back}

-- ---- what stands after the axiom was counted and read

pub lists_same : (old new : State) → CountsAlone old new → ListsMore old new
lists_same old new alone =
    let front : (names : List (List ℕ)) → take (length names) names ≡ names = take_all in
    record {
      classes = ap (λ (s : State). take (length old.counts.classes) s.counts.classes) alone ∙ front old.counts.classes;
      roles = ap (λ (s : State). take (length old.counts.roles) s.counts.roles) alone ∙ front old.counts.roles;
      individuals =
          ap (λ (s : State). take (length old.counts.individuals) s.counts.individuals) alone
          ∙ front old.counts.individuals;
      read = ap (λ (s : State). s.read) alone;
    }
  where
    take_all : (names : List (List ℕ)) → take (length names) names ≡ names
    take_all [] = refl
    take_all (w ∷ ws) = ap (λ l. w ∷ l) (take_all ws)

pub lists_grown : (old mid new : State) → CountsAlone old mid → Grows mid new → ListsMore old new
lists_grown old mid new alone grown =
    let classes : mid.counts.classes ≡ old.counts.classes = ap (λ (s : State). s.counts.classes) alone in
    let roles : mid.counts.roles ≡ old.counts.roles = ap (λ (s : State). s.counts.roles) alone in
    let individuals : mid.counts.individuals ≡ old.counts.individuals =
    ap (λ (s : State). s.counts.individuals) alone in
    record {
      classes = ap (λ (l : List (List ℕ)). take (length l) new.counts.classes) (sym classes) ∙ grown.classes ∙ classes;
      roles = ap (λ (l : List (List ℕ)). take (length l) new.counts.roles) (sym roles) ∙ grown.roles ∙ roles;
      individuals =
          ap (λ (l : List (List ℕ)). take (length l) new.counts.individuals) (sym individuals) ∙ grown.individuals
          ∙ individuals;
      read = grown.read ∙ ap (λ (s : State). s.read) alone;
    }

-- ---- one axiom alone

item_listed : (ps : List Prefix) (s : Counts) (i : Item) (r : Result Axiom Refusal) → IfOk r (ItemSays ps s i)
    → IfOk r (IsListedAxiom s)
item_listed ps s i (Ok a) says = (says s (keeps_all s)).1
item_listed ps s i (Err e) says = tt

pub alone_axiom_listed : (ps : List Prefix) (s : Counts) (i : Item) (behind : List Item) (r out : Result Axiom Refusal)
    → out ≡ read_alone behind r → IfOk r (ItemSays ps s i) → IfOk out (IsListedAxiom s)
alone_axiom_listed ps s i behind r out is says =
    subst (λ o. IfOk o (IsListedAxiom s)) (sym is) (alone_ok behind r (IsListedAxiom s) (item_listed ps s i r says))

-- what is known where something was read is known where it stands alone
pub alone_known : {X : Type 0} (behind : List Item) (r out : Result X Refusal) (P : Type 0) → out ≡ read_alone behind r
    → OnOk r P → OnOk out P
alone_known {X = X} behind r out P is known = subst (λ o. OnOk o P) (sym is) (by behind r known)
  where
    by : (is_ : List Item) (s : Result X Refusal) → OnOk s P → OnOk (read_alone is_ s) P
    by [] s p = p
    by (i ∷ is_) (Ok x) p = tt
    by (i ∷ is_) (Err e) p = tt

-- ---- the test for simple roles

module _ (axioms : List Numbered) (line : ℕ) (new_axioms : List Axiom) (s new : Counts) (ts : List Test) where
  last_test : (b : Bool) → all_count_simple (with_added axioms new_axioms) ≡ b
      → walked new (all_simple_test axioms line new_axioms) ≡ cond b (Ok new) (Err (NotSimple line))
  last_test b is =
      walked-cons new (simple line (all_count_simple (with_added axioms new_axioms))) []
      ∙ ap (λ (c : Bool). cond c (Ok new) (Err (NotSimple line))) is

  pub all_simple_read : {X E : Type 0} (x : X) (told : Result Bool E) (result : Result X Refusal)
      → result ≡ read_simple line x told → IfOk told (λ b. b ≡ all_count_simple (with_added axioms new_axioms))
      → walked s ts ≡ Ok new
      → Judged result s (ts ++ all_simple_test axioms line new_axioms) new
  all_simple_read {X = X} x (Ok true) result is test first =
      subst (λ (r : Result X Refusal). Judged r s (ts ++ all_simple_test axioms line new_axioms) new) (sym is)
      (goes_on s new ts (all_simple_test axioms line new_axioms) first ∙ last_test true (sym test))
  all_simple_read {X = X} x (Ok false) result is test first =
      subst (λ (r : Result X Refusal). Judged r s (ts ++ all_simple_test axioms line new_axioms) new) (sym is)
      (λ known. goes_on s new ts (all_simple_test axioms line new_axioms) first ∙ last_test false (sym test))
  all_simple_read {X = X} x (Err e) result is test first =
      subst (λ (r : Result X Refusal). Judged r s (ts ++ all_simple_test axioms line new_axioms) new) (sym is)
      (λ known. absurd (known refl))

pub all_simple_ok : {E : Type 0} (axioms : List Numbered) (line : ℕ) (read : Result Axiom Refusal) (a : Axiom)
    (told : Result Bool E) (result : Result Axiom Refusal)
    → read ≡ Ok a → result ≡ read_simple line a told
    → IfOk told (λ b. b ≡ all_count_simple (with_added axioms (a ∷ []))) → TestsAllRoles axioms line read result
all_simple_ok axioms line read a told result is made test s new ts as_ judged says =
    let walk : walked s ts ≡ Ok new = subst (λ (r : Result Axiom Refusal). Judged r s ts new) is judged in
    let one : as_ ≡ a ∷ [] = subst (λ (r : Result Axiom Refusal). IfOk r (λ b. as_ ≡ b ∷ [])) is says in
    subst (λ (l : List Axiom). Judged result s (ts ++ all_simple_test axioms line l) new) (sym one)
    (all_simple_read axioms line (a ∷ []) s new ts a told result made test walk)

pub all_simple_err : (axioms : List Numbered) (line : ℕ) (read : Result Axiom Refusal) (e : Refusal) → read ≡ Err e
    → (s new : Counts) (ts : List Test) (as_ : List Axiom) → Judged read s ts new → e ≢ NoMemory
    → walked s (ts ++ all_simple_test axioms line as_) ≡ Err e
all_simple_err axioms line read e is s new ts as_ judged known =
    let told : e ≢ NoMemory → walked s ts ≡ Err e = subst (λ (r : Result Axiom Refusal). Judged r s ts new) is judged in
    stops s ts (all_simple_test axioms line as_) e (told known)

-- ---- on an ontology

-- where a reader starts
abbrev pub start_of : Listed → State
start_of o = record { counts = counts_of o; read = o.axioms }

-- with the names alone that the ontology listed, all is as before
pub added_cut : (o own left : Listed) (classes roles individuals : ℕ) (old new : State) → old ≡ start_of o
    → own ≡ ontology_of new → ListsMore old new → classes ≡ length o.classes → roles ≡ length o.roles
    → individuals ≡ length o.individuals
    → left ≡ with_names_cut own classes roles individuals → left ≡ o
added_cut o own left classes roles individuals old new begun made grown class_count role_count individual_count cut =
    let axioms : new.read ≡ o.axioms = grown.read ∙ ap (λ (s : State). s.read) begun in
    let few_classes =
    cut_back classes old.counts.classes new.counts.classes o.classes class_count
    (ap (λ (s : State). s.counts.classes) begun) grown.classes in
    let few_roles =
    cut_back roles old.counts.roles new.counts.roles o.roles role_count (ap (λ (s : State). s.counts.roles) begun)
    grown.roles in
    let few_individuals =
    cut_back individuals old.counts.individuals new.counts.individuals o.individuals individual_count
    (ap (λ (s : State). s.counts.individuals) begun) grown.individuals in
    cut ∙ ap (λ l. with_names_cut l classes roles individuals) made
    ∙ (λ i. record { axioms = axioms i; classes = few_classes i; roles = few_roles i; individuals = few_individuals i })

no_longer : (xs ys : List (List ℕ)) → take (length xs) ys ≡ xs → length xs ≤ length ys
no_longer [] ys first = omega arith
no_longer (x ∷ xs) [] first = let clash : [] ≡ x ∷ xs = first in absurd (cc clash)
no_longer (x ∷ xs) (y ∷ ys) first =
    let rest : take (length xs) ys ≡ xs = cc first in omega (arith, no_longer xs ys rest)

-- as many names are there still
still_there : (n : ℕ) (before grown known : List (List ℕ)) → n ≡ length known → before ≡ known
    → take (length before) grown ≡ before → n ≤ length grown
still_there n before grown known count same first =
    let longer = no_longer before grown first in omega (arith, count, ap (λ (l : List (List ℕ)). length l) same, longer)

-- what is known after a refusal
pub known_err : {X : Type 0} (r : Result X Refusal) (P : Type 0) → is_err r ≡ true → OnErr r P → P
known_err (Ok x) P h p = let clash : false ≡ true = h in absurd (cc clash)
known_err (Err e) P h p = p

-- the names may be cut again
pub may_cut : (o given own with_it : Listed) (classes roles individuals : ℕ) (old new : State) → old ≡ start_of o
    → own ≡ ontology_of new → ListsMore old new → classes ≡ length o.classes → roles ≡ length o.roles
    → individuals ≡ length o.individuals
    → with_it ≡ own → given ≡ o
    → IsTrue (all_use_listed (length given.classes) (length given.roles) (length given.individuals) given.axioms)
    → MayCut with_it classes roles individuals
may_cut o given own with_it classes roles individuals old new begun made grown class_count role_count individual_count
    unchanged same listed =
    let now : with_it ≡ ontology_of new = unchanged ∙ made in
    let few_classes =
    still_there classes old.counts.classes new.counts.classes o.classes class_count
    (ap (λ (s : State). s.counts.classes) begun) grown.classes in
    let few_roles =
    still_there roles old.counts.roles new.counts.roles o.roles role_count (ap (λ (s : State). s.counts.roles) begun)
    grown.roles in
    let few_individuals =
    still_there individuals old.counts.individuals new.counts.individuals o.individuals individual_count
    (ap (λ (s : State). s.counts.individuals) begun) grown.individuals in
    let axioms : with_it.axioms ≡ o.axioms =
    ap (λ (l : Listed). l.axioms) now ∙ grown.read ∙ ap (λ (s : State). s.read) begun in
    let known : IsTrue (all_use_listed (length o.classes) (length o.roles) (length o.individuals) o.axioms) =
    subst (λ (l : Listed). IsTrue (all_use_listed (length l.classes) (length l.roles) (length l.individuals) l.axioms))
    same listed in (
      subst (λ (l : Listed). classes ≤ length l.classes) (sym now) few_classes,
      subst (λ (l : Listed). roles ≤ length l.roles) (sym now) few_roles,
      subst (λ (l : Listed). individuals ≤ length l.individuals) (sym now) few_individuals,
      (λ i. all_use_listed (class_count i) (role_count i) (individual_count i) (axioms i)) ∙ known,
    )

module _ (ps : List Prefix) (end : ℕ) (items : List Item) (o own : Listed) (line : ℕ) (old new : State)
    (read kept : Result Axiom Refusal) (begun : old ≡ start_of o) (made : own ≡ ontology_of new)
    (grown : ListsMore old new) (same_line : line ≡ first_line end items)
    (judged : Judged read old.counts (added_form_tests ps end items) new.counts)
    (says : IfOk read (λ a. first_axiom ps new.counts items ≡ a ∷ []))
    (tests : TestsAllRoles own.axioms line read kept) where
  same_axioms : own.axioms ≡ o.axioms
  same_axioms = ap (λ (l : Listed). l.axioms) made ∙ grown.read ∙ ap (λ (s : State). s.read) begun

  added_judged : Judged kept (counts_of o) (addition_tests ps o.axioms (counts_of o) end items) new.counts
  added_judged =
      let start : old.counts ≡ counts_of o = ap (λ (s : State). s.counts) begun in
      subst (λ (s : Counts). Judged kept s
      (added_form_tests ps end items
      ++ all_simple_test o.axioms (first_line end items)
      (first_axiom ps (after_all s (added_form_tests ps end items)) items))
      new.counts)
      start
      (subst (λ (as_ : List Numbered). Judged kept old.counts
      (added_form_tests ps end items
      ++ all_simple_test as_ (first_line end items)
      (first_axiom ps (after_all old.counts (added_form_tests ps end items)) items))
      new.counts)
      same_axioms
      (subst (λ (l : ℕ). Judged kept old.counts
      (added_form_tests ps end items
      ++ all_simple_test own.axioms l (first_axiom ps (after_all old.counts (added_form_tests ps end items)) items))
      new.counts)
      same_line
      (tests old.counts new.counts (added_form_tests ps end items)
      (first_axiom ps (after_all old.counts (added_form_tests ps end items)) items) judged
      (first_read (λ s. first_axiom ps s items) read old.counts new.counts (added_form_tests ps end items) judged
      says))))

  pub put_faults : (with_it : Listed) (put : Result ℕ Refusal) (e : Refusal) → PutsAxiom own kept with_it put
      → put ≡ Err e → e ≢ NoMemory → addition_walk ps o end items ≡ Err e
  put_faults with_it put e puts is = by kept added_judged (subst (λ p. PutsAxiom own kept with_it p) is puts)
    where
      by : (k : Result Axiom Refusal)
          → Judged k (counts_of o) (addition_tests ps o.axioms (counts_of o) end items) new.counts
          → PutsAxiom own k with_it (Err e) → e ≢ NoMemory → addition_walk ps o end items ≡ Err e
      by (Ok a) walk same known = absurd (known same)
      by (Err f) walk same known = subst (λ g. g ≢ NoMemory → addition_walk ps o end items ≡ Err g) same walk known

  pub put_read : (with_it left : Listed) (put : Result ℕ Refusal) (n nodes told : ℕ) → IfOk kept (λ a. read ≡ Ok a)
      → PutsAxiom own kept with_it put → OnOk put (left ≡ with_it) → nodes ≡ new.counts.nodes → put ≡ Ok n
      → told ≡ nodes → AdditionIsRead ps o end items left n told
  put_read with_it left put n nodes told same puts stays counted is same_nodes =
      by kept added_judged same (subst (λ p. PutsAxiom own kept with_it p) is puts)
      (subst (λ p. OnOk p (left ≡ with_it)) is stays)
    where
      by : (k : Result Axiom Refusal)
          → Judged k (counts_of o) (addition_tests ps o.axioms (counts_of o) end items) new.counts
          → IfOk k (λ a. read ≡ Ok a) → PutsAxiom own k with_it (Ok n) → left ≡ with_it
          → AdditionIsRead ps o end items left n told
      by (Ok a) walk was put_last stays_so =
          let number : n ≡ length o.axioms + 1 = put_last.1 ∙ ap (λ as_. length as_ + 1) same_axioms in
          let whole : left ≡ added_to o new.counts a =
          stays_so ∙ put_last.0 ∙ ap (λ l. with_axiom l a 1) made
          ∙ (λ i. record {
            axioms = (grown.read ∙ ap (λ (s : State). s.read) begun) i ++ record { «axiom» = a; line = 1 } ∷ [];
            classes = new.counts.classes;
            roles = new.counts.roles;
            individuals = new.counts.individuals;
          }) in (
            new.counts,
            a,
            walk,
            same_ok (λ b. first_axiom ps new.counts items ≡ b ∷ []) read (Ok a) was says,
            whole,
            same_nodes ∙ counted,
            number,
          )
      by (Err e) walk was put_last stays_so = absurd put_last

-- there is room for the axiom, and its names are listed
pub room_kept : (o own : Listed) (old new : State) (read kept : Result Axiom Refusal) → old ≡ start_of o
    → own ≡ ontology_of new → ListsMore old new → IfOk kept (λ a. read ≡ Ok a) → OnOk read (old.counts.axioms < 20000)
    → OnOk kept (length own.axioms < 20000)
room_kept o own old new read kept begun made grown kept_same within = by kept kept_same
  where
    by : (k : Result Axiom Refusal) → IfOk k (λ a. read ≡ Ok a) → OnOk k (length own.axioms < 20000)
    by (Ok a) is =
        let same : own.axioms ≡ o.axioms =
        ap (λ (l : Listed). l.axioms) made ∙ grown.read ∙ ap (λ (s : State). s.read) begun in
        subst (λ (n : ℕ). n < 20000)
        (ap (λ (s : State). s.counts.axioms) begun ∙ sym (ap (λ (as_ : List Numbered). length as_) same))
        (subst (λ (r : Result Axiom Refusal). OnOk r (old.counts.axioms < 20000)) is within)
    by (Err e) is = tt

pub listed_kept : (own : Listed) (new : State) (read kept : Result Axiom Refusal) → own ≡ ontology_of new
    → IfOk kept (λ a. read ≡ Ok a) → IfOk read (IsListedAxiom new.counts) → IfOk kept (IsListedIn own)
listed_kept own new read kept made kept_same listed =
    same_ok (IsListedIn own) read kept kept_same (subst (λ (l : Listed). IfOk read (IsListedIn l)) (sym made) listed)

-- ---- the answer, by what was put

pub ok_also : {X : Type 0} (r : Result X Refusal) (P Q : X → Type 0) → IfOk r P → ((x : X) → P x → Q x) → IfOk r Q
ok_also (Ok x) P Q p all = all x p
ok_also (Err e) P Q p all = tt

pub err_also : {X : Type 0} (r : Result X Refusal) (P Q : Refusal → Type 0) → IfErr r P → ((e : Refusal) → P e → Q e)
    → IfErr r Q
err_also (Ok x) P Q p all = tt
err_also (Err e) P Q p all = all e p

pub on_err_also : {X Y : Type 0} (r : Result X Refusal) (put : Result Y Refusal) (P : Type 0)
    → IfErr r (λ e. put ≡ Err e) → OnErr put P → OnErr r P
on_err_also (Ok x) put P is p = tt
on_err_also (Err e) put P is p = subst (λ q. OnErr q P) is p
