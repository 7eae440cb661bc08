-- What a log shows of individuals, as it grows, and in the end.
use Rattle.std.proofs.Common.{◌≡◌, ℕ, ◌+◌, ◌<◌, true, false, List, [], ◌∷◌, ◌++◌, length, refl, sym, subst}
use Rattle.std.proofs.Common.{◌∙◌, arith, inl, inr}
use Rattle.std.specs.Prelude.{Contains}
use Rattle.std.proofs.lemmas.Bool.{cases_Bool, cases_lt, true≢false}
use Rattle.std.proofs.lemmas.List.Elements.{Contains-append_left, Contains-push}
use Rattle.axiom_sets.specs.Sets.{Limited}
use Rattle.shq_terms.specs.Concept.{Concept, top, bottom, name}
use Rattle.shq_terms.specs.Listed.{Listed}
use Rattle.shq_terms.specs.declared.axioms.On.{On}
use Rattle.shq_terms.specs.declared.axioms.Query.{Query}
use Rattle.shq_meaning.specs.Truth.{holds as has_element}
use Rattle.finite_model.specs.ModelLists.{ModelLists, meaning}
use Rattle.subsumption.specs.Decided.{IsRefuting}
use Rattle.subsumption.specs.Entry.{Entry}
use Rattle.subsumption.specs.Entry.TheVariants.{Test}
use Rattle.subsumption.specs.HonestLog.{IsStep, IsChain, IsClassificationLog}
use Rattle.subsumption.specs.HonestLog.IsStep.{by_test as class_test, in_top as class_in_top}
use Rattle.subsumption.specs.HonestLog.IsStep.{of_bottom as class_of_bottom}
use Rattle.subsumption.specs.HonestLog.IsChain.{none as no_class_step, onward as class_onward}
use Rattle.subsumption.specs.Rows.{Rows, holds}
use Rattle.subsumption.specs.Settled.{IsSettled, IsShownPair}
use Rattle.subsumption.specs.Subsumption.{class_at}
use Rattle.subsumption.specs.TestEnd.TheVariants as E
use Rattle.subsumption.proofs.Chains.{chain_stays, ruled_out_stays}
use Rattle.subsumption.proofs.InLimit.{at_top, at_bottom, at_name}
use Rattle.subsumption.proofs.Settled.{ruled_out_is_true}
use Rattle.realizer.specs.Asked.{IsBefore}
use Rattle.realizer.specs.Candidates.{has_individual}
use Rattle.realizer.specs.Instances.{instance_query}
use Rattle.realizer.specs.Places.{Place, class_place, individual_place, left_of, IsPlaceStep, IsPlaceChain}
use Rattle.realizer.specs.Places.IsPlaceStep.{by_test, in_top, of_bottom}
use Rattle.realizer.specs.Places.IsPlaceChain.{none, onward}
use Rattle.subsumption.specs.OracleLists.{OracleLists}
use Rattle.realizer.specs.ShownLogs.{HasYes, IsModelledOut, ShowsInstances, ShowsTypes, ShowsMembers, IsShownType}
use Rattle.realizer.specs.ShownLogs.{ShowsRows, ShowsKnownTypes}
use Rattle.realizer.specs.TypeRows.{typed_by}

-- ---- a log with an entry more

module _ (log : List Entry) (e : Entry) where
  stays_there : (x : Entry) → Contains log x → Contains (log ++ e ∷ []) x
  stays_there x there = Contains-append_left log (e ∷ []) x there

  yes_stays : (q : Query) → HasYes log q → HasYes (log ++ e ∷ []) q
  yes_stays q h = record {
    tested = h.tested;
    steps = h.steps;
    enough = h.enough;
    is_yes = stays_there (Test h.tested q h.steps (E.Yes h.enough)) h.is_yes;
  }

  out_stays : (o : Listed) (c : Concept) (a : ℕ) → IsModelledOut o log c a → IsModelledOut o (log ++ e ∷ []) c a
  out_stays o c a h = record {
    tested = h.tested;
    query = h.query;
    steps = h.steps;
    is_no = stays_there (Test h.tested h.query h.steps E.No) h.is_no;
    model = h.model;
    refuting = h.refuting;
    is_out = h.is_out;
  }

  pub members_stay : (o : Listed) (c : Concept) (i : ℕ) (members : Limited) → ShowsMembers o c log i members
      → ShowsMembers o c (log ++ e ∷ []) i members
  members_stay o c i members h = record {
    in_them = λ a before la member. yes_stays (instance_query c a) (h.in_them a before la member);
    out_of_them = λ a la gone. out_stays o c a (h.out_of_them a la gone);
  }

  type_stays : (known : Rows) (a x : ℕ) → IsShownType known log a x → IsShownType known (log ++ e ∷ []) a x
  type_stays known a x h = record {
    lower = h.lower;
    is_part = h.is_part;
    is_type =
        elim h.is_type
        [ inl all ↦ inl all | inr found ↦ inr (found.0, yes_stays (instance_query (name h.lower) a) found.1) ];
  }

  pub types_stay : (known : Rows) (a : ℕ) (types : Limited) → ShowsKnownTypes known log a types
      → ShowsKnownTypes known (log ++ e ∷ []) a types
  types_stay known a types h x lx member = type_stays known a x (h x lx member)

  pair_stays : (n x y : ℕ) → IsShownPair n log x y → IsShownPair n (log ++ e ∷ []) x y
  pair_stays n x y shown = elim shown [
    | inl chain ↦ inl (chain_stays log e (class_at n x) (class_at n y) chain)
    | inr out ↦ inr (ruled_out_stays log e (class_at n x) (class_at n y) out)
  ]

  pub rows_stay : (o : Listed) (known : Rows) (i : ℕ) (rows : List Limited) → ShowsRows o known log i rows
      → ShowsRows o known (log ++ e ∷ []) i rows
  rows_stay o known i rows h = record {
    chains =
        λ x y lx ly part. chain_stays log e (class_at (length o.classes) x) (class_at (length o.classes) y)
        (h.chains x y lx ly part);
    pairs = λ x y lx ly. pair_stays (length o.classes) x y (h.pairs x y lx ly);
    in_rows = λ a x before la lx typed. type_stays known a x (h.in_rows a x before la lx typed);
    out_of_rows = λ a x la lx gone. out_stays o (name x) a (h.out_of_rows a x la lx gone);
  }

-- a yes that was put last
pub last_yes : (log : List Entry) (s : Limited) (q : Query) (steps : ℕ) (u : Limited)
    → HasYes (log ++ Test s q steps (E.Yes u) ∷ []) q
last_yes log s q steps u = record {
  tested = s;
  steps = steps;
  enough = u;
  is_yes = Contains-push log (Test s q steps (E.Yes u));
}

-- a no that was put last, and what a counter-model shows
pub last_no : (o : Listed) (log : List Entry) (s : Limited) (q : Query) (steps : ℕ) (m : ModelLists)
    → IsRefuting o s q m → (c : Concept) (a : ℕ) → has_element (meaning m) c ((meaning m).individual a) ≡ false
    → IsModelledOut o (log ++ Test s q steps E.No ∷ []) c a
last_no o log s q steps m r c a out = record {
  tested = s;
  query = q;
  steps = steps;
  is_no = Contains-push log (Test s q steps E.No);
  model = m;
  refuting = r;
  is_out = out;
}

-- ---- instances

-- of one individual more it is shown
pub members_next : (o : Listed) (c : Concept) (log : List Entry) (i : ℕ) (members : Limited)
    → ShowsMembers o c log i members → (has_individual members i ≡ true → HasYes log (instance_query c i))
    → ShowsMembers o c log (i + 1) members
members_next o c log i members h is = record {
  in_them = λ a before_next la member. elim (cases_lt a i) [
    | inl lt ↦ h.in_them a lt la member
    | inr ge ↦
        let e : a ≡ i = omega (arith, before_next, ge) in
        subst (λ (b : ℕ). HasYes log (instance_query c b)) (sym e)
        (is (subst (λ (b : ℕ). has_individual members b ≡ true) e member))
  ];
  out_of_them = h.out_of_them;
}

-- and in the end of each
pub all_shown : (o : Listed) (c : Concept) (log : List Entry) (members : Limited)
    → ShowsMembers o c log (length o.individuals) members → ShowsInstances o c log
all_shown o c log members h a la = elim (cases_Bool (has_individual members a))
    [ inl member ↦ inl (h.in_them a la la member) | inr gone ↦ inr (h.out_of_them a la gone) ]

-- ---- types

-- before an individual was asked about, where each class is possible for each
pub rows_at_first : (o : Listed) (budget : ℕ) (log : List Entry) (known : Rows) (rows : List Limited)
    → IsClassificationLog o budget log → IsSettled o log known
    → ((a x : ℕ) → a < length o.individuals → x < length o.classes → typed_by rows a x ≡ true)
    → ShowsRows o known log 0 rows
rows_at_first o budget log known rows honest settled full = record {
  chains = λ x y lx ly part. elim (settled.shown x y lx ly) [
    | inl chain ↦ chain
    | inr out ↦
        absurd (ruled_out_is_true o budget log honest (class_at (length o.classes) x) (class_at (length o.classes) y) out
        ((settled.is_so x y (omega (arith, lx)) (omega (arith, ly))).0 part))
  ];
  pairs = settled.shown;
  in_rows = λ a x before la lx typed. absurd (omega (arith, before));
  out_of_rows = λ a x la lx gone. absurd (true≢false (sym (full a x la lx) ∙ gone));
}

-- a chain of classes is one of places
place_step : (log : List Entry) (x y : Concept) → IsStep log x y → IsPlaceStep log (class_place x) (class_place y)
place_step log _ _ (class_test s q steps u any there) =
    subst (λ (on : On). IsPlaceStep log (left_of q.sub on) (class_place q.sup)) any (by_test s q steps u there)
place_step log _ _ (class_in_top x) = in_top (class_place x)
place_step log _ _ (class_of_bottom y) = of_bottom y

place_chain : (log : List Entry) (x y : Concept) → IsChain log x y → IsPlaceChain log (class_place x) (class_place y)
place_chain log _ _ (no_class_step x) = none (class_place x)
place_chain log _ _ (class_onward x y z step rest) =
    onward (class_place x) (class_place y) (class_place z) (place_step log x y step) (place_chain log y z rest)

module _ (o : Listed) (known : Rows) (log : List Entry) (count_is : known.count ≡ length o.classes)
    (chains : (x y : ℕ) → x < length o.classes + 2 → y < length o.classes + 2 → holds known x y ≡ true
    → IsChain log (class_at (length o.classes) x) (class_at (length o.classes) y)) where
  abbrev n : ℕ
  n = length o.classes

  -- from a class to a listed one
  to_listed : (lower x : ℕ) (c : Concept) → class_at n lower ≡ c → lower < n + 2 → x < n → holds known lower x ≡ true
      → IsPlaceChain log (class_place c) (class_place (name x))
  to_listed lower x c is ll lx part =
      place_chain log c (name x)
      (subst (λ (b : Concept). IsChain log b (name x)) is
      (subst (IsChain log (class_at n lower)) (at_name n x lx) (chains lower x ll (omega (arith, lx)) part)))

  chain_of : (a x : ℕ) → x < n → IsShownType known log a x
      → IsPlaceChain log (individual_place a) (class_place (name x))
  chain_of a x lx h = elim h.is_type [
    | inl all ↦
        let e : h.lower ≡ n = all ∙ count_is in
        onward (individual_place a) (class_place top) (class_place (name x)) (in_top (individual_place a))
        (to_listed h.lower x top (at_top n h.lower e) (omega (arith, e)) lx h.is_part)
    | inr found ↦
        let ll : h.lower < n = omega (arith, found.0, count_is) in
        let yes' = found.1 in
        onward (individual_place a) (class_place (name h.lower)) (class_place (name x))
        (by_test yes'.tested (instance_query (name h.lower) a) yes'.steps yes'.enough yes'.is_yes)
        (to_listed h.lower x (name h.lower) (at_name n h.lower ll) (omega (arith, ll)) lx h.is_part)
  ]

  -- where nothing can have an element, chains lead to each class
  none_chain : (a x : ℕ) → holds known n (n + 1) ≡ true
      → IsPlaceChain log (individual_place a) (class_place (name x))
  none_chain a x part =
      let chain =
      subst (λ (b : Concept). IsChain log b bottom) (at_top n n refl)
      (subst (IsChain log (class_at n n)) (at_bottom n (n + 1) refl) (chains n (n + 1) (omega arith) (omega arith) part))
      in
      onward (individual_place a) (class_place top) (class_place (name x)) (in_top (individual_place a))
      (joined (class_place top) (class_place bottom) (class_place (name x)) (place_chain log top bottom chain)
      (onward (class_place bottom) (class_place (name x)) (class_place (name x)) (of_bottom (name x))
      (none (class_place (name x)))))
    where
      joined : (p q r : Place) → IsPlaceChain log p q → IsPlaceChain log q r → IsPlaceChain log p r
      joined _ _ r (none p) more = more
      joined _ _ r (onward p q s step rest) more = onward p q r step (joined q s r rest more)

-- where each individual was asked about
pub types_are_shown : (o : Listed) (l : OracleLists) (known : Rows) (axioms : Limited) (rows : List Limited)
    → l.ontology ≡ o → IsBefore l known axioms (length l.ontology.individuals) rows → ShowsTypes o l.log
types_are_shown o l known axioms rows same b =
    subst (λ (p : Listed). ShowsTypes p l.log) same
    (λ a x la lx. elim (cases_Bool (typed_by rows a x)) [
      | inl typed ↦
          inl (chain_of l.ontology known l.log b.typing.count_is b.typing.shown.chains a x lx
          (b.typing.shown.in_rows a x la la lx typed))
      | inr gone ↦ inr (b.typing.shown.out_of_rows a x la lx gone)
    ])

-- the questions on individuals leave it settled which class is part of which
pub still_settled : (o : Listed) (l : OracleLists) (known : Rows) (axioms : Limited) (rows : List Limited)
    → l.ontology ≡ o → IsBefore l known axioms (length l.ontology.individuals) rows → IsSettled o l.log known
still_settled o l known axioms rows same b =
    subst (λ (p : Listed). IsSettled p l.log known) same (record {
      count_is = b.typing.count_is;
      order = b.typing.order;
      is_so = b.typing.is_so;
      shown = b.typing.shown.pairs;
    })

-- and where it is settled that nothing can have an element
pub none_are_shown : (o : Listed) (budget : ℕ) (log : List Entry) (known : Rows) → IsClassificationLog o budget log
    → IsSettled o log known → (all none' : ℕ) → all ≡ known.count → none' ≡ known.count + 1
    → holds known all none' ≡ true → ShowsTypes o log
none_are_shown o budget log known honest settled all none' is_all is_none part a x la lx =
    let e : all ≡ length o.classes = is_all ∙ settled.count_is in
    let f : none' ≡ length o.classes + 1 = omega (arith, settled.count_is, is_none) in
    let rows = rows_of_chains in
    inl (none_chain o known log settled.count_is rows a x (subst (λ (k : ℕ). holds known (length o.classes) k ≡ true) f
    (subst (λ (k : ℕ). holds known k none' ≡ true) e part)))
  where
    rows_of_chains : (y z : ℕ) → y < length o.classes + 2 → z < length o.classes + 2 → holds known y z ≡ true
        → IsChain log (class_at (length o.classes) y) (class_at (length o.classes) z)
    rows_of_chains y z ly lz h = elim (settled.shown y z ly lz) [
      | inl chain ↦ chain
      | inr out ↦
          absurd (ruled_out_is_true o budget log honest (class_at (length o.classes) y) (class_at (length o.classes) z)
          out ((settled.is_so y z (omega (arith, ly)) (omega (arith, lz))).0 h))
    ]
