-- What a run shows of another query.
use Rattle.std.proofs.Common.{◌≡◌, ℕ, zero, suc, ◌<◌, ◌&&◌, ◌||◌, not, cond, Bool, true, false, List, [], ◌∷◌}
use Rattle.std.proofs.Common.{length, get_or, refl, ap}
use Rattle.std.proofs.Common.{◌∙◌, sym, subst, arith, inl, inr, eq-eqb}
use Rattle.std.specs.Prelude.{◌==◌, Contains}
use Rattle.std.specs.List.{list_any, All}
use Rattle.std.proofs.lemmas.Bool.{and_parts, and_from, or_cases, or_left, or_right, or_parts, eqb-true, lt-ltb}
use Rattle.std.proofs.lemmas.Bool.{not-true, cases_Bool, false_from_ne_true, both_ways}
use Rattle.std.proofs.lemmas.List.{append-nil}
use Rattle.std.proofs.lemmas.List.Folds.{list_all-append}
use Rattle.shq_terms.specs.Concept.{name}
use Rattle.shq_terms.specs.Listed.{Listed}
use Rattle.shq_terms.specs.Uses.{uses_listed}
use Rattle.shq_terms.specs.declared.axioms.On.{On}
use Rattle.shq_terms.specs.declared.axioms.On.TheVariants.{Any, Individual}
use Rattle.calculus_specs.specs.Rules.{Question}
use Rattle.closed_search.specs.Theory.{question_in}
use Rattle.shq_terms.specs.declared.axioms.Query.{Query}
use Rattle.axiom_sets.specs.Sets.{Limited, member_list}
use Rattle.calculus_specs.specs.Shape.{Shape, shape_of}
use Rattle.calculus_specs.specs.Shape.Shape.{name as name_shape, not_name, union}
use Rattle.calculus_specs.specs.declared.facts.Fact.{Fact}
use Rattle.calculus_specs.specs.declared.facts.Fact.TheVariants.{Has, Edge, Apart, Same}
use Rattle.search_laws.specs.Counted.{counted_roles}
use Rattle.search_laws.specs.Simple.{all_role_axioms, is_simple, are_simple}
use Rattle.search_rules.specs.Limits.{IsInLimit, has_enough_parts}
use Rattle.tableau_specs.specs.declared.Item.{Item}
use Rattle.tableau_specs.specs.Items.{facts_of}
use Rattle.tableau_specs.specs.Reached.{start}
use Rattle.search_laws.proofs.CounterModelLaws.{saturated_does_not_entail}
use Rattle.search_laws.specs.Runs.{IsRun, was_ever, puts, puts_at, SetsApart, LeavesOut}
use Rattle.search_laws.specs.ReuseLaws.{EndsSaturated, with_sup}
use Rattle.search_laws.proofs.Answering.{one_run_answers_more}
use Rattle.search_laws.proofs.BeforeNodes.{asked_each}
use Rattle.search_laws.proofs.Unnamed.{any_is_unnamed}
use Rattle.tableau.specs.Seen.{holds, class_of, complement_of, union_parts, is_one, is_complement, has_complement}
use Rattle.tableau.specs.Seen.{SeenSets, gives_class, gives_complement, gives_bearing, has_seen, counted, IsToldApart}
use Rattle.tableau.proofs.Told.{told_now}
use Rattle.search_rules.specs.RuleLists.{AreNumbersOf}
use Rattle.tableau.specs.SearchState.{SearchState, is_any, room_for, question_of, context_of, trail_of, IsReachedBy}
use Rattle.tableau.specs.SearchState.{HasRun}
use Rattle.tableau.specs.Steps.{IsAtModel, AsksForAny, LeavesClassOut, query_for, IsShownApart, AreLeftOut}

-- the query for a listed class is within the limits
query_in_limit : (o : Listed) (q : Query) (a : ℕ) → IsInLimit o q → a < length o.classes
    → IsInLimit o (record { sub = q.sub; sup = name a; on = Any })
query_in_limit o q a h lt = record {
  ontology = h.ontology;
  listed =
      and_from (uses_listed (length o.classes) (length o.roles) q.sub) _
      (and_parts (uses_listed (length o.classes) (length o.roles) q.sub)
      (uses_listed (length o.classes) (length o.roles) q.sup) h.listed).0
      (lt-ltb a (length o.classes) lt);
  items =
      and_from (has_enough_parts q.sub) true (and_parts (has_enough_parts q.sub) (has_enough_parts q.sup) h.items).0
      refl;
  counts = and_from _ true (and_parts _ _ h.counts).0 refl;
  simple =
      ap (are_simple (all_role_axioms o.axioms)) (append-nil (counted_roles q.sub))
      ∙ (and_parts (are_simple (all_role_axioms o.axioms) (counted_roles q.sub))
      (are_simple (all_role_axioms o.axioms) (counted_roles q.sup))
      (sym (list_all-append (is_simple (all_role_axioms o.axioms)) (counted_roles q.sub) (counted_roles q.sup))
      ∙ h.simple)).0;
  on_listed = refl;
}

-- ---- what was not seen was left out

module _ (p q : Fact ℕ → Bool) (more : (f : Fact ℕ) → p f ≡ true → q f ≡ true) where
  any_more : (fs : List (Fact ℕ)) → list_any p fs ≡ true → list_any q fs ≡ true
  any_more [] h = h
  any_more (f ∷ fs) h = elim (or_cases (p f) (list_any p fs) h) [
    | inl here ↦ or_left (q f) (list_any q fs) (more f here)
    | inr later ↦ or_right (q f) (list_any q fs) (any_more fs later)
  ]

  pub ever_more : (run : List (List Item)) → was_ever p run ≡ true → was_ever q run ≡ true
  ever_more [] h = h
  ever_more (t ∷ ts) h = elim (or_cases (list_any p (facts_of t)) (was_ever p ts) h) [
    | inl here ↦ or_left (list_any q (facts_of t)) (was_ever q ts) (any_more (facts_of t) here)
    | inr later ↦ or_right (list_any q (facts_of t)) (was_ever q ts) (ever_more ts later)
  ]

any_at : (p : ℕ → Bool) (xs : List ℕ) (x : ℕ) → Contains xs x → p x ≡ true → list_any p xs ≡ true
any_at p [] x m h = absurd (omega (arith, m.1))
any_at p (y ∷ ys) x (zero, lt, is) h = or_left (p y) (list_any p ys) (ap p is ∙ h)
any_at p (y ∷ ys) x (suc k, lt, is) h = or_right (p y) (list_any p ys) (any_at p ys x (k, omega (arith, lt), is) h)

module _ (at : ℕ) (table : List Shape) (a c : ℕ) where
  gives_there : shape_of table c ≡ name_shape a → (f : Fact ℕ) → puts_at at c f ≡ true → gives_class at table a f ≡ true
  gives_there sh (Has x d) h =
      let t = and_parts (x == at) (d == c) h in
      and_from (x == at) (is_one a (class_of (shape_of table d))) t.0
      (ap (λ (n : ℕ). is_one a (class_of (shape_of table n))) (eqb-true d c t.1)
      ∙ ap (λ (s : Shape). is_one a (class_of s)) sh ∙ eq-eqb a a refl)
  gives_there sh (Edge r x y) h = h
  gives_there sh (Apart y z) h = h
  gives_there sh (Same y z) h = h

  complement_is : shape_of table c ≡ not_name a → is_complement table a c ≡ true
  complement_is sh = ap (λ (s : Shape). is_one a (complement_of s)) sh ∙ eq-eqb a a refl

  gives_anywhere : shape_of table c ≡ not_name a → (f : Fact ℕ) → puts c f ≡ true → gives_complement at table a f ≡ true
  gives_anywhere sh (Has x d) h =
      or_left (is_complement table a d) (x == at && has_complement table a (union_parts (shape_of table d)))
      (ap (is_complement table a) (eqb-true d c h) ∙ complement_is sh)
  gives_anywhere sh (Edge r x y) h = h
  gives_anywhere sh (Apart y z) h = h
  gives_anywhere sh (Same y z) h = h

pub any_is : (on : On) → is_any on ≡ true → on ≡ Any
any_is Any h = refl
any_is (Individual a) h = cc

pub asks_for_any : (s : SearchState) → s.query.on ≡ Any → s.not_sup ≡ 0 → AsksForAny s
asks_for_any s on alone = record { on_any = on; sub_alone = alone }

room_is : (count : ℕ) (s : SearchState) → AsksForAny s → room_for count s.query.on s.not_sup ≡ count
room_is count s any = λ i. room_for count (any.on_any i) (any.sub_alone i)

-- a trail of the run
ever_at : (p : Fact ℕ → Bool) (run : List (List Item)) (k : ℕ) (d : List Item) → k < length run
    → list_any p (facts_of (get_or run k d)) ≡ true → was_ever p run ≡ true
ever_at p [] k d lt h = absurd (omega (arith, lt))
ever_at p (t ∷ ts) zero d lt h = or_left (list_any p (facts_of t)) (was_ever p ts) h
ever_at p (t ∷ ts) (suc k) d lt h =
    or_right (list_any p (facts_of t)) (was_ever p ts) (ever_at p ts k d (omega (arith, lt)) h)

module _ (first at : ℕ) (table : List Shape) (a : ℕ) where
  bearing_there : (c : ℕ) → shape_of table c ≡ not_name a → (f : Fact ℕ) → puts_at at c f ≡ true
      → gives_bearing at table a f ≡ true
  bearing_there c sh (Has x d) h =
      let t = and_parts (x == at) (d == c) h in
      and_from (x == at) (is_complement table a d || has_complement table a (union_parts (shape_of table d))) t.0
      (or_left (is_complement table a d) (has_complement table a (union_parts (shape_of table d)))
      (ap (is_complement table a) (eqb-true d c t.1) ∙ complement_is at table a c sh))
  bearing_there c sh (Edge r x y) h = h
  bearing_there c sh (Apart y z) h = h
  bearing_there c sh (Same y z) h = h

  bearing_in_union : (c d : ℕ) (parts : List ℕ) → shape_of table d ≡ union parts → Contains parts c
      → shape_of table c ≡ not_name a → (f : Fact ℕ) → puts_at at d f ≡ true → gives_bearing at table a f ≡ true
  bearing_in_union c d parts is part sh (Has x e) h =
      let t = and_parts (x == at) (e == d) h in
      let has : has_complement table a (union_parts (shape_of table e)) ≡ true =
      ap (λ (n : ℕ). has_complement table a (union_parts (shape_of table n))) (eqb-true e d t.1)
      ∙ ap (λ (s : Shape). has_complement table a (union_parts s)) is
      ∙ any_at (is_complement table a) parts c part (complement_is at table a c sh) in
      and_from (x == at) (is_complement table a e || has_complement table a (union_parts (shape_of table e))) t.0
      (or_right (is_complement table a e) (has_complement table a (union_parts (shape_of table e))) has)
  bearing_in_union c d parts is part sh (Edge r x y) h = h
  bearing_in_union c d parts is part sh (Apart y z) h = h
  bearing_in_union c d parts is part sh (Same y z) h = h

  -- the complement bears on the node where it was put there at all
  bearing_is : (f : Fact ℕ) → gives_bearing at table a f ≡ true → gives_complement at table a f ≡ true
  bearing_is (Has x c) h =
      let p = is_complement table a c in
      let q = has_complement table a (union_parts (shape_of table c)) in
      let t = and_parts (x == at) (p || q) h in
      elim (or_cases p q t.1) [
        | inl one ↦ or_left p (x == at && q) one
        | inr other ↦ or_right p (x == at && q) (and_from (x == at) q t.0 other)
      ]
  bearing_is (Edge r x y) h = h
  bearing_is (Apart y z) h = h
  bearing_is (Same y z) h = h

  module _ (run : List (List Item)) (no_class : was_ever (gives_class at table a) run ≡ false)
      (no_bearing : was_ever (gives_bearing at table a) run ≡ false) where
    leaves_out : All (SetsApart first at table run a) run → LeavesOut first at table run a
    leaves_out apart = record {
      class_is_not_there = λ c ever sh. (let k =
          ever_more (puts_at at c) (gives_class at table a) (gives_there at table a c sh) run ever in
          cc);
      unions_there_lack_complement = λ c d parts ever is part sh. (let k =
          ever_more (puts_at at c) (gives_bearing at table a) (bearing_in_union d c parts is part sh) run ever in
          cc);
      complement_is_not_there = λ c ever sh. (let k =
          ever_more (puts_at at c) (gives_bearing at table a) (bearing_there c sh) run ever in
          cc);
      complement_is_apart = asked_each (SetsApart first at table run a) first run apart;
    }

  -- the complement was put nowhere
  nowhere : (run : List (List Item)) → was_ever (gives_complement at table a) run ≡ false
      → All (SetsApart first at table run a) run
  nowhere run none k d lt x c high put sh =
      absurd (let ever =
      ever_at (gives_complement at table a) run k d lt
      (any_more (puts_at x c) (gives_complement at table a) (gives_where x c sh) (facts_of (get_or run k d)) put) in
      cc)
    where
      gives_where : (x c : ℕ) → shape_of table c ≡ not_name a → (f : Fact ℕ) → puts_at x c f ≡ true
          → gives_complement at table a f ≡ true
      gives_where x c sh (Has y d) h =
          gives_anywhere at table a c sh (Has y d) (and_parts (y == x) (d == c) h).1
      gives_where x c sh (Edge r y z) h = h
      gives_where x c sh (Apart y z) h = h
      gives_where x c sh (Same y z) h = h

  -- where it was put, other nodes are told apart
  elsewhere : (run : List (List Item)) (s : SeenSets) → at < first → IsToldApart first at table run s
      → s.tells_apart ≡ true → a < s.bearing.limit → holds s.bearing a ≡ false
      → All (SetsApart first at table run a) run
  elsewhere run s is_first told tells lt out k d short x c high put sh =
      let trail = get_or run k d in
      let own =
      told_now first at table s trail (told.each k d short) x c a high
      (λ e. absurd (omega (arith, e, high, is_first))) lt put sh out in
      record {
        concept = own.concept;
        holds = own.holds_it;
        is_never_there =
            sym (told.there own.concept own.is_within)
            ∙ told.tells.0 tells own.concept own.is_within own.is_own;
        is_not_top = own.is_not_top;
        is_another = own.is_another;
      }

left_out : (s : SearchState) (run : HasRun s) (a : ℕ) → (question_of s).at < (context_of s).first
    → a < length s.rules.ontology.classes → LeavesClassOut s a
    → LeavesOut (context_of s).first (question_of s).at s.rules.table (trail_of s ∷ run.earlier) a
left_out s run a is_first lt out =
    let first = (context_of s).first in
    let at = (question_of s).at in
    let table = s.rules.table in
    let count = length s.rules.ontology.classes in
    let all = trail_of s ∷ run.earlier in
    let unseen = or_parts (holds s.seen.at_node a) (holds (counted s.seen) a) out.is_unseen in
    let whole : room_for count s.query.on s.not_sup ≡ count = room_is count s out.asks_for_any in
    let node_lt : a < s.seen.at_node.limit = omega (arith, lt, whole, run.are_over.node_limit) in
    let complements_lt : a < s.seen.complements.limit = omega (arith, lt, whole, run.are_over.complements_limit) in
    let no_class : was_ever (gives_class at table a) all ≡ false = sym (run.are_seen.at_node a node_lt) ∙ unseen.0 in
    elim (cases_Bool s.seen.tells_apart) [
      | inl tells ↦
          let noted =
          run.from_nothing
          (false_from_ne_true s.behind (λ is_behind.
          both_ways s.seen.tells_apart (run.not_apart is_behind) tells)) in
          let told = noted.told_apart in
          let bearing_lt : a < s.seen.bearing.limit = omega (arith, node_lt, told.limit) in
          let none : holds s.seen.bearing a ≡ false =
          sym (ap (λ (b : Bool). holds (cond b s.seen.bearing s.seen.complements) a) tells) ∙ unseen.1 in
          leaves_out first at table a all no_class
          (false_from_ne_true (was_ever (gives_bearing at table a) all)
          (λ ever. (let k = told.all_noted a bearing_lt ever in cc)))
          (elsewhere first at table a all s.seen is_first told tells bearing_lt none)
      | inr not_told ↦
          let none : holds s.seen.complements a ≡ false =
          sym (ap (λ (b : Bool). holds (cond b s.seen.bearing s.seen.complements) a) not_told) ∙ unseen.1 in
          let no_complement : was_ever (gives_complement at table a) all ≡ false =
          sym (run.are_seen.complements a complements_lt) ∙ none in
          leaves_out first at table a all no_class
          (false_from_ne_true (was_ever (gives_bearing at table a) all) (λ ever.
          (let k =
          ever_more (gives_bearing at table a) (gives_complement at table a) (bearing_is first at table a) all ever in
          cc)))
          (nowhere first at table a all no_complement)
    ]

-- the query for a class asks the same of the same node, and more
asks_more : (s : SearchState) (a : ℕ) → AsksForAny s → (k : ℕ)
    → EndsSaturated s.rules.table (context_of s).rows a (with_sup (question_of s) (name a)) k
    → EndsSaturated s.rules.table (context_of s).rows a
    (question_in s.rules.ontology (member_list s.rules.set) (query_for s a)) k
asks_more s a any k h =
    subst (λ (on : On). EndsSaturated s.rules.table (context_of s).rows a
    (question_in s.rules.ontology (member_list s.rules.set) (record { sub = s.query.sub; sup = name a; on = on })) k)
    any.on_any h

module _ (s : SearchState) (a : ℕ) (limit : IsInLimit s.rules.ontology s.query)
    (numbers : AreNumbersOf s.rules s.query s.sub s.not_sup) (reached : IsReachedBy s) (run : HasRun s)
    (model : IsAtModel s)
    (lt : a < length s.rules.ontology.classes) (out : LeavesClassOut s a) where
  abbrev asked : Question
  asked = question_of s

  ends :
      EndsSaturated s.rules.table (context_of s).rows a
      (question_in s.rules.ontology (member_list s.rules.set) (query_for s a)) s.steps
  ends =
      let unnamed =
      any_is_unnamed (length s.rules.ontology.individuals) s.rules.ontology.axioms (member_list s.rules.set) s.query
      out.asks_for_any.on_any in
      asks_more s a out.asks_for_any s.steps
      (one_run_answers_more asked s.rules.table (context_of s).rows s.sub s.steps a (trail_of s) run.earlier
      reached.is_table reached.is_choice reached.facts_have_numbers reached.at_first unnamed numbers.sub_listed
      numbers.sub_is
      (subst (λ (n : ℕ). IsRun (context_of s) (start asked.at s.sub n) (trail_of s ∷ run.earlier))
      out.asks_for_any.sub_alone run.is_run)
      run.counted model.is_saturated (left_out s run a reached.at_first lt out))

  shown_apart : IsShownApart s a
  shown_apart = record {
    follows_not =
        saturated_does_not_entail s.rules.ontology (member_list s.rules.set) (query_for s a) ends.longer
        (context_of s).rows
        s.steps ends.trail (query_in_limit s.rules.ontology s.query a limit lt)
        ends.reached ends.is_saturated;
    cost = record {
      table = ends.longer;
      rows = (context_of s).rows;
      trail = ends.trail;
      reached = ends.reached;
      ends = inl ends.is_saturated;
    };
  }

-- ---- all classes at once

pub left_out_classes : (s : SearchState) → IsInLimit s.rules.ontology s.query
    → AreNumbersOf s.rules s.query s.sub s.not_sup → IsReachedBy s → (run : HasRun s) → IsAtModel s → AsksForAny s
    → (classes : Limited)
    → classes.limit ≡ s.seen.at_node.limit
    → ((a : ℕ) → a < s.seen.at_node.limit → holds classes a ≡ not (has_seen s.seen a)) → AreLeftOut s classes
left_out_classes s limit numbers reached run model any classes limit_is are =
    let count = length s.rules.ontology.classes in
    let whole : s.seen.at_node.limit ≡ count = run.are_over.node_limit ∙ room_is count s any in
    let out : (a : ℕ) → a < count → holds classes a ≡ true → LeavesClassOut s a =
    λ a lt h. record {
      asks_for_any = any;
      is_unseen = not-true (has_seen s.seen a) (sym (are a (omega (arith, lt, whole))) ∙ h);
    } in
    record {
      limit_is = limit_is ∙ whole;
      exact = λ a lt. (out a lt, λ o. are a (omega (arith, lt, whole)) ∙ ap not o.is_unseen);
      apart = λ a lt h. shown_apart s a limit numbers reached run model lt (out a lt h);
    }
