-- From what an asker answered to what a search found.
use Rattle.std.proofs.Common.{◌≡◌, ◌⊎◌, ℕ, zero, suc, ◌+◌, ◌-◌, ◌*◌, ◌^◌, ◌<◌, ◌≤◌, Bool, true, false, List, [], ◌∷◌}
use Rattle.std.proofs.Common.{◌++◌, length, get_or, Result, Ok, Err, refl, ap, sym, ◌∙◌, subst, arith, inl, inr}
use Rattle.std.proofs.Common.{length-append}
use Rattle.std.specs.Prelude.{◌||◌, slice_get, IfOk, OnErr}
use Rattle.std.specs.List.{Contains, list_any}
use Rattle.std.proofs.Math.Bool.{or-true}
use Rattle.std.proofs.Math.Nat.{mul-le-mul_right}
use Rattle.std.proofs.lemmas.List.Folds.{list_any-append}
use Rattle.std.proofs.lemmas.List.Sums.{sum_by-cons, sum_by-append}
use Rattle.std.proofs.lemmas.Bool.{and_parts, cases_Bool, true≢false}
use Rattle.std.proofs.lemmas.List.Elements.{All-contains, Contains-get_or}
use Rattle.std.specs.Cmp.{nat_cmp_total}
use Rattle.std.specs.FinSet as set
use Rattle.lane_sieve.specs.Sets.{NumberSet, IsPart}
use Rattle.axiom_sets.specs.Sets.{Limited}
use Rattle.axiom_sets.proofs.Same.{set_of_parts, same_limited}
use Rattle.pinpointing_specs.specs.Smallest.{rest, IsMinimalYes}
use Rattle.pinpointing_specs.specs.Nodes.{AreNodes, IsSettled}
use Rattle.pinpointing_specs.proofs.Choices.{to_rest, in_rest, to_without}
use Rattle.pinpointing_specs.proofs.Explored.{removal_is_leaf}
use Rattle.shq_terms.specs.NoMemory.{NoMemory}
use Rattle.repair_list.specs.TreeFound.{Found}
use Rattle.repair_list.specs.Tree.{HasFoundIn, LooksInBudget}
use Rattle.repair_list.specs.Found.{IsFound, ListsAllShown, HasTree}
use Rattle.repair_list.specs.Open.{AsksFew}
use Rattle.shq_terms.specs.Listed.{Listed}
use Rattle.shq_terms.specs.declared.axioms.Query.{Query as Asked}
use Rattle.pinpointing_specs.specs.LocalModule.{IsLocalModule, FollowsFrom, of_axioms, IsJustification, IsRepair}
use Rattle.pinpointing_specs.proofs.Grown.{grows}
use Rattle.pinpointing_specs.proofs.Kept.{keeps, intersection_part}
use Rattle.query_asker.specs.Entry.{Entry}
use Rattle.query_asker.specs.Entry.TheVariants.{Test, Node}
use Rattle.query_asker.specs.TestEnd.TheVariants as E
use Rattle.query_asker.specs.Entries.{cost_of, spent_of, nodes_of, is_spent, IsAnswered}
use Rattle.query_asker.specs.HonestLog.{IsAxiomSet, IsHonestEntry, EachIsHonest, IsJustificationSet, EndsWhenSpent}
use Rattle.query_asker.specs.HonestLog.{AreTreeNodes, AsksFewPerNode, IsHonestWithin, IsPinpointingLog}
use Rattle.query_asker.specs.Shown.{IsShownYes, IsShownNo}
use Rattle.query_asker.specs.OracleLists.{OracleLists}
use Rattle.query_asker.specs.AskerLists.{AskerLists, AskerOrigin, origin_of}
use Rattle.query_asker.specs.Told.{KeepsAnswers, IsShownNoIn, IsLeftOut, asker_meaning, IsAskerLog}
use Rattle.query_asker.proofs.Answering.{yes_by_log, no_by_log}
use Rattle.pinpointing_jobs.specs.Begun.{HasSearched}
use Rattle.pinpointing_jobs.specs.Known.{IsShownJustification, HasAllShownAmong, LeavesSomeOpenAmong}
use Rattle.pinpointing_jobs.specs.Searched.{IsLeaf, IsSearched}
use Rattle.pinpointing_jobs.specs.Gained.{HasGained, GainsSearch, GainsBegun}
use Rattle.pinpointing_jobs.proofs.RepairSets.{to_justification}

-- ---- counts

-- each node costs one
nodes_cost : (log : List Entry) → length (nodes_of log) ≤ spent_of log
nodes_cost [] = omega arith
nodes_cost (Test s q steps e ∷ log) = omega (arith, nodes_cost log, sum_by-cons cost_of (Test s q steps e) log)
nodes_cost (Node s ∷ log) = omega (arith, nodes_cost log, sum_by-cons cost_of (Node s) log)

-- so few asks are all counted
few_asks : (size nodes asks : ℕ) → size ≤ 20000 → nodes < 2 ^ 32 → asks ≤ (size + 1) * nodes → asks < 2 ^ 64 - 1
few_asks size nodes asks small within few =
    let size_small : size + 1 ≤ 20001 = omega arith in
    let more : (size + 1) * nodes ≤ 20001 * nodes = mul-le-mul_right nodes size_small in
    omega arith

-- ---- the log

-- what stands behind the items of another list
slice_get-append : {X : Type 0} (xs ys : List X) (place : ℕ)
    → slice_get (xs ++ ys) (length xs + place) ≡ slice_get ys place
slice_get-append {X = X} [] ys place = let e : 0 + place ≡ place = omega arith in ap (slice_get ys) e
slice_get-append {X = X} (x ∷ xs) ys place =
    let e : length (x ∷ xs) + place ≡ suc (length xs + place) = omega arith in
    ap (slice_get (x ∷ (xs ++ ys))) e ∙ slice_get-append xs ys place

-- what was left of the budget when the asker began
abbrev pub left_at_first : AskerLists → ℕ
left_at_first a = a.budget - spent_of a.before

module _ (a : AskerLists) (is_log : IsAskerLog a) where
  pub spent_both : spent_of (a.before ++ a.gained) ≡ spent_of a.before + spent_of a.gained
  spent_both = sum_by-append cost_of a.before a.gained

  within : spent_of a.gained ≤ left_at_first a
  within = omega (arith, is_log.within, spent_both)

  spent_before : list_any is_spent a.gained ≡ true → list_any is_spent (a.before ++ a.gained) ≡ true
  spent_before any =
      list_any-append is_spent a.before a.gained ∙ ap (λ (b : Bool). list_any is_spent a.before || b) any
      ∙ or-true (list_any is_spent a.before)

  ends : EndsWhenSpent (left_at_first a) a.gained
  ends = record {
    is_last =
        λ place e at spent. omega (
          arith,
          is_log.ends.is_last (length a.before + place) e (slice_get-append a.before a.gained place ∙ at) spent,
          length-append a.before a.gained,
        );
    is_whole = λ any. omega (arith, is_log.ends.is_whole (spent_before any), spent_both);
  }

  pub budget_kept : IsHonestWithin a.ontology (left_at_first a) a.gained
  budget_kept = record { within = within; honest = is_log.honest; ends = ends }

-- ---- what the log shows

-- each node is an entry
node_entry : (log : List Entry) (k : ℕ) (d : Limited) → k < length (nodes_of log)
    → Contains log (Node (get_or (nodes_of log) k d))
node_entry [] k d lt = absurd (omega (arith, lt))
node_entry (Test s q steps e ∷ log) k d lt = let at = node_entry log k d lt in (suc at.0, omega (arith, at.1), at.2)
node_entry (Node s ∷ log) zero d lt = (0, omega arith, refl)
node_entry (Node s ∷ log) (suc k) d lt =
    let at = node_entry log k d (omega (arith, lt)) in (suc at.0, omega (arith, at.1), at.2)

node_set : (o : Listed) (log : List Entry) (node : Limited) → EachIsHonest o log → Contains (nodes_of log) node
    → IsAxiomSet o node
node_set o log node honest at =
    let entry : Contains log (Node node) =
    subst (λ (n : Limited). Contains log (Node n)) at.2 (node_entry log at.0 node at.1) in
    All-contains (IsHonestEntry o) log (Node node) honest entry

in_both : (s m : NumberSet) (k : ℕ) → set.contains (set.intersection s m) k ≡ true
    → (set.contains s k ≡ true) × (set.contains m k ≡ true)
in_both s m k h =
    and_parts (set.contains s k) (set.contains m k) (sym (set.contains-intersection nat_cmp_total s m k) ∙ h)

-- a part of a smallest set of which a claim holds is that set, if it holds of the part
pub whole_part : (holds : NumberSet → Type 0) (s : Limited) (l : NumberSet)
    → ((t u : NumberSet) → IsPart t u → holds t → holds u) → IsMinimalYes holds s → holds l → IsPart l s.members
    → l ≡ s.members
whole_part holds s l grow smallest claim part =
    set_of_parts l s.members part
    (λ k in_s. elim (cases_Bool (set.contains l k)) [
      | inl there ↦ there
      | inr out ↦
          absurd (smallest.needed k in_s
          (grow l (set.remove s.members k)
          (λ i in_l. to_without s.members k i (λ e. true≢false (sym in_l ∙ ap (set.contains l) e ∙ out)) (part i in_l))
          claim))
    ])

-- what follows is told within the local module
pub module_keeps_answers : (o p : Listed) (q : Asked) (m : NumberSet) → p ≡ o → IsLocalModule o.axioms q m
    → KeepsAnswers p.axioms q m
module_keeps_answers o p q m e is =
    subst (λ (l : Listed). KeepsAnswers l.axioms q m) (sym e)
    (λ s. (keeps o.axioms q m is s, grows o.axioms q (set.intersection s m) s (intersection_part s m)))

-- the asker asks among axioms that keep its answers, and that are in each set of this kind
module _ (a : AskerLists) (is_log : IsAskerLog a) (keep : KeepsAnswers a.ontology.axioms a.query a.local_part)
    (is_enough : NumberSet → Type 0) (has : (m : NumberSet) → is_enough m → IsPart a.local_part m) where
  abbrev follows : NumberSet → Type 0
  follows = FollowsFrom a.ontology.axioms a.query

  module _ (m : NumberSet) (is : is_enough m) (s : NumberSet) (x : IsShownNoIn a.gained a.query m s) where
    has_common : IsPart (set.intersection s a.local_part) x.tested.members
    has_common k h = let both = in_both s a.local_part k h in x.has_part k both.0 (has m is k both.1)

    answered : IsAnswered a.gained
        (record { limit = length a.ontology.axioms; members = set.intersection s a.local_part }) a.query
    answered = (Test x.tested a.query x.steps E.No, x.is_no, (refl, has_common))

    follows_not : ¬ follows s
    follows_not f =
        let common : Limited = record { limit = length a.ontology.axioms; members = set.intersection s a.local_part } in
        (no_by_log a is_log common x.tested a.query x.steps x.is_no has_common).0
        ((keep s).0 f)

  of_rest : (m : NumberSet) (node : Limited) → IsShownNo a.gained a.query m node.members
      → IsShownNoIn a.gained a.query m (rest node)
  of_rest m node x = record {
    tested = x.tested;
    steps = x.steps;
    is_no = x.is_no;
    has_part = λ k outside in_m. x.has_rest k in_m (in_rest node k outside);
  }

  module _ (f : Found) (found : IsFound (asker_meaning a) f) where
    abbrev listed_sets : List Limited
    listed_sets = f.justifications.items

    -- ---- a search that is not finished

    -- what a node is
    abbrev IsTold : Limited → Type 0
    IsTold node = IsSettled listed_sets f.leaves.items node ⊎ (follows (rest node) ⊎ IsLeftOut a (rest node))

    beside : (node j : Limited) → node.limit ≡ length a.ontology.axioms → Contains listed_sets j
        → ((k : ℕ) → set.contains j.members k ≡ true → set.contains node.members k ≡ false) → follows (rest node)
    beside node j limit at apart =
        let smallest = found.smallest j at in
        grows a.ontology.axioms a.query j.members (rest node)
        (λ k in_j.
        let inside = smallest.within k in_j in
        to_rest node k inside.0 (omega (arith, inside.1, limit, found.just_limits j at)) (apart k in_j))
        smallest.yes_set

    not_shown : (t : NumberSet) → ((l : Limited) → Contains f.leaves.items l → ¬ IsPart l.members t)
        → (m : NumberSet) (node : Limited) → is_enough m
        → node.limit ≡ length a.ontology.axioms → IsPart node.members t
        → IsTold node → ¬ IsShownNo a.gained a.query m node.members
    not_shown t outside m node is limit part told x =
        let shown = of_rest m node x in
        let never = follows_not m is (rest node) shown in
        elim told [
          | inl settled ↦ elim settled
              [ inl leaf ↦ outside node leaf part | inr apart ↦ never (beside node apart.0 limit apart.1 apart.2) ]
          | inr left ↦ elim left [ inl claim ↦ never claim | inr unknown ↦ unknown (answered m is (rest node) shown) ]
        ]

    pub leaves_open : f.finished ≡ false → LeavesSomeOpenAmong is_enough a.query a.gained listed_sets
    leaves_open unfinished =
        let lacks = found.lacks unfinished in
        record {
          left = lacks.0;
          meets = lacks.1;
          no_leaf = λ m node is at part.
              let told = found.left_open unfinished at.0 node at.1 in
              not_shown lacks.0 (λ l leaf inside. lacks.2 (l, leaf, inside)) m node is
              (node_set a.ontology a.gained node is_log.honest at).limit_is part (subst IsTold at.2 told);
        }

    -- ---- what was found

    module _ (m j : NumberSet) (is : is_enough m)
        (x : IsShownJustification a.gained a.query m j) where
      abbrev whole_j : Limited
      whole_j = of_axioms a.ontology.axioms j

      named : IsAxiomSet a.ontology x.follows.enough
      named =
          (All-contains (IsHonestEntry a.ontology) a.gained
          (Test x.follows.tested a.query x.follows.steps (E.Yes x.follows.enough)) is_log.honest
          x.follows.is_yes).1.of_axioms

      j_follows : follows j
      j_follows =
          subst follows x.follows.is_set
          (yes_by_log a is_log x.follows.enough x.follows.tested a.query x.follows.steps x.follows.enough
          x.follows.is_yes named.limit_is (λ k h. h)).2

      j_smallest : IsMinimalYes follows whole_j
      j_smallest = record {
        within =
            λ k in_j.
            let inside =
            named.within k (subst (λ (s : NumberSet). set.contains s k ≡ true) (sym x.follows.is_set) in_j) in
            (inside.0, omega (arith, inside.1, named.limit_is));
        yes_set = j_follows;
        needed = λ k in_j. follows_not m is (set.remove j k) (x.needed k in_j);
      }

      by_part : (l : Limited) → Contains listed_sets l → IsPart l.members j → Contains listed_sets whole_j
      by_part l at part =
          let members =
          whole_part follows whole_j l.members (grows a.ontology.axioms a.query) j_smallest
          (found.smallest l at).yes_set part in
          subst (Contains listed_sets) (same_limited l whole_j (found.just_limits l at) members) at

      not_cut : (kept : Limited) (n : ℕ) → IsPart kept.members j → follows kept.members
          → set.contains kept.members n ≡ true → IsLeftOut a (set.remove kept.members n) → ⊥
      not_cut kept n part claim member unknown =
          let members =
          whole_part follows whole_j kept.members (grows a.ontology.axioms a.query) j_smallest claim part in
          subst (λ (s : NumberSet). IsLeftOut a (set.remove s n)) members unknown
          (answered m is (set.remove j n) (x.needed n (part n member)))

      by_found : (b : Bool) → HasFoundIn (asker_meaning a) listed_sets j b → Contains listed_sets whole_j
      by_found true part = by_part part.0 part.1 part.2
      by_found false either = elim either [
        | inl part ↦ by_part part.0 part.1 part.2
        | inr cut ↦ absurd (not_cut cut.0 cut.2.number cut.1 cut.2.still cut.2.member cut.2.unknown)
      ]

    pub all_shown : (b : AskerLists) → b.gained ≡ [] → ListsAllShown (asker_meaning b) (asker_meaning a) f
        → HasAllShownAmong is_enough a.ontology a.query a.gained listed_sets
    all_shown b none lists m j is x =
        elim (lists j x.follows) [
          | inl before ↦
              let at =
              subst (λ (l : List Entry). Contains l (Test before.tested b.query before.steps (E.Yes before.enough)))
              none before.is_yes in
              absurd (omega (arith, at.1))
          | inr found' ↦ by_found m j is x f.finished found'
        ]

-- ---- the log and the lists

module _ (a : AskerLists) (is_log : IsAskerLog a)
    (asked : a.asks ≤ (length a.ontology.axioms + 1) * length (nodes_of a.gained))
    (small : length a.ontology.axioms ≤ 20000) (budget_small : a.budget < 2 ^ 32) where
  pub few : AsksFewPerNode a.ontology a.gained
  few =
      let nodes_few : length (nodes_of a.gained) < 2 ^ 32 =
      omega (arith, nodes_cost a.gained, within a is_log, budget_small) in
      elim is_log.few [
        | inl le ↦ omega (arith, le, asked)
        | inr full ↦ absurd (omega (
          arith,
          full,
          few_asks (length a.ontology.axioms) (length (nodes_of a.gained)) a.asks small nodes_few asked,
        ))
      ]

-- smallest sets from which the query follows, and the nodes of a tree with these labels
module _ (a : AskerLists) (labels : List Limited)
    (limits : (j : Limited) → Contains labels j → j.limit ≡ length a.ontology.axioms)
    (smallest : (j : Limited) → Contains labels j → IsMinimalYes (FollowsFrom a.ontology.axioms a.query) j) where
  pub just : (j : Limited) → Contains labels j → IsJustificationSet a.ontology a.query j
  just j listed = to_justification a.ontology a.query j (limits j listed) (smallest j listed)

  pub tree : AreNodes labels (nodes_of a.gained) → AreTreeNodes a.ontology a.query a.gained
  tree nodes = record {
    labels = labels;
    justifications = λ k d lt. just (get_or labels k d) (Contains-get_or labels k d lt);
    nodes = nodes;
  }

module _ (a : AskerLists) (is_log : IsAskerLog a) (is_module : IsLocalModule a.ontology.axioms a.query a.local_part)
    (asked : a.asks ≤ (length a.ontology.axioms + 1) * length (nodes_of a.gained))
    (small : length a.ontology.axioms ≤ 20000) (budget_small : a.budget < 2 ^ 32) where
  honest_by : AreTreeNodes a.ontology a.query a.gained → IsPinpointingLog a.ontology a.query (left_at_first a) a.gained
  honest_by nodes = record {
    budget_kept = budget_kept a is_log;
    tests = is_log.tests;
    new = is_log.new;
    nodes = nodes;
    few = few a is_log asked small budget_small;
    in_module = record { local_part = a.local_part; is_module = is_module; within = is_log.in_module };
  }

module _ (a : AskerLists) (f : Found) (is_log : IsAskerLog a) (found : IsFound (asker_meaning a) f)
    (is_module : IsLocalModule a.ontology.axioms a.query a.local_part)
    (asked : a.asks ≤ (length a.ontology.axioms + 1) * length (nodes_of a.gained))
    (small : length a.ontology.axioms ≤ 20000) (budget_small : a.budget < 2 ^ 32)
    (begun : AskerLists) (fresh_log : begun.gained ≡ [])
    (lists : ListsAllShown (asker_meaning begun) (asker_meaning a) f)
    (in_budget : LooksInBudget (asker_meaning begun) (asker_meaning a) f.finished) where
  honest : IsPinpointingLog a.ontology a.query (left_at_first a) a.gained
  honest =
      honest_by a is_log is_module asked small budget_small
      (tree a f.justifications.items found.just_limits found.smallest found.nodes)

  leaf : (l : Limited) → Contains f.leaves.items l → IsLeaf a.ontology a.query l
  leaf l listed =
      record { limit_is = found.leaf_limits l listed; within = (found.ends l listed).0; ends = (found.ends l listed).1 }

  -- ---- a finished search

  yes_shown : f.finished ≡ true → (j : NumberSet) → IsJustification a.ontology.axioms a.query j
      → IsShownYes a.gained a.query j
  yes_shown finished j x =
      let s = of_axioms a.ontology.axioms j in
      found.shown_yes s (found.all finished s refl x)

  no_shown : f.finished ≡ true → (m r : NumberSet) → IsLocalModule a.ontology.axioms a.query m
      → IsRepair a.ontology.axioms a.query r → IsShownNo a.gained a.query m r
  no_shown finished m r is x =
      let s = of_axioms a.ontology.axioms r in
      let listed =
      removal_is_leaf (FollowsFrom a.ontology.axioms a.query) (length a.ontology.axioms) f.justifications.items
      f.leaves.items (grows a.ontology.axioms a.query) (found.explored finished) s refl x in
      let shown = found.shown_no s listed in
      record {
        tested = shown.tested;
        steps = shown.steps;
        is_no = shown.is_no;
        has_rest =
            λ k in_m out_r.
            let inside = is.within k in_m in
            shown.has_part k (to_rest s k inside.0 inside.1 out_r) (is.least a.local_part is_module.closed k in_m);
      }

  unspent : f.finished ≡ true → list_any is_spent a.gained ≡ false
  unspent finished =
      let same : (asker_meaning a).ran_out ≡ (asker_meaning begun).ran_out =
      subst (LooksInBudget (asker_meaning begun) (asker_meaning a)) finished in_budget in
      same ∙ ap (list_any is_spent) fresh_log

  keep : KeepsAnswers a.ontology.axioms a.query a.local_part
  keep = module_keeps_answers a.ontology a.ontology a.query a.local_part refl is_module

  abbrev IsModule : NumberSet → Type 0
  IsModule = IsLocalModule a.ontology.axioms a.query

  in_each : (m : NumberSet) → IsModule m → IsPart a.local_part m
  in_each m is = is_module.least m is.closed

  pub searched : IsSearched a.ontology a.query (left_at_first a) a.gained f
  searched = record {
    honest = honest;
    order = found.order;
    justifications = just a f.justifications.items found.just_limits found.smallest;
    leaves = leaf;
    limits = found.limits;
    nodes = found.nodes;
    leaf_taken = found.leaf_taken;
    settled = found.settled;
    all_shown = all_shown a is_log keep IsModule in_each f found begun fresh_log lists;
    left_open = leaves_open a is_log keep IsModule in_each f found;
    explored = found.explored;
    shown = λ finished. record { justifications = yes_shown finished; repairs = no_shown finished };
    unspent = unspent;
    spent = λ unfinished. omega (arith, found.spent unfinished, is_log.within, spent_both a is_log);
  }

-- ---- of what a call answers

-- what an asker is made of
pub record IsMadeOf (o : Listed) (q : Asked) (budget : ℕ) (m : NumberSet) (before : List Entry) (a : AskerLists) :
    Type 0 where
  pub ontology : a.ontology ≡ o
  pub query : a.query ≡ q
  pub budget_is : a.budget ≡ budget
  pub local_part : a.local_part ≡ m
  pub before_is : a.before ≡ before

pub is_made_of : (o : Listed) (q : Asked) (budget : ℕ) (m : NumberSet) (before : List Entry) (a : AskerLists)
    → origin_of a ≡ record { ontology = o; query = q; budget = budget; local_part = m; before = before }
    → IsMadeOf o q budget m before a
is_made_of o q budget m before a e = record {
  ontology = ap (λ (x : AskerOrigin). x.ontology) e;
  query = ap (λ (x : AskerOrigin). x.query) e;
  budget_is = ap (λ (x : AskerOrigin). x.budget) e;
  local_part = ap (λ (x : AskerOrigin). x.local_part) e;
  before_is = ap (λ (x : AskerOrigin). x.before) e;
}

pub left_is : (o : Listed) (q : Asked) (budget : ℕ) (m : NumberSet) (before : List Entry) (a : AskerLists)
    → IsMadeOf o q budget m before a → left_at_first a ≡ budget - spent_of before
left_is o q budget m before a of =
    ap (λ (n : ℕ). n - spent_of a.before) of.budget_is ∙ ap (λ (log : List Entry). budget - spent_of log) of.before_is

abbrev pub fresh : Listed → Asked → ℕ → NumberSet → List Entry → AskerLists
fresh o q budget m before =
    record { ontology = o; query = q; budget = budget; local_part = m; before = before; gained = []; asks = 0 }

-- one that was made of an oracle
pub made_fresh : (o : Listed) (q : Asked) (budget : ℕ) (m : NumberSet) (before : List Entry) (oracle : OracleLists)
    (begun : AskerLists)
    → begun ≡ record {
      ontology = oracle.ontology;
      query = q;
      budget = oracle.budget;
      local_part = m;
      before = oracle.log;
      gained = [];
      asks = 0;
    } → oracle ≡ record { ontology = o; budget = budget; log = before } → begun ≡ fresh o q budget m before
made_fresh o q budget m before oracle begun made is =
    made ∙ ap
    (λ (x : OracleLists). record {
      ontology = x.ontology;
      query = q;
      budget = x.budget;
      local_part = m;
      before = x.log;
      gained = [];
      asks = 0;
    })
    is

-- an asker that begins with no asks and no nodes makes few asks for each node
pub asks_few : (o : Listed) (q : Asked) (budget : ℕ) (m : NumberSet) (before : List Entry) (begun ended : AskerLists)
    → begun ≡ fresh o q budget m before
    → AsksFew (length ended.ontology.axioms) (asker_meaning begun) (asker_meaning ended)
    → ended.asks ≤ (length ended.ontology.axioms + 1) * length (nodes_of ended.gained)
asks_few o q budget m before begun ended e few =
    let from :
    AsksFew (length ended.ontology.axioms) (asker_meaning (fresh o q budget m before)) (asker_meaning ended) =
    subst (λ (x : AskerLists). AsksFew (length ended.ontology.axioms) (asker_meaning x) (asker_meaning ended)) e few in
    omega (arith, from)

pub along : (P : Listed → Asked → ℕ → List Entry → Type 0) (o p : Listed) (q r : Asked) (b c : ℕ)
    (log more : List Entry)
    → o ≡ p → q ≡ r → b ≡ c → log ≡ more → P o q b log → P p r c more
along P o p q r b c log more same_o same_q same_b same_log h =
    subst (λ (l : Listed). P l r c more) same_o
    (subst (λ (k : Asked). P o k c more) same_q
    (subst (λ (n : ℕ). P o q n more) same_b
    (subst (λ (l : List Entry). P o q b l) same_log h)))

module _ (o : Listed) (q : Asked) (budget : ℕ) (m : NumberSet) (before : List Entry) (begun ended : AskerLists)
    (log : List Entry) (made : begun ≡ fresh o q budget m before) (same : origin_of ended ≡ origin_of begun)
    (is_log : IsAskerLog ended)
    (log_is : log ≡ ended.before ++ ended.gained) (is_module : IsLocalModule o.axioms q m) where
  of : IsMadeOf o q budget m before ended
  of = is_made_of o q budget m before ended (same ∙ ap origin_of made)

  moved : IsLocalModule ended.ontology.axioms ended.query ended.local_part
  moved =
      subst (λ (l : Listed). IsLocalModule l.axioms ended.query ended.local_part) (sym of.ontology)
      (subst (λ (k : Asked). IsLocalModule o.axioms k ended.local_part) (sym of.query)
      (subst (λ (s : NumberSet). IsLocalModule o.axioms q s) (sym of.local_part) is_module))

  more : log ≡ before ++ ended.gained
  more = log_is ∙ ap (λ (l : List Entry). l ++ ended.gained) of.before_is

  left : left_at_first ended ≡ budget - spent_of before
  left = left_is o q budget m before ended of

  pub all_begun : length o.axioms ≤ 20000 → budget < 2 ^ 32 → (r : Result Found NoMemory)
      → OnErr r (HasTree (asker_meaning ended))
      → AsksFew (length ended.ontology.axioms) (asker_meaning begun) (asker_meaning ended)
      → OnErr r (GainsBegun o q budget before log)
  all_begun small budget_small (Ok f) begun_tree asked = tt
  all_begun small budget_small (Err e) begun_tree asked =
      let count : length ended.ontology.axioms ≡ length o.axioms = ap (λ (l : Listed). length l.axioms) of.ontology in
      record {
        gained = ended.gained;
        is_more = more;
        so =
            inr (along IsPinpointingLog ended.ontology o ended.query q (left_at_first ended) (budget - spent_of before)
            ended.gained ended.gained of.ontology of.query left refl
            (honest_by ended is_log moved (asks_few o q budget m before begun ended made asked)
            (omega (arith, small, count)) (omega (arith, budget_small, of.budget_is))
            (tree ended begun_tree.labels begun_tree.limits begun_tree.smallest begun_tree.nodes)));
      }

  -- the log had no test that spent the budget, and gained none
  pub all_unspent : list_any is_spent before ≡ false → (r : Result Found NoMemory)
      → OnErr r ((asker_meaning ended).ran_out ≡ (asker_meaning begun).ran_out)
      → OnErr r (list_any is_spent log ≡ false)
  all_unspent none (Ok f) same = tt
  all_unspent none (Err e) same =
      let gained : list_any is_spent ended.gained ≡ false =
      same ∙ ap (λ (a : AskerLists). list_any is_spent a.gained) made in
      ap (list_any is_spent) more ∙ list_any-append is_spent before ended.gained
      ∙ ap (λ (b : Bool). b || list_any is_spent ended.gained) none ∙ gained

  pub all_searched : length o.axioms ≤ 20000 → budget < 2 ^ 32 → (r : Result Found NoMemory)
      → IfOk r (IsFound (asker_meaning ended)) → IfOk r (ListsAllShown (asker_meaning begun) (asker_meaning ended))
      → IfOk r (λ (f : Found). LooksInBudget (asker_meaning begun) (asker_meaning ended) f.finished)
      → AsksFew (length ended.ontology.axioms) (asker_meaning begun) (asker_meaning ended)
      → IfOk r (GainsSearch o q budget before log)
  all_searched small budget_small (Err e) found lists in_budget asked = tt
  all_searched small budget_small (Ok f) found lists in_budget asked =
      let count : length ended.ontology.axioms ≡ length o.axioms = ap (λ (l : Listed). length l.axioms) of.ontology in
      record {
        gained = ended.gained;
        is_more = more;
        so =
            along (λ l k n es. IsSearched l k n es f) ended.ontology o ended.query q (left_at_first ended)
            (budget - spent_of before) ended.gained ended.gained of.ontology of.query left refl
            (searched ended f is_log found moved (asks_few o q budget m before begun ended made asked)
            (omega (arith, small, count)) (omega (arith, budget_small, of.budget_is))
            begun (ap (λ (x : AskerLists). x.gained) made) lists in_budget);
      }

-- ---- with an empty log

-- a log that was empty has just what it gained, and the whole budget was left
gained_alone : (budget : ℕ) (old new : List Entry) (is_so : ℕ → List Entry → Type 0) → old ≡ []
    → HasGained budget old new is_so → is_so budget new
gained_alone budget old new is_so none h =
    let left : budget - spent_of old ≡ budget = ap (λ (l : List Entry). budget - spent_of l) none ∙ omega arith in
    let log : h.gained ≡ new = sym (h.is_more ∙ ap (λ (l : List Entry). l ++ h.gained) none) in
    subst (λ (n : ℕ). is_so n new) left (subst (is_so (budget - spent_of old)) log h.so)

-- of an oracle that began with an empty log
module _ (o : Listed) (q : Asked) (budget : ℕ) (oracle : OracleLists) (old new log : List Entry)
    (made : oracle ≡ record { ontology = o; budget = budget; log = old }) (none : old ≡ []) (log_is : log ≡ new) where
  alone : (is_so : Listed → ℕ → List Entry → Type 0) → HasGained oracle.budget oracle.log new (is_so oracle.ontology)
      → is_so o budget log
  alone is_so h =
      subst (is_so o budget) (sym log_is)
      (gained_alone budget old new (is_so o) none
      (subst (λ (x : OracleLists). HasGained x.budget x.log new (is_so x.ontology)) made h))

  pub alone_begun : (r : Result Found NoMemory) → OnErr r (GainsBegun oracle.ontology q oracle.budget oracle.log new)
      → OnErr r (HasSearched o q budget log)
  alone_begun (Ok f) h = tt
  alone_begun (Err e) h = alone (λ l left entries. HasSearched l q left entries) h

  pub alone_searched : (r : Result Found NoMemory) → IfOk r (GainsSearch oracle.ontology q oracle.budget oracle.log new)
      → IfOk r (IsSearched o q budget log)
  alone_searched (Err e) h = tt
  alone_searched (Ok f) h = alone (λ l left entries. IsSearched l q left entries f) h
