-- The laws on steps and marks.
use Rattle.std.proofs.Common.{◌≡◌, ℕ, ◌+◌, ◌*◌, ◌<◌, ◌≤◌, eqb, true, List, [], ◌∷◌, map, length, arith, inl, inr}
use Rattle.std.specs.List.{list_any}
use Rattle.std.proofs.lemmas.Bool.{and_parts, or_cases, eqb-true, ltb-true}
use Rattle.std.proofs.lemmas.List.{length-map}
use Rattle.std.proofs.lemmas.Nat.{mul-le}
use Rattle.shq_terms.specs.Concept.{Concept}
use Rattle.calculus_specs.specs.Shape.{Shape}
use Rattle.calculus_specs.specs.Tree.{tree_of}
use Rattle.calculus_specs.specs.Rows.{Row}
use Rattle.calculus_specs.specs.Rules.{Question}
use Rattle.calculus_specs.specs.declared.facts.Fact.{Fact}
use Rattle.calculus_specs.specs.declared.facts.Fact.TheVariants.{Has, Edge, Apart, Same}
use Rattle.calculus_specs.specs.State.{node_count_from}
use Rattle.calculus_specs.specs.Reading.{is_fact_listed, are_listed}
use Rattle.tableau_specs.specs.declared.Item.{Item}
use Rattle.tableau_specs.specs.Items.{facts_of}
use Rattle.tableau_specs.specs.Steps.{SearchContext}
use Rattle.tableau_specs.specs.Reached.{start, context_of, IsReached}
use Rattle.tableau_specs.proofs.Listed.{reached_listed}
use Rattle.search_laws.specs.Closure.{IsClosure}
use Rattle.search_laws.specs.KeptSteps.{step_counts}
use Rattle.search_laws.specs.BoundLaws.{mark_count, AreAtFirst, TrailsKeepSteps, FewOfEachKind, FewStepsAtFirst}
use Rattle.search_laws.specs.BoundLaws.{FewMarks}
use Rattle.search_laws.proofs.ClosureConcepts.{concepts_in_closure}
use Rattle.search_laws.proofs.Numbers.{numbers_of, is_number, few_numbers}
use Rattle.search_laws.proofs.Rising.{is_has, AreIn, had, given_most, joined_most, parted_most}
use Rattle.search_laws.proofs.Given.{so_count, so_most, counts_so, counts_all, numbered, given_among}
use Rattle.search_laws.proofs.Tally.{first_most, marks_most, tally}
use Rattle.search_laws.proofs.KeptSteps.{keeping, ones}

-- what a fact of a listed trail gives is listed
given_listed : (n : ℕ) (fs : List (Fact ℕ)) (x d : ℕ) → are_listed n fs ≡ true → list_any (is_has x d) fs ≡ true → d < n
given_listed n [] x d all h = cc
given_listed n (f ∷ fs) x d all h =
    let t = and_parts (is_fact_listed n f) (are_listed n fs) all in
    elim (or_cases (is_has x d f) (list_any (is_has x d) fs) h) [
      | inl here ↦ one n f x d t.0 here
      | inr later ↦ given_listed n fs x d t.1 later
    ]
  where
    one : (n : ℕ) (f : Fact ℕ) (x d : ℕ) → is_fact_listed n f ≡ true → is_has x d f ≡ true → d < n
    one n (Has y e) x d l k = let s = and_parts (eqb y x) (eqb e d) k in omega (arith, ltb-true e n l, eqb-true e d s.1)
    one n (Edge r y z) x d l k = absurd (cc)
    one n (Apart y z) x d l k = absurd (cc)
    one n (Same y z) x d l k = absurd (cc)

-- the numbers of the concepts of a reached trail are those of the closure
pub numbers_in : (q : Question) (cs : List Concept) (table : List Shape) (rows : List Row) (k : ℕ) (trail : List Item)
    → IsClosure q cs → IsReached q table rows k trail → AreIn (numbers_of table cs) (facts_of trail)
numbers_in q cs table rows k trail closed r x d h =
    is_number table cs d (given_listed (length table) (facts_of trail) x d (reached_listed q table rows k trail r) h)
    (closed.has_each (tree_of table d) (concepts_in_closure q table rows k trail r x d (had (facts_of trail) x d h)))

pub mul_le : (v d c : ℕ) → d ≤ c → v * d ≤ v * c
mul_le v d c le = mul-le v d v c (omega arith) le

split_two : (v c : ℕ) → v * (c + 2) ≡ v * c + v + v
split_two v c = grind arith

split_square : (v c : ℕ) → v * (v + c + 1) ≡ v * v + v * c + v
split_square v c = grind arith

pub few_of_each_kind : FewOfEachKind
few_of_each_kind q cs facts table rows k trail closed all_facts r ns grown =
    let w : SearchContext = context_of q table rows in
    let a = r.sub_number in
    let b = r.not_sup_number in
    let ds = numbers_of table cs in
    let v = node_count_from q.first (facts_of trail) in
    let ts = map (numbered table) facts in
    let t =
    tally w q.at a b r.at_first ds (so_count ts) (counts_so w ts (given_among table r.is_table q rows facts all_facts))
    v ns trail grown (omega arith) (numbers_in q cs table rows k trail closed r) in
    let raised = t.raised in
    let g = given_most ds v (facts_of trail) in
    let m = mul_le v (length ds) (length cs) (few_numbers table cs r.is_table) in
    let s = so_most ts (facts_of trail) in
    let l = length-map facts (numbered table) in
    record {
      adding = omega (arith, raised.adding);
      giving = omega (arith, raised.giving);
      making = omega (arith, raised.making);
      joining = omega (arith, raised.joining, joined_most ds v (facts_of trail));
      parting = omega (arith, raised.parting, parted_most ds v (facts_of trail));
    }

pub trails_keep_steps : TrailsKeepSteps
trails_keep_steps q table rows k trail r =
    let keep = keeping (context_of q table rows) q.at r.sub_number r.not_sup_number k trail r.follows in
    (keep.numbers, keep.grown)

pub few_steps_at_first : FewStepsAtFirst
few_steps_at_first q cs facts table rows k trail closed all_facts r first =
    let w : SearchContext = context_of q table rows in
    let a = r.sub_number in
    let b = r.not_sup_number in
    let ds = numbers_of table cs in
    let v = node_count_from q.first (facts_of trail) in
    let keep = keeping w q.at a b k trail r.follows in
    let ts = map (numbered table) facts in
    let counts = counts_so w ts (given_among table r.is_table q rows facts all_facts) in
    let t =
    tally w q.at a b r.at_first ds (so_count ts) counts v keep.numbers trail keep.grown (omega arith)
    (numbers_in q cs table rows k trail closed r) in
    let some =
    first_most w q.at a b r.at_first ds (so_count ts) counts v keep.numbers
    (step_counts w (start q.at a b) keep.numbers trail keep.grown) (mark_count trail) (AreAtFirst trail)
    (facts_of trail) t first in
    let all = keep.all_are_kept (ones w q.at a b keep.numbers trail keep.grown first) in
    let g = given_most ds v (facts_of trail) in
    let j = joined_most ds v (facts_of trail) in
    let m = mul_le v (length ds) (length cs) (few_numbers table cs r.is_table) in
    let e = split_two v (length cs) in
    let s = so_most ts (facts_of trail) in
    let l = length-map facts (numbered table) in
    omega arith

pub few_marks : FewMarks
few_marks q cs table rows k trail closed r =
    let w : SearchContext = context_of q table rows in
    let a = r.sub_number in
    let b = r.not_sup_number in
    let ds = numbers_of table cs in
    let v = node_count_from q.first (facts_of trail) in
    let keep = keeping w q.at a b k trail r.follows in
    let t =
    tally w q.at a b r.at_first ds (λ fs. length fs) (counts_all w) v keep.numbers trail keep.grown (omega arith)
    (numbers_in q cs table rows k trail closed r) in
    let some =
    marks_most w q.at a b r.at_first ds (λ fs. length fs) (counts_all w) v keep.numbers
    (step_counts w (start q.at a b) keep.numbers trail keep.grown) (mark_count trail) (AreAtFirst trail)
    (facts_of trail) t in
    let g = given_most ds v (facts_of trail) in
    let j = joined_most ds v (facts_of trail) in
    let p = parted_most ds v (facts_of trail) in
    let m = mul_le v (length ds) (length cs) (few_numbers table cs r.is_table) in
    let e = split_square v (length cs) in
    omega arith
