-- What a search that ends says is honest.
use Rattle.std.proofs.Common.{◌≡◌, ℕ, zero, suc, ◌+◌, ◌≤◌, List, [], ◌∷◌, ◌++◌, length, take, Some, ap, sym, subst, ◌∙◌}
use Rattle.std.proofs.Common.{Bool, true, false, refl, arith, inl, inr}
use Rattle.std.specs.Prelude.{slice_get, Option, None, Result, Ok, Err, IfOk, IfSome}
use Rattle.shq_terms.specs.declared.axioms.On.TheVariants.{Any}
use Rattle.shq_terms.specs.Concept.{name}
use Rattle.shq_terms.specs.NoMemory.{NoMemory}
use Rattle.axiom_sets.specs.Sets.{Limited, member_list}
use Rattle.shq_terms.specs.declared.axioms.Query.{Query}
use Rattle.model_builder.specs.Limits.{IsInLimit}
use Rattle.tableau.proofs.Entailed.{entailed}
use Rattle.shq_terms.specs.Listed.{Listed}
use Rattle.tableau.specs.RefutationLists.{RefutationLists}
use Rattle.tableau.proofs.CounterModelLaws.{saturated_does_not_entail}
use Rattle.tableau.specs.SearchState.{SearchState, context_of, trail_of, IsReachedBy, HasBegun, IsSameSearch}
use Rattle.tableau.specs.declared.search.End.{End}
use Rattle.tableau.specs.declared.search.End.TheVariants.{Saturated, Closed, Lost, Spent as OutOfFuel}
use Rattle.tableau.specs.Beginning.{BeginningLists, GoesOnFrom}
use Rattle.tableau.specs.Steps.{IsAtModel, IsAtRefutation, IsEnd, AreLeftOut, ShowsApart}
use Rattle.run_log.specs.Trails.{TrailLists}
use Rattle.run_log.specs.HonestLog.{IsAxiomSet, FollowsIn, IsHonestYes, IsHonestNo, GoesOn}
use Rattle.run_log.proofs.Named.{more}
use Rattle.run_log.specs.declared.entry.TestEnd.{TestEnd}
use Rattle.run_log.specs.declared.entry.TestEnd.TheVariants as E
use Rattle.tableau.specs.RuleLists.{RuleLists, AreNumbersOf}
use Rattle.shq_oracle.specs.declared.answer.Outcome.{Outcome}
use Rattle.shq_oracle.specs.declared.answer.Outcome.TheVariants.{Yes, No, Undecided}
use Rattle.shq_oracle.specs.declared.found.Found.{Found}
use Rattle.shq_oracle.specs.declared.tested.Tested.{Tested}
use Rattle.shq_oracle.specs.ApartLists.{AreApart}
use Rattle.shq_oracle.specs.Decided.{IsProof, IsFound, IsFoundBy, IsTested, IsTestedBy, EndsTest, HasNumbers, MayGoOn}
use Rattle.shq_oracle.specs.Decided.{HasEnded, is_lost}

-- one item more
pub taken_one : {X : Type 0} (xs : List X) (n : ℕ) (x : X) → slice_get xs n ≡ Some x
    → take (n + 1) xs ≡ take n xs ++ x ∷ []
taken_one [] n x e = cc
taken_one (y ∷ ys) zero x e = let k : y ≡ x = cc in ap (λ z. z ∷ []) k
taken_one (y ∷ ys) (suc n) x e =
    let k : suc n + 1 ≡ suc (n + 1) = omega arith in
    ap (λ m. take m (y ∷ ys)) k ∙ ap (λ zs. y ∷ zs) (taken_one ys n x e)

module _ (s : SearchState) (reached : IsReachedBy s) where
  -- a saturated search found that the query does not follow
  pub honest_no : IsInLimit s.rules.ontology s.query → IsAtModel s
      → IsHonestNo s.rules.ontology s.rules.set s.query s.steps
  honest_no limit m = record {
    follows_not =
        saturated_does_not_entail s.rules.ontology (member_list s.rules.set) s.query s.rules.table (context_of s).rows
        s.steps (trail_of s) limit reached m.is_saturated;
    cost = record {
      table = s.rules.table;
      rows = (context_of s).rows;
      trail = trail_of s;
      reached = reached;
      ends = inl m.is_saturated;
    };
  }

  -- a closed search found that it does, by the axioms that the refutation names
  pub honest_yes : (r : RefutationLists) → IsAxiomSet s.rules.ontology s.rules.set → IsAtRefutation r s
      → IsHonestYes s.rules.ontology s.rules.set s.query s.steps r.axioms
  honest_yes r is_set c =
      let named : IsAxiomSet s.rules.ontology r.axioms =
      record { limit_is = c.refutes.limit; within = c.refutes.writable.within } in
      let follows : FollowsIn s.rules.ontology r.axioms s.query =
      entailed (length s.rules.ontology.individuals) s.rules.ontology.axioms (member_list r.axioms) s.query r.shapes
      r.lines c.refutes.refutes in
      record {
        of_axioms = named;
        part = c.refutes.named;
        follows = follows;
        cost = record {
          table = s.rules.table;
          rows = (context_of s).rows;
          trail = trail_of s;
          reached = reached;
          ends = inr
              (c.has_clash, more s.rules.ontology r.axioms s.rules.set s.query named is_set c.refutes.named follows);
        };
      }

  pub is_proof : (r : RefutationLists) → IsAtRefutation r s → IsProof s.rules.ontology s.rules.set s.query r
  is_proof r c = record {
    named = c.refutes.named;
    standing = c.refutes.standing;
    refutes = c.refutes.refutes;
    writable = c.refutes.writable;
  }

  -- a search that went on until its fuel was spent has one more step
  pub honest_spent : MayGoOn s
      → GoesOn s.rules.ontology s.rules.set s.query s.steps (record { items = trail_of s; table = s.rules.table })
  honest_spent h = record { rows = (context_of s).rows; reached = reached; next = h.0; is_legal = h.1 }

  -- how a test ends by such a search, and that its steps are counted
  abbrev pub EndsSo : ℕ → Outcome → ℕ → TestEnd → Type 0
  EndsSo fuel v steps ended = EndsTest s.rules.ontology s.rules.set s.query fuel v steps ended

  pub ends_yes : (r : RefutationLists) → IsAxiomSet s.rules.ontology s.rules.set → IsAtRefutation r s → (v u : Limited)
      → v ≡ r.axioms → u ≡ r.axioms → (k : ℕ) → k ≡ s.steps
      → (fuel : ℕ) → s.steps ≤ fuel → EndsSo fuel (Yes v) k (E.Yes u)
  ends_yes r is_set c v u d e k f fuel le =
      let honest : IsHonestYes s.rules.ontology s.rules.set s.query k r.axioms =
      subst (λ (n : ℕ). IsHonestYes s.rules.ontology s.rules.set s.query n r.axioms) (sym f) (honest_yes r is_set c) in
      record {
        matches = e ∙ sym d;
        honest = subst (λ (w : Limited). IsHonestYes s.rules.ontology s.rules.set s.query k w) (sym e) honest;
        fueled = omega (arith, f, le);
      }

  pub ends_no : IsInLimit s.rules.ontology s.query → IsAtModel s → (k : ℕ) → k ≡ s.steps → (fuel : ℕ) → s.steps ≤ fuel
      → EndsSo fuel No k E.No
  ends_no limit m k f fuel le = record {
    matches = tt;
    honest = subst (λ (n : ℕ). IsHonestNo s.rules.ontology s.rules.set s.query n) (sym f) (honest_no limit m);
    fueled = omega (arith, f, le);
  }

  pub ends_spent : MayGoOn s → (t : TrailLists) → t ≡ record { items = trail_of s; table = s.rules.table } → (k : ℕ)
      → k ≡ s.steps → (fuel : ℕ) → s.steps ≡ fuel
      → EndsSo fuel Undecided k (E.Spent t)
  ends_spent h t e k f fuel whole =
      let honest :
      GoesOn s.rules.ontology s.rules.set s.query k (record { items = trail_of s; table = s.rules.table }) =
      subst
      (λ (n : ℕ). GoesOn s.rules.ontology s.rules.set s.query n (record { items = trail_of s; table = s.rules.table }))
      (sym f) (honest_spent h) in
      record {
        matches = tt;
        honest = subst (λ (v : TrailLists). GoesOn s.rules.ontology s.rules.set s.query k v) (sym e) honest;
        fueled = f ∙ whole;
      }

-- ---- further classes

-- what is left out is shown where anything is
pub if_shown : (s : SearchState) (found : Result (Option Limited) NoMemory) → IfOk found (ShowsApart s)
    → IfOk found (λ f. IfSome f (AreLeftOut s))
if_shown s (Ok None) h = tt
if_shown s (Ok (Some classes)) h = h
if_shown s (Err e) h = tt

-- of each class that was left out the log may say so
pub left_out : (s : SearchState) (k : ℕ) → k ≡ s.steps → (found : Option Limited) → IfSome found (AreLeftOut s)
    → IfSome found (AreApart s.rules.ontology s.rules.set s.query.sub k)
left_out s k e None h = tt
left_out s k e (Some classes) h = record {
  limit_is = h.limit_is;
  honest = λ a lt member.
      let shown = h.apart a lt member in
      let honest :
      IsHonestNo s.rules.ontology s.rules.set (record { sub = s.query.sub; sup = name a; on = Any }) s.steps =
      record { follows_not = shown.follows_not; cost = shown.cost } in
      subst
      (λ (n : ℕ). IsHonestNo s.rules.ontology s.rules.set (record { sub = s.query.sub; sup = name a; on = Any }) n)
      (sym e) honest;
}

-- ---- for the set and the query that were asked

pub moved : (s : SearchState) (o : Listed) (set : Limited) (q : Query) (fuel : ℕ) → s.rules.ontology ≡ o
    → s.rules.set ≡ set → s.query ≡ q
    → (found : Result Found NoMemory) → IfOk found (IsFoundBy s fuel) → IfOk found (IsFound o set q fuel)
moved s o set q fuel eo es eq (Ok f) h =
    subst (λ (v : Query). IsFound o set v fuel f) eq
    (subst (λ (v : Limited). IsFound o v s.query fuel f) es
    (subst (λ (v : Listed). IsFound v s.rules.set s.query fuel f) eo h))
moved s o set q fuel eo es eq (Err e) h = tt

pub tested_moved : (s : SearchState) (o : Listed) (set : Limited) (q : Query) (fuel : ℕ) (wanted : Bool)
    → s.rules.ontology ≡ o → s.rules.set ≡ set → s.query ≡ q
    → (tested : Result Tested NoMemory) → IfOk tested (IsTestedBy s fuel wanted)
    → IfOk tested (IsTested o set q fuel wanted)
tested_moved s o set q fuel wanted eo es eq (Ok t) h =
    subst (λ (v : Query). IsTested o set v fuel wanted t) eq
    (subst (λ (v : Limited). IsTested o v s.query fuel wanted t) es
    (subst (λ (v : Listed). IsTested v s.rules.set s.query fuel wanted t) eo h))
tested_moved s o set q fuel wanted eo es eq (Err e) h = tt

-- a search has the numbers of its query, where those that it began with are
pub has_numbers : (r : RuleLists) (q : Query) (sub not_sup : ℕ) (s : SearchState) → s.rules ≡ r → s.query ≡ q
    → s.sub ≡ sub → s.not_sup ≡ not_sup → AreNumbersOf r q sub not_sup → HasNumbers s
has_numbers r q sub not_sup s er eq es en numbers =
    let by_rules : AreNumbersOf s.rules q sub not_sup =
    subst (λ (v : RuleLists). AreNumbersOf v q sub not_sup) (sym er) numbers in
    let by_query : AreNumbersOf s.rules s.query sub not_sup =
    subst (λ (v : Query). AreNumbersOf s.rules v sub not_sup) (sym eq) by_rules in
    let by_first : AreNumbersOf s.rules s.query s.sub not_sup =
    subst (λ (n : ℕ). AreNumbersOf s.rules s.query n not_sup) (sym es) by_query in
    subst (λ (n : ℕ). AreNumbersOf s.rules s.query s.sub n) (sym en) by_first

pub has_numbers_at_start : (r : RuleLists) (q : Query) (sub not_sup : ℕ) (s : SearchState)
    → HasBegun r q sub not_sup s → AreNumbersOf r q sub not_sup → HasNumbers s
has_numbers_at_start r q sub not_sup s begun =
    has_numbers r q sub not_sup s begun.rules_are begun.query_is begun.sub_is begun.not_sup_is

pub has_numbers_begun : (r : RuleLists) (q : Query) (sub not_sup : ℕ) (old new : SearchState)
    → HasBegun r q sub not_sup old → IsSameSearch old new → AreNumbersOf r q sub not_sup → HasNumbers new
has_numbers_begun r q sub not_sup old new begun same =
    has_numbers r q sub not_sup new (same.rules ∙ begun.rules_are) (same.query ∙ begun.query_is)
    (same.sub ∙ begun.sub_is) (same.not_sup ∙ begun.not_sup_is)

pub has_numbers_behind : (b : BeginningLists) (r : RuleLists) (q : Query) (sub not_sup : ℕ) (old new : SearchState)
    → GoesOnFrom b r q sub not_sup old → IsSameSearch old new → AreNumbersOf r q sub not_sup → HasNumbers new
has_numbers_behind b r q sub not_sup old new begun same =
    has_numbers r q sub not_sup new (same.rules ∙ begun.rules_are) (same.query ∙ begun.query_is)
    (same.sub ∙ begun.sub_is) (same.not_sup ∙ begun.not_sup_is)

pub has_numbers_still : (old new : SearchState) → IsSameSearch old new → HasNumbers old → HasNumbers new
has_numbers_still old new same =
    has_numbers old.rules old.query old.sub old.not_sup new same.rules same.query same.sub same.not_sup

-- a search that began at nothing ends with evidence
pub not_lost : (fuel : ℕ) (old new : SearchState) (e : End) → old.behind ≡ false → IsSameSearch old new
    → IsEnd fuel old new e → is_lost e ≡ false
not_lost fuel old new Saturated nothing same h = refl
not_lost fuel old new (Closed r) nothing same h = refl
not_lost fuel old new Lost nothing same (runs, lost) = sym lost.is_behind ∙ same.behind ∙ nothing
not_lost fuel old new OutOfFuel nothing same h = refl

-- how a search ended that had so much fuel left
pub ended_on : (fuel left : ℕ) (old new : SearchState) (e : End) → old.steps + left ≡ fuel → IsEnd left old new e
    → is_lost e ≡ false → HasEnded fuel new e
ended_on fuel left old new Saturated all (runs, at) h = at
ended_on fuel left old new (Closed r) all (runs, at) h = at
ended_on fuel left old new Lost all (runs, lost) h = cc
ended_on fuel left old new OutOfFuel all (runs, spent) h =
    (omega (arith, all, spent.counted), (spent.next, spent.is_legal))

-- how a search ended that began with no steps
pub has_ended : (fuel : ℕ) (old new : SearchState) (e : End) → old.steps ≡ 0 → old.behind ≡ false
    → IsSameSearch old new → IsEnd fuel old new e → HasEnded fuel new e
has_ended fuel old new Saturated zero_steps nothing same (runs, at) = at
has_ended fuel old new (Closed r) zero_steps nothing same (runs, at) = at
has_ended fuel old new Lost zero_steps nothing same (runs, lost) =
    let k : true ≡ false = sym lost.is_behind ∙ same.behind ∙ nothing in cc
has_ended fuel old new OutOfFuel zero_steps nothing same (runs, spent) =
    (omega (arith, zero_steps, spent.counted), (spent.next, spent.is_legal))

-- with so much fuel at least, or just so much
pub within_fuel : {F : Type 0} (P : ℕ → F → Type 0) (steps fuel : ℕ) → steps ≤ fuel → (found : Result F NoMemory)
    → IfOk found (λ f. (n : ℕ) → steps ≤ n → P n f) → IfOk found (P fuel)
within_fuel P steps fuel le (Ok f) h = h fuel le
within_fuel P steps fuel le (Err e) h = tt

pub whole_fuel : {F : Type 0} (P : ℕ → F → Type 0) (s : SearchState) (fuel : ℕ) (e : End) → e ≡ OutOfFuel
    → HasEnded fuel s e → (found : Result F NoMemory) → IfOk found (λ f. (n : ℕ) → s.steps ≡ n → P n f)
    → IfOk found (P fuel)
whole_fuel P s fuel e is ended (Ok f) h =
    let k : HasEnded fuel s OutOfFuel = subst (HasEnded fuel s) is ended in h fuel k.0
whole_fuel P s fuel e is ended (Err n) h = tt
