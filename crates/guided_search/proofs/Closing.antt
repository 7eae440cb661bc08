-- What a closed tableau lets a search do: it goes back to a choice, and to each alternative of a choice in turn.
use Rattle.std.proofs.Common.{◌≡◌, ℕ, zero, suc, ◌+◌, ◌<◌, ◌≤◌, List, [], ◌∷◌, ◌++◌, length, take, Some, refl}
use Rattle.std.proofs.Common.{sym, subst, arith}
use Rattle.std.specs.Prelude.{slice_get}
use Rattle.calculus_specs.specs.Shape.{Shape}
use Rattle.calculus_specs.specs.Rows.{Row}
use Rattle.calculus_specs.specs.Rules.{Question}
use Rattle.calculus_specs.specs.declared.facts.Fact.{Fact}
use Rattle.tableau_specs.specs.declared.Branch.{Branch}
use Rattle.tableau_specs.specs.declared.Choice.{Choice}
use Rattle.tableau_specs.specs.declared.Item.{Item}
use Rattle.tableau_specs.specs.declared.Item.TheVariants.{Fact as Says, Mark}
use Rattle.tableau_specs.specs.Items.{facts_of, says}
use Rattle.tableau_specs.specs.Steps.{SearchContext, MayBranch, IsAlternative, IsLegal, HasPlainClash}
use Rattle.tableau_specs.specs.Steps.{next_choice}
use Rattle.tableau_specs.specs.Steps.IsLegal.{choose, back}
use Rattle.tableau_specs.specs.LineLaws.{IsNumbered}
use Rattle.tableau_specs.specs.Reached.{context_of, IsReached}
use Rattle.guided_search.specs.ClosedTableau.{ClosedTableau}
use Rattle.guided_search.specs.ClosedTableau.ClosedTableau.{by_clash, by_step, by_choice}
use Rattle.guided_search.proofs.Places.{get_longer, take_longer, get_behind, take_front}
use Rattle.guided_search.proofs.Alternatives.{first_there, one_before}

-- the mark of an alternative
abbrev pub mark : ℕ → Branch → ℕ → Choice
mark line b n = record { line = line; branch = b; alternative = n }

module _ (q : Question) (table : List Shape) (rows : List Row) where
  abbrev context : SearchContext
  context = context_of q table rows

  abbrev pub Reached : ℕ → List Item → Type 0
  Reached k trail = IsReached q table rows k trail

  -- one step more is reached
  pub one_more : (k : ℕ) (trail new : List Item) → Reached k trail → IsLegal context trail new → Reached (suc k) new
  one_more k trail new r legal = record {
    is_table = r.is_table;
    is_choice = r.is_choice;
    facts_have_numbers = r.facts_have_numbers;
    at_first = r.at_first;
    sub_number = r.sub_number;
    sub_listed = r.sub_listed;
    sub_reads = r.sub_reads;
    not_sup_number = r.not_sup_number;
    not_sup_listed = r.not_sup_listed;
    not_sup_reads = r.not_sup_reads;
    follows = (trail, r.follows, legal);
  }

  -- the trail is reached by more than k steps
  pub record ReachedLater (k : ℕ) (trail : List Item) : Type 0 where
    pub steps : ℕ
    pub is_later : k < steps
    pub reached : Reached steps trail

  -- a trail from which there is a closed tableau leads to the next alternative of each of its marks
  pub leads_back : (trail : List Item) → ClosedTableau context trail → (k : ℕ) → Reached k trail
      → (place : ℕ) (c : Choice) (f : Fact ℕ) → slice_get trail place ≡ Some (Mark c)
      → IsAlternative table c.branch (c.alternative + 1) f
      → ReachedLater k (take place trail ++ Mark (next_choice context c) ∷ Says f ∷ [])
  leads_back trail (by_clash old clash) k r place c f at alternative = record {
    steps = suc k;
    is_later = omega arith;
    reached =
        one_more k trail (take place trail ++ Mark (next_choice context c) ∷ Says f ∷ []) r
        (back place c f clash at alternative);
  }
  leads_back trail (by_step old new legal t) k r place c f at alternative =
      let longer : List Item = trail ++ says new in
      let it =
      leads_back longer t (suc k) (one_more k trail longer r legal) place c f
      (get_longer trail (says new) place (Mark c) at) alternative in
      record {
        steps = it.steps;
        is_later = omega (arith, it.is_later);
        reached =
            subst (λ (front : List Item). Reached it.steps (front ++ Mark (next_choice context c) ∷ Says f ∷ []))
            (take_longer trail (says new) place (Mark c) at) it.reached;
      }
  leads_back trail (by_choice old line b clear may numbered each) k r place c f at alternative =
      let first = first_there context (facts_of trail) r.is_table b may in
      let more : List Item = Mark (mark line b 1) ∷ Says first.0 ∷ [] in
      let chosen = choose (mark line b 1) first.0 clear may refl first.1 in
      let it =
      leads_back (trail ++ more) (each 1 first.0 first.1) (suc k) (one_more k trail (trail ++ more) r chosen) place c f
      (get_longer trail more place (Mark c) at) alternative in
      record {
        steps = it.steps;
        is_later = omega (arith, it.is_later);
        reached =
            subst (λ (front : List Item). Reached it.steps (front ++ Mark (next_choice context c) ∷ Says f ∷ []))
            (take_longer trail more place (Mark c) at) it.reached;
      }

  -- a choice that can be made
  module _ (k : ℕ) (trail : List Item) (r : Reached k trail) (line : ℕ) (b : Branch)
      (clear : ¬ HasPlainClash context trail) (may : MayBranch context (facts_of trail) b)
      (numbered : IsNumbered table b) where
    -- the trail of an alternative
    abbrev pub taken : ℕ → Fact ℕ → List Item
    taken n f = trail ++ Mark (mark line b n) ∷ Says f ∷ []

    -- where there are closed tableaux for the alternatives up to a number, a search reaches the next one
    pub reaches : (n : ℕ)
        → ((j : ℕ) (g : Fact ℕ) → j ≤ n → IsAlternative table b j g → ClosedTableau context (taken j g))
        → (f : Fact ℕ) → IsAlternative table b (n + 1) f → ReachedLater k (taken (n + 1) f)
    reaches zero closed f alternative = record {
      steps = suc k;
      is_later = omega arith;
      reached = one_more k trail (taken 1 f) r (choose (mark line b 1) f clear may refl alternative);
    }
    reaches (suc n) closed f alternative =
        let before = one_before table b numbered (suc n + 1) f alternative n (omega arith) in
        let g : Fact ℕ = before.0 in
        let it = reaches n (λ j h le. closed j h (omega (arith, le))) g before.1 in
        let number : suc n + 1 ≡ (n + 1) + 1 = omega arith in
        let next =
        leads_back (taken (n + 1) g) (closed (n + 1) g (omega arith) before.1) it.steps it.reached (length trail)
        (mark line b (n + 1)) f (get_behind trail (Mark (mark line b (n + 1))) (Says g ∷ []))
        (subst (λ (i : ℕ). IsAlternative table b i f) number alternative) in
        record {
          steps = next.steps;
          is_later = omega (arith, next.is_later, it.is_later);
          reached =
              subst (λ (i : ℕ). Reached next.steps (taken i f)) (sym number)
              (subst (λ (front : List Item). Reached next.steps (front ++ Mark (mark line b (n + 1 + 1)) ∷ Says f ∷ []))
              (take_front trail (Mark (mark line b (n + 1)) ∷ Says g ∷ [])) next.reached);
        }
