-- Worked logs of sessions, and a whole script.
use Rattle.std.specs.Prelude.{◌≡◌, ℕ, zero, suc, true, List, [], ◌∷◌, ◌++◌, codes}
use Rattle.std.specs.Prelude.{refl}
use Rattle.std.proofs.Common.{sym, subst, ◌∙◌, arith, inl, inr}
use Rattle.std.proofs.lemmas.List.Elements.{All-head, Contains-push, Contains-push_cases}
use Rattle.std.specs.FinSet as set
use Rattle.lane_sieve.specs.Sets.{IsPart}
use Rattle.axiom_sets.specs.Sets.{Limited}
use Rattle.shq_terms.specs.Listed.{Listed}
use Rattle.shq_terms.specs.declared.axioms.Query.{Query}
use Rattle.shq_oracle.specs.Entry.{Entry}
use Rattle.shq_oracle.specs.Entry.TheVariants.{Test, Node}
use Rattle.shq_oracle.specs.TestEnd.TheVariants.{Yes, No}
use Rattle.shq_oracle.specs.Entries.{AnswersQuery}
use Rattle.shq_oracle.specs.HonestLog.{AsksNoAnswer}
use Rattle.edit_session.specs.Sessions.{State}
use Rattle.edit_session.specs.ScriptLines.{Request, request, removes, asks}
use Rattle.edit_session.specs.Said.{bad_line, numbered_line, SaidTo, Said}
use Rattle.edit_session.specs.SessionLog.{IsHonestThen, IsSessionLog}
use Rattle.edit_session.specs.Logged.{ShowsAnswer}
use Rattle.edit_session.specs.Scripts.{HasTold}
use Rattle.edit_session.specs.Scripts.HasTold.{nothing, one_more}
use Rattle.edit_session.specs.LineExamples.{without, removes_live, removes_none_twice}

-- ---- logs

-- a session takes no nodes
pub a_node_is_none : (o : Listed) (budget : ℕ) (s : Limited) → ¬ IsSessionLog o budget (Node s ∷ [])
a_node_is_none o budget s h = All-head (IsHonestThen o) (Node s) [] h.honest

module _ (s t u : Limited) (q : Query) (m n : ℕ) where
  -- where a query does not follow from a set, it is not asked of a part
  pub a_part_is_not_asked : IsPart s.members t.members → ¬ AsksNoAnswer (Test t q m No ∷ Test s q n No ∷ [])
  a_part_is_not_asked part h = h 1 s q n No refl (Test t q m No, Contains-push [] (Test t q m No), (refl, part))

  -- where a member of what a yes found is live no more, it is asked again
  pub a_yes_is_asked_again : ¬ IsPart u.members s.members → AsksNoAnswer (Test t q m (Yes u) ∷ Test s q n No ∷ [])
  a_yes_is_asked_again lacks zero p r k e at answered = omega (arith, answered.1.1)
  a_yes_is_asked_again lacks (suc zero) p r k e at answered =
      let same : s ≡ p = cc at in
      elim (Contains-push_cases [] (Test t q m (Yes u)) answered.0 answered.1) [
        | inl none ↦ omega (arith, none.1)
        | inr is ↦
            let so : AnswersQuery (Test t q m (Yes u)) p r =
            subst (λ (x : Entry). AnswersQuery x p r) (sym is) answered.2 in
            lacks (subst (λ (x : Limited). IsPart u.members x.members) (sym same) so.1)
      ]
  a_yes_is_asked_again lacks (suc (suc place)) p r k e at answered = cc at

-- ---- a script

-- an axiom is removed once, and nothing is tested
module _ (s : State) (k : ℕ) (l : List ℕ) (is_removal : request l ≡ removes k) (log : List Entry) where
  answered : (old new : State) (answer : List ℕ) → SaidTo old (removes k) new answer → Said old l new answer
  answered old new answer said = subst (λ (r : Request). SaidTo old r new answer) (sym is_removal) said

  asks_nothing : (old : State) (answer : List ℕ) → ShowsAnswer old l answer log
  asks_nothing old answer text both q is_asked is_query =
      let clash : removes k ≡ asks text = sym is_removal ∙ is_asked in cc clash

  pub two_removals : set.contains s.live k ≡ true
      → HasTold s log (l ∷ l ∷ []) (without s k) log (numbered_line (codes "removed") k ++ bad_line)
  two_removals live =
      one_more (l ∷ []) (without s k) log (numbered_line (codes "removed") k) l (without s k) log bad_line
      (one_more [] s log [] l (without s k) log (numbered_line (codes "removed") k) nothing
      (answered s (without s k) _ (removes_live s k live)) (inl refl)
      (asks_nothing s (numbered_line (codes "removed") k)))
      (answered (without s k) (without s k) bad_line (removes_none_twice s k)) (inl refl)
      (asks_nothing (without s k) bad_line)
