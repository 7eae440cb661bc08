use Rattle.std.proofs.Common.{◌≡◌, ℕ, ◌&&◌, ◌||◌, ◌∙◌, eqb, List, get_or, subst, sym, ◌≤◌}
use Rattle.std.specs.FinSet as sets
use Rattle.shq_terms.specs.declared.axioms.Numbered.{Numbered}
use Rattle.ontology_limits.specs.Meeting.{is_role_number}
use Rattle.search_rules.proofs.RoleSets.{none_yet, one_more, may_be_member, all_are}
use Rattle.search_rules.proofs.role_axioms.role_axioms_of.Goals as goal

pub loop-number-init : goal.loop-number-init
loop-number-init c = record {
  limit = c.in_ok-found.ensures.limit ∙ c.limit.ensures.limit;
  members = none_yet c.args.ontology.now.axioms c.in_ok-found.found.members c.in_ok-found.ensures.members;
}

pub put_role_axiom-requires-clause-low : goal.put_role_axiom-requires-clause-low
put_role_axiom-requires-clause-low c =
    (may_be_member c.args.set.now c.args.only.now c.loop-number.number-index c.limit.ensures.within c.requires
    c.loop-number-test.true).0

pub put_role_axiom-requires-clause-high : goal.put_role_axiom-requires-clause-high
put_role_axiom-requires-clause-high c =
    subst (λ (n : ℕ). get_or c.args.only.now c.loop-number.number-index 0 ≤ n) (sym c.loop-number.invariant.limit)
    (may_be_member c.args.set.now c.args.only.now c.loop-number.number-index c.limit.ensures.within c.requires
    c.loop-number-test.true).1

pub loop-number-preserved : goal.loop-number-preserved
loop-number-preserved c =
    let old = c.loop-number.found.members in
    let new = c.put_role_axiom.new.found.members in
    let number = get_or c.args.only.now c.loop-number.number-index 0 in
    record {
      limit = c.put_role_axiom.ensures.limit ∙ c.loop-number.invariant.limit;
      members =
          one_more c.args.ontology.now.axioms c.args.only.now c.loop-number.number-index old new c.loop-number-test.true
          c.loop-number.invariant.members
          (subst
          (λ (as_ : List Numbered). (k : ℕ)
          → sets.contains new k ≡ (sets.contains old k || (eqb number k && is_role_number as_ k)))
          c.axioms.ensures.all c.put_role_axiom.ensures.members);
    }

pub returns-clause-members : goal.returns-clause-members
returns-clause-members c =
    all_are c.args.ontology.now.axioms c.args.set.now c.args.only.now c.loop-number.number-index
    c.loop-number.found.members c.limit.ensures.within c.requires c.loop-number-test.false
    c.loop-number.invariant.members
