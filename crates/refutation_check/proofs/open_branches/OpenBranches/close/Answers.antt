use Rattle.std.proofs.Common.{◌≡◌, Bool, false, [], ◌∷◌, ap, ◌∙◌, reverse}
use Rattle.refutation_rules.specs.NumberedBranch.{NumberedBranch as Branch}
use Rattle.refutation_rules.specs.Outcomes.{branch_with_facts}
use Rattle.refutation_check.specs.Open.{Open, branches_of, branch_at, branches_at}
use Rattle.refutation_check.proofs.Within.{taken, undone_within, facts_within, next_waits}
use Rattle.refutation_check.proofs.open_branches.OpenBranches.close.Goals as goal

pub invariant_of-self-in-Some : goal.invariant_of-self-in-Some
invariant_of-self-in-Some c =
    let k = c.self.inside.branch in
    let left = c.pop.new.self.items in
    let next = c.in-Some.next in
    let part = taken c.self.inside.pending.items left next k c.in-Some.ensures.items c.self.invariant in
    let undone = undone_within left next k c.undo_to.new.self part c.undo_to.ensures in
    facts_within (reverse left) c.undo_to.new.self c.add.new.self next.fact c.in_ok-add-in-Some.ensures.added undone

pub returns-in_ok-add-in-Some : goal.returns-in_ok-add-in-Some
returns-in_ok-add-in-Some c =
    let all = c.self.inside.pending.items in
    let left = c.pop.new.self.items in
    let next = c.in-Some.next in
    let k = c.self.inside.branch in
    let part = taken all left next k c.in-Some.ensures.items c.self.invariant in
    let now : c.add.new.self ≡ branch_at k next =
    c.in_ok-add-in-Some.ensures.added ∙ ap (λ (b : Branch). branch_with_facts b (next.fact ∷ [])) c.undo_to.ensures in
    let same = next_waits all left next k c.add.new.self c.in-Some.ensures.items part now in
    let open_now : c.self.inside.closed ≡ false = ap (λ (o : Open). o.closed) c.self.view_is ∙ c.requires in
    ap (λ (b : Bool). branches_of b c.add.new.self (branches_at c.add.new.self left)) open_now ∙ same
    ∙ ap (λ (o : Open). o.waiting) c.self.view_is
