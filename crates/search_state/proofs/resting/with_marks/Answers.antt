use Rattle.std.proofs.Common.{◌≡◌, sym, subst, true, List, ℕ}
use Rattle.std.specs.FinSet as sets
use Rattle.lane_sieve.specs.Sets.{NumberSet}
use Rattle.calculus_specs.specs.declared.facts.Fact.{Fact}
use Rattle.calculus_specs.specs.State.{is_so}
use Rattle.search_trace.specs.Noted.{within}
use Rattle.search_state.specs.Marked.{marked_in}
use Rattle.search_state.proofs.Entries.{within-marked}
use Rattle.search_state.proofs.Holding.{part_left, part_right, holds_more}
use Rattle.search_state.proofs.resting.with_marks.Goals as goal

pub returns-clause-more : goal.returns-clause-more
returns-clause-more g c =
    subst (λ (u : NumberSet). sets.is_subset c.args.used u ≡ true) (sym c.in_ok-all.ensures)
    (part_left c.args.used c.in_ok-marks.marks)

pub returns-clause-holds : goal.returns-clause-holds
returns-clause-holds g c =
    let ms = marked_in c.args.tree.now.entries in
    let here : is_so (within c.in_ok-marks.marks ms) c.args.ground ≡ true =
    subst (λ (fs : List (Fact ℕ)). is_so fs c.args.ground ≡ true)
    (sym (within-marked c.in_ok-marks.marks c.args.tree.now.entries)) c.in_ok-marks.ensures in
    subst (λ (u : NumberSet). is_so (within u ms) c.args.ground ≡ true) (sym c.in_ok-all.ensures)
    (holds_more c.in_ok-marks.marks (sets.union c.args.used c.in_ok-marks.marks) ms c.args.ground
    (part_right c.args.used c.in_ok-marks.marks) here)
