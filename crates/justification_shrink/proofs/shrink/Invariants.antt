use Rattle.std.proofs.Common.{◌≡◌, ◌+◌, ◌≤◌, length}
use Rattle.lane_sieve.specs.Sets.{members_below}
use Rattle.set_questions.specs.Meaning.{Keeps, ShowsAbove}
use Rattle.justification_shrink.proofs.Shrinking.{IsShrunk}
use Rattle.justification_shrink.proofs.shrink.Given as goal

abbrev pub invariant-loop-place : goal.invariant-loop-place
invariant-loop-place g l =
    let m = g.E.Entail.meaning l.entail in
    let before = g.E.Entail.meaning l.fn.entail in
    record {
      size : m.size ≡ l.start.limit;
      shrunk : IsShrunk m l.start l.kept (l.place + 1);
      above : ShowsAbove before m l.kept;
      asked : m.asks ≤ before.asks + length (members_below l.start.members (l.place + 1));
      keeps : Keeps before m;
      taken : m.taken ≡ before.taken;
      ran_out : m.ran_out ≡ before.ran_out;
      same : g.E.Entail.origin l.entail ≡ g.E.Entail.origin l.fn.entail;
    }
