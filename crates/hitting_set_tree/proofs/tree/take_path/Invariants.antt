use Rattle.std.proofs.Common.{◌≡◌, ◌≤◌, length}
use Rattle.set_questions.specs.Meaning.{Keeps, ShowsNothing}
use Rattle.hitting_set_tree.specs.Tree.{lists}
use Rattle.hitting_set_tree.specs.Open.{HasOpen, IsBeside}
use Rattle.hitting_set_tree.proofs.tree.take_path.Given as goal

abbrev pub invariant-loop-place : goal.invariant-loop-place
invariant-loop-place g l =
    let m = g.E.Entail.meaning l.entail in
    let before = g.E.Entail.meaning l.fn.entail in
    record {
      keeps : Keeps before m;
      open' : HasOpen m.taken (lists l.tree) l.place;
      beside : IsBeside m.taken (lists l.tree).frames l.node;
      asks : m.asks ≡ before.asks;
      ran_out : m.ran_out ≡ before.ran_out;
      shown : ShowsNothing before m;
      grown : length before.taken ≤ length m.taken;
      same : g.E.Entail.origin l.entail ≡ g.E.Entail.origin l.fn.entail;
    }
