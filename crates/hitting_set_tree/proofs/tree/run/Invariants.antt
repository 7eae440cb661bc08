use Rattle.std.proofs.Common.{◌≡◌, true}
use Rattle.set_questions.specs.Meaning.{Keeps}
use Rattle.hitting_set_tree.specs.Weight.{weight}
use Rattle.hitting_set_tree.specs.Tree.{lists, IsOrdered, HoldsLists, IsCovered, ListsShown, KeepsAll}
use Rattle.hitting_set_tree.specs.Open.{HasOpen, AsksFew}
use Rattle.hitting_set_tree.proofs.tree.run.Given as goal

abbrev pub invariant-loop-frame : goal.invariant-loop-frame
invariant-loop-frame g l =
    let m = g.E.Entail.meaning l.entail in
    let before = g.E.Entail.meaning l.fn.entail in
    record {
      keeps : Keeps before m;
      listed : HoldsLists m (lists l.tree);
      open' : HasOpen m.taken (lists l.tree) l.tree.rooted;
      covered : IsCovered (lists l.tree) (λ _. ⊥);
      shown : ListsShown before m (lists l.tree).justifications true;
      grows : KeepsAll (lists l.fn.tree).justifications (lists l.tree).justifications;
      order : IsOrdered l.tree;
      ran_out : m.ran_out ≡ before.ran_out;
      asked : AsksFew before.size before m;
      same : g.E.Entail.origin l.entail ≡ g.E.Entail.origin l.fn.entail;
    }

abbrev pub decreases-loop-frame : goal.decreases-loop-frame
decreases-loop-frame g l = weight l.tree.frames.items
