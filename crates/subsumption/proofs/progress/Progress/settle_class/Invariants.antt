use Rattle.std.proofs.Common.{◌≡◌, ◌+◌}
use Rattle.std.specs.Prelude.{IfSome}
use Rattle.shq_oracle.specs.ApartLists.{IsAbout}
use Rattle.subsumption.specs.Subsumption.{class_at}
use Rattle.subsumption.specs.Tests.{AreAlike}
use Rattle.subsumption.specs.Progress.{IsGoing, StaysSettled, HasOpen}
use Rattle.subsumption.proofs.Counting.{open_count}
use Rattle.subsumption.proofs.progress.Progress.settle_class.Given as goal

abbrev pub invariant-loop-other : goal.invariant-loop-other
invariant-loop-other l = record {
  going : IsGoing l.oracle l.self;
  count_is : l.self.known.count ≡ l.fn.self.known.count;
  stays : StaysSettled l.fn.self l.self;
  alike : AreAlike l.fn.oracle l.oracle;
  axioms : l.self.axioms ≡ l.fn.self.axioms;
  kept : IfSome l.kept (IsAbout l.fn.oracle.ontology l.fn.self.axioms (class_at l.fn.self.known.count l.class));
  limit : l.unsettled.limit ≡ l.self.known.count + 2;
  unsettled : HasOpen l.self l.class l.unsettled;
}

abbrev pub decreases-loop-other : goal.decreases-loop-other
decreases-loop-other l = open_count l.self l.class
