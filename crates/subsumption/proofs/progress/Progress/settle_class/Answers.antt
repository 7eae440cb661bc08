use Rattle.std.proofs.Common.{Some, ℕ, ◌+◌, ◌∙◌, ap, arith, subst, sym}
use Rattle.subsumption.specs.Progress.{IsOpenAt}
use Rattle.subsumption.proofs.Begun.{alike_then}
use Rattle.subsumption.proofs.Counting.{fewer_open}
use Rattle.subsumption.proofs.Open.{still_has_open}
use Rattle.subsumption.proofs.Tested.{about_moved}
use Rattle.subsumption.proofs.progress.Progress.settle_class.Goals as goal

pub ask-requires-clause-kept : goal.ask-requires-clause-kept
ask-requires-clause-kept c =
    let i = c.loop-other.invariant in
    about_moved c.loop-other.kept c.args.oracle.now.ontology c.loop-other.oracle.ontology c.args.self.now.axioms
    c.loop-other.self.axioms c.args.self.now.known.count c.loop-other.self.known.count c.args.class
    (sym i.alike.ontology) (sym i.axioms) (sym i.count_is) i.kept

pub loop-other-preserved : goal.loop-other-preserved
loop-other-preserved c =
    let i = c.loop-other.invariant in
    let asked = c.in_ok-ask.ensures in
    record {
      going = asked.ok.going;
      count_is = asked.ok.count_is ∙ i.count_is;
      stays =
          λ x y lx ly h. asked.ok.stays x y (omega (arith, lx, i.count_is)) (omega (arith, ly, i.count_is))
          (i.stays x y lx ly h);
      alike = alike_then c.args.oracle.now c.loop-other.oracle c.ask.new.oracle i.alike asked.alike;
      axioms = asked.axioms ∙ i.axioms;
      kept =
          about_moved c.ask.new.kept c.loop-other.oracle.ontology c.args.oracle.now.ontology c.loop-other.self.axioms
          c.args.self.now.axioms c.loop-other.self.known.count c.args.self.now.known.count c.args.class
          i.alike.ontology i.axioms i.count_is asked.kept;
      limit = c.next_question.ensures.limit ∙ i.limit ∙ ap (λ (n : ℕ). n + 2) (sym asked.ok.count_is);
      unsettled =
          still_has_open c.loop-other.self c.ask.new.self c.args.class c.next_question.new.unsettled
          (omega (arith, c.requires.class, i.count_is)) asked.ok.count_is asked.ok.stays c.next_question.ensures.unsettled;
    }

pub loop-other-smaller : goal.loop-other-smaller
loop-other-smaller c =
    let found : IsOpenAt c.loop-other.self c.args.class (Some c.in-Some.other) =
    subst (IsOpenAt c.loop-other.self c.args.class) c.in-Some.is c.next_question.ensures.found in
    fewer_open c.loop-other.self c.ask.new.self c.args.class c.in-Some.other
    (omega (arith, c.requires.class, c.loop-other.invariant.count_is)) found.0 c.in_ok-ask.ensures.ok.count_is
    c.in_ok-ask.ensures.ok.stays found.1
    c.in_ok-ask.ensures.settled
