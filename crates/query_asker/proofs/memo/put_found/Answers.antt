use Rattle.std.proofs.Common.{List, ap, sym, subst}
use Rattle.std.specs.Prelude.{OnOk}
use Rattle.std.specs.List.{Contains}
use Rattle.axiom_sets.specs.Sets.{Limited}
use Rattle.set_questions.specs.Kept.{kind_of, kept_sets}
use Rattle.query_asker.specs.Memory.{yes_of, no_of, KeepsWithAll}
use Rattle.query_asker.proofs.memo.put_found.Goals as goal

pub put_end-requires-clause-yes_limits : goal.put_end-requires-clause-yes_limits
put_end-requires-clause-yes_limits c u at =
    c.requires.yes_limits u (subst (λ (xs : List Limited). Contains xs u) (sym (ap yes_of c.in-Test.is)) at)

pub put_end-requires-clause-no_limits : goal.put_end-requires-clause-no_limits
put_end-requires-clause-no_limits c u at =
    c.requires.no_limits u (subst (λ (xs : List Limited). Contains xs u) (sym (ap no_of c.in-Test.is)) at)

pub returns-in-Test-clause-yes : goal.returns-in-Test-clause-yes
returns-in-Test-clause-yes c =
    subst (λ (xs : List Limited). OnOk c.put_end.result
    (KeepsWithAll (kind_of c.args.yes.now) xs (kept_sets c.args.yes.now) (kept_sets c.put_end.new.yes)))
    (sym (ap yes_of c.in-Test.is)) c.put_end.ensures.yes

pub returns-in-Test-clause-no : goal.returns-in-Test-clause-no
returns-in-Test-clause-no c =
    subst (λ (xs : List Limited). OnOk c.put_end.result
    (KeepsWithAll (kind_of c.args.no.now) xs (kept_sets c.args.no.now) (kept_sets c.put_end.new.no)))
    (sym (ap no_of c.in-Test.is)) c.put_end.ensures.no
