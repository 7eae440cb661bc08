use Rattle.std.proofs.Common.{sym, subst, ◌∙◌}
use Rattle.ofn_expressions.specs.Walk.{Judged}
use Rattle.ofn_expressions.specs.Classes.{class_tests}
use Rattle.ofn_reader.specs.Queries.{read_alone, class_form_tests}
use Rattle.ofn_reader.proofs.Alone.{alone_judged}
use Rattle.ofn_reader.proofs.Heads.{alone_tests_are}
use Rattle.ofn_reader.proofs.queries.read_class_items.Goals as goal

pub returns-clause-tests : goal.returns-clause-tests
returns-clause-tests c =
    subst (λ r. Judged r c.args.state.now.counts (class_form_tests c.args.prefixes.now c.args.end_line c.args.items.now)
    c.read_class-class.new.state.counts)
    (sym c.alone.ensures)
    (subst (λ ts. Judged (read_alone c.split_at.result.1.now c.read_class-class.result) c.args.state.now.counts ts
    c.read_class-class.new.state.counts)
    (alone_tests_are (class_tests c.args.prefixes.now) c.args.end_line c.args.items.now c.split_at.result.1.now
    c.index-items-0.result c.index-items-0.is c.split_at.ensures.back (sym c.is_empty.ensures ∙ c.if-is_empty.false))
    (alone_judged c.split_at.result.1.now c.read_class-class.result c.args.state.now.counts
    c.read_class-class.new.state.counts (class_tests c.args.prefixes.now c.index-items-0.result)
    c.read_class-class.ensures.tests))
