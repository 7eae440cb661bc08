use Rattle.std.proofs.Common.{◌≡◌, ◌∙◌, ◌≤◌, List, length, ap, arith}
use Rattle.shq_oracle.specs.Entry.{Entry}
use Rattle.shq_oracle.specs.Entries.{spent_of}
use Rattle.query_asker.proofs.Begun.{begins}
use Rattle.query_asker.proofs.asker.Asker.made.Goals as goal

pub invariant_of-result : goal.invariant_of-result
invariant_of-result c =
    let o = c.args.oracle in
    let first : length c.entries-first.result.now ≡ length o.log =
    ap (λ (log : List Entry). length log) (c.entries-first.ensures ∙ c.log.ensures) in
    let within : spent_of o.log ≤ o.budget = omega (arith, c.left-left.ensures.left) in
    begins o c.args.query.now c.args.among (length c.entries-first.result.now) c.new.result first within
    c.requires.goes_on c.requires.others c.requires.in_limit c.requires.limit c.requires.keeps c.new.ensures
