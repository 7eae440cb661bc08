use Rattle.std.proofs.Common.{◌≡◌, ◌++◌, drop}
use Rattle.step_lines.specs.Grounds.{link_facts}
use Rattle.step_lines.proofs.most.push_links.Given as goal

abbrev pub invariant-loop-link : goal.invariant-loop-link
invariant-loop-link l =
    l.grounds.items ++ link_facts l.node l.filler (drop l.link-index l.links)
    ≡ l.initial.grounds.items ++ link_facts l.node l.filler l.links
