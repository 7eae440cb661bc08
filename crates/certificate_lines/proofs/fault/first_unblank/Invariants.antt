use Rattle.std.proofs.Common.{◌≡◌, ◌+◌, drop, map}
use Rattle.std.specs.List.{list_all}
use Rattle.certificate_lines.specs.Lines.{is_blank}
use Rattle.certificate_lines.specs.Malformed.{first_unblank}
use Rattle.certificate_lines.proofs.fault.first_unblank.Given as goal

abbrev pub invariant-loop-index : goal.invariant-loop-index
invariant-loop-index l = record {
  first : first_unblank (l.number + l.index) (map (λ w. w.now) (drop l.index l.lines))
      ≡ first_unblank l.number (map (λ w. w.now) l.lines);
  blank : list_all is_blank (map (λ w. w.now) (drop l.index l.lines)) ≡ list_all is_blank (map (λ w. w.now) l.lines);
}
