use Rattle.std.proofs.Common.{take}
use Rattle.certificate_lines.specs.Lines.{bytes_of}
use Rattle.edit_session.specs.Scripts.{IsToldSoFar}
use Rattle.edit_session.proofs.script.run_script.Given as goal

abbrev pub invariant-loop-line : goal.invariant-loop-line
invariant-loop-line l =
    IsToldSoFar l.budget l.fn.session.state l.fn.log l.fn.out.items (bytes_of (take l.line-index l.lines)) l.session
    l.log l.out.items
