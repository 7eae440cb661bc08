use Rattle.std.proofs.Common.{◌≡◌, ◌∷◌, ◌++◌, map}
use Rattle.std.specs.Vec.Iter.{into_iter_items}
use Rattle.calculus_specs.specs.Line.Line.{start_line}
use Rattle.refutation_tree.specs.RuleLine.{line_of}
use Rattle.search_trace.specs.Trace.{noted, lines_in}
use Rattle.search_trace.proofs.trace.Trace.into_lines.Given as goal

abbrev pub invariant-loop-line : goal.invariant-loop-line
invariant-loop-line l =
    map line_of l.all.items ++ map (λ k. k.line) (map noted (into_iter_items l.line-iterator))
    ≡ start_line ∷ lines_in l.fn.self
