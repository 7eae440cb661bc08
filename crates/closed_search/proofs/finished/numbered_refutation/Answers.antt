use Rattle.std.proofs.Common.{◌≡◌, true, List, ◌++◌, map, subst, sym, ap, ◌∙◌}
use Rattle.std.specs.List.{list_all}
use Rattle.calculus_specs.specs.Line.{Line}
use Rattle.calculus_specs.specs.Shape.{Shape}
use Rattle.search_trace.specs.RuleLine.{line_of, names_concepts}
use Rattle.search_trace.specs.RefutationLists.{RefutationLists}
use Rattle.search_trace.specs.Renumbered.{renumbered}
use Rattle.closed_search.specs.Numbers.{number_in}
use Rattle.closed_search.proofs.Made.{lines_name, all_numbered}
use Rattle.closed_search.proofs.finished.numbered_refutation.Goals as goal

pub put_lines-requires : goal.put_lines-requires
put_lines-requires c =
    let h = c.in_ok-name_lines.ensures in
    subst (λ (ls : List Line). list_all (names_concepts c.into_refutation-refutation.result.shapes) ls ≡ true)
    (sym h.are)
    (subst (λ (ss : List Shape). list_all (names_concepts ss)
    (map (renumbered (number_in c.name_lines.new.naming.used.keys)) (map line_of c.args.lines.items))
    ≡ true)
    (sym (ap (λ (r : RefutationLists). r.shapes) c.into_refutation-refutation.ensures))
    (lines_name c.args.concepts.now c.name_lines.new.naming h.naming (map line_of c.args.lines.items) h.used))

pub returns : goal.returns
returns c =
    all_numbered c.args.concepts.now c.new-naming.result c.name_lines.new.naming c.args.axioms
    (map line_of c.args.lines.items) (map line_of c.name_lines.new.made.items) c.put_lines.new.refutation
    c.new-naming.ensures.used c.new-naming.ensures.refutation c.in_ok-name_lines.ensures
    (c.in_ok-put_lines.ensures
    ∙ ap (λ (r : RefutationLists). record r { lines = r.lines ++ map line_of c.name_lines.new.made.items })
    c.into_refutation-refutation.ensures)
