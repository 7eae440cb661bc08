use Rattle.std.proofs.Common.{◌≡◌, ◌++◌, drop, map, true}
use Rattle.std.specs.List.{list_all}
use Rattle.certificate_lines.specs.Written.{text_of}
use Rattle.refutation_tree.specs.RuleLine.{line_of}
use Rattle.refutation_tree.specs.Written.{rule_text, line_is_listed}
use Rattle.refutation_tree.proofs.writing.push_rules.Given as goal

abbrev pub invariant-loop-line : goal.invariant-loop-line
invariant-loop-line l = record {
  text : l.text.items ++ text_of (map (rule_text l.ontology) (map line_of (drop l.line-index l.lines)))
      ≡ l.fn.text.items ++ text_of (map (rule_text l.ontology) (map line_of l.lines));
  listed : list_all (line_is_listed l.ontology) (map line_of (drop l.line-index l.lines)) ≡ true;
}
