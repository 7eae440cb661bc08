use Rattle.std.proofs.Common.{map, ◌∙◌, subst, ap, sym}
use Rattle.axiom_sets.specs.Sets.{Limited}
use Rattle.search_trace.specs.RuleLine.{line_of}
use Rattle.closed_search.specs.Named.{AreRoleAxioms}
use Rattle.closed_search.proofs.Put.{names_all}
use Rattle.closed_search.proofs.naming.axioms_named.Goals as goal

pub put_used-requires : goal.put_used-requires
put_used-requires c = ap (λ (t : Limited). t.limit) c.in_ok-named.ensures ∙ c.requires.role_limit

pub returns : goal.returns
returns c =
    let axioms = c.args.ontology.now.axioms in
    let s = c.args.set.now in
    let copy = c.in_ok-named.ensures in
    let are : AreRoleAxioms axioms s.members c.in_ok-named.named.members =
    subst (λ (t : Limited). AreRoleAxioms axioms s.members t.members) (sym copy) c.requires.role_axioms in
    record {
      limit =
          c.put_used.ensures.limit ∙ ap (λ (t : Limited). t.limit) copy ∙ c.requires.role_limit ∙ c.requires.set;
      members =
          names_all axioms s (map line_of c.args.lines.now) c.in_ok-named.named.members c.put_used.new.named.members are
          c.put_used.ensures.members;
    }
