use Rattle.std.proofs.Common.{◌≡◌, length, true, ap, sym, ◌∙◌, subst, arith, length-append}
use Rattle.shq_terms.specs.Listed.{Listed}
use Rattle.shq_terms.specs.Uses.{axiom_uses_listed, all_use_listed}
use Rattle.shq_terms.proofs.Uses.{all_use_push}
use Rattle.shq_terms.proofs.ontology.Ontology.add_axiom.Goals as goal

pub invariant_of-self-2 : goal.invariant_of-self-2
invariant_of-self-2 c =
    let inside = c.self.inside in
    let pushed : c.push_item.new.items.items ≡ _ = c.in_ok-push_item.ensures.pushed in
    let one : axiom_uses_listed (length inside.classes) (length inside.roles) (length inside.individuals) c.args.axiom
    ≡ true =
    subst
    (λ (o : Listed). axiom_uses_listed (length o.classes) (length o.roles) (length o.individuals) c.args.axiom ≡ true)
    (sym c.self.view_is) c.requires in
    let all =
    ap (λ l. all_use_listed (length inside.classes) (length inside.roles) (length inside.individuals) l) pushed
    ∙ all_use_push (length inside.classes) (length inside.roles) (length inside.individuals) inside.axioms.items _
    c.self.invariant.4 one in (
      omega (arith, simp length-append at (ap length pushed)),
      c.self.invariant.1,
      c.self.invariant.2,
      c.self.invariant.3,
      all,
      c.self.invariant.5,
      c.self.invariant.6,
      c.self.invariant.7,
    )
