use Rattle.std.proofs.Common.{ℕ, ◌+◌, ap, sym, ◌∙◌}
use Rattle.edit_session.proofs.Limits.{addition_in_limit, addition_count}
use Rattle.edit_session.proofs.editing.add.Goals as goal

pub returns-in-Ok-clause-held : goal.returns-in-Ok-clause-held
returns-in-Ok-clause-held c =
    let kept = c.args.context.now in
    let o = c.args.ontology.now in
    let new = c.read_axiom.new.ontology in
    let after = c.read_axiom.new.context in
    record {
      limit =
          c.put.ensures.limit ∙ c.in_ok-more.ensures.limit ∙ ap (λ (n : ℕ). n + 1) c.axiom_count.ensures.count
          ∙ sym (addition_count kept o c.args.text.now new after c.in-Ok.number c.in-Ok.ensures.added);
      in_limit =
          addition_in_limit kept o c.args.text.now new after c.in-Ok.number c.requires.in_limit c.in-Ok.ensures.added;
    }
