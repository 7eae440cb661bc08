use Rattle.std.proofs.Common.{◌≢◌, map, sym, refl, ◌∙◌, subst}
use Rattle.ofn_tree.specs.Token.{plain_token}
use Rattle.ofn_tree.specs.Items.{IsTree}
use Rattle.ofn_tree.specs.Faults.{bracket_fault}
use Rattle.ofn_tree.specs.Lexed.{reading_of}
use Rattle.ofn_expressions.specs.declared.refusal.Refusal.{Refusal}
use Rattle.ofn_expressions.specs.declared.refusal.Refusal.TheVariants.{NoMemory}
use Rattle.ofn_reader.specs.Texts.{IsRefusedBy}
use Rattle.ofn_reader.proofs.Faulty.{token_fault_refuses}
use Rattle.ofn_reader.proofs.texts.read_items.Goals as goal

pub returns-in-Err-clause-refused : goal.returns-in-Err-clause-refused
returns-in-Err-clause-refused c = λ tests s.
    subst (λ (e : Refusal). e ≢ NoMemory → IsRefusedBy tests s c.args.text.now e) (sym c.refusal_of.ensures)
    (token_fault_refuses tests s c.args.text.now c.in-Err.fault c.in-Err.ensures.fault)

pub returns-in-Ok-tree-clause-made : goal.returns-in-Ok-tree-clause-made
returns-in-Ok-tree-clause-made c = record {
  tokens = reading_of c.in-Ok.cut.0.items c.in-Ok.cut.1;
  cut = c.in-Ok.ensures.ok;
  balanced =
      (λ i. bracket_fault (sym c.end_line.ensures i) 0 (map plain_token (sym c.deref.ensures.value i)))
      ∙ c.in-Ok-tree.ensures.no_fault;
  tree =
      subst (λ ts. IsTree (map plain_token ts) c.in-Ok-tree.items.items) c.deref.ensures.value c.in-Ok-tree.ensures.ok;
  behind = refl;
}
