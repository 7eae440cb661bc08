use Rattle.std.proofs.Common.{◌≡◌, ◌∙◌, ◌++◌, ap}
use Rattle.finite_model.specs.Written.{elements_of, class_line, class_lines}
use Rattle.finite_model.proofs.Texts.{class_lines_more}
use Rattle.finite_model.proofs.interp.Interp.push_classes.Goals as goal

pub loop-class-preserved : goal.loop-class-preserved
loop-class-preserved c =
    let elements : c.deref.result.now ≡ elements_of c.loop-class.class c.args.self.now.members =
    c.deref.ensures.value ∙ c.in_ok-elements.ensures in
    class_lines_more c.args.ontology.now.classes c.loop-class.class c.class_name.result.now c.args.self.now.members
    c.push_class.new.text.items c.loop-class.text.items c.args.text.now.items
    (class_lines 0 c.args.ontology.now.classes c.args.self.now.members) c.class_name.ensures
    (c.in_ok-push_class.ensures ∙ ap (λ xs. c.loop-class.text.items ++ class_line c.class_name.result.now xs) elements)
    c.loop-class.invariant
