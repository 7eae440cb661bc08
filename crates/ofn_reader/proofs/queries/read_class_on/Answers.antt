use Rattle.std.proofs.Common.{◌≡◌, length, sym, ◌∙◌}
use Rattle.std.specs.Prelude.{OnOk}
use Rattle.ofn_expressions.specs.Classes.{IsListed}
use Rattle.ofn_reader.specs.Queries.{class_form_tests, first_class, first_line, counted_in_first}
use Rattle.ofn_reader.proofs.Simple.{not_ok, on_ok, not_err, on_err, names_cut, query_faults, query_kept}
use Rattle.ofn_reader.proofs.queries.read_class_on.Goals as goal
use Rattle.ofn_reader.proofs.queries.read_class_on.Goals.{then-is_err, else-is_err}

pub returns-clause-class : goal.returns-clause-class
returns-clause-class c =
    let P : Type 0 = c.if-is_err.own ≡ c.into_parts-own.result.0 in
    let kept : OnOk c.simple_class-class.result P =
    elim c.if-is_err.branch [
      | then-is_err w ↦ not_ok c.simple_class-class.result P (sym c.is_err.ensures.value ∙ w.if-is_err.true)
      | else-is_err w ↦ on_ok c.simple_class-class.result P w.own-is
    ] in
    query_kept counted_in_first (class_form_tests c.args.prefixes.now c.args.end_line c.args.items.now)
    (λ s. first_class c.args.prefixes.now s c.args.items.now) c.args.ontology.now c.into_parts-own.result.0
    c.first_line.result (first_line c.args.end_line c.args.items.now) c.args.nodes c.new-state.result
    c.read_class_items-class.new.state c.read_class_items-class.result c.simple_class-class.result
    (c.new-state.ensures
    ∙ (λ i. record {
      counts = record {
        axioms = length (c.axioms.ensures.all i);
        parts = 0;
        nodes = c.args.nodes;
        classes = (c.replace-own.ensures.value i).classes;
        roles = (c.replace-own.ensures.value i).roles;
        individuals = (c.replace-own.ensures.value i).individuals;
      };
      read = (c.replace-own.ensures.value i).axioms;
    }))
    c.into_parts-own.ensures.ontology c.read_class_items-class.ensures.grown c.first_line.ensures
    c.read_class_items-class.ensures.tests c.read_class_items-class.ensures.class c.simple_class-class.ensures.tests
    IsListed c.if-is_err.own c.simple_class-class.ensures.same c.read_class_items-class.ensures.listed kept

pub returns-clause-refused : goal.returns-clause-refused
returns-clause-refused c =
    query_faults counted_in_first (class_form_tests c.args.prefixes.now c.args.end_line c.args.items.now)
    (λ s. first_class c.args.prefixes.now s c.args.items.now) c.args.ontology.now c.into_parts-own.result.0
    c.first_line.result (first_line c.args.end_line c.args.items.now) c.args.nodes c.new-state.result
    c.read_class_items-class.new.state c.read_class_items-class.result c.simple_class-class.result
    (c.new-state.ensures
    ∙ (λ i. record {
      counts = record {
        axioms = length (c.axioms.ensures.all i);
        parts = 0;
        nodes = c.args.nodes;
        classes = (c.replace-own.ensures.value i).classes;
        roles = (c.replace-own.ensures.value i).roles;
        individuals = (c.replace-own.ensures.value i).individuals;
      };
      read = (c.replace-own.ensures.value i).axioms;
    }))
    c.into_parts-own.ensures.ontology c.read_class_items-class.ensures.grown c.first_line.ensures
    c.read_class_items-class.ensures.tests c.read_class_items-class.ensures.class c.simple_class-class.ensures.tests

pub returns-clause-unchanged : goal.returns-clause-unchanged
returns-clause-unchanged c =
    let P : Type 0 = c.if-is_err.own ≡ c.args.ontology.now in
    elim c.if-is_err.branch [
      | then-is_err w ↦ on_err c.simple_class-class.result P
          (names_cut c.args.ontology.now c.into_parts-own.result.0 c.if-is_err.own c.args.nodes
          c.class_count-classes.result c.role_count-roles.result c.individual_count-individuals.result
          c.new-state.result c.read_class_items-class.new.state
          (c.new-state.ensures
          ∙ (λ i. record {
            counts = record {
              axioms = length (c.axioms.ensures.all i);
              parts = 0;
              nodes = c.args.nodes;
              classes = (c.replace-own.ensures.value i).classes;
              roles = (c.replace-own.ensures.value i).roles;
              individuals = (c.replace-own.ensures.value i).individuals;
            };
            read = (c.replace-own.ensures.value i).axioms;
          }))
          c.into_parts-own.ensures.ontology c.read_class_items-class.ensures.grown c.class_count-classes.ensures.count
          c.role_count-roles.ensures.count c.individual_count-individuals.ensures.count
          (w.own-is ∙ w.cut_names.ensures))
      | else-is_err w ↦ not_err c.simple_class-class.result P (sym c.is_err.ensures.value ∙ w.if-is_err.false)
    ]
