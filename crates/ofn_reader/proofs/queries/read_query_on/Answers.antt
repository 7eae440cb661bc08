use Rattle.std.proofs.Common.{◌≡◌, length, sym, ◌∙◌}
use Rattle.std.specs.Prelude.{OnOk}
use Rattle.ofn_reader.specs.Queries.{IsListedQuery, query_form_tests, first_query, first_line, counted_by_first}
use Rattle.ofn_reader.proofs.Simple.{not_ok, on_ok, not_err, on_err, names_cut, query_faults, query_kept}
use Rattle.ofn_reader.proofs.queries.read_query_on.Goals as goal
use Rattle.ofn_reader.proofs.queries.read_query_on.Goals.{then-is_err, else-is_err}

pub returns-clause-query : goal.returns-clause-query
returns-clause-query c =
    let P : Type 0 = c.if-is_err.own ≡ c.into_parts-own.result.0 in
    let kept : OnOk c.simple_query-read.result P =
    elim c.if-is_err.branch [
      | then-is_err w ↦ not_ok c.simple_query-read.result P (sym c.is_err.ensures.value ∙ w.if-is_err.true)
      | else-is_err w ↦ on_ok c.simple_query-read.result P w.own-is
    ] in
    query_kept counted_by_first (query_form_tests c.args.prefixes.now c.args.end_line c.args.items.now)
    (λ s. first_query c.args.prefixes.now s c.args.items.now) c.args.ontology.now c.into_parts-own.result.0
    c.first_line.result (first_line c.args.end_line c.args.items.now) c.args.nodes c.new-state.result
    c.read_query_items-read.new.state c.read_query_items-read.result c.simple_query-read.result
    (c.new-state.ensures
    ∙ (λ i. record {
      counts = record {
        axioms = length (c.axioms.ensures.all i);
        parts = 0;
        nodes = c.args.nodes;
        classes = (c.replace-own.ensures.value i).classes;
        roles = (c.replace-own.ensures.value i).roles;
        individuals = (c.replace-own.ensures.value i).individuals;
      };
      read = (c.replace-own.ensures.value i).axioms;
    }))
    c.into_parts-own.ensures.ontology c.read_query_items-read.ensures.grown c.first_line.ensures
    c.read_query_items-read.ensures.tests c.read_query_items-read.ensures.pair c.simple_query-read.ensures.tests
    IsListedQuery c.if-is_err.own c.simple_query-read.ensures.same c.read_query_items-read.ensures.listed kept

pub returns-clause-refused : goal.returns-clause-refused
returns-clause-refused c =
    query_faults counted_by_first (query_form_tests c.args.prefixes.now c.args.end_line c.args.items.now)
    (λ s. first_query c.args.prefixes.now s c.args.items.now) c.args.ontology.now c.into_parts-own.result.0
    c.first_line.result (first_line c.args.end_line c.args.items.now) c.args.nodes c.new-state.result
    c.read_query_items-read.new.state c.read_query_items-read.result c.simple_query-read.result
    (c.new-state.ensures
    ∙ (λ i. record {
      counts = record {
        axioms = length (c.axioms.ensures.all i);
        parts = 0;
        nodes = c.args.nodes;
        classes = (c.replace-own.ensures.value i).classes;
        roles = (c.replace-own.ensures.value i).roles;
        individuals = (c.replace-own.ensures.value i).individuals;
      };
      read = (c.replace-own.ensures.value i).axioms;
    }))
    c.into_parts-own.ensures.ontology c.read_query_items-read.ensures.grown c.first_line.ensures
    c.read_query_items-read.ensures.tests c.read_query_items-read.ensures.pair c.simple_query-read.ensures.tests

pub returns-clause-unchanged : goal.returns-clause-unchanged
returns-clause-unchanged c =
    let P : Type 0 = c.if-is_err.own ≡ c.args.ontology.now in
    elim c.if-is_err.branch [
      | then-is_err w ↦ on_err c.simple_query-read.result P
          (names_cut c.args.ontology.now c.into_parts-own.result.0 c.if-is_err.own c.args.nodes
          c.class_count-classes.result c.role_count-roles.result c.individual_count-individuals.result
          c.new-state.result c.read_query_items-read.new.state
          (c.new-state.ensures
          ∙ (λ i. record {
            counts = record {
              axioms = length (c.axioms.ensures.all i);
              parts = 0;
              nodes = c.args.nodes;
              classes = (c.replace-own.ensures.value i).classes;
              roles = (c.replace-own.ensures.value i).roles;
              individuals = (c.replace-own.ensures.value i).individuals;
            };
            read = (c.replace-own.ensures.value i).axioms;
          }))
          c.into_parts-own.ensures.ontology c.read_query_items-read.ensures.grown c.class_count-classes.ensures.count
          c.role_count-roles.ensures.count c.individual_count-individuals.ensures.count
          (w.own-is ∙ w.cut_names.ensures))
      | else-is_err w ↦ not_err c.simple_query-read.result P (sym c.is_err.ensures.value ∙ w.if-is_err.false)
    ]
