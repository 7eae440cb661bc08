use Rattle.std.proofs.Common.{◌≡◌, ℕ, ◌≤◌, Err, ap, sym, ◌∙◌, subst}
use Rattle.std.specs.Prelude.{OnOk, OnErr}
use Rattle.ofn_reader.specs.Additions.{addition_walk, AdditionIsRead}
use Rattle.ofn_expressions.specs.Walk.{RefusalAgrees}
use Rattle.ofn_reader.proofs.Simple.{not_ok, on_ok, not_err, on_err}
use Rattle.ofn_reader.proofs.Added.{start_of, added_cut, known_err, may_cut, put_faults, put_read, room_kept}
use Rattle.ofn_reader.proofs.Added.{listed_kept, ok_also, err_also, on_err_also}
use Rattle.ofn_reader.proofs.additions.read_axiom_on.Goals as goal
use Rattle.ofn_reader.proofs.additions.read_axiom_on.Goals.{then-is_err, else-is_err}

pub put_axiom-put-requires-clause-room : goal.put_axiom-put-requires-clause-room
put_axiom-put-requires-clause-room c =
    room_kept c.args.ontology.now c.into_parts-own.result.0 c.reading_of-state.result c.read_added_items-read.new.state
    c.read_added_items-read.result c.if_all_simple-read.result
    (c.reading_of-state.ensures.state ∙ ap start_of c.replace-own.ensures.value) c.into_parts-own.ensures.ontology
    c.read_added_items-read.ensures.more
    c.if_all_simple-read.ensures.same c.read_added_items-read.ensures.within

pub put_axiom-put-requires-clause-listed : goal.put_axiom-put-requires-clause-listed
put_axiom-put-requires-clause-listed c =
    listed_kept c.into_parts-own.result.0 c.read_added_items-read.new.state c.read_added_items-read.result
    c.if_all_simple-read.result c.into_parts-own.ensures.ontology c.if_all_simple-read.ensures.same
    c.read_added_items-read.ensures.listed

pub cut_again-requires : goal.cut_again-requires
cut_again-requires c =
    may_cut c.args.ontology.now c.replace-own.result c.into_parts-own.result.0 c.put_axiom-put.new.ontology
    c.class_count-classes.result c.role_count-roles.result c.individual_count-individuals.result
    c.reading_of-state.result c.read_added_items-read.new.state
    (c.reading_of-state.ensures.state ∙ ap start_of c.replace-own.ensures.value) c.into_parts-own.ensures.ontology
    c.read_added_items-read.ensures.more c.class_count-classes.ensures.count c.role_count-roles.ensures.count
    c.individual_count-individuals.ensures.count
    (known_err c.put_axiom-put.result (c.put_axiom-put.new.ontology ≡ c.into_parts-own.result.0)
    (sym c.is_err.ensures.value ∙ c.if-is_err.true) c.put_axiom-put.ensures.unchanged)
    c.replace-own.ensures.value c.reading_of-state.ensures.listed

pub returns-clause-axiom : goal.returns-clause-axiom
returns-clause-axiom c =
    let P : Type 0 = c.if-is_err.own ≡ c.put_axiom-put.new.ontology in
    let stays : OnOk c.put_axiom-put.result P =
    elim c.if-is_err.branch [
      | then-is_err w ↦ not_ok c.put_axiom-put.result P (sym c.is_err.ensures.value ∙ w.if-is_err.true)
      | else-is_err w ↦ on_ok c.put_axiom-put.result P w.own-is
    ] in
    ok_also c.with_nodes.result _
    (λ r. AdditionIsRead c.args.prefixes.now c.args.ontology.now c.args.end_line c.args.items.now c.if-is_err.own r.0
    r.1)
    c.with_nodes.ensures.put
    (λ r was.
    put_read c.args.prefixes.now c.args.end_line c.args.items.now c.args.ontology.now c.into_parts-own.result.0
    c.first_line.result c.reading_of-state.result c.read_added_items-read.new.state c.read_added_items-read.result
    c.if_all_simple-read.result
    (c.reading_of-state.ensures.state ∙ ap start_of c.replace-own.ensures.value) c.into_parts-own.ensures.ontology
    c.read_added_items-read.ensures.more c.first_line.ensures c.read_added_items-read.ensures.tests
    c.read_added_items-read.ensures.says c.if_all_simple-read.ensures.tests
    c.put_axiom-put.new.ontology c.if-is_err.own c.put_axiom-put.result r.0 c.into_parts-own.result.1 r.1
    c.if_all_simple-read.ensures.same c.put_axiom-put.ensures.put stays c.into_parts-own.ensures.nodes was.0 was.1)

pub returns-clause-within : goal.returns-clause-within
returns-clause-within c =
    ok_also c.with_nodes.result _ (λ r. r.1 ≤ 262144) c.with_nodes.ensures.put
    (λ r was. subst (λ (n : ℕ). n ≤ 262144) (sym was.1) c.into_parts-own.ensures.within)

pub returns-clause-refused : goal.returns-clause-refused
returns-clause-refused c =
    err_also c.with_nodes.result (λ e. c.put_axiom-put.result ≡ Err e)
    (RefusalAgrees (addition_walk c.args.prefixes.now c.args.ontology.now c.args.end_line c.args.items.now))
    c.with_nodes.ensures.refused
    (λ e was.
    put_faults c.args.prefixes.now c.args.end_line c.args.items.now c.args.ontology.now c.into_parts-own.result.0
    c.first_line.result c.reading_of-state.result c.read_added_items-read.new.state c.read_added_items-read.result
    c.if_all_simple-read.result
    (c.reading_of-state.ensures.state ∙ ap start_of c.replace-own.ensures.value) c.into_parts-own.ensures.ontology
    c.read_added_items-read.ensures.more c.first_line.ensures c.read_added_items-read.ensures.tests
    c.read_added_items-read.ensures.says c.if_all_simple-read.ensures.tests
    c.put_axiom-put.new.ontology c.put_axiom-put.result e c.put_axiom-put.ensures.put was)

pub returns-clause-unchanged : goal.returns-clause-unchanged
returns-clause-unchanged c =
    let P : Type 0 = c.if-is_err.own ≡ c.args.ontology.now in
    let cut : OnErr c.put_axiom-put.result P =
    elim c.if-is_err.branch [
      | then-is_err w ↦ on_err c.put_axiom-put.result P
          (added_cut c.args.ontology.now c.put_axiom-put.new.ontology c.if-is_err.own c.class_count-classes.result
          c.role_count-roles.result c.individual_count-individuals.result c.reading_of-state.result
          c.read_added_items-read.new.state
          (c.reading_of-state.ensures.state ∙ ap start_of c.replace-own.ensures.value)
          (known_err c.put_axiom-put.result (c.put_axiom-put.new.ontology ≡ c.into_parts-own.result.0)
          (sym c.is_err.ensures.value ∙ w.if-is_err.true) c.put_axiom-put.ensures.unchanged
          ∙ c.into_parts-own.ensures.ontology)
          c.read_added_items-read.ensures.more c.class_count-classes.ensures.count c.role_count-roles.ensures.count
          c.individual_count-individuals.ensures.count (w.own-is ∙ w.cut_again.ensures))
      | else-is_err w ↦ not_err c.put_axiom-put.result P (sym c.is_err.ensures.value ∙ w.if-is_err.false)
    ] in
    on_err_also c.with_nodes.result c.put_axiom-put.result P c.with_nodes.ensures.refused cut
