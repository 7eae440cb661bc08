use Rattle.std.proofs.Common.{◌≡◌, List, ℕ, subst, ◌∙◌}
use Rattle.std.proofs.lemmas.Result.{IfOk-weaker}
use Rattle.row_cache.specs.Sets.{member_list}
use Rattle.row_cache.specs.Theory.{named_parts}
use Rattle.absorption.specs.Rows.{AreRowsOf}
use Rattle.absorption.specs.Places.{IsFiled}
use Rattle.absorption.specs.Tables.{IsRowTable}
use Rattle.absorption.proofs.Made.{have_places, members_within, table_made}
use Rattle.absorption.proofs.row_table.RowTable.build.Goals as goal

pub rows_of-outcome-requires-clause-numbers : goal.rows_of-outcome-requires-clause-numbers
rows_of-outcome-requires-clause-numbers c =
    members_within c.args.set.now _ c.deref.result.now (c.deref.ensures.value ∙ c.in_ok-numbers.ensures)
    c.requires.numbers

pub filed-requires : goal.filed-requires
filed-requires c =
    have_places c.rows_of-outcome.new.concepts c.len-count-2.ensures.table
    (named_parts c.args.ontology.now.axioms c.deref.result.now) c.in_ok-outcome.field-0.items
    c.in_ok-outcome.ensures.rows

pub returns-clause-table : goal.returns-clause-table
returns-clause-table c =
    let t = c.rows_of-outcome.new.concepts in
    let axioms = c.args.ontology.now.axioms in
    let listed : c.deref.result.now ≡ member_list c.args.set.now = c.deref.ensures.value ∙ c.in_ok-numbers.ensures in
    let rows : AreRowsOf t (named_parts axioms (member_list c.args.set.now)) c.in_ok-outcome.field-0.items =
    subst (λ (ks : List ℕ). AreRowsOf t (named_parts axioms ks) c.in_ok-outcome.field-0.items) listed
    c.in_ok-outcome.ensures.rows in
    IfOk-weaker c.filed.result (λ f. IsFiled t c.in_ok-outcome.field-0.items f)
    (λ f. IsRowTable axioms (member_list c.args.set.now) t f)
    (λ f filed. table_made axioms c.args.set.now t c.in_ok-outcome.field-0.items f rows filed) c.filed.ensures
