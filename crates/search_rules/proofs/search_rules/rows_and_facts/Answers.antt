use Rattle.std.proofs.Common.{length}
use Rattle.assertion_box.specs.Stated.{stated_facts}
use Rattle.ontology_limits.proofs.Numbers.{extends_twice}
use Rattle.absorption.specs.Sets.{member_list}
use Rattle.absorption.proofs.Made.{members_within}
use Rattle.search_rules.proofs.Giving.{numbered_stay}
use Rattle.search_rules.proofs.Stays.{table_stays}
use Rattle.search_rules.proofs.search_rules.rows_and_facts.Goals as goal

pub build-requires-2-clause-numbers : goal.build-requires-2-clause-numbers
build-requires-2-clause-numbers c =
    members_within c.args.set.now _ c.args.only.now c.requires.listed c.requires.numbers

pub returns-clause-rows : goal.returns-clause-rows
returns-clause-rows c =
    let a = c.build.new.concepts in
    let b = c.build-2.new.concepts in
    let e = c.put_complements_of_names.new.concepts in
    table_stays a e (extends_twice a b e c.in_ok-given.ensures.kept c.put_complements_of_names.ensures.kept)
    c.args.ontology.now.axioms (member_list c.args.set.now) _ c.in_ok-rows.ensures.table

pub returns-clause-facts : goal.returns-clause-facts
returns-clause-facts c =
    let facts = stated_facts c.args.ontology.now.axioms c.args.only.now in
    numbered_stay c.build-2.new.concepts c.put_complements_of_names.new.concepts
    c.put_complements_of_names.ensures.kept facts _ (length facts) c.in_ok-given.ensures.given
