use Rattle.ontology_limits.proofs.Numbers.{extends_itself}
use Rattle.absorption.proofs.Made.{members_within}
use Rattle.search_rules.proofs.Stays.{kept_all}
use Rattle.search_rules.proofs.search_rules.rules_of.Goals as goal

pub build-requires : goal.build-requires
build-requires c =
    members_within c.args.set.now _ c.args.only.now c.requires.listed c.requires.numbers

pub invariant_of-result : goal.invariant_of-result
invariant_of-result c =
    let o = c.args.ontology.now in
    let only = c.args.only.now in
    let b = c.rows_and_facts.new.concepts in
    let d = c.tables_of.new.concepts in
    kept_all o c.args.set.now c.in_ok-set.set c.in_ok-set.role_axioms only c.in_ok-roles.roles b b d
    c.in_ok-rows.rows c.in_ok-rows.given
    c.in_ok-numbers.numbers c.in_ok-numbers.edges
    c.requires.in_limit c.in_ok-set.ensures.same c.in_ok-set.ensures.limit c.in_ok-set.ensures.members
    c.requires.listed c.in_ok-roles.ensures c.tables_of.ensures.concepts c.in_ok-numbers.ensures.closed
    (extends_itself b) c.tables_of.ensures.kept
    c.in_ok-rows.ensures.rows c.in_ok-rows.ensures.facts c.in_ok-numbers.ensures.numbers c.in_ok-numbers.ensures.edges
