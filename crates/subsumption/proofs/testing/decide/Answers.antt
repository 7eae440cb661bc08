use Rattle.std.proofs.Common.{◌≡◌, ◌∙◌, false, length, ap, sym, subst}
use Rattle.std.specs.Prelude.{IfOk, IfSome, OnErr}
use Rattle.std.specs.List.{list_any}
use Rattle.shq_oracle.specs.Limits.{IsInLimit}
use Rattle.shq_oracle.specs.Entries.{is_spent, IsAnswered}
use Rattle.shq_oracle.specs.OracleLists.{OracleLists}
use Rattle.shq_oracle.specs.ApartLists.{IsAbout}
use Rattle.subsumption.specs.Tests.{IsTested, IsNoted, AreAlike}
use Rattle.subsumption.proofs.testing.decide.Goals as goal

pub returns-then-noted-clause-tested : goal.returns-then-noted-clause-tested
returns-then-noted-clause-tested c =
    subst (IsNoted c.args.oracle.now c.note_if_shown.new.oracle c.args.axioms.now c.args.query.now) c.if-noted.true
    c.in_ok-noted.ensures.noted

pub search-requires-clause-limit : goal.search-requires-clause-limit
search-requires-clause-limit c =
    let same : c.note_if_shown.new.oracle ≡ c.args.oracle.now =
    subst (IsNoted c.args.oracle.now c.note_if_shown.new.oracle c.args.axioms.now c.args.query.now) c.if-noted.false
    c.in_ok-noted.ensures.noted in
    c.requires.limit ∙ ap (λ (l : OracleLists). length l.ontology.axioms) (sym same)

pub search-requires-clause-in_limit : goal.search-requires-clause-in_limit
search-requires-clause-in_limit c =
    let same : c.note_if_shown.new.oracle ≡ c.args.oracle.now =
    subst (IsNoted c.args.oracle.now c.note_if_shown.new.oracle c.args.axioms.now c.args.query.now) c.if-noted.false
    c.in_ok-noted.ensures.noted in
    subst (λ (l : OracleLists). IsInLimit l.ontology c.args.query.now) (sym same) c.requires.in_limit

pub search-requires-clause-goes_on : goal.search-requires-clause-goes_on
search-requires-clause-goes_on c =
    let same : c.note_if_shown.new.oracle ≡ c.args.oracle.now =
    subst (IsNoted c.args.oracle.now c.note_if_shown.new.oracle c.args.axioms.now c.args.query.now) c.if-noted.false
    c.in_ok-noted.ensures.noted in
    subst (λ (l : OracleLists). list_any is_spent l.log ≡ false) (sym same) c.requires.goes_on

pub search-requires-clause-is_new : goal.search-requires-clause-is_new
search-requires-clause-is_new c =
    let same : c.note_if_shown.new.oracle ≡ c.args.oracle.now =
    subst (IsNoted c.args.oracle.now c.note_if_shown.new.oracle c.args.axioms.now c.args.query.now) c.if-noted.false
    c.in_ok-noted.ensures.noted in
    subst (λ (l : OracleLists). IsAnswered l.log c.args.axioms.now c.args.query.now → ⊥) (sym same) c.requires.is_new

pub search-requires-clause-kept : goal.search-requires-clause-kept
search-requires-clause-kept c =
    let same : c.note_if_shown.new.oracle ≡ c.args.oracle.now =
    subst (IsNoted c.args.oracle.now c.note_if_shown.new.oracle c.args.axioms.now c.args.query.now) c.if-noted.false
    c.in_ok-noted.ensures.noted in
    subst (λ (l : OracleLists). IfSome c.args.kept.now (IsAbout l.ontology c.args.axioms.now c.args.query.now.sub))
    (sym same) c.requires.kept

pub returns-clause-tested : goal.returns-clause-tested
returns-clause-tested c =
    let same : c.note_if_shown.new.oracle ≡ c.args.oracle.now =
    subst (IsNoted c.args.oracle.now c.note_if_shown.new.oracle c.args.axioms.now c.args.query.now) c.if-noted.false
    c.in_ok-noted.ensures.noted in
    subst
    (λ (l : OracleLists). IfOk c.search.result (IsTested l c.search.new.oracle c.args.axioms.now c.args.query.now)) same
    c.search.ensures.tested

pub returns-clause-alike : goal.returns-clause-alike
returns-clause-alike c =
    let same : c.note_if_shown.new.oracle ≡ c.args.oracle.now =
    subst (IsNoted c.args.oracle.now c.note_if_shown.new.oracle c.args.axioms.now c.args.query.now) c.if-noted.false
    c.in_ok-noted.ensures.noted in
    subst (λ (l : OracleLists). AreAlike l c.search.new.oracle) same c.search.ensures.alike

pub returns-clause-unchanged : goal.returns-clause-unchanged
returns-clause-unchanged c =
    let same : c.note_if_shown.new.oracle ≡ c.args.oracle.now =
    subst (IsNoted c.args.oracle.now c.note_if_shown.new.oracle c.args.axioms.now c.args.query.now) c.if-noted.false
    c.in_ok-noted.ensures.noted in
    subst (λ (l : OracleLists). OnErr c.search.result (c.search.new.oracle.log ≡ l.log)) same c.search.ensures.unchanged

pub returns-clause-kept : goal.returns-clause-kept
returns-clause-kept c =
    let same : c.note_if_shown.new.oracle ≡ c.args.oracle.now =
    subst (IsNoted c.args.oracle.now c.note_if_shown.new.oracle c.args.axioms.now c.args.query.now) c.if-noted.false
    c.in_ok-noted.ensures.noted in
    subst (λ (l : OracleLists). IfSome c.search.new.kept (IsAbout l.ontology c.args.axioms.now c.args.query.now.sub))
    same c.search.ensures.kept
