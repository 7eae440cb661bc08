use Rattle.std.proofs.Common.{◌≡◌, ◌∙◌, ℕ, true, sym, subst}
use Rattle.std.specs.Prelude.{IfSome}
use Rattle.std.proofs.lemmas.Result.{err_from_is_err_and}
use Rattle.shq_oracle.specs.ApartLists.{IsAbout}
use Rattle.subsumption.specs.Subsumption.{class_at, query_at}
use Rattle.subsumption.specs.Tests.{IsTested}
use Rattle.subsumption.specs.Progress.{Advances, is_settled}
use Rattle.subsumption.proofs.Advanced.{stopped_as_before, is_new, after_yes, after_no, after_spent, after_refused}
use Rattle.subsumption.proofs.Begun.{begins_at, begun_at}
use Rattle.subsumption.proofs.progress.Progress.ask.Goals as goal

pub test-requires-clause-is_new : goal.test-requires-clause-is_new
test-requires-clause-is_new c =
    is_new c.args.oracle.now c.args.self.now c.requires.going c.args.x c.args.y c.requires.first c.requires.second
    c.requires.open c.class_count.result c.class_count.ensures.count

pub returns-in_err-test-clause-err : goal.returns-in_err-test-clause-err
returns-in_err-test-clause-err c =
    let p = err_from_is_err_and c.from_residual.result c.from_residual.ensures.1 in
    rw (p.1, p.2)
    (stopped_as_before c.args.oracle.now c.test.new.oracle c.args.self.now c.requires.going c.in_err-test.ensures.alike
    c.in_err-test.ensures.unchanged)

pub returns-in_err-take_in-in-Yes-clause-err : goal.returns-in_err-take_in-in-Yes-clause-err
returns-in_err-take_in-in-Yes-clause-err c =
    let tested =
    subst (IsTested c.args.oracle.now c.test.new.oracle c.args.self.now.axioms
    (query_at c.class_count.result c.args.x c.args.y))
    c.in-Yes.is c.in_ok-test.ensures.tested in
    let p =
    err_from_is_err_and c.from_residual-in_err-take_in-in-Yes.result c.from_residual-in_err-take_in-in-Yes.ensures.1 in
    rw (p.1, p.2)
    (after_refused c.args.oracle.now c.args.self.now c.requires.going c.args.x c.args.y c.requires.first
    c.requires.second c.requires.open c.test.new.oracle c.in_ok-test.ensures.alike c.in_ok-test.ensures.within
    c.class_count.result c.class_count.ensures.count tested)

pub returns-in-Spent-clause-err : goal.returns-in-Spent-clause-err
returns-in-Spent-clause-err c =
    let tested =
    subst (IsTested c.args.oracle.now c.test.new.oracle c.args.self.now.axioms
    (query_at c.class_count.result c.args.x c.args.y))
    c.in-Spent.is c.in_ok-test.ensures.tested in
    after_spent c.args.oracle.now c.args.self.now c.requires.going c.args.x c.args.y c.requires.first c.requires.second
    c.requires.open c.test.new.oracle c.in_ok-test.ensures.alike c.in_ok-test.ensures.within
    c.class_count.result c.class_count.ensures.count tested

pub returns-in_ok-take_in-in-Yes-clause-ok : goal.returns-in_ok-take_in-in-Yes-clause-ok
returns-in_ok-take_in-in-Yes-clause-ok c =
    let tested =
    subst (IsTested c.args.oracle.now c.test.new.oracle c.args.self.now.axioms
    (query_at c.class_count.result c.args.x c.args.y))
    c.in-Yes.is c.in_ok-test.ensures.tested in
    let both : Advances c.test.new.oracle c.args.self.now c.take_in.new.self
    × (is_settled c.take_in.new.self c.args.x c.args.y ≡ true) =
    after_yes c.args.oracle.now c.args.self.now c.requires.going c.args.x c.args.y c.requires.first c.requires.second
    c.requires.open c.test.new.oracle c.in_ok-test.ensures.alike c.in_ok-test.ensures.within
    c.take_in.new.self c.in_ok-take_in-in-Yes.ensures.known c.in_ok-take_in-in-Yes.ensures.ruled_out
    c.in_ok-take_in-in-Yes.ensures.axioms c.in_ok-take_in-in-Yes.ensures.classes
    c.class_count.result c.class_count.ensures.count tested in
    both.0

pub returns-in_ok-take_in-in-Yes-clause-settled : goal.returns-in_ok-take_in-in-Yes-clause-settled
returns-in_ok-take_in-in-Yes-clause-settled c =
    let tested =
    subst (IsTested c.args.oracle.now c.test.new.oracle c.args.self.now.axioms
    (query_at c.class_count.result c.args.x c.args.y))
    c.in-Yes.is c.in_ok-test.ensures.tested in
    let both : Advances c.test.new.oracle c.args.self.now c.take_in.new.self
    × (is_settled c.take_in.new.self c.args.x c.args.y ≡ true) =
    after_yes c.args.oracle.now c.args.self.now c.requires.going c.args.x c.args.y c.requires.first c.requires.second
    c.requires.open c.test.new.oracle c.in_ok-test.ensures.alike c.in_ok-test.ensures.within
    c.take_in.new.self c.in_ok-take_in-in-Yes.ensures.known c.in_ok-take_in-in-Yes.ensures.ruled_out
    c.in_ok-take_in-in-Yes.ensures.axioms c.in_ok-take_in-in-Yes.ensures.classes
    c.class_count.result c.class_count.ensures.count tested in
    both.1

pub returns-in-No-clause-ok : goal.returns-in-No-clause-ok
returns-in-No-clause-ok c =
    let tested =
    subst (IsTested c.args.oracle.now c.test.new.oracle c.args.self.now.axioms
    (query_at c.class_count.result c.args.x c.args.y))
    c.in-No.is c.in_ok-test.ensures.tested in
    let both : Advances c.test.new.oracle c.args.self.now c.rule_out.new.self
    × (is_settled c.rule_out.new.self c.args.x c.args.y ≡ true) =
    after_no c.args.oracle.now c.args.self.now c.requires.going c.args.x c.args.y c.requires.first c.requires.second
    c.requires.open c.test.new.oracle c.in_ok-test.ensures.alike c.in_ok-test.ensures.within
    c.rule_out.new.self c.rule_out.ensures.known c.rule_out.ensures.ruled_out c.rule_out.ensures.axioms
    c.rule_out.ensures.classes
    c.class_count.result c.class_count.ensures.count tested in
    both.0

pub returns-in-No-clause-settled : goal.returns-in-No-clause-settled
returns-in-No-clause-settled c =
    let tested =
    subst (IsTested c.args.oracle.now c.test.new.oracle c.args.self.now.axioms
    (query_at c.class_count.result c.args.x c.args.y))
    c.in-No.is c.in_ok-test.ensures.tested in
    let both : Advances c.test.new.oracle c.args.self.now c.rule_out.new.self
    × (is_settled c.rule_out.new.self c.args.x c.args.y ≡ true) =
    after_no c.args.oracle.now c.args.self.now c.requires.going c.args.x c.args.y c.requires.first c.requires.second
    c.requires.open c.test.new.oracle c.in_ok-test.ensures.alike c.in_ok-test.ensures.within
    c.rule_out.new.self c.rule_out.ensures.known c.rule_out.ensures.ruled_out c.rule_out.ensures.axioms
    c.rule_out.ensures.classes
    c.class_count.result c.class_count.ensures.count tested in
    both.1

pub returns-in_err-test-clause-begins : goal.returns-in_err-test-clause-begins
returns-in_err-test-clause-begins c =
    begins_at c.class_count.result c.args.self.now.known.count c.args.x c.args.y c.args.oracle.now c.test.new.oracle
    c.class_count.ensures.count c.in_err-test.ensures.begins

pub returns-in_err-take_in-in-Yes-clause-begins : goal.returns-in_err-take_in-in-Yes-clause-begins
returns-in_err-take_in-in-Yes-clause-begins c =
    begins_at c.class_count.result c.args.self.now.known.count c.args.x c.args.y c.args.oracle.now c.test.new.oracle
    c.class_count.ensures.count c.in_ok-test.ensures.begins

pub returns-in-Spent-clause-begins : goal.returns-in-Spent-clause-begins
returns-in-Spent-clause-begins c =
    begins_at c.class_count.result c.args.self.now.known.count c.args.x c.args.y c.args.oracle.now c.test.new.oracle
    c.class_count.ensures.count c.in_ok-test.ensures.begins

pub returns-in_ok-take_in-in-Yes-clause-begins : goal.returns-in_ok-take_in-in-Yes-clause-begins
returns-in_ok-take_in-in-Yes-clause-begins c =
    begins_at c.class_count.result c.args.self.now.known.count c.args.x c.args.y c.args.oracle.now c.test.new.oracle
    c.class_count.ensures.count c.in_ok-test.ensures.begins

pub returns-in-No-clause-begins : goal.returns-in-No-clause-begins
returns-in-No-clause-begins c =
    begins_at c.class_count.result c.args.self.now.known.count c.args.x c.args.y c.args.oracle.now c.test.new.oracle
    c.class_count.ensures.count c.in_ok-test.ensures.begins

pub returns-in_ok-take_in-in-Yes-clause-begun : goal.returns-in_ok-take_in-in-Yes-clause-begun
returns-in_ok-take_in-in-Yes-clause-begun c =
    begun_at c.class_count.result c.args.self.now.known.count c.args.x c.args.y c.args.oracle.now c.test.new.oracle
    c.class_count.ensures.count c.in_ok-test.ensures.begun

pub returns-in-No-clause-begun : goal.returns-in-No-clause-begun
returns-in-No-clause-begun c =
    begun_at c.class_count.result c.args.self.now.known.count c.args.x c.args.y c.args.oracle.now c.test.new.oracle
    c.class_count.ensures.count c.in_ok-test.ensures.begun

pub test-requires-clause-listed : goal.test-requires-clause-listed
test-requires-clause-listed c = c.class_count.ensures.count ∙ c.requires.going.mirrors.count_is

pub test-requires-clause-kept : goal.test-requires-clause-kept
test-requires-clause-kept c =
    subst (λ (n : ℕ). IfSome c.args.kept.now
    (IsAbout c.args.oracle.now.ontology c.args.self.now.axioms (class_at n c.args.x)))
    (sym c.class_count.ensures.count) c.requires.kept

pub returns-in_err-test-clause-kept : goal.returns-in_err-test-clause-kept
returns-in_err-test-clause-kept c =
    subst (λ (n : ℕ). IfSome c.test.new.kept
    (IsAbout c.args.oracle.now.ontology c.args.self.now.axioms (class_at n c.args.x)))
    c.class_count.ensures.count c.in_err-test.ensures.kept

pub returns-in_err-take_in-in-Yes-clause-kept : goal.returns-in_err-take_in-in-Yes-clause-kept
returns-in_err-take_in-in-Yes-clause-kept c =
    subst (λ (n : ℕ). IfSome c.test.new.kept
    (IsAbout c.args.oracle.now.ontology c.args.self.now.axioms (class_at n c.args.x)))
    c.class_count.ensures.count c.in_ok-test.ensures.kept

pub returns-in-Spent-clause-kept : goal.returns-in-Spent-clause-kept
returns-in-Spent-clause-kept c =
    subst (λ (n : ℕ). IfSome c.test.new.kept
    (IsAbout c.args.oracle.now.ontology c.args.self.now.axioms (class_at n c.args.x)))
    c.class_count.ensures.count c.in_ok-test.ensures.kept

pub returns-in_ok-take_in-in-Yes-clause-kept : goal.returns-in_ok-take_in-in-Yes-clause-kept
returns-in_ok-take_in-in-Yes-clause-kept c =
    subst (λ (n : ℕ). IfSome c.test.new.kept
    (IsAbout c.args.oracle.now.ontology c.args.self.now.axioms (class_at n c.args.x)))
    c.class_count.ensures.count c.in_ok-test.ensures.kept

pub returns-in-No-clause-kept : goal.returns-in-No-clause-kept
returns-in-No-clause-kept c =
    subst (λ (n : ℕ). IfSome c.test.new.kept
    (IsAbout c.args.oracle.now.ontology c.args.self.now.axioms (class_at n c.args.x)))
    c.class_count.ensures.count c.in_ok-test.ensures.kept
