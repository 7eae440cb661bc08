use Rattle.std.proofs.Common.{◌≡◌, ◌∙◌, ◌-◌, List, length, take, drop, ap, sym, subst}
use Rattle.std.specs.List.{All}
use Rattle.std.proofs.lemmas.Result.{IfOk-weaker}
use Rattle.shq_oracle.specs.Entry.{Entry}
use Rattle.query_asker.specs.AskerLists.{AskerLists}
use Rattle.query_asker.specs.Memory.{yes_sets, no_sets, Recalls}
use Rattle.query_asker.specs.Asking.{IsRecalled, lists_of}
use Rattle.query_asker.proofs.Remembered.{rest_is}
use Rattle.query_asker.proofs.Answering.{yes_limits, no_limits, recalled}
use Rattle.query_asker.proofs.asker.Asker.recall.Goals as goal

pub recall-requires-clause-yes_limits : goal.recall-requires-clause-yes_limits
recall-requires-clause-yes_limits c =
    let i = c.self.inside in
    let es = c.entries.result.now in
    let n = c.args.part.now.limit in
    let limit : n ≡ length i.oracle.ontology.axioms =
    c.requires ∙ ap (λ (a : AskerLists). length a.ontology.axioms) (sym c.self.view_is) in
    let shown : take (length es - i.first) (drop i.first es) ≡ drop i.first i.oracle.log =
    rest_is es i.first ∙ ap (λ (log : List Entry). drop i.first log) (c.entries.ensures ∙ c.log.ensures) in
    subst (λ (log : List Entry). All (λ s. s.limit ≡ n) (yes_sets log)) (sym shown)
    (yes_limits i.oracle.ontology (drop i.first i.oracle.log) n limit c.self.invariant.is_log.honest)

pub recall-requires-clause-no_limits : goal.recall-requires-clause-no_limits
recall-requires-clause-no_limits c =
    let i = c.self.inside in
    let es = c.entries.result.now in
    let n = c.args.part.now.limit in
    let limit : n ≡ length i.oracle.ontology.axioms =
    c.requires ∙ ap (λ (a : AskerLists). length a.ontology.axioms) (sym c.self.view_is) in
    let shown : take (length es - i.first) (drop i.first es) ≡ drop i.first i.oracle.log =
    rest_is es i.first ∙ ap (λ (log : List Entry). drop i.first log) (c.entries.ensures ∙ c.log.ensures) in
    subst (λ (log : List Entry). All (λ s. s.limit ≡ n) (no_sets log)) (sym shown)
    (no_limits i.oracle.ontology (drop i.first i.oracle.log) n limit c.self.invariant.is_log.honest)

pub returns-clause-recalled : goal.returns-clause-recalled
returns-clause-recalled c =
    let i = c.self.inside in
    let es = c.entries.result.now in
    let s = c.args.part.now in
    let limit : s.limit ≡ length i.oracle.ontology.axioms =
    c.requires ∙ ap (λ (a : AskerLists). length a.ontology.axioms) (sym c.self.view_is) in
    let shown : take (length es - i.first) (drop i.first es) ≡ drop i.first i.oracle.log =
    rest_is es i.first ∙ ap (λ (log : List Entry). drop i.first log) (c.entries.ensures ∙ c.log.ensures) in
    let a = lists_of i.oracle i.query.now i.among i.first i.asks in
    IfOk-weaker c.recall.result (Recalls (take (length es - i.first) (drop i.first es)) s)
    (IsRecalled c.args.self.now s)
    (λ answer h. subst (λ (b : AskerLists). IsRecalled b s answer) c.self.view_is
    (recalled a c.self.invariant.is_log s limit answer (subst (λ (log : List Entry). Recalls log s answer) shown h)))
    c.recall.ensures.recalled
