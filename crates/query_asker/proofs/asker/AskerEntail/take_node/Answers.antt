use Rattle.std.proofs.Common.{◌≡◌, ◌∙◌, length, ap, sym, subst}
use Rattle.std.specs.Prelude.{IfOk, OnErr}
use Rattle.set_questions.specs.Asked.{Takes}
use Rattle.shq_oracle.specs.HonestLog.{IsAxiomSet}
use Rattle.query_asker.specs.AskerLists.{AskerLists}
use Rattle.query_asker.specs.Told.{asker_meaning, LogsNode}
use Rattle.query_asker.specs.Asking.{lists_of}
use Rattle.query_asker.proofs.Answering.{keeps_later}
use Rattle.query_asker.proofs.Tested.{after_take, logs_node, logs_nothing, takes_by, later_by, shows_by, origin_by}
use Rattle.query_asker.proofs.Tested.{refused_by, ran_out_by}
use Rattle.query_asker.proofs.asker.AskerEntail.take_node.Goals as goal

pub invariant_of-self : goal.invariant_of-self
invariant_of-self c =
    let i = c.self.inside in
    let o = i.oracle in
    let s = c.args.hit.now in
    let limit : s.limit ≡ length o.ontology.axioms =
    c.requires.limit ∙ ap (λ (a : AskerLists). length a.ontology.axioms) (sym c.self.view_is) in
    let is_set : IsAxiomSet o.ontology s = record { limit_is = limit; within = c.limit-limit.ensures.within } in
    let t = c.take_node.ensures in
    let r = c.take_node.result in
    after_take o i.query.now i.among i.first i.asks c.take_node.new.self s i.memo c.self.invariant t.same_ontology
    t.same_budget is_set r t.taken t.unchanged

pub returns-clause-logged : goal.returns-clause-logged
returns-clause-logged c =
    let i = c.self.inside in
    let o = i.oracle in
    let s = c.args.hit.now in
    let limit : s.limit ≡ length o.ontology.axioms =
    c.requires.limit ∙ ap (λ (a : AskerLists). length a.ontology.axioms) (sym c.self.view_is) in
    let is_set : IsAxiomSet o.ontology s = record { limit_is = limit; within = c.limit-limit.ensures.within } in
    let t = c.take_node.ensures in
    let r = c.take_node.result in
    let a = c.args.self.now in
    let b = lists_of c.take_node.new.self i.query.now i.among i.first i.asks in
    let logs : IfOk r (LogsNode a b s) =
    subst (λ (x : AskerLists). IfOk r (LogsNode x b s)) c.self.view_is
    (logs_node o i.query.now i.among i.first i.asks c.take_node.new.self s i.memo c.self.invariant t.same_ontology
    t.same_budget is_set r t.taken) in
    let nothing : OnErr r (b ≡ a) =
    subst (λ (x : AskerLists). OnErr r (b ≡ x)) c.self.view_is
    (logs_nothing o i.query.now i.among i.first i.asks c.take_node.new.self s i.memo c.self.invariant t.same_ontology
    t.same_budget is_set r t.unchanged) in
    logs

pub returns-clause-unlogged : goal.returns-clause-unlogged
returns-clause-unlogged c =
    let i = c.self.inside in
    let o = i.oracle in
    let s = c.args.hit.now in
    let limit : s.limit ≡ length o.ontology.axioms =
    c.requires.limit ∙ ap (λ (a : AskerLists). length a.ontology.axioms) (sym c.self.view_is) in
    let is_set : IsAxiomSet o.ontology s = record { limit_is = limit; within = c.limit-limit.ensures.within } in
    let t = c.take_node.ensures in
    let r = c.take_node.result in
    let a = c.args.self.now in
    let b = lists_of c.take_node.new.self i.query.now i.among i.first i.asks in
    let logs : IfOk r (LogsNode a b s) =
    subst (λ (x : AskerLists). IfOk r (LogsNode x b s)) c.self.view_is
    (logs_node o i.query.now i.among i.first i.asks c.take_node.new.self s i.memo c.self.invariant t.same_ontology
    t.same_budget is_set r t.taken) in
    let nothing : OnErr r (b ≡ a) =
    subst (λ (x : AskerLists). OnErr r (b ≡ x)) c.self.view_is
    (logs_nothing o i.query.now i.among i.first i.asks c.take_node.new.self s i.memo c.self.invariant t.same_ontology
    t.same_budget is_set r t.unchanged) in
    nothing

pub returns-clause-answer : goal.returns-clause-answer
returns-clause-answer c =
    let i = c.self.inside in
    let o = i.oracle in
    let s = c.args.hit.now in
    let limit : s.limit ≡ length o.ontology.axioms =
    c.requires.limit ∙ ap (λ (a : AskerLists). length a.ontology.axioms) (sym c.self.view_is) in
    let is_set : IsAxiomSet o.ontology s = record { limit_is = limit; within = c.limit-limit.ensures.within } in
    let t = c.take_node.ensures in
    let r = c.take_node.result in
    let b = lists_of c.take_node.new.self i.query.now i.among i.first i.asks in
    subst (λ (x : AskerLists). IfOk r (Takes (asker_meaning x) (asker_meaning b) s)) c.self.view_is
    (takes_by o i.query.now i.among i.first i.asks c.take_node.new.self s i.memo c.self.invariant t.same_ontology
    t.same_budget is_set r t.taken)

pub returns-clause-refused : goal.returns-clause-refused
returns-clause-refused c =
    let i = c.self.inside in
    let o = i.oracle in
    let s = c.args.hit.now in
    let limit : s.limit ≡ length o.ontology.axioms =
    c.requires.limit ∙ ap (λ (a : AskerLists). length a.ontology.axioms) (sym c.self.view_is) in
    let is_set : IsAxiomSet o.ontology s = record { limit_is = limit; within = c.limit-limit.ensures.within } in
    let t = c.take_node.ensures in
    let r = c.take_node.result in
    let a = c.args.self.now in
    let b = lists_of c.take_node.new.self i.query.now i.among i.first i.asks in
    let logs : IfOk r (LogsNode a b s) =
    subst (λ (x : AskerLists). IfOk r (LogsNode x b s)) c.self.view_is
    (logs_node o i.query.now i.among i.first i.asks c.take_node.new.self s i.memo c.self.invariant t.same_ontology
    t.same_budget is_set r t.taken) in
    let nothing : OnErr r (b ≡ a) =
    subst (λ (x : AskerLists). OnErr r (b ≡ x)) c.self.view_is
    (logs_nothing o i.query.now i.among i.first i.asks c.take_node.new.self s i.memo c.self.invariant t.same_ontology
    t.same_budget is_set r t.unchanged) in
    refused_by a b s r nothing

pub returns-clause-keeps : goal.returns-clause-keeps
returns-clause-keeps c =
    let i = c.self.inside in
    let o = i.oracle in
    let s = c.args.hit.now in
    let limit : s.limit ≡ length o.ontology.axioms =
    c.requires.limit ∙ ap (λ (a : AskerLists). length a.ontology.axioms) (sym c.self.view_is) in
    let is_set : IsAxiomSet o.ontology s = record { limit_is = limit; within = c.limit-limit.ensures.within } in
    let t = c.take_node.ensures in
    let r = c.take_node.result in
    let a = c.args.self.now in
    let b = lists_of c.take_node.new.self i.query.now i.among i.first i.asks in
    let logs : IfOk r (LogsNode a b s) =
    subst (λ (x : AskerLists). IfOk r (LogsNode x b s)) c.self.view_is
    (logs_node o i.query.now i.among i.first i.asks c.take_node.new.self s i.memo c.self.invariant t.same_ontology
    t.same_budget is_set r t.taken) in
    let nothing : OnErr r (b ≡ a) =
    subst (λ (x : AskerLists). OnErr r (b ≡ x)) c.self.view_is
    (logs_nothing o i.query.now i.among i.first i.asks c.take_node.new.self s i.memo c.self.invariant t.same_ontology
    t.same_budget is_set r t.unchanged) in
    keeps_later a b (later_by a b s r logs nothing)

pub returns-clause-shown : goal.returns-clause-shown
returns-clause-shown c =
    let i = c.self.inside in
    let o = i.oracle in
    let s = c.args.hit.now in
    let limit : s.limit ≡ length o.ontology.axioms =
    c.requires.limit ∙ ap (λ (a : AskerLists). length a.ontology.axioms) (sym c.self.view_is) in
    let is_set : IsAxiomSet o.ontology s = record { limit_is = limit; within = c.limit-limit.ensures.within } in
    let t = c.take_node.ensures in
    let r = c.take_node.result in
    let a = c.args.self.now in
    let b = lists_of c.take_node.new.self i.query.now i.among i.first i.asks in
    let logs : IfOk r (LogsNode a b s) =
    subst (λ (x : AskerLists). IfOk r (LogsNode x b s)) c.self.view_is
    (logs_node o i.query.now i.among i.first i.asks c.take_node.new.self s i.memo c.self.invariant t.same_ontology
    t.same_budget is_set r t.taken) in
    let nothing : OnErr r (b ≡ a) =
    subst (λ (x : AskerLists). OnErr r (b ≡ x)) c.self.view_is
    (logs_nothing o i.query.now i.among i.first i.asks c.take_node.new.self s i.memo c.self.invariant t.same_ontology
    t.same_budget is_set r t.unchanged) in
    shows_by a b s r logs nothing

pub returns-clause-same : goal.returns-clause-same
returns-clause-same c =
    let i = c.self.inside in
    let o = i.oracle in
    let s = c.args.hit.now in
    let limit : s.limit ≡ length o.ontology.axioms =
    c.requires.limit ∙ ap (λ (a : AskerLists). length a.ontology.axioms) (sym c.self.view_is) in
    let is_set : IsAxiomSet o.ontology s = record { limit_is = limit; within = c.limit-limit.ensures.within } in
    let t = c.take_node.ensures in
    let r = c.take_node.result in
    let a = c.args.self.now in
    let b = lists_of c.take_node.new.self i.query.now i.among i.first i.asks in
    let logs : IfOk r (LogsNode a b s) =
    subst (λ (x : AskerLists). IfOk r (LogsNode x b s)) c.self.view_is
    (logs_node o i.query.now i.among i.first i.asks c.take_node.new.self s i.memo c.self.invariant t.same_ontology
    t.same_budget is_set r t.taken) in
    let nothing : OnErr r (b ≡ a) =
    subst (λ (x : AskerLists). OnErr r (b ≡ x)) c.self.view_is
    (logs_nothing o i.query.now i.among i.first i.asks c.take_node.new.self s i.memo c.self.invariant t.same_ontology
    t.same_budget is_set r t.unchanged) in
    origin_by a b s r logs nothing

pub returns-clause-ran_out : goal.returns-clause-ran_out
returns-clause-ran_out c =
    let i = c.self.inside in
    let o = i.oracle in
    let s = c.args.hit.now in
    let limit : s.limit ≡ length o.ontology.axioms =
    c.requires.limit ∙ ap (λ (a : AskerLists). length a.ontology.axioms) (sym c.self.view_is) in
    let is_set : IsAxiomSet o.ontology s = record { limit_is = limit; within = c.limit-limit.ensures.within } in
    let t = c.take_node.ensures in
    let r = c.take_node.result in
    let a = c.args.self.now in
    let b = lists_of c.take_node.new.self i.query.now i.among i.first i.asks in
    let logs : IfOk r (LogsNode a b s) =
    subst (λ (x : AskerLists). IfOk r (LogsNode x b s)) c.self.view_is
    (logs_node o i.query.now i.among i.first i.asks c.take_node.new.self s i.memo c.self.invariant t.same_ontology
    t.same_budget is_set r t.taken) in
    let nothing : OnErr r (b ≡ a) =
    subst (λ (x : AskerLists). OnErr r (b ≡ x)) c.self.view_is
    (logs_nothing o i.query.now i.among i.first i.asks c.take_node.new.self s i.memo c.self.invariant t.same_ontology
    t.same_budget is_set r t.unchanged) in
    ran_out_by a b s r logs nothing
