use Rattle.std.proofs.Common.{◌≡◌, sym, subst, reverse}
use Rattle.search_state.specs.Progress.{ProgressLists, IsStanding, IsLastNew}
use Rattle.search_state.proofs.NewFacts.{new_looked}
use Rattle.search_state.proofs.progress.Progress.look_at_new_nodes.Goals as goal

pub returns-clause-found : goal.returns-clause-found
returns-clause-found g c =
    let w = g.R.Rules.context c.args.rules.now in
    let s = c.self.inside in
    let old : ProgressLists = record {
      query = s.query.now;
      at = s.at;
      sub = s.sub;
      not_sup = s.not_sup;
      first = s.tree.first;
      entries = s.tree.entries;
      found_blocks = s.found_blocks;
      trace = s.trace;
      marks = reverse s.marks.items;
      clash = s.clash;
      steps = s.steps;
      behind = s.behind;
    } in
    let is : old ≡ c.args.self.now = c.self.view_is in
    new_looked w old (subst (λ (q : ProgressLists). IsStanding w q) (sym is) c.requires.standing) c.args.new.now
    c.args.first
    (subst (λ (q : ProgressLists). IsLastNew w q.entries c.args.new.now c.args.first) (sym is) c.requires.last)
    c.find_clash_by_new-clash.result c.find_clash_by_new-clash.ensures
