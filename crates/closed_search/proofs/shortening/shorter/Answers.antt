use Rattle.std.proofs.Common.{◌≡◌, List, map, subst}
use Rattle.search_trace.specs.Line.{Line as Kept}
use Rattle.search_trace.specs.RuleLine.{line_of}
use Rattle.closed_search.specs.Shorter.{HasSomeOf, staying}
use Rattle.closed_search.proofs.Among.{has_some, passed_on}
use Rattle.closed_search.proofs.shortening.shorter.Goals as goal

pub returns-clause-lines : goal.returns-clause-lines
returns-clause-lines c =
    let table = c.args.concepts.now in
    let lines = map line_of c.args.lines.items in
    let keep = c.deref-2.result.now in
    let kept = map line_of c.in_ok-kept.kept.items in
    let r = c.in_ok-found.found in
    let stay : kept ≡ staying keep lines =
    subst (λ (ls : List Kept). kept ≡ staying keep (map line_of ls)) c.deref.ensures.value c.in_ok-kept.ensures.stay in
    passed_on (HasSomeOf table lines) r (has_some table keep lines kept r stay c.in_ok-found.ensures.numbered)
    c.if_valid.result c.if_valid.ensures.same
