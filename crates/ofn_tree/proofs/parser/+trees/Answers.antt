use Rattle.std.proofs.Common.{◌≡◌, true, false, length, ◌+◌, ◌<◌, sym, ◌∙◌, arith}
use Rattle.std.proofs.lemmas.Result.{IfOk-weaker, IfErr-weaker, err_from_is_err_and}
use Rattle.ofn_tree.specs.Parsed.{begins_with_head}
use Rattle.ofn_tree.specs.Items.{begins_with_open}
use Rattle.ofn_tree.specs.Form.{head_text}
use Rattle.ofn_tree.specs.Faults.{bracket_fault}
use Rattle.ofn_tree.specs.Token.{tokens_from}
use Rattle.ofn_tree.proofs.Trees.{no_token, tokens-past, too_deep, enter-at, unclosed, group-at, IsItems-append}
use Rattle.ofn_tree.proofs.Trees.{unnamed-at, named-at, single-at, head-fault, head-opens, opens-inside, opens-at}
use Rattle.ofn_tree.proofs.Trees.{closes-at, TellsFault-before}
use Rattle.ofn_tree.proofs.parser.+trees.Goals as goal

pub group-returns-then-depth-eq-MAX_OPEN-clause-fault : goal.group-returns-then-depth-eq-MAX_OPEN-clause-fault
group-returns-then-depth-eq-MAX_OPEN-clause-fault t c =
    too_deep c.args.end_line c.args.depth c.args.tokens.now c.args.place no_token c.requires.place c.requires.begins
    (omega arith)

pub group-returns-in_err-inner-clause-fault : goal.group-returns-in_err-inner-clause-fault
group-returns-in_err-inner-clause-fault t c =
    let room : c.args.depth < 64 = omega arith in
    let p = err_from_is_err_and c.from_residual.result c.from_residual.ensures.1 in
    rw (p.1, p.2)
    (TellsFault-before
    (bracket_fault c.args.end_line (c.args.depth + 1) (tokens_from c.args.tokens.now (c.args.place + 1)))
    (bracket_fault c.args.end_line c.args.depth (tokens_from c.args.tokens.now c.args.place)) c.in_err-inner.field-0.0
    (enter-at c.args.end_line c.args.depth c.args.tokens.now c.args.place c.requires.place c.requires.begins room)
    c.in_err-inner.ensures.fault)

pub group-returns-then-end-tokens-clause-fault : goal.group-returns-then-end-tokens-clause-fault
group-returns-then-end-tokens-clause-fault t c =
    let room : c.args.depth < 64 = omega arith in
    enter-at c.args.end_line c.args.depth c.args.tokens.now c.args.place c.requires.place c.requires.begins room
    ∙ c.in_ok-inner.ensures.read.same_fault
    ∙ unclosed c.args.end_line c.args.depth (tokens_from c.args.tokens.now c.in_ok-inner.end)
    (tokens-past c.args.tokens.now c.in_ok-inner.end (omega arith))

pub group-returns-clause-read : goal.group-returns-clause-read
group-returns-clause-read t c =
    let room : c.args.depth < 64 = omega arith in
    let within : c.in_ok-inner.end < length c.args.tokens.now = omega (arith, c.in_ok-inner.ensures.within) in
    group-at c.args.end_line c.args.depth (head_text c.args.head) c.args.line c.args.tokens.now c.args.place
    c.in_ok-inner.end c.in_ok-inner.inner.items c.requires.place within c.requires.begins room
    c.in_ok-inner.ensures.read (c.in_ok-inner.ensures.ended within)

pub items-loop-place-preserved : goal.items-loop-place-preserved
items-loop-place-preserved t c = record {
  behind = omega (arith, c.in_ok-tree.ensures.within);
  within = omega (arith, c.in_ok-tree.ensures.within);
  read =
      IsItems-append c.args.end_line c.args.depth (tokens_from c.args.tokens.now c.args.start)
      (tokens_from c.args.tokens.now c.loop-place.place) (tokens_from c.args.tokens.now c.in_ok-tree.behind)
      c.loop-place.trees.items c.push_tree.new.trees.items c.in_ok-tree.tree c.loop-place.invariant.read
      c.in_ok-tree.ensures.read c.in_ok-push_tree.ensures.pushed;
}

pub one-returns-then-opens_at-clause-read : goal.one-returns-then-opens_at-clause-read
one-returns-then-opens_at-clause-read t c =
    IfOk-weaker c.group.result _ _
    (λ r g. unnamed-at c.args.end_line c.args.depth c.args.tokens.now c.args.start no_token
    (tokens_from c.args.tokens.now r.1) r.0 c.requires.start (sym c.opens_at.ensures ∙ c.if-opens_at.true) g)
    c.group.ensures.read

pub one-group-requires-then-heads_group_at : goal.one-group-requires-then-heads_group_at
one-group-requires-then-heads_group_at t c =
    let heads : begins_with_head (tokens_from c.args.tokens.now c.args.start) ≡ true =
    sym c.heads_group_at.ensures ∙ c.if-heads_group_at.true in
    let opens : begins_with_open (tokens_from c.args.tokens.now (c.args.start + 1)) ≡ true =
    head-opens c.args.tokens.now c.args.start no_token c.requires.start heads in
    let inside : c.args.start + 1 < length c.args.tokens.now =
    opens-inside c.args.tokens.now (c.args.start + 1) opens in
    (omega arith, (inside, (c.requires.depth, opens)))

pub one-returns-then-heads_group_at-clause-read : goal.one-returns-then-heads_group_at-clause-read
one-returns-then-heads_group_at-clause-read t c =
    IfOk-weaker c.group-then-heads_group_at.result _ _
    (λ r g. named-at c.args.end_line c.args.depth c.args.tokens.now c.args.start no_token
    (tokens_from c.args.tokens.now r.1) r.0 c.requires.start (sym c.heads_group_at.ensures ∙ c.if-heads_group_at.true)
    g)
    c.group-then-heads_group_at.ensures.read

pub one-returns-then-heads_group_at-clause-fault : goal.one-returns-then-heads_group_at-clause-fault
one-returns-then-heads_group_at-clause-fault t c =
    IfErr-weaker c.group-then-heads_group_at.result _ _
    (λ e h. TellsFault-before
    (bracket_fault c.args.end_line c.args.depth (tokens_from c.args.tokens.now (c.args.start + 1)))
    (bracket_fault c.args.end_line c.args.depth (tokens_from c.args.tokens.now c.args.start)) e
    (head-fault c.args.end_line c.args.depth c.args.tokens.now c.args.start no_token c.requires.start
    (sym c.heads_group_at.ensures ∙ c.if-heads_group_at.true))
    h) c.group-then-heads_group_at.ensures.fault

pub one-single-requires-clause-open : goal.one-single-requires-clause-open
one-single-requires-clause-open t c =
    opens-at c.args.tokens.now c.args.start no_token false c.requires.start
    (sym c.opens_at.ensures ∙ c.if-opens_at.false)

pub one-single-requires-clause-close : goal.one-single-requires-clause-close
one-single-requires-clause-close t c =
    closes-at c.args.tokens.now c.args.start no_token false c.requires.start c.requires.begins

pub one-returns-clause-read : goal.one-returns-clause-read
one-returns-clause-read t c =
    single-at c.args.end_line c.args.depth c.args.tokens.now c.args.start c.rest_behind-rest.result no_token
    c.single.result c.requires.start c.rest_behind-rest.ensures.rest (sym c.opens_at.ensures ∙ c.if-opens_at.false)
    c.requires.begins (sym c.heads_group_at.ensures ∙ c.if-heads_group_at.false) c.single.ensures.made
    c.single.ensures.nested c.requires.depth
