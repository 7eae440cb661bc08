use Rattle.std.proofs.Common.{◌≡◌, ◌∷◌, ◌++◌, [], ap, sym, subst, ◌∙◌}
use Rattle.branch_facts.specs.Seen.{Index as PlainIndex, IsLink, AreLinks, copied, through}
use Rattle.branch_facts.proofs.Grown.{copied_begins, on_err}
use Rattle.branch_facts.proofs.Links.{adds_link, one_more_link}
use Rattle.branch_facts.proofs.index.Index.link.Goals as goal

pub returns-in_err-insert-clause-begins : goal.returns-in_err-insert-clause-begins
returns-in_err-insert-clause-begins c =
    let old : PlainIndex = c.args.self.now in
    let links = c.in_err-insert.ensures.err in
    let left : PlainIndex = record { seen = c.self.inside.seen.keys; links = c.insert.new.self.entries } in
    let unchanged : left ≡ record { seen = copied c.args.high c.args.low old.seen old.seen; links = old.links } =
    (λ k. record { seen = c.self.inside.seen.keys; links = links k }) ∙ c.self.view_is ∙ c.in_ok-copy.ensures.put in
    on_err c.from_residual-in_err-insert.result _ (copied_begins c.args.high c.args.low old left unchanged)

pub invariant_of-self-2 : goal.invariant_of-self-2
invariant_of-self-2 c =
    let high = c.args.high in
    let low = c.args.low in
    let links = c.self.inside.links in
    let kept : links.entries ≡ c.args.self.now.links =
    ap (λ (i : PlainIndex). i.links) (c.self.view_is ∙ c.in_ok-copy.ensures.put) in
    let is : IsLink links.entries (high, low) = record {
      falls = c.requires.falls;
      from_representative = ap (λ ls. through ls high) kept ∙ c.requires.from_representative;
      to_representative = ap (λ ls. through ls low) kept ∙ c.requires.to_representative;
    } in
    let added = c.in_ok-insert.ensures.entries ∙ adds_link links high low c.self.invariant is.from_representative in
    subst AreLinks (sym added) (one_more_link links.entries (high, low) c.self.invariant is)

pub returns-clause-put : goal.returns-clause-put
returns-clause-put c =
    let high = c.args.high in
    let low = c.args.low in
    let links = c.self.inside.links in
    let copy = c.self.view_is ∙ c.in_ok-copy.ensures.put in
    let stays = ap (λ (i : PlainIndex). through i.links high) copy ∙ c.requires.from_representative in
    let added : c.insert.new.self.entries ≡ links.entries ++ (high, low) ∷ [] =
    c.in_ok-insert.ensures.entries ∙ adds_link links high low c.self.invariant stays in
    (λ k. record { seen = c.self.inside.seen.keys; links = added k })
    ∙ ap (λ (i : PlainIndex). record { seen = i.seen; links = i.links ++ (high, low) ∷ [] }) copy
