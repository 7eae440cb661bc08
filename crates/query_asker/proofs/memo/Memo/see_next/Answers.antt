use Rattle.std.proofs.Common.{◌∙◌, sym, subst, arith}
use Rattle.set_questions.specs.Kept.{kept_sets}
use Rattle.set_questions.specs.declared.antichain.Kind.{Kind}
use Rattle.set_questions.specs.declared.antichain.Kind.TheVariants.{Minimal, Maximal}
use Rattle.query_asker.specs.Memory.{yes_of, no_of, KeepsWithAll}
use Rattle.query_asker.proofs.Remembered.{kept_more, limits_of}
use Rattle.query_asker.proofs.memo.Memo.see_next.Goals as goal

pub put_found-requires-clause-yes_limits : goal.put_found-requires-clause-yes_limits
put_found-requires-clause-yes_limits c =
    let memo = c.args.self.now in
    let e = c.index-log-self.result in
    limits_of yes_of Minimal c.args.log.now memo.seen e e (kept_sets memo.yes) c.requires.more (sym c.index-log-self.is)
    c.requires.yes_limits c.requires.memo.yes_kept

pub put_found-requires-clause-no_limits : goal.put_found-requires-clause-no_limits
put_found-requires-clause-no_limits c =
    let memo = c.args.self.now in
    let e = c.index-log-self.result in
    limits_of no_of Maximal c.args.log.now memo.seen e e (kept_sets memo.no) c.requires.more (sym c.index-log-self.is)
    c.requires.no_limits c.requires.memo.no_kept

pub returns-clause-memo : goal.returns-clause-memo
returns-clause-memo c =
    let memo = c.args.self.now in
    let old = c.requires.memo in
    let put = c.in_ok-put_found.ensures in
    let e = c.index-log-self.result in
    let yes' : KeepsWithAll Minimal (yes_of e) (kept_sets memo.yes) (kept_sets c.put_found.new.yes) =
    subst (λ (k : Kind). KeepsWithAll k (yes_of e) (kept_sets memo.yes) (kept_sets c.put_found.new.yes)) old.yes_kind
    put.yes in
    let no' : KeepsWithAll Maximal (no_of e) (kept_sets memo.no) (kept_sets c.put_found.new.no) =
    subst (λ (k : Kind). KeepsWithAll k (no_of e) (kept_sets memo.no) (kept_sets c.put_found.new.no)) old.no_kind
    put.no in
    record {
      within = omega (arith, c.requires.more);
      yes_kind = put.yes_kind ∙ old.yes_kind;
      no_kind = put.no_kind ∙ old.no_kind;
      yes_kept =
          kept_more yes_of Minimal c.args.log.now memo.seen e e (kept_sets memo.yes) (kept_sets c.put_found.new.yes)
          c.requires.more (sym c.index-log-self.is) old.yes_kept yes';
      no_kept =
          kept_more no_of Maximal c.args.log.now memo.seen e e (kept_sets memo.no) (kept_sets c.put_found.new.no)
          c.requires.more (sym c.index-log-self.is) old.no_kept no';
    }
