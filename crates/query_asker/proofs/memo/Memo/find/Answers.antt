use Rattle.std.proofs.Common.{◌≡◌, ◌∙◌, ◌<◌, List, length, get_or, sym, ap, subst}
use Rattle.std.specs.List.{All, Contains}
use Rattle.std.proofs.lemmas.Bool.{true≢false}
use Rattle.std.proofs.lemmas.List.{get_or_default}
use Rattle.std.proofs.lemmas.List.Elements.{Contains-get_or}
use Rattle.lane_sieve.specs.Sets.{IsPart}
use Rattle.axiom_sets.specs.Sets.{Limited}
use Rattle.set_questions.specs.Kept.{kept_sets}
use Rattle.set_questions.specs.declared.antichain.Kind.TheVariants.{Minimal, Maximal}
use Rattle.query_asker.specs.Memory.{yes_of, no_of, yes_sets, no_sets, IsInSome}
use Rattle.query_asker.proofs.Remembered.{if_none, kept_whole, kept_limits, no_part, in_some, not_in_some}
use Rattle.query_asker.proofs.memo.Memo.find.Goals as goal

pub place_of_part-requires : goal.place_of_part-requires
place_of_part-requires c =
    let memo = c.args.self.now in
    let are =
    kept_whole yes_of Minimal c.args.log.now memo.seen (kept_sets memo.yes) c.requires.all c.requires.memo.yes_kept in
    subst (λ (xs : List Limited). All (λ s. s.limit ≡ c.args.set.now.limit) xs) (sym c.sets.ensures)
    (kept_limits c.args.set.now.limit Minimal (yes_sets c.args.log.now) (kept_sets memo.yes) c.requires.yes_limits are)

pub returns-in-Some : goal.returns-in-Some
returns-in-Some c =
    let memo = c.args.self.now in
    let s = c.args.set.now in
    let kept = kept_sets memo.yes in
    let are = kept_whole yes_of Minimal c.args.log.now memo.seen kept c.requires.all c.requires.memo.yes_kept in
    let place = c.in-Some.place in
    let read = c.index-sets-place.result in
    let copy = c.in_ok-try_clone.field-0 in
    let lt : place < length kept =
    subst (λ (xs : List Limited). place < length xs) c.sets.ensures c.in-Some.ensures.some in
    let part : IsPart (get_or kept place s).members s.members =
    subst (λ (xs : List Limited). IsPart (get_or xs place s).members s.members) c.sets.ensures c.in-Some.ensures.part in
    let at : copy ≡ get_or kept place s =
    c.in_ok-try_clone.ensures ∙ c.index-sets-place.is
    ∙ ap (λ (xs : List Limited). get_or xs place read) c.sets-in-Some.ensures ∙ get_or_default kept place read s lt in
    subst (λ (u : Limited). Contains (yes_sets c.args.log.now) u × IsPart u.members s.members) (sym at)
    (are.from (get_or kept place s) (Contains-get_or kept place s lt), part)

pub is_part_of_some-requires : goal.is_part_of_some-requires
is_part_of_some-requires c =
    let memo = c.args.self.now in
    let are =
    kept_whole no_of Maximal c.args.log.now memo.seen (kept_sets memo.no) c.requires.all c.requires.memo.no_kept in
    subst (λ (xs : List Limited). All (λ s. s.limit ≡ c.args.set.now.limit) xs) (sym c.sets-2.ensures)
    (kept_limits c.args.set.now.limit Maximal (no_sets c.args.log.now) (kept_sets memo.no) c.requires.no_limits are)

pub returns-then-is_part_of_some : goal.returns-then-is_part_of_some
returns-then-is_part_of_some c =
    let memo = c.args.self.now in
    let s = c.args.set.now in
    let are =
    kept_whole no_of Maximal c.args.log.now memo.seen (kept_sets memo.no) c.requires.all c.requires.memo.no_kept in
    let some : IsInSome s (kept_sets memo.no) =
    subst (λ (xs : List Limited). IsInSome s xs) c.sets-2.ensures
    (c.is_part_of_some.ensures.0 c.if-is_part_of_some.true) in
    in_some (no_sets c.args.log.now) (kept_sets memo.no) s are some

pub returns : goal.returns
returns c =
    let memo = c.args.self.now in
    let s = c.args.set.now in
    let yes' =
    kept_whole yes_of Minimal c.args.log.now memo.seen (kept_sets memo.yes) c.requires.all c.requires.memo.yes_kept in
    let no' =
    kept_whole no_of Maximal c.args.log.now memo.seen (kept_sets memo.no) c.requires.all c.requires.memo.no_kept in
    let none : All (λ t. ¬ IsPart t.members s.members) (kept_sets memo.yes) =
    subst (λ (xs : List Limited). All (λ t. ¬ IsPart t.members s.members) xs) c.sets.ensures
    (if_none c.place_of_part.result _ c.in_default.not-Some c.place_of_part.ensures.none) in (
      no_part (yes_sets c.args.log.now) (kept_sets memo.yes) s yes' none,
      not_in_some (no_sets c.args.log.now) (kept_sets memo.no) s no'
          (λ some. true≢false
          (sym (c.is_part_of_some.ensures.1 (subst (λ (xs : List Limited). IsInSome s xs) (sym c.sets-2.ensures) some))
          ∙ c.if-is_part_of_some.false)),
    )
