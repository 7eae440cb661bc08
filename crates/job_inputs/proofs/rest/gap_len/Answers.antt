use Rattle.std.proofs.Common.{refl, sym, ◌∙◌}
use Rattle.job_inputs.proofs.Skipping.{space_skips, comment_skips, stray_first}
use Rattle.job_inputs.proofs.rest.gap_len.Goals as goal

pub returns-then-is_whitespace-clause-some : goal.returns-then-is_whitespace-clause-some
returns-then-is_whitespace-clause-some c =
    λ more. space_skips c.args.text.now c.requires (sym c.is_whitespace.ensures ∙ c.if-is_whitespace.true)

pub returns-then-text-eq35-clause-some : goal.returns-then-text-eq35-clause-some
returns-then-text-eq35-clause-some c =
    λ more. comment_skips c.args.text.now _ c.comment_len.result c.requires c.if-text-eq35.true refl
    c.comment_len.ensures.value

pub returns-else-text-eq35-clause-none : goal.returns-else-text-eq35-clause-none
returns-else-text-eq35-clause-none c =
    λ none. stray_first c.args.text.now c.requires (sym c.is_whitespace.ensures ∙ c.if-is_whitespace.false)
    c.if-text-eq35.false
