use Rattle.std.proofs.Common.{◌≡◌, length, ap, sym, ◌∙◌, arith}
use Rattle.std.proofs.lemmas.List.{length-map}
use Rattle.certificate_lines.specs.Lines.{lines}
use Rattle.decision_jobs.proofs.Blanks.{few_lines}
use Rattle.decision_jobs.proofs.certificate.read_certificate.Goals as goal

pub read_verdict-requires : goal.read_verdict-requires
read_verdict-requires c =
    let all = c.in_ok-lines.lines.items in
    let counted : length all ≡ length (lines c.args.text.now) =
    sym (length-map all (λ l. l.now)) ∙ ap length c.in_ok-lines.ensures in
    omega (
      arith,
      few_lines c.args.text.now,
      c.requires,
      counted,
      ap length c.deref.ensures.value,
      c.split_at.ensures.back_len,
    )
