-- Lines that were taken, and those behind them.
use Rattle.std.proofs.Common.{◌≡◌, ℕ, ◌+◌, ◌-◌, List, take, drop, length, ap, sym, ◌∙◌, arith}
use Rattle.std.proofs.lemmas.List.{take-map, drop-map, take_all, length-drop}
use Rattle.certificate_lines.specs.Lines.{bytes_of}
use Rattle.audit_file.specs.AuditText.{Ahead, block_len, block, behind_block}
use denote.Ref.{Bor}

module _ (number len : ℕ) (rest : List (Bor (List ℕ))) (at : Ahead)
    (is : record { number = number; lines = bytes_of rest } ≡ at) (all : len ≡ block_len (bytes_of rest)) where
  lines_are : bytes_of rest ≡ at.lines
  lines_are = ap (λ (a : Ahead). a.lines) is

  pub block_is : bytes_of (take len rest) ≡ block at.lines
  block_is =
      sym (take-map (λ (l : Bor (List ℕ)). l.now) len rest) ∙ ap (λ n. take n (bytes_of rest)) all ∙ ap block lines_are

  pub behind_is : record { number = number + len; lines = bytes_of (take (length rest - len) (drop len rest)) }
      ≡ behind_block at
  behind_is =
      let whole : take (length rest - len) (drop len rest) ≡ drop len rest =
      take_all (length rest - len) (drop len rest) (omega (arith, length-drop len rest)) in
      (λ i. record { number = number + len; lines = bytes_of (whole i) })
      ∙ (λ i. record { number = number + len; lines = sym (drop-map (λ (l : Bor (List ℕ)). l.now) len rest) i })
      ∙ ap (λ n. record { number = number + n; lines = drop n (bytes_of rest) }) all
      ∙ ap behind_block is
