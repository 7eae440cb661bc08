-- A text has at least as many lines as the refutation that it stands for has rule lines.
use Rattle.std.proofs.Common.{◌≡◌, ℕ, ◌+◌, ◌≤◌, Bool, true, false, List, [], ◌∷◌, ◌++◌, length, refl, ap, Option, Some}
use Rattle.std.proofs.Common.{None, arith, length-append}
use Rattle.std.specs.Prelude.{option_and_then, if◌then◌else◌}
use Rattle.std.specs.List.{list_all}
use Rattle.certificate_lines.specs.Lines.{words}
use Rattle.certificate_lines.proofs.Body.{body_keeps}
use Rattle.certificate_lines.specs.Listed.{Listed}
use Rattle.shq_nnf.specs.Shape.{Shape}
use Rattle.shq_nnf.specs.Line.{Line}
use Rattle.refutation_tree.specs.Shapes.{admits}
use Rattle.refutation_tree.specs.RuleLine.{names_concepts}
use Rattle.refutation_tree.specs.RefutationLists.{RefutationLists}
use Rattle.refutation_tree.specs.RefutationText.{concept_in, rule_line, with_shape, with_line, concept_read}
use Rattle.refutation_tree.specs.RefutationText.{is_concept_line, refutation_line_read, refutation_body}
use Rattle.refutation_tree.proofs.Writable.{and_then_some, when_some}

shape_adds : (k next : RefutationLists) (s : Shape) → with_shape k s ≡ Some next
    → length next.lines ≤ length k.lines + 1
shape_adds k next s h =
    let put = when_some (admits k.shapes s) (Some (record k { shapes = k.shapes ++ s ∷ [] })) next h in
    let same : record k { shapes = k.shapes ++ s ∷ [] } ≡ next = cc put.1 in
    let lines : length k.lines ≡ length next.lines = ap (λ (m : RefutationLists). length m.lines) same in
    omega (arith, lines)

line_adds : (k next : RefutationLists) (line : Line) → with_line k line ≡ Some next
    → length next.lines ≤ length k.lines + 1
line_adds k next line h =
    let put = when_some (names_concepts k.shapes line) (Some (record k { lines = k.lines ++ line ∷ [] })) next h in
    let same : record k { lines = k.lines ++ line ∷ [] } ≡ next = cc put.1 in
    let lines : length (k.lines ++ line ∷ []) ≡ length next.lines = ap (λ (m : RefutationLists). length m.lines) same in
    omega (arith, lines, length-append k.lines (line ∷ []))

module _ (o : Listed) where
  concept_adds : (k next : RefutationLists) (ls : List Line) (ws : List (List ℕ)) → concept_read o k ls ws ≡ Some next
      → length next.lines ≤ length k.lines + 1
  concept_adds k next [] ws h =
      let shape = and_then_some (with_shape k) (concept_in o (length k.shapes + 1) ws) next h in
      shape_adds k next shape.0 shape.2
  concept_adds k next (l ∷ ls) ws h = cc

  words_add : (k next : RefutationLists) (ws : List (List ℕ)) (b : Bool)
      → (if b then concept_read o k k.lines ws else option_and_then (with_line k) (rule_line o ws)) ≡ Some next
      → length next.lines ≤ length k.lines + 1
  words_add k next ws true h = concept_adds k next k.lines ws h
  words_add k next ws false h =
      let line = and_then_some (with_line k) (rule_line o ws) next h in line_adds k next line.0 line.2

  line_read_adds : (first : ℕ) (n : ℕ) (k next : RefutationLists) (l : List ℕ) → length k.lines ≤ first + n
      → refutation_line_read o k l ≡ Some next → length next.lines ≤ first + (n + 1)
  line_read_adds first n k next l few h = omega (arith, few, words_add k next (words l) (is_concept_line (words l)) h)

  pub body_adds : (k m : RefutationLists) (ls : List (List ℕ)) → refutation_body o k ls ≡ Some m
      → length m.lines ≤ length k.lines + length ls
  body_adds k m ls h =
      let ends =
      body_keeps (refutation_line_read o) (λ last. last) (λ n b. length b.lines ≤ length k.lines + n)
      (line_read_adds (length k.lines)) 0 k m ls (omega arith) h in
      let lines : length ends.last.lines ≡ length m.lines = ap (λ (n : RefutationLists). length n.lines) ends.becomes in
      omega (arith, ends.keeps, ends.within, lines)
