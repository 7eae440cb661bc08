-- One declaration more of a list of names.
use Rattle.std.proofs.Common.{◌≡◌, ℕ, suc, ◌+◌, List, ◌∷◌, ◌++◌, drop, Some, sym, ◌∙◌, ap, add-one, append_assoc}
use Rattle.std.proofs.Common.{append-nil, drop-cons, [], codes}
use Rattle.std.specs.Prelude.{slice_get}
use Rattle.std.proofs.lemmas.Option.{slice_get_within, get_or_from_slice_get}
use Rattle.ofn_writer.specs.Canonical.{group_text, line, declaration_text, declaration_lines}

drop_at : (names : List (List ℕ)) (k : ℕ) (name : List ℕ) → Some name ≡ slice_get names k
    → drop k names ≡ name ∷ drop (suc k) names
drop_at names k name at =
    drop-cons names k name (slice_get_within names k name (sym at))
    ∙ ap (λ n. n ∷ drop (suc k) names) (get_or_from_slice_get names k name name (sym at))

joined : (new old here rest all begin : List ℕ) → new ≡ old ++ here → old ++ (here ++ rest) ≡ begin ++ all
    → new ++ rest ≡ begin ++ all
joined new old here rest all begin is whole = rw is (append_assoc old here rest ∙ whole)

pub declaration_lines_more : (kind : List ℕ) (names : List (List ℕ)) (k : ℕ) (name new old begin all : List ℕ)
    → Some name ≡ slice_get names k → new ≡ old ++ line (declaration_text kind name)
    → old ++ declaration_lines kind (drop k names) ≡ begin ++ all
    → new ++ declaration_lines kind (drop (k + 1) names) ≡ begin ++ all
declaration_lines_more kind names k name new old begin all at is whole =
    let opened = rw (drop_at names k name at) at whole in
    rw (add-one k)
    (joined new old (line (declaration_text kind name)) (declaration_lines kind (drop (suc k) names)) all begin is
    opened)

pub declared : (group old first second third : List ℕ) → first ≡ old ++ codes "Declaration(" → second ≡ first ++ group
    → third ≡ second ++ (41 ∷ 10 ∷ []) → third ≡ old ++ line (group_text (codes "Declaration") (group ∷ []))
declared group old first second third begins goes ends = rw (ends, goes, begins) (simp (append_assoc, append-nil))
