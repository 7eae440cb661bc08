-- One line more of a text.
use Rattle.std.proofs.Common.{◌≡◌, ℕ, suc, ◌+◌, List, ◌∷◌, ◌++◌, drop, Some, sym, ◌∙◌, ap, add-one, append_assoc}
use Rattle.std.proofs.Common.{drop-cons}
use Rattle.std.specs.Prelude.{slice_get}
use Rattle.std.proofs.lemmas.Option.{slice_get_within, get_or_from_slice_get}
use Rattle.finite_model.specs.ModelLists.{element_at}
use Rattle.finite_model.specs.Written.{elements_of, pairs_of, class_line, role_line, individual_line, class_lines}
use Rattle.finite_model.specs.Written.{role_lines, individual_lines}

drop_at : (names : List (List ℕ)) (k : ℕ) (name : List ℕ) → Some name ≡ slice_get names k
    → drop k names ≡ name ∷ drop (suc k) names
drop_at names k name at =
    drop-cons names k name (slice_get_within names k name (sym at))
    ∙ ap (λ n. n ∷ drop (suc k) names) (get_or_from_slice_get names k name name (sym at))

joined : (new old line rest all begin : List ℕ) → new ≡ old ++ line → old ++ (line ++ rest) ≡ begin ++ all
    → new ++ rest ≡ begin ++ all
joined new old line rest all begin is whole = rw is (append_assoc old line rest ∙ whole)

pub class_lines_more : (names : List (List ℕ)) (a : ℕ) (name : List ℕ) (members : List (ℕ × ℕ))
    (new old begin all : List ℕ)
    → Some name ≡ slice_get names a → new ≡ old ++ class_line name (elements_of a members)
    → old ++ class_lines a (drop a names) members ≡ begin ++ all
    → new ++ class_lines (a + 1) (drop (a + 1) names) members ≡ begin ++ all
class_lines_more names a name members new old begin all at is whole =
    let here = rw (drop_at names a name at) at whole in
    rw (add-one a)
    (joined new old (class_line name (elements_of a members)) (class_lines (suc a) (drop (suc a) names) members) all
    begin is (rw (add-one a) at here))

pub role_lines_more : (names : List (List ℕ)) (r : ℕ) (name : List ℕ) (links : List (ℕ × ℕ × ℕ))
    (new old begin all : List ℕ)
    → Some name ≡ slice_get names r → new ≡ old ++ role_line name (pairs_of r links)
    → old ++ role_lines r (drop r names) links ≡ begin ++ all
    → new ++ role_lines (r + 1) (drop (r + 1) names) links ≡ begin ++ all
role_lines_more names r name links new old begin all at is whole =
    let here = rw (drop_at names r name at) at whole in
    rw (add-one r)
    (joined new old (role_line name (pairs_of r links)) (role_lines (suc r) (drop (suc r) names) links) all begin is
    (rw (add-one r) at here))

pub individual_lines_more : (names : List (List ℕ)) (a : ℕ) (name : List ℕ) (individuals : List (ℕ × ℕ))
    (new old begin all : List ℕ)
    → Some name ≡ slice_get names a → new ≡ old ++ individual_line name (element_at individuals a)
    → old ++ individual_lines a (drop a names) individuals ≡ begin ++ all
    → new ++ individual_lines (a + 1) (drop (a + 1) names) individuals ≡ begin ++ all
individual_lines_more names a name individuals new old begin all at is whole =
    let here = rw (drop_at names a name at) at whole in
    rw (add-one a)
    (joined new old (individual_line name (element_at individuals a))
    (individual_lines (suc a) (drop (suc a) names) individuals) all begin is (rw (add-one a) at here))
