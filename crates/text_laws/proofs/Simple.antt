-- The tests for simple roles look at no lines.
use Rattle.std.proofs.Common.{◌≡◌, ℕ, zero, suc, ◌-◌, true, List, [], ◌∷◌, ◌++◌, length, Ok, refl, ap, ◌∙◌}
use Rattle.std.specs.Prelude.{slice_get}
use Rattle.std.specs.List.{list_all, range_with_len}
use Rattle.std.proofs.lemmas.Bool.{and_parts, and_from}
use Rattle.shq_terms.specs.declared.axioms.Numbered.{Numbered}
use Rattle.ontology_limits.specs.RoleAxiom.{RoleAxiom}
use Rattle.ontology_limits.specs.RoleAxioms.{role_part, role_part_at, role_axioms}
use Rattle.ontology_limits.specs.Counted.{counted_by}
use Rattle.ontology_limits.specs.Simple.{are_simple, counts_simple, all_role_axioms}
use Rattle.ofn_expressions.specs.Counts.{Counts}
use Rattle.ofn_expressions.specs.Walk.{simple, walked}
use Rattle.ofn_reader.specs.Documents.{simple_tests, all_simple_tests}
use Rattle.text_laws.specs.WritingLaws.{axioms_of}
use Rattle.text_laws.proofs.Counting.{held, nothing_held}
use Rattle.text_laws.proofs.Walks.{step}

same_length : (xs ys : List Numbered) → axioms_of xs ≡ axioms_of ys → length xs ≡ length ys
same_length [] [] same = refl
same_length [] (y ∷ ys) same = cc
same_length (x ∷ xs) [] same = cc
same_length (x ∷ xs) (y ∷ ys) same = let rest : axioms_of xs ≡ axioms_of ys = cc in ap suc (same_length xs ys rest)

same_part : (xs ys : List Numbered) (k : ℕ) → axioms_of xs ≡ axioms_of ys
    → role_part_at (slice_get xs k) ≡ role_part_at (slice_get ys k)
same_part [] [] k same = refl
same_part [] (y ∷ ys) k same = cc
same_part (x ∷ xs) [] k same = cc
same_part (x ∷ xs) (y ∷ ys) zero same = let first : x.axiom ≡ y.axiom = cc in ap role_part first
same_part (x ∷ xs) (y ∷ ys) (suc k) same = let rest : axioms_of xs ≡ axioms_of ys = cc in same_part xs ys k rest

same_parts : (xs ys : List Numbered) (ks : List ℕ) → axioms_of xs ≡ axioms_of ys → role_axioms xs ks ≡ role_axioms ys ks
same_parts xs ys [] same = refl
same_parts xs ys (k ∷ ks) same =
    let first : role_part_at (slice_get xs (k - 1)) ≡ role_part_at (slice_get ys (k - 1)) =
    same_part xs ys (k - 1) same in
    let rest : role_axioms xs ks ≡ role_axioms ys ks = same_parts xs ys ks same in
    λ i. first i ++ rest i

-- the same axioms have the same role axioms
pub same_roles : (xs ys : List Numbered) → axioms_of xs ≡ axioms_of ys → all_role_axioms xs ≡ all_role_axioms ys
same_roles xs ys same =
    same_parts xs ys (range_with_len 1 (length xs)) same
    ∙ ap (λ n. role_axioms ys (range_with_len 1 n)) (same_length xs ys same)

all_simple : (roles : List RoleAxiom) (xs ys : List Numbered) → axioms_of xs ≡ axioms_of ys
    → list_all (counts_simple roles) ys ≡ true → list_all (counts_simple roles) xs ≡ true
all_simple roles [] [] same h = refl
all_simple roles [] (y ∷ ys) same h = cc
all_simple roles (x ∷ xs) [] same h = cc
all_simple roles (x ∷ xs) (y ∷ ys) same h =
    let first : x.axiom ≡ y.axiom = cc in
    let rest : axioms_of xs ≡ axioms_of ys = cc in
    and_from (counts_simple roles x) (list_all (counts_simple roles) xs)
    (ap (λ a. are_simple roles (counted_by a)) first
    ∙ (and_parts (counts_simple roles y) (list_all (counts_simple roles) ys) h).0)
    (all_simple roles xs ys rest (and_parts (counts_simple roles y) (list_all (counts_simple roles) ys) h).1)

simple_walk : (roles : List RoleAxiom) (xs : List Numbered) (s : Counts) → list_all (counts_simple roles) xs ≡ true
    → walked s (simple_tests roles xs) ≡ Ok s
simple_walk roles [] s h = refl
simple_walk roles (x ∷ xs) s h =
    step s (simple x.line (counts_simple roles x)) (simple_tests roles xs)
    (and_parts (counts_simple roles x) (list_all (counts_simple roles) xs) h).0
    ∙ simple_walk roles xs s (and_parts (counts_simple roles x) (list_all (counts_simple roles) xs) h).1

-- lines apart, the tests hold again
pub simple_again : (xs ys : List Numbered) (s : Counts) → axioms_of xs ≡ axioms_of ys
    → list_all (counts_simple (all_role_axioms ys)) ys ≡ true → walked s (all_simple_tests xs) ≡ Ok s
simple_again xs ys s same h =
    simple_walk (all_role_axioms xs) xs s
    (all_simple (all_role_axioms xs) xs ys same (ap (λ r. list_all (counts_simple r) ys) (same_roles xs ys same) ∙ h))

pub simple_held : (roles : List RoleAxiom) (xs : List Numbered) (s new : Counts)
    → walked s (simple_tests roles xs) ≡ Ok new → (s ≡ new) × (list_all (counts_simple roles) xs ≡ true)
simple_held roles [] s new h = (nothing_held s new h, refl)
simple_held roles (x ∷ xs) s new h =
    let first = held s (simple x.line (counts_simple roles x)) (simple_tests roles xs) new h in
    let rest = simple_held roles xs s new first.later in
    (rest.0, and_from (counts_simple roles x) (list_all (counts_simple roles) xs) first.now rest.1)
