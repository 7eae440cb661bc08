-- Axioms one after another, and what each stands for.
use Rattle.std.proofs.Common.{◌≡◌, ℕ, ◌+◌, ◌<◌, List, ◌∷◌, ◌++◌, length, get_or, drop, drop-cons, Ok, refl, ap, sym}
use Rattle.std.proofs.Common.{◌∙◌, add-one, append_assoc}
use Rattle.shq_terms.specs.declared.axioms.Numbered.{Numbered}
use Rattle.ofn_tree.specs.Items.{Item, items_of}
use Rattle.ofn_expressions.specs.Counts.{Counts}
use Rattle.ofn_expressions.specs.Walk.{Test, walked}
use Rattle.ofn_expressions.specs.Names.{Prefix}
use Rattle.ofn_expressions.specs.Classes.{Keeps}
use Rattle.ofn_expressions.proofs.Kept.{keeps_keeps, walked_keeps}
use Rattle.ofn_reader.specs.Axioms.{axiom_tests, axioms_tests, axiom_in, axioms_in}

abbrev pub all_axioms_tests : List Prefix → List Item → List Test
all_axioms_tests ps is = axioms_tests ps (items_of is)

pub axioms_cons : (ps : List Prefix) (i : Item) (is : List Item)
    → all_axioms_tests ps (i ∷ is) ≡ axiom_tests ps i ++ all_axioms_tests ps is
axioms_cons ps i is = refl

pub axioms_value : (ps : List Prefix) (items : List Item) (k : ℕ) (i : Item) → i ≡ get_or items k i → k < length items
    → (s mid : Counts) (old new : List Numbered) (all : Counts → List Numbered) → walked s (axiom_tests ps i) ≡ Ok mid
    → ((later : Counts) → Keeps mid later → old ++ axiom_in ps later i ≡ new)
    → ((later : Counts) → Keeps s later → old ++ axioms_in ps later (items_of (drop k items)) ≡ all later)
    → (later : Counts) → Keeps mid later → new ++ axioms_in ps later (items_of (drop (k + 1) items)) ≡ all later
axioms_value ps items k i at inside s mid old new all first read told later keeps =
    let rest : List Numbered = axioms_in ps later (items_of (drop (k + 1) items)) in
    let cut : items_of (drop k items) ≡ items_of (i ∷ drop (k + 1) items) =
    ap items_of (rw add-one (drop-cons items k i inside) ∙ ap (λ j. j ∷ drop (k + 1) items) (sym at)) in
    ap (λ l. l ++ rest) (sym (read later keeps)) ∙ append_assoc old (axiom_in ps later i) rest
    ∙ ap (λ js. old ++ axioms_in ps later js) (sym cut)
    ∙ told later (keeps_keeps s mid later (walked_keeps s (axiom_tests ps i) mid first) keeps)
