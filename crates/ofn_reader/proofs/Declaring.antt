-- Declarations of prefixes one after another.
use Rattle.std.proofs.Common.{◌≡◌, ℕ, ◌+◌, ◌<◌, List, ◌∷◌, length, get_or, drop, drop-cons, Ok, Err, ap, sym, ◌∙◌}
use Rattle.std.proofs.Common.{add-one}
use Rattle.ofn_tree.specs.Items.{Item}
use Rattle.ofn_expressions.specs.Counts.{Counts}
use Rattle.ofn_expressions.specs.Walk.{Test, walked}
use Rattle.ofn_expressions.specs.Names.{Prefix}
use Rattle.ofn_expressions.specs.declared.refusal.Refusal.{Refusal}
use Rattle.ofn_expressions.proofs.Walks.{goes_on, stops}
use Rattle.ofn_reader.specs.Prefixes.{prefix_tests, with_prefix, prefixes_tests, prefixes_behind}

module _ (items : List Item) (k : ℕ) (i : Item) (at : i ≡ get_or items k i) (inside : k < length items) where
  opened : drop k items ≡ i ∷ drop (k + 1) items
  opened = rw add-one (drop-cons items k i inside) ∙ ap (λ j. j ∷ drop (k + 1) items) (sym at)

  pub prefixes_step : (all : List Test) (ps new : List Prefix) → ((s : Counts) → walked s (prefix_tests ps i) ≡ Ok s)
      → new ≡ with_prefix ps i
      → ((s : Counts) → walked s all ≡ walked s (prefixes_tests ps (drop k items))) → (s : Counts)
      → walked s all ≡ walked s (prefixes_tests new (drop (k + 1) items))
  prefixes_step all ps new one same told s =
      told s ∙ ap (λ l. walked s (prefixes_tests ps l)) opened
      ∙ goes_on s s (prefix_tests ps i) (prefixes_tests (with_prefix ps i) (drop (k + 1) items)) (one s)
      ∙ ap (λ q. walked s (prefixes_tests q (drop (k + 1) items))) (sym same)

  pub prefixes_stop : (all : List Test) (ps : List Prefix) (e : Refusal) (s : Counts)
      → walked s (prefix_tests ps i) ≡ Err e → walked s all ≡ walked s (prefixes_tests ps (drop k items))
      → walked s all ≡ Err e
  prefixes_stop all ps e s one told =
      told ∙ ap (λ l. walked s (prefixes_tests ps l)) opened
      ∙ stops s (prefix_tests ps i) (prefixes_tests (with_prefix ps i) (drop (k + 1) items)) e one

  pub declared_step : (all ps new : List Prefix) → new ≡ with_prefix ps i → prefixes_behind ps (drop k items) ≡ all
      → prefixes_behind new (drop (k + 1) items) ≡ all
  declared_step all ps new same told =
      ap (λ q. prefixes_behind q (drop (k + 1) items)) same ∙ sym (ap (prefixes_behind ps) opened) ∙ told
