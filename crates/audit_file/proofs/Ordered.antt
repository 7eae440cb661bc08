-- Lists that stay in the order of sets.
use Rattle.std.proofs.Common.{◌≡◌, ℕ, ◌+◌, ◌-◌, ◌<◌, true, false, List, [], ◌∷◌, ◌++◌, length, map, get_or, refl, ap}
use Rattle.std.proofs.Common.{sym, ◌∙◌, subst, arith, inl, inr, Option}
use Rattle.std.specs.Prelude.{slice_get, option_map}
use Rattle.std.specs.Ordering.{is_lt}
use Rattle.std.specs.declared.cmp.Ordering.{Ordering}
use Rattle.std.specs.declared.cmp.Ordering.TheVariants.{Less, Equal, Greater}
use Rattle.std.proofs.lemmas.Bool.{cases_lt, cases_eq}
use Rattle.std.proofs.lemmas.List.{get_or_append_left, get_or_push, map-append, length-append, length-map}
use Rattle.std.proofs.lemmas.Option.{slice_get-map, slice_get-get_or}
use Rattle.axiom_sets.specs.Sets.{Limited, list_cmp}
use Rattle.pinpointing_specs.specs.Order.{IsAscending}
use Rattle.set_questions.proofs.Ordered.{less_less}
use Rattle.audit_file.specs.AuditLists.{follows}

is_less : (o : Ordering) → is_lt o ≡ true → o ≡ Less
is_less Less h = refl
is_less Equal h = let clash : false ≡ true = h in absurd (cc clash)
is_less Greater h = let clash : false ≡ true = h in absurd (cc clash)

module _ (xs : List Limited) (s : Limited) (up : IsAscending xs)
    (after : follows (slice_get xs (length xs - 1)) s ≡ true) where
  last_less : (d : Limited) → 0 < length xs → list_cmp (get_or xs (length xs - 1) d) s ≡ Less
  last_less d some =
      is_less (list_cmp (get_or xs (length xs - 1) d) s)
      (ap (λ (b : Option Limited). follows b s) (sym (slice_get-get_or xs (length xs - 1) d (omega (arith, some))))
      ∙ after)

  each_less : (i : ℕ) (d : Limited) → i < length xs → list_cmp (get_or xs i d) s ≡ Less
  each_less i d lt = elim (cases_eq i (length xs - 1)) [
    | inl e ↦ ap (λ (n : ℕ). list_cmp (get_or xs n d) s) e ∙ last_less d (omega (arith, lt))
    | inr ne ↦
        less_less (get_or xs i d) (get_or xs (length xs - 1) d) s
        (up i (length xs - 1) d (omega (arith, lt, ne)) (omega (arith, lt))) (last_less d (omega (arith, lt)))
  ]

  pub more_ascends : IsAscending (xs ++ s ∷ [])
  more_ascends i j d less lt = elim (cases_lt j (length xs)) [
    | inl inside ↦
        (λ k. list_cmp (get_or_append_left xs (s ∷ []) d i (omega (arith, less, inside)) k)
        (get_or_append_left xs (s ∷ []) d j inside k))
        ∙ up i j d less inside
    | inr out ↦
        let long : length (xs ++ s ∷ []) ≡ length xs + 1 = length-append xs (s ∷ []) in
        let place : length xs ≡ j = omega (arith, out, lt, long) in
        (λ k. list_cmp (get_or_append_left xs (s ∷ []) d i (omega (arith, less, place)) k)
        (get_or_push xs s d j place k))
        ∙ each_less i d (omega (arith, less, place))
  ]

module _ {A : Type 0} (set_of : A → Limited) (xs : List A) (x : A) (up : IsAscending (map set_of xs))
    (after : follows (option_map set_of (slice_get xs (length xs - 1))) (set_of x) ≡ true) where
  after_sets : follows (slice_get (map set_of xs) (length (map set_of xs) - 1)) (set_of x) ≡ true
  after_sets =
      ap (λ (n : ℕ). follows (slice_get (map set_of xs) (n - 1)) (set_of x)) (length-map xs set_of)
      ∙ ap (λ (b : Option Limited). follows b (set_of x)) (slice_get-map set_of xs (length xs - 1)) ∙ after

  pub put_ascends : IsAscending (map set_of (xs ++ x ∷ []))
  put_ascends =
      subst IsAscending (sym (map-append set_of xs (x ∷ []))) (more_ascends (map set_of xs) (set_of x) up after_sets)
