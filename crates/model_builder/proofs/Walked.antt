-- A walk has seen exactly what chains lead to.
use Rattle.std.proofs.Common.{◌≡◌, ℕ, zero, suc, ◌-◌, ◌<◌, ◌&&◌, ◌||◌, not, eqb, Bool, true, false, List, [], ◌∷◌, ◌++◌}
use Rattle.std.proofs.Common.{length, get_or, take, refl, ap, ◌∙◌, sym, subst, arith, inl, inr, eq-eqb}
use Rattle.std.proofs.lemmas.Bool.{cases_Bool, cases_lt, cases_eq, or_cases, or_left, or_right, and_parts, and_from}
use Rattle.std.proofs.lemmas.Bool.{eqb-true, ne_eqb}
use Rattle.std.proofs.lemmas.List.{get_or_default, get_or_past}
use Rattle.std.proofs.lemmas.List.Folds.{list_any-append, list_any_at}
use Rattle.role_box.specs.Paths.{has_path}
use Rattle.role_box.proofs.Paths.{path-append, path_of_step}
use Rattle.model_builder.specs.Walks.{is_end, is_seen, is_waiting, IsInside, HasVisited}

-- ---- a walk

-- what is seen was reached, what is waiting was seen or is the begin, and what is not waiting has passed on
pub record IsWalk (next : List (List ℕ)) (from : ℕ) (seen : List Bool) (waiting : List ℕ) : Type 0 where
  pub long : length seen ≡ length next
  pub reached : (y : ℕ) → is_seen seen y ≡ true → has_path (is_end next) (length next) from y ≡ true
  pub waiting_are : (y : ℕ) → is_waiting waiting y ≡ true → (eqb y from || is_seen seen y) ≡ true
  pub passed_on : (x y : ℕ) → (eqb x from || is_seen seen x) ≡ true → is_waiting waiting x ≡ false
      → is_end next x y ≡ true → is_seen seen y ≡ true

seen_within : (seen : List Bool) (y : ℕ) → is_seen seen y ≡ true → y < length seen
seen_within seen y h =
    elim (cases_lt y (length seen)) [ inl lt ↦ lt | inr past ↦ let out = get_or_past seen y false past in absurd (cc) ]

module _ (next : List (List ℕ)) (from : ℕ) (inside : from < length next) where
  -- one that is waiting stands inside
  pub open_within : (seen : List Bool) (waiting : List ℕ) (x : ℕ) → IsWalk next from seen (waiting ++ x ∷ [])
      → x < length next
  open_within seen waiting x w =
      elim (or_cases (eqb x from) (is_seen seen x) (w.waiting_are x (last_is_waiting waiting x))) [
        | inl e ↦ omega (arith, eqb-true x from e, inside)
        | inr s ↦ omega (arith, seen_within seen x s, w.long)
      ]
    where
      last_is_waiting : (waiting : List ℕ) (x : ℕ) → is_waiting (waiting ++ x ∷ []) x ≡ true
      last_is_waiting waiting x =
          list_any-append (λ z. eqb z x) waiting (x ∷ [])
          ∙ or_right (is_waiting waiting x) (eqb x x || false) (or_left (eqb x x) false (eq-eqb x x refl))

  module _ (seen after : List Bool) (waiting more : List ℕ) (x : ℕ) (w : IsWalk next from seen (waiting ++ x ∷ []))
      (v : HasVisited seen after waiting more (is_end next x)) where
    still_open : (y : ℕ) → is_waiting waiting y ≡ true → is_waiting (waiting ++ x ∷ []) y ≡ true
    still_open y h =
        list_any-append (λ z. eqb z y) waiting (x ∷ []) ∙ or_left (is_waiting waiting y) (eqb x y || false) h

    not_open : (y : ℕ) → is_waiting waiting y ≡ false → ¬ (x ≡ y) → is_waiting (waiting ++ x ∷ []) y ≡ false
    not_open y out ne =
        list_any-append (λ z. eqb z y) waiting (x ∷ [])
        ∙ ap (λ (b : Bool). b || (eqb x y || false)) out
        ∙ ap (λ (b : Bool). b || false) (ne_eqb x y ne)

    is_at : (eqb x from || is_seen seen x) ≡ true
    is_at =
        w.waiting_are x
        (list_any-append (λ z. eqb z x) waiting (x ∷ [])
        ∙ or_right (is_waiting waiting x) (eqb x x || false) (or_left (eqb x x) false (eq-eqb x x refl)))

    -- what the edges of x lead to is reached
    end_reached : (y : ℕ) → is_end next x y ≡ true → has_path (is_end next) (length next) from y ≡ true
    end_reached y step = elim (or_cases (eqb x from) (is_seen seen x) is_at) [
      | inl e ↦
          path_of_step (is_end next) (length next) from y
          (subst (λ (z : ℕ). is_end next z y ≡ true) (eqb-true x from e) step)
      | inr s ↦
          path-append (is_end next) (length next) from x y (omega (arith, seen_within seen x s, w.long)) (w.reached x s)
          (path_of_step (is_end next) (length next) x y step)
    ]

    is_seen_after : (y : ℕ) → is_seen seen y ≡ true → is_seen after y ≡ true
    is_seen_after y h = v.seen_are y ∙ or_left (is_seen seen y) (is_end next x y) h

    -- what was not seen before is waiting now
    was_at : (y : ℕ) → (eqb y from || is_seen after y) ≡ true → is_waiting more y ≡ false
        → (eqb y from || is_seen seen y) ≡ true
    was_at y at out = elim (or_cases (eqb y from) (is_seen after y) at) [
      | inl e ↦ or_left (eqb y from) (is_seen seen y) e
      | inr s ↦ elim (cases_Bool (is_seen seen y)) [
        | inl old ↦ or_right (eqb y from) (is_seen seen y) old
        | inr new ↦
            (let end : is_end next x y ≡ true =
            ap (λ (b : Bool). b || is_end next x y) (sym new) ∙ sym (v.seen_are y) ∙ s in
            absurd (new_is_waiting y new end out))
      ]
    ]
      where
        new_is_waiting : (y : ℕ) → is_seen seen y ≡ false → is_end next x y ≡ true → is_waiting more y ≡ false → ⊥
        new_is_waiting y new end out =
            let opened : (not (is_seen seen y) && is_end next x y) ≡ true =
            and_from (not (is_seen seen y)) (is_end next x y) (ap not new) end in
            let there : is_waiting more y ≡ true =
            v.waiting_are y ∙ or_right (is_waiting waiting y) (not (is_seen seen y) && is_end next x y) opened in
            let wrong : true ≡ false = sym there ∙ out in
            cc

    was_not_open : (y : ℕ) → is_waiting more y ≡ false → is_waiting waiting y ≡ false
    was_not_open y out = elim (cases_Bool (is_waiting waiting y)) [
      | inr no' ↦ no'
      | inl there ↦
          (let still : is_waiting more y ≡ true =
          v.waiting_are y ∙ or_left (is_waiting waiting y) (not (is_seen seen y) && is_end next x y) there in
          absurd (cc))
    ]

    pub walk_goes_on : IsWalk next from after more
    walk_goes_on = record {
      long = v.long ∙ w.long;
      reached =
          λ y h. elim (or_cases (is_seen seen y) (is_end next x y) (sym (v.seen_are y) ∙ h))
          [ inl old ↦ w.reached y old | inr end ↦ end_reached y end ];
      waiting_are =
          λ y h. elim
          (or_cases (is_waiting waiting y) (not (is_seen seen y) && is_end next x y) (sym (v.waiting_are y) ∙ h)) [
            | inl old ↦ elim (or_cases (eqb y from) (is_seen seen y) (w.waiting_are y (still_open y old))) [
              | inl e ↦ or_left (eqb y from) (is_seen after y) e
              | inr s ↦ or_right (eqb y from) (is_seen after y) (is_seen_after y s)
            ]
            | inr new ↦
                or_right (eqb y from) (is_seen after y)
                (v.seen_are y
                ∙ or_right (is_seen seen y) (is_end next x y)
                (and_parts (not (is_seen seen y)) (is_end next x y) new).1)
          ];
      passed_on = λ z y at out step. elim (cases_eq x z) [
        | inl e ↦
            v.seen_are y
            ∙ or_right (is_seen seen y) (is_end next x y) (subst (λ (t : ℕ). is_end next t y ≡ true) (sym e) step)
        | inr ne ↦ is_seen_after y (w.passed_on z y (was_at z at out) (not_open z (was_not_open z out) ne) step)
      ];
    }

  -- ---- its end

  module _ (seen : List Bool) (w : IsWalk next from seen []) where
    from_seen : (k a y : ℕ) → (eqb a from || is_seen seen a) ≡ true → has_path (is_end next) k a y ≡ true
        → is_seen seen y ≡ true
    from_seen zero a y at h = w.passed_on a y at refl h
    from_seen (suc k) a y at h =
        elim
        (or_cases (has_path (is_end next) k a y) (has_path (is_end next) k a k && has_path (is_end next) k k y) h) [
          | inl p ↦ from_seen k a y at p
          | inr q ↦
              let b = and_parts (has_path (is_end next) k a k) (has_path (is_end next) k k y) q in
              from_seen k k y (or_right (eqb k from) (is_seen seen k) (from_seen k a k at b.0)) b.1
        ]

    pub walk_ends : (y : ℕ) → is_seen seen y ≡ has_path (is_end next) (length next) from y
    walk_ends y =
        same (is_seen seen y) (has_path (is_end next) (length next) from y) (w.reached y)
        (from_seen (length next) from y (or_left (eqb from from) (is_seen seen from) (eq-eqb from from refl)))
      where
        same : (a b : Bool) → (a ≡ true → b ≡ true) → (b ≡ true → a ≡ true) → a ≡ b
        same true b f g = sym (f refl)
        same false true f g = g refl
        same false false f g = refl

-- ---- the same at what was popped

module _ (next : List (List ℕ)) (from : ℕ) (begins : from < length next) (seen : List Bool) (all rest : List ℕ) (x : ℕ)
    (w : IsWalk next from seen all) (is : all ≡ rest ++ x ∷ []) where
  popped : IsWalk next from seen (rest ++ x ∷ [])
  popped = subst (IsWalk next from seen) is w

  pub waiting_within : x < length next
  waiting_within = open_within next from begins seen rest x popped

  module _ (row : List ℕ) (row_is : row ≡ get_or next x row) where
    row_there : row ≡ get_or next x []
    row_there = row_is ∙ get_or_default next x row [] waiting_within

    -- the ends of its edges stand inside
    pub ends_within : IsInside next → (k d : ℕ) → k < length row → get_or row k d < length seen
    ends_within inside k d lt =
        let there : is_waiting row (get_or row k d) ≡ true =
        list_any_at (λ z. eqb z (get_or row k d)) row k d lt (eq-eqb (get_or row k d) (get_or row k d) refl) in
        let end : is_end next x (get_or row k d) ≡ true =
        subst (λ (zs : List ℕ). is_waiting zs (get_or row k d) ≡ true) row_there there in
        omega (arith, inside x (get_or row k d) end, w.long)

    module _ (after : List Bool) (more : List ℕ) (v : HasVisited seen after rest more (is_waiting row)) where
      visited : HasVisited seen after rest more (is_end next x)
      visited = subst (λ (zs : List ℕ). HasVisited seen after rest more (is_waiting zs)) row_there v

      pub walked_on : IsWalk next from after more
      walked_on = walk_goes_on next from begins seen after rest more x popped visited

-- a walk without a waiting element is at its end
pub walk_is_over : (next : List (List ℕ)) (from : ℕ) (seen : List Bool) (all : List ℕ) → from < length next
    → IsWalk next from seen all → all ≡ [] → (y : ℕ) → is_seen seen y ≡ has_path (is_end next) (length next) from y
walk_is_over next from seen all begins w none = walk_ends next from begins seen (subst (IsWalk next from seen) none w)

-- what is left where nothing was popped
pub nothing_left : (all rest : List ℕ) (n : ℕ) → all ≡ rest ++ [] → rest ≡ take (n - 1) all → n ≡ 0 → all ≡ []
nothing_left all rest n is front none =
    is ∙ ap (λ (xs : List ℕ). xs ++ []) (front ∙ ap (λ (k : ℕ). take (k - 1) all) none)
