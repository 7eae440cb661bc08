-- A concept is allowed where its names are listed and it counts roles of a kind alone. So are the normal forms of it
-- and of its complement.
use Rattle.std.proofs.Common.{◌≡◌, ℕ, zero, suc, not, ltb, Bool, true, false, cond, List, [], ◌∷◌, ◌++◌, filter, refl}
use Rattle.std.proofs.Common.{◌∙◌, sym}
use Rattle.std.specs.List.{list_any, list_all, flat_map}
use Rattle.std.proofs.lemmas.Bool.{and_parts, and_from}
use Rattle.std.proofs.lemmas.List.Folds.{list_all-append}
use Rattle.shq_terms.specs.Concept.{Concept, top, bottom, name, complement, intersection, union, some_of, all_of}
use Rattle.shq_terms.specs.Concept.{at_least, at_most, exactly, Parts, no_parts, part, parts_of, part_list}
use Rattle.shq_terms.specs.Uses.{uses_listed, parts_use_listed}
use Rattle.calculus_specs.specs.Normal.{is_top, is_bottom, conjuncts_of, conjuncts, intersected, and_of, disjuncts_of}
use Rattle.calculus_specs.specs.Normal.{disjuncts, united, or_of, least_form, fewer_form, most_form, more_form}
use Rattle.calculus_specs.specs.Normal.{normal_form, negated_form, normal_forms, negated_forms}
use Rattle.calculus_specs.specs.Rows.{conjuncts_in}
use Rattle.ontology_limits.specs.Counted.{counted_roles, counted_in}

module _ (classes roles : ℕ) (p : ℕ → Bool) where
  abbrev pub IsAllowed : Concept → Type 0
  IsAllowed c = (uses_listed classes roles c ≡ true) × (list_all p (counted_roles c) ≡ true)

  abbrev pub AreAllowed : List Concept → Type 0
  AreAllowed [] = Unit {0}
  AreAllowed (c ∷ cs) = IsAllowed c × AreAllowed cs

  -- the same of parts
  abbrev pub PartsAllowed : Parts → Type 0
  PartsAllowed cs = (parts_use_listed classes roles cs ≡ true) × (list_all p (counted_in cs) ≡ true)

  first_part : (c : Concept) (cs : Parts) → PartsAllowed (part c cs) → IsAllowed c × PartsAllowed cs
  first_part c cs h =
      let t = and_parts (uses_listed classes roles c) (parts_use_listed classes roles cs) h.0 in
      let u =
      and_parts (list_all p (counted_roles c)) (list_all p (counted_in cs))
      (sym (list_all-append p (counted_roles c) (counted_in cs)) ∙ h.1) in
      ((t.0, u.0), (t.1, u.1))

  of_parts : (cs : Parts) → PartsAllowed cs → AreAllowed (part_list cs)
  of_parts no_parts h = tt
  of_parts (part c cs) h = let t = first_part c cs h in (t.0, of_parts cs t.1)

  pub allowed_parts_of : (cs : List Concept) → PartsAllowed (parts_of cs) → AreAllowed cs
  allowed_parts_of [] h = tt
  allowed_parts_of (c ∷ cs) h = let t = first_part c (parts_of cs) h in (t.0, allowed_parts_of cs t.1)

  pub to_parts : (cs : List Concept) → AreAllowed cs → PartsAllowed (parts_of cs)
  to_parts [] h = (refl, refl)
  to_parts (c ∷ cs) h =
      let rest = to_parts cs h.1 in (
        and_from (uses_listed classes roles c) (parts_use_listed classes roles (parts_of cs)) h.0.0 rest.0,
        list_all-append p (counted_roles c) (counted_in (parts_of cs))
            ∙ and_from (list_all p (counted_roles c)) (list_all p (counted_in (parts_of cs))) h.0.1 rest.1,
      )

  pub allowed_append : (cs ds : List Concept) → AreAllowed cs → AreAllowed ds → AreAllowed (cs ++ ds)
  allowed_append [] ds h k = k
  allowed_append (c ∷ cs) ds h k = (h.0, allowed_append cs ds h.1 k)

  allowed_filter : (q : Concept → Bool) (cs : List Concept) → AreAllowed cs → AreAllowed (filter q cs)
  allowed_filter q [] h = tt
  allowed_filter q (c ∷ cs) h = elim (q c) as (λ b. AreAllowed (cond b (c ∷ filter q cs) (filter q cs)))
      [ true ↦ (h.0, allowed_filter q cs h.1) | false ↦ allowed_filter q cs h.1 ]

  -- ---- intersections and unions

  allowed_conjuncts : (c : Concept) → IsAllowed c → AreAllowed (conjuncts_of c)
  allowed_conjuncts (intersection cs) h = of_parts cs h
  allowed_conjuncts top h = (h, tt)
  allowed_conjuncts bottom h = (h, tt)
  allowed_conjuncts (name a) h = (h, tt)
  allowed_conjuncts (complement c) h = (h, tt)
  allowed_conjuncts (union cs) h = (h, tt)
  allowed_conjuncts (some_of r c) h = (h, tt)
  allowed_conjuncts (all_of r c) h = (h, tt)
  allowed_conjuncts (at_least n r c) h = (h, tt)
  allowed_conjuncts (at_most n r c) h = (h, tt)
  allowed_conjuncts (exactly n r c) h = (h, tt)

  allowed_disjuncts : (c : Concept) → IsAllowed c → AreAllowed (disjuncts_of c)
  allowed_disjuncts (union cs) h = of_parts cs h
  allowed_disjuncts top h = (h, tt)
  allowed_disjuncts bottom h = (h, tt)
  allowed_disjuncts (name a) h = (h, tt)
  allowed_disjuncts (complement c) h = (h, tt)
  allowed_disjuncts (intersection cs) h = (h, tt)
  allowed_disjuncts (some_of r c) h = (h, tt)
  allowed_disjuncts (all_of r c) h = (h, tt)
  allowed_disjuncts (at_least n r c) h = (h, tt)
  allowed_disjuncts (at_most n r c) h = (h, tt)
  allowed_disjuncts (exactly n r c) h = (h, tt)

  -- the conjuncts of the left side of an inclusion
  pub allowed_conjuncts_in : (c : Concept) → IsAllowed c → AreAllowed (conjuncts_in c)
  allowed_conjuncts_in (intersection cs) h = of_parts cs h
  allowed_conjuncts_in top h = tt
  allowed_conjuncts_in bottom h = (h, tt)
  allowed_conjuncts_in (name a) h = (h, tt)
  allowed_conjuncts_in (complement c) h = (h, tt)
  allowed_conjuncts_in (union cs) h = (h, tt)
  allowed_conjuncts_in (some_of r c) h = (h, tt)
  allowed_conjuncts_in (all_of r c) h = (h, tt)
  allowed_conjuncts_in (at_least n r c) h = (h, tt)
  allowed_conjuncts_in (at_most n r c) h = (h, tt)
  allowed_conjuncts_in (exactly n r c) h = (h, tt)

  allowed_opened : (f : Concept → List Concept) → ((c : Concept) → IsAllowed c → AreAllowed (f c)) → (cs : List Concept)
      → AreAllowed cs → AreAllowed (flat_map f cs)
  allowed_opened f each [] h = tt
  allowed_opened f each (c ∷ cs) h = allowed_append (f c) (flat_map f cs) (each c h.0) (allowed_opened f each cs h.1)

  allowed_intersected : (cs : List Concept) → AreAllowed cs → IsAllowed (intersected cs)
  allowed_intersected [] h = (refl, refl)
  allowed_intersected (c ∷ []) h = h.0
  allowed_intersected (c ∷ d ∷ cs) h = to_parts (c ∷ d ∷ cs) h

  allowed_united : (cs : List Concept) → AreAllowed cs → IsAllowed (united cs)
  allowed_united [] h = (refl, refl)
  allowed_united (c ∷ []) h = h.0
  allowed_united (c ∷ d ∷ cs) h = to_parts (c ∷ d ∷ cs) h

  allowed_either : (b : Bool) (c d : Concept) → IsAllowed c → IsAllowed d → IsAllowed (cond b c d)
  allowed_either true c d h k = h
  allowed_either false c d h k = k

  allowed_and : (cs : List Concept) → AreAllowed cs → IsAllowed (and_of cs)
  allowed_and cs h =
      allowed_either (list_any is_bottom (conjuncts cs)) bottom (intersected (conjuncts cs)) (refl, refl)
      (allowed_intersected (conjuncts cs)
      (allowed_filter (λ c. not (is_top c)) (flat_map conjuncts_of cs)
      (allowed_opened conjuncts_of allowed_conjuncts cs h)))

  pub allowed_or : (cs : List Concept) → AreAllowed cs → IsAllowed (or_of cs)
  allowed_or cs h =
      allowed_either (list_any is_top (disjuncts cs)) top (united (disjuncts cs)) (refl, refl)
      (allowed_united (disjuncts cs)
      (allowed_filter (λ c. not (is_bottom c)) (flat_map disjuncts_of cs)
      (allowed_opened disjuncts_of allowed_disjuncts cs h)))

  -- ---- restrictions

  -- the role is listed and of the kind
  abbrev MayCount : ℕ → Type 0
  MayCount r = (ltb r roles ≡ true) × (p r ≡ true)

  used : (r : ℕ) (c : Concept) → ltb r roles ≡ true → IsAllowed c → IsAllowed (some_of r c)
  used r c h k = (and_from (ltb r roles) (uses_listed classes roles c) h k.0, k.1)

  counted : (r : ℕ) (c : Concept) → MayCount r → IsAllowed c → IsAllowed (at_least 2 r c)
  counted r c h k = (
    and_from (ltb r roles) (uses_listed classes roles c) h.0 k.0,
    and_from (p r) (list_all p (counted_roles c)) h.1 k.1,
  )

  allowed_least : (n r : ℕ) (c : Concept) → MayCount r → IsAllowed c → IsAllowed (least_form n r c)
  allowed_least zero r c h k = (refl, refl)
  allowed_least (suc zero) r c h k = used r c h.0 k
  allowed_least (suc (suc n)) r c h k = counted r c h k

  allowed_fewer : (n r : ℕ) (c d : Concept) → MayCount r → IsAllowed c → IsAllowed d → IsAllowed (fewer_form n r c d)
  allowed_fewer zero r c d h k l = (refl, refl)
  allowed_fewer (suc zero) r c d h k l = used r d h.0 l
  allowed_fewer (suc (suc n)) r c d h k l = counted r c h k

  allowed_most : (n r : ℕ) (c d : Concept) → MayCount r → IsAllowed c → IsAllowed d → IsAllowed (most_form n r c d)
  allowed_most zero r c d h k l = used r d h.0 l
  allowed_most (suc n) r c d h k l = counted r c h k

  allowed_more : (n r : ℕ) (c : Concept) → MayCount r → IsAllowed c → IsAllowed (more_form n r c)
  allowed_more zero r c h k = used r c h.0 k
  allowed_more (suc n) r c h k = counted r c h k

  -- what is allowed has a listed role and an allowed filler
  pub used_parts : (r : ℕ) (c : Concept) → IsAllowed (some_of r c) → (ltb r roles ≡ true) × IsAllowed c
  used_parts r c h = let t = and_parts (ltb r roles) (uses_listed classes roles c) h.0 in (t.0, (t.1, h.1))

  pub counted_parts : (r : ℕ) (c : Concept) → IsAllowed (at_least 2 r c) → MayCount r × IsAllowed c
  counted_parts r c h =
      let t = and_parts (ltb r roles) (uses_listed classes roles c) h.0 in
      let u = and_parts (p r) (list_all p (counted_roles c)) h.1 in
      ((t.0, u.0), (t.1, u.1))

  -- ---- normal forms

  mutual
    pub allowed_normal : (c : Concept) → IsAllowed c → IsAllowed (normal_form c)
    allowed_normal top h = h
    allowed_normal bottom h = h
    allowed_normal (name a) h = h
    allowed_normal (complement c) h = allowed_negated c h
    allowed_normal (intersection cs) h = allowed_and (normal_forms cs) (allowed_normals cs h)
    allowed_normal (union cs) h = allowed_or (normal_forms cs) (allowed_normals cs h)
    allowed_normal (some_of r c) h = let t = used_parts r c h in used r (normal_form c) t.0 (allowed_normal c t.1)
    allowed_normal (all_of r c) h = let t = used_parts r c h in used r (normal_form c) t.0 (allowed_normal c t.1)
    allowed_normal (at_least n r c) h =
        let t = counted_parts r c h in allowed_least n r (normal_form c) t.0 (allowed_normal c t.1)
    allowed_normal (at_most n r c) h =
        let t = counted_parts r c h in
        allowed_most n r (normal_form c) (negated_form c) t.0 (allowed_normal c t.1) (allowed_negated c t.1)
    allowed_normal (exactly n r c) h =
        let t = counted_parts r c h in
        allowed_and (least_form n r (normal_form c) ∷ most_form n r (normal_form c) (negated_form c) ∷ []) (
          allowed_least n r (normal_form c) t.0 (allowed_normal c t.1),
          (allowed_most n r (normal_form c) (negated_form c) t.0 (allowed_normal c t.1) (allowed_negated c t.1), tt),
        )

    pub allowed_negated : (c : Concept) → IsAllowed c → IsAllowed (negated_form c)
    allowed_negated top h = (refl, refl)
    allowed_negated bottom h = (refl, refl)
    allowed_negated (name a) h = h
    allowed_negated (complement c) h = allowed_normal c h
    allowed_negated (intersection cs) h = allowed_or (negated_forms cs) (allowed_negateds cs h)
    allowed_negated (union cs) h = allowed_and (negated_forms cs) (allowed_negateds cs h)
    allowed_negated (some_of r c) h = let t = used_parts r c h in used r (negated_form c) t.0 (allowed_negated c t.1)
    allowed_negated (all_of r c) h = let t = used_parts r c h in used r (negated_form c) t.0 (allowed_negated c t.1)
    allowed_negated (at_least n r c) h =
        let t = counted_parts r c h in
        allowed_fewer n r (normal_form c) (negated_form c) t.0 (allowed_normal c t.1) (allowed_negated c t.1)
    allowed_negated (at_most n r c) h =
        let t = counted_parts r c h in allowed_more n r (normal_form c) t.0 (allowed_normal c t.1)
    allowed_negated (exactly n r c) h =
        let t = counted_parts r c h in
        allowed_or (fewer_form n r (normal_form c) (negated_form c) ∷ more_form n r (normal_form c) ∷ []) (
          allowed_fewer n r (normal_form c) (negated_form c) t.0 (allowed_normal c t.1) (allowed_negated c t.1),
          (allowed_more n r (normal_form c) t.0 (allowed_normal c t.1), tt),
        )

    allowed_normals : (cs : Parts) → PartsAllowed cs → AreAllowed (normal_forms cs)
    allowed_normals no_parts h = tt
    allowed_normals (part c cs) h = let t = first_part c cs h in (allowed_normal c t.0, allowed_normals cs t.1)

    allowed_negateds : (cs : Parts) → PartsAllowed cs → AreAllowed (negated_forms cs)
    allowed_negateds no_parts h = tt
    allowed_negateds (part c cs) h = let t = first_part c cs h in (allowed_negated c t.0, allowed_negateds cs t.1)
