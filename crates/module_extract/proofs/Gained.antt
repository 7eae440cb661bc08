-- Places that an index keeps, one after another.
use Rattle.std.proofs.Common.{◌≡◌, ℕ, zero, suc, ◌+◌, ◌<◌, true, false, List, [], ◌∷◌, ◌++◌, length, take, get_or, refl}
use Rattle.std.proofs.Common.{ap, sym, ◌∙◌, subst, arith, inl, inr, length-set, get_or-set_same, get_or-set_other}
use Rattle.std.specs.Prelude.{◌⊎◌, slice_get, slice_set, Some, replicate, Result, Ok, Err, OnOk}
use Rattle.std.specs.List.{Contains}
use Rattle.std.proofs.Math.Seq.{take-suc}
use Rattle.std.proofs.lemmas.Bool.{cases_eq, ltb-true, or_cases}
use Rattle.std.proofs.lemmas.List.Elements.{Contains-append_left, Contains-append_right, Contains-append_cases}
use Rattle.pinpointing_specs.specs.declared.module_laws.Name.{Name}
use Rattle.pinpointing_specs.specs.declared.module_laws.Name.TheVariants.{Class, Role}
use Rattle.shq_terms.specs.declared.axioms.Numbered.{Numbered}
use Rattle.pinpointing_specs.specs.Signature.{same_name, is_among, axiom_names}
use Rattle.pinpointing_specs.proofs.Names.{same_is_equal, among_cases}
use Rattle.module_extract.specs.Users.{places_of, has_list, HasGained, IsIndex}
use Rattle.module_extract.specs.declared.users.Users.{Users}

pub only_name : (n m : Name) → is_among (m ∷ []) n ≡ true → n ≡ m
only_name n m h = elim (or_cases (same_name n m) false h)
    [ inl same ↦ same_is_equal n m same | inr none ↦ let clash : false ≡ true = none in absurd (cc clash) ]

pub only_place : (p q : ℕ) → Contains (q ∷ []) p → p ≡ q
only_place p q (zero, lt, e) = sym e
only_place p q (suc k, lt, e) = absurd (omega (arith, lt))

-- the lists with a place more in one of them
module _ (lists : List (List ℕ)) (number place : ℕ) (lt : number < length lists) where
  abbrev pub after : List (List ℕ)
  after = slice_set lists number (get_or lists number [] ++ place ∷ [])

  here : get_or after number [] ≡ get_or lists number [] ++ place ∷ []
  here = get_or-set_same lists number (get_or lists number [] ++ place ∷ []) [] lt

  elsewhere : (k : ℕ) → (k ≡ number → ⊥) → get_or after k [] ≡ get_or lists k []
  elsewhere k ne = get_or-set_other lists number k (get_or lists number [] ++ place ∷ []) [] ne

  pub list_kept : (k p : ℕ) → Contains (get_or lists k []) p → Contains (get_or after k []) p
  list_kept k p h =
      elim (cases_eq k number) [
        | inl e ↦
            let before : Contains (get_or lists number []) p = subst (λ (m : ℕ). Contains (get_or lists m []) p) e h in
            let now : Contains (get_or after number []) p =
            subst (λ (xs : List ℕ). Contains xs p) (sym here)
            (Contains-append_left (get_or lists number []) (place ∷ []) p before) in
            subst (λ (m : ℕ). Contains (get_or after m []) p) (sym e) now
        | inr ne ↦ subst (λ (xs : List ℕ). Contains xs p) (sym (elsewhere k ne)) h
      ]

  pub list_gained : Contains (get_or after number []) place
  list_gained =
      subst (λ (xs : List ℕ). Contains xs place) (sym here)
      (Contains-append_right (get_or lists number []) (place ∷ []) place (0, omega arith, refl))

  pub list_others : (k p : ℕ) → Contains (get_or after k []) p → Contains (get_or lists k []) p ⊎ (p ≡ place)
  list_others k p h =
      elim (cases_eq k number) [
        | inl e ↦
            let now : Contains (get_or after number []) p = subst (λ (m : ℕ). Contains (get_or after m []) p) e h in
            let parts : Contains (get_or lists number [] ++ place ∷ []) p =
            subst (λ (xs : List ℕ). Contains xs p) here now in
            elim (Contains-append_cases (get_or lists number []) (place ∷ []) p parts) [
              | inl before ↦ inl (subst (λ (m : ℕ). Contains (get_or lists m []) p) (sym e) before)
              | inr last ↦ inr (only_place p place last)
            ]
        | inr ne ↦ inl (subst (λ (xs : List ℕ). Contains xs p) (elsewhere k ne) h)
      ]

pub class_gained : (old new : Users) (class place : ℕ) → class < length old.classes.items
    → new.classes.items ≡ slice_set old.classes.items class (get_or old.classes.items class [] ++ place ∷ [])
    → new.roles.items ≡ old.roles.items → HasGained old new (Class class ∷ []) place
class_gained old new class place lt e f = record {
  same_classes = ap length e ∙ length-set old.classes.items class (get_or old.classes.items class [] ++ place ∷ []);
  same_roles = ap length f;
  kept = kept;
  gained = λ n h. let is = only_name n (Class class) h in
      subst (λ (m : Name). Contains (places_of new m) place) (sym is)
      (subst (λ (ls : List (List ℕ)). Contains (get_or ls class []) place) (sym e)
      (list_gained old.classes.items class place lt));
  no_others = others;
}
  where
    kept : (n : Name) (p : ℕ) → Contains (places_of old n) p → Contains (places_of new n) p
    kept (Class a) p h =
        subst (λ (ls : List (List ℕ)). Contains (get_or ls a []) p) (sym e)
        (list_kept old.classes.items class place lt a p h)
    kept (Role r) p h = subst (λ (ls : List (List ℕ)). Contains (get_or ls r []) p) (sym f) h

    others : (n : Name) (p : ℕ) → Contains (places_of new n) p → Contains (places_of old n) p ⊎ (p ≡ place)
    others (Class a) p h =
        list_others old.classes.items class place lt a p
        (subst (λ (ls : List (List ℕ)). Contains (get_or ls a []) p) e h)
    others (Role r) p h = inl (subst (λ (ls : List (List ℕ)). Contains (get_or ls r []) p) f h)

pub role_gained : (old new : Users) (role place : ℕ) → role < length old.roles.items
    → new.roles.items ≡ slice_set old.roles.items role (get_or old.roles.items role [] ++ place ∷ [])
    → new.classes.items ≡ old.classes.items → HasGained old new (Role role ∷ []) place
role_gained old new role place lt e f = record {
  same_classes = ap length f;
  same_roles = ap length e ∙ length-set old.roles.items role (get_or old.roles.items role [] ++ place ∷ []);
  kept = kept;
  gained = λ n h. let is = only_name n (Role role) h in
      subst (λ (m : Name). Contains (places_of new m) place) (sym is)
      (subst (λ (ls : List (List ℕ)). Contains (get_or ls role []) place) (sym e)
      (list_gained old.roles.items role place lt));
  no_others = others;
}
  where
    kept : (n : Name) (p : ℕ) → Contains (places_of old n) p → Contains (places_of new n) p
    kept (Role a) p h =
        subst (λ (ls : List (List ℕ)). Contains (get_or ls a []) p) (sym e)
        (list_kept old.roles.items role place lt a p h)
    kept (Class r) p h = subst (λ (ls : List (List ℕ)). Contains (get_or ls r []) p) (sym f) h

    others : (n : Name) (p : ℕ) → Contains (places_of new n) p → Contains (places_of old n) p ⊎ (p ≡ place)
    others (Role a) p h =
        list_others old.roles.items role place lt a p (subst (λ (ls : List (List ℕ)). Contains (get_or ls a []) p) e h)
    others (Class r) p h = inl (subst (λ (ls : List (List ℕ)). Contains (get_or ls r []) p) f h)

pub gained_none : (u : Users) (place : ℕ) → HasGained u u [] place
gained_none u place = record {
  same_classes = refl;
  same_roles = refl;
  kept = λ n p h. h;
  gained = λ n h. let clash : false ≡ true = h in absurd (cc clash);
  no_others = λ n p h. inl h;
}

gained_then : (a b c : Users) (ms ns : List Name) (place : ℕ) → HasGained a b ms place → HasGained b c ns place
    → HasGained a c (ms ++ ns) place
gained_then a b c ms ns place f g = record {
  same_classes = g.same_classes ∙ f.same_classes;
  same_roles = g.same_roles ∙ f.same_roles;
  kept = λ n p h. g.kept n p (f.kept n p h);
  gained =
      λ n h. elim (among_cases ms ns n h)
      [ inl first ↦ g.kept n place (f.gained n first) | inr last ↦ g.gained n last ];
  no_others = λ n p h. elim (g.no_others n p h) [ inl before ↦ f.no_others n p before | inr is ↦ inr is ];
}

pub gained_more : (a b c : Users) (names : List Name) (i : ℕ) (d : Name) (place : ℕ) → i < length names
    → HasGained a b (take i names) place → HasGained b c (get_or names i d ∷ []) place
    → HasGained a c (take (i + 1) names) place
gained_more a b c names i d place lt f g =
    let e : take (i + 1) names ≡ take i names ++ (get_or names i d ∷ []) =
    let s : i + 1 ≡ suc i = omega arith in ap (λ (k : ℕ). take k names) s ∙ take-suc names i d lt in
    subst (λ (ns : List Name). HasGained a c ns place) (sym e)
    (gained_then a b c (take i names) (get_or names i d ∷ []) place f g)

-- ---- the index

-- the axioms up to one more
pub index_more : (axioms : List Numbered) (place : ℕ) (a : Numbered) (old new : Users) → slice_get axioms place ≡ Some a
    → IsIndex axioms place old → HasGained old new (axiom_names a.axiom) place → IsIndex axioms (place + 1) new
index_more axioms place a old new there index gained = record {
  all_kept = λ n p b lt at uses. elim (cases_eq p place) [
    | inl e ↦
        let both : Some b ≡ Some a = sym at ∙ ap (slice_get axioms) e ∙ there in
        let is : b ≡ a = cc both in
        subst (λ (k : ℕ). Contains (places_of new n) k) (sym e)
        (gained.gained n ((λ j. is_among (axiom_names (sym is j).axiom) n) ∙ uses))
    | inr ne ↦ gained.kept n p (index.all_kept n p b (omega arith) at uses)
  ];
  within =
      λ n p h. elim (gained.no_others n p h)
      [ inl before ↦ let lt = index.within n p before in omega arith | inr is ↦ omega arith ];
}

empty_at : (count k : ℕ) → get_or {A = List ℕ} (replicate count []) k [] ≡ []
empty_at zero k = refl
empty_at (suc count) zero = refl
empty_at (suc count) (suc k) = empty_at count k

pub index_none : (axioms : List Numbered) (u : Users) (classes roles : ℕ) → u.classes.items ≡ replicate classes []
    → u.roles.items ≡ replicate roles [] → IsIndex axioms 0 u
index_none axioms u classes roles e f = record {
  all_kept = λ n p b lt at uses. absurd (omega (arith, lt));
  within = λ n p h. absurd (nothing n p h);
}
  where
    none_at : (count k p : ℕ) → Contains (get_or (replicate count []) k []) p → ⊥
    none_at count k p h =
        let (m, lt, is) = subst (λ (xs : List ℕ). Contains xs p) (empty_at count k) h in omega (arith, lt)

    nothing : (n : Name) (p : ℕ) → Contains (places_of u n) p → ⊥
    nothing (Class a) p h = none_at classes a p (subst (λ (ls : List (List ℕ)). Contains (get_or ls a []) p) e h)
    nothing (Role r) p h = none_at roles r p (subst (λ (ls : List (List ℕ)). Contains (get_or ls r []) p) f h)

-- a place was put into the list of a class, or of a role
pub class_answered : {V E : Type 0} (r : Result V E) (old new : Users) (name : Name) (class place : ℕ)
    (before now : List (List ℕ))
    → name ≡ Class class → has_list old name ≡ true → before ≡ old.classes.items → new.classes.items ≡ now
    → new.roles.items ≡ old.roles.items
    → OnOk r (now ≡ slice_set before class (get_or before class [] ++ place ∷ []))
    → OnOk r (HasGained old new (name ∷ []) place)
class_answered (Err e) old new name class place before now is listed b n f answered = tt
class_answered (Ok v) old new name class place before now is listed b n f answered =
    let lt : class < length old.classes.items =
    ltb-true class (length old.classes.items) (ap (has_list old) (sym is) ∙ listed) in
    let set_ : new.classes.items ≡ slice_set old.classes.items class (get_or old.classes.items class [] ++ place ∷ []) =
    n ∙ answered ∙ (λ j. slice_set (b j) class (get_or (b j) class [] ++ place ∷ [])) in
    subst (λ (m : Name). HasGained old new (m ∷ []) place) (sym is) (class_gained old new class place lt set_ f)

pub role_answered : {V E : Type 0} (r : Result V E) (old new : Users) (name : Name) (role place : ℕ)
    (before now : List (List ℕ))
    → name ≡ Role role → has_list old name ≡ true → before ≡ old.roles.items → new.roles.items ≡ now
    → new.classes.items ≡ old.classes.items
    → OnOk r (now ≡ slice_set before role (get_or before role [] ++ place ∷ []))
    → OnOk r (HasGained old new (name ∷ []) place)
role_answered (Err e) old new name role place before now is listed b n f answered = tt
role_answered (Ok v) old new name role place before now is listed b n f answered =
    let lt : role < length old.roles.items =
    ltb-true role (length old.roles.items) (ap (has_list old) (sym is) ∙ listed) in
    let set_ : new.roles.items ≡ slice_set old.roles.items role (get_or old.roles.items role [] ++ place ∷ []) =
    n ∙ answered ∙ (λ j. slice_set (b j) role (get_or (b j) role [] ++ place ∷ [])) in
    subst (λ (m : Name). HasGained old new (m ∷ []) place) (sym is) (role_gained old new role place lt set_ f)
