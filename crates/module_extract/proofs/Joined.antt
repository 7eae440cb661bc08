-- What stands after an axiom joined the module, or was found to need no look.
use Rattle.std.proofs.Common.{◌≡◌, ℕ, suc, ◌+◌, ◌<◌, Bool, true, false, ◌&&◌, ◌||◌, eqb, List, [], ◌∷◌, ◌++◌, length}
use Rattle.std.proofs.Common.{take, get_or, refl, ap, sym, ◌∙◌, subst, arith, inl, inr, eq-eqb}
use Rattle.std.specs.Prelude.{◌⊎◌, slice_get, Some}
use Rattle.std.specs.List.{Contains, list_any, flat_map}
use Rattle.std.specs.FinSet as set
use Rattle.std.specs.Ordering.{nat_cmp}
use Rattle.std.proofs.Math.Seq.{take-suc}
use Rattle.std.proofs.lemmas.Bool.{cases_Bool, cases_eq, eqb-true, or_cases, or_left, or_right, and_parts, and_from}
use Rattle.std.proofs.lemmas.Bool.{true≢false, true_from_ne_false, false_from_ne_true}
use Rattle.std.proofs.lemmas.Option.{slice_get_within}
use Rattle.std.proofs.lemmas.List.{get_or_default}
use Rattle.std.proofs.lemmas.List.Elements.{Contains-append_cases}
use Rattle.lane_sieve.specs.Sets.{NumberSet, IsPart}
use Rattle.lane_sieve.proofs.Bits.{contains_insert}
use Rattle.axiom_sets.specs.Sets.{Limited, IsWithin}
use Rattle.shq_terms.specs.declared.axioms.Axiom.{Axiom}
use Rattle.shq_terms.specs.declared.axioms.Numbered.{Numbered}
use Rattle.shq_terms.specs.declared.axioms.Query.{Query}
use Rattle.shq_meaning.proofs.Members.{all_pass}
use Rattle.shq_meaning.proofs.Implied.{implies_from}
use Rattle.pinpointing_specs.specs.declared.module_laws.Name.{Name}
use Rattle.pinpointing_specs.specs.Signature.{same_name, is_among, axiom_names, query_names}
use Rattle.pinpointing_specs.specs.Local.{is_local}
use Rattle.pinpointing_specs.specs.LocalModule.{axioms_in_set, module_names, IsClosed, IsLocalModule}
use Rattle.pinpointing_specs.proofs.InSet.{in_set}
use Rattle.pinpointing_specs.proofs.Names.{listed_among, same_is_equal, among_left, among_cases, by_axiom, more_names}
use Rattle.pinpointing_specs.proofs.Names.{name_of_member}
use Rattle.pinpointing_specs.proofs.Fewer.{is_kept, local_stays}
use Rattle.module_extract.specs.declared.marks.Marks.{Marks}
use Rattle.module_extract.specs.declared.growth.Growth.{Growth}
use Rattle.module_extract.specs.Marks.{is_marked, has_place, IsUnmarked}
use Rattle.module_extract.specs.Users.{all_listed, IsIndex, places_of}
use Rattle.module_extract.specs.declared.users.Users.{Users}
use Rattle.module_extract.specs.Growth.{is_settled, HasTaken, HasJoined, GrowsFrom, HasLooked, StaysGrowing}
use Rattle.module_extract.specs.Growth.{FirstSettled, AllSettled}
use Rattle.module_extract.proofs.Taken.{same_places}
use Rattle.module_extract.proofs.Gained.{only_name, only_place}
use Rattle.module_extract.proofs.Placed.{name_placed}

-- an axiom stays local for tests of names that pass no more of its names
stays_local : (less more : Name → Bool) (a : Axiom)
    → ((n : Name) → is_among (axiom_names a) n ≡ true → less n ≡ true → more n ≡ true) → is_local more a ≡ true
    → is_local less a ≡ true
stays_local less more a each =
    local_stays less more a
    (all_pass (is_kept less more) (axiom_names a)
    (λ n listed. implies_from (less n) (more n) (each n (listed_among (axiom_names a) n listed))))

-- a list with a name that passes
some_passes : (p : Name → Bool) (ns : List Name) (n : Name) → is_among ns n ≡ true → p n ≡ true → list_any p ns ≡ true
some_passes p [] n h k = let clash : false ≡ true = h in absurd (cc clash)
some_passes p (m ∷ ms) n h k =
    elim (or_cases (same_name n m) (is_among ms n) h) [
      | inl same ↦ or_left (p m) (list_any p ms) (subst (λ (x : Name). p x ≡ true) (same_is_equal n m same) k)
      | inr later ↦ or_right (p m) (list_any p ms) (some_passes p ms n later k)
    ]

-- the name that passes
which_passes : (p : Name → Bool) (ns : List Name) → list_any p ns ≡ true
    → (n : Name) × (is_among ns n ≡ true) × (p n ≡ true)
which_passes p [] h = let clash : false ≡ true = h in absurd (cc clash)
which_passes p (m ∷ ms) h =
    elim (or_cases (p m) (list_any p ms) h) [
      | inl here ↦ (m, listed_among (m ∷ ms) m (0, omega arith, refl), here)
      | inr later ↦
          let found = which_passes p ms later in
          (found.0, or_right (same_name found.0 m) (is_among ms found.0) found.1, found.2)
    ]

-- ---- settled axioms

by_member : (g : Growth) (place : ℕ) (a : Axiom) → set.contains g.members.members (place + 1) ≡ true
    → is_settled g place a ≡ true
by_member g place a h =
    or_left (set.contains g.members.members (place + 1) || is_local (is_marked g.marks) a)
    (list_any (is_among g.pending.items) (axiom_names a))
    (or_left (set.contains g.members.members (place + 1)) (is_local (is_marked g.marks) a) h)

by_form : (g : Growth) (place : ℕ) (a : Axiom) → is_local (is_marked g.marks) a ≡ true → is_settled g place a ≡ true
by_form g place a h =
    or_left (set.contains g.members.members (place + 1) || is_local (is_marked g.marks) a)
    (list_any (is_among g.pending.items) (axiom_names a))
    (or_right (set.contains g.members.members (place + 1)) (is_local (is_marked g.marks) a) h)

by_name : (g : Growth) (place : ℕ) (a : Axiom) → list_any (is_among g.pending.items) (axiom_names a) ≡ true
    → is_settled g place a ≡ true
by_name g place a h =
    or_right (set.contains g.members.members (place + 1) || is_local (is_marked g.marks) a)
    (list_any (is_among g.pending.items) (axiom_names a)) h

-- how an axiom is settled
settled_by : (g : Growth) (place : ℕ) (a : Axiom) (P : Type 0) → is_settled g place a ≡ true
    → (set.contains g.members.members (place + 1) ≡ true → P) → (is_local (is_marked g.marks) a ≡ true → P)
    → (list_any (is_among g.pending.items) (axiom_names a) ≡ true → P) → P
settled_by g place a P h f k w =
    elim (or_cases (set.contains g.members.members (place + 1) || is_local (is_marked g.marks) a)
    (list_any (is_among g.pending.items) (axiom_names a)) h) [
      | inl first ↦
          elim (or_cases (set.contains g.members.members (place + 1)) (is_local (is_marked g.marks) a) first)
          [ inl member ↦ f member | inr form ↦ k form ]
      | inr waits ↦ w waits
    ]

-- ---- an axiom joined

module _ (axioms : List Numbered) (old new : Growth) (place : ℕ) (a : Numbered)
    (there : slice_get axioms place ≡ Some a) (joined : HasJoined old new place a.axiom) where
  member_cases : (k : ℕ) → set.contains new.members.members k ≡ true
      → (k ≡ place + 1) ⊎ (set.contains old.members.members k ≡ true)
  member_cases k h =
      elim (or_cases (eqb k (place + 1)) (set.contains old.members.members k)
      (sym (ap (λ (s : NumberSet). set.contains s k) joined.members ∙ contains_insert old.members.members (place + 1) k)
      ∙ h)) [
        | inl same ↦ inl (eqb-true k (place + 1) same)
        | inr before ↦ inr before
      ]

  is_part : IsPart old.members.members new.members.members
  is_part k h =
      ap (λ (s : NumberSet). set.contains s k) joined.members ∙ contains_insert old.members.members (place + 1) k
      ∙ or_right (eqb k (place + 1)) (set.contains old.members.members k) h

  is_member : set.contains new.members.members (place + 1) ≡ true
  is_member =
      ap (λ (s : NumberSet). set.contains s (place + 1)) joined.members
      ∙ contains_insert old.members.members (place + 1) (place + 1)
      ∙ or_left (eqb (place + 1) (place + 1)) (set.contains old.members.members (place + 1))
      (eq-eqb (place + 1) (place + 1) refl)

  marked_still : (n : Name) → is_marked old.marks n ≡ true → is_marked new.marks n ≡ true
  marked_still n h =
      joined.names.marks.marked n
      ∙ or_left (is_marked old.marks n) (is_among (axiom_names a.axiom) n && has_place old.marks n) h

  goes_on : is_local (is_marked old.marks) a.axiom ≡ false → StaysGrowing axioms old new
  goes_on open_ q h = record {
    listed = (λ j. all_listed (joined.names.marks.same_classes j) (joined.names.marks.same_roles j) axioms) ∙ h.listed;
    least = least;
    marked_is_name = marked_is_name;
    name_is_marked =
        λ n among placed. name_is_marked n among
        (sym (same_places old.marks new.marks (axiom_names a.axiom) joined.names.marks n) ∙ placed);
  }
    where
      not_local : (t : NumberSet) → IsClosed axioms q t → is_local (is_among (module_names axioms q t)) a.axiom ≡ false
      not_local t closed =
          false_from_ne_true (is_local (is_among (module_names axioms q t)) a.axiom)
          (λ form. true≢false
          (sym (stays_local (is_marked old.marks) (is_among (module_names axioms q t)) a.axiom
          (λ n among marked. more_names axioms q old.members.members t (h.least t closed) n (h.marked_is_name n marked))
          form)
          ∙ open_))

      least : (t : NumberSet) → IsClosed axioms q t → IsPart new.members.members t
      least t closed k member =
          elim (member_cases k member) [
            | inl e ↦ ap (set.contains t) e ∙ closed place a there (not_local t closed)
            | inr before ↦ h.least t closed k before
          ]

      marked_is_name : (n : Name) → is_marked new.marks n ≡ true
          → is_among (module_names axioms q new.members.members) n ≡ true
      marked_is_name n marked =
          elim (or_cases (is_marked old.marks n) (is_among (axiom_names a.axiom) n && has_place old.marks n)
          (sym (joined.names.marks.marked n) ∙ marked)) [
            | inl before ↦
                more_names axioms q old.members.members new.members.members is_part n (h.marked_is_name n before)
            | inr fresh ↦
                name_of_member axioms q new.members.members a.axiom place a there refl is_member n
                (and_parts (is_among (axiom_names a.axiom) n) (has_place old.marks n) fresh).0
          ]

      name_is_marked : (n : Name) → is_among (module_names axioms q new.members.members) n ≡ true
          → has_place old.marks n ≡ true → is_marked new.marks n ≡ true
      name_is_marked n among placed =
          elim (among_cases (query_names q) (flat_map axiom_names (axioms_in_set new.members.members axioms)) n among) [
            | inl of_query ↦
                marked_still n
                (h.name_is_marked n
                (among_left (query_names q) (flat_map axiom_names (axioms_in_set old.members.members axioms)) n
                of_query)
                placed)
            | inr of_axiom ↦
                let found = by_axiom (axioms_in_set new.members.members axioms) n of_axiom in
                let at = in_set new.members.members axioms found.0 found.1 in
                elim (member_cases (at.place + 1) at.member) [
                  | inl e ↦
                      let same : at.place ≡ place = omega (arith, e) in
                      let both : Some at.numbered ≡ Some a = sym at.is_there ∙ ap (slice_get axioms) same ∙ there in
                      let is : at.numbered ≡ a = cc both in
                      let named : is_among (axiom_names a.axiom) n ≡ true =
                      (λ j. is_among (axiom_names (sym is j).axiom) n)
                      ∙ ap (λ (x : Axiom). is_among (axiom_names x) n) at.is ∙ found.2 in
                      joined.names.marks.marked n
                      ∙ or_right (is_marked old.marks n) (is_among (axiom_names a.axiom) n && has_place old.marks n)
                      (and_from (is_among (axiom_names a.axiom) n) (has_place old.marks n) named placed)
                  | inr before ↦
                      marked_still n
                      (h.name_is_marked n
                      (name_of_member axioms q old.members.members found.0 at.place at.numbered at.is_there at.is before
                      n found.2)
                      placed)
                ]
          ]

  still_settled : (p : ℕ) (b : Axiom) → is_settled old p b ≡ true → is_settled new p b ≡ true
  still_settled p b h =
      settled_by old p b (is_settled new p b ≡ true) h
      (λ member. by_member new p b (is_part (p + 1) member))
      (λ form. elim (cases_Bool (list_any (is_among new.pending.items) (axiom_names b))) [
        | inl waits ↦ by_name new p b waits
        | inr none ↦ by_form new p b
            (stays_local (is_marked new.marks) (is_marked old.marks) b
            (λ n among marked. true_from_ne_false (is_marked old.marks n)
            (λ fresh. true≢false
            (sym
            (some_passes (is_among new.pending.items) (axiom_names b) n among (joined.names.fresh_wait n marked fresh))
            ∙ none)))
            form)
      ])
      (λ waits.
      let which = which_passes (is_among old.pending.items) (axiom_names b) waits in
      by_name new p b
      (some_passes (is_among new.pending.items) (axiom_names b) which.0 which.1
      (joined.names.still_wait which.0 which.2)))

  pub looked_joined : is_local (is_marked old.marks) a.axiom ≡ false → HasLooked axioms old new (place ∷ [])
  looked_joined open_ = record {
    limit = joined.limit;
    growing = goes_on open_;
    stays = still_settled;
    settled =
        λ p b listed at. by_member new p b.axiom
        (ap (λ (k : ℕ). set.contains new.members.members (k + 1)) (only_place p place listed) ∙ is_member);
    same_room = joined.names.same_room;
  }

-- an axiom that is settled needs nothing
pub looked_settled : (axioms : List Numbered) (g : Growth) (place : ℕ) (a : Numbered) → slice_get axioms place ≡ Some a
    → is_settled g place a.axiom ≡ true → HasLooked axioms g g (place ∷ [])
looked_settled axioms g place a there h = record {
  limit = refl;
  growing = λ q k. k;
  stays = λ p b k. k;
  settled = λ p b listed at.
      let same : p ≡ place = only_place p place listed in
      let both : Some b ≡ Some a = sym at ∙ ap (slice_get axioms) same ∙ there in
      let is : b ≡ a = cc both in
      (λ j. is_settled g (same j) (is j).axiom) ∙ h;
  same_room = refl;
}

pub looked_by_member : (axioms : List Numbered) (g : Growth) (place : ℕ) (a : Numbered)
    → slice_get axioms place ≡ Some a → set.contains g.members.members (place + 1) ≡ true
    → HasLooked axioms g g (place ∷ [])
looked_by_member axioms g place a there h = looked_settled axioms g place a there (by_member g place a.axiom h)

pub looked_by_form : (axioms : List Numbered) (g : Growth) (place : ℕ) (a : Numbered) → slice_get axioms place ≡ Some a
    → is_local (is_marked g.marks) a.axiom ≡ true → HasLooked axioms g g (place ∷ [])
looked_by_form axioms g place a there h = looked_settled axioms g place a there (by_form g place a.axiom h)

-- ---- looks one after another

pub looked_none : (axioms : List Numbered) (g : Growth) → HasLooked axioms g g []
looked_none axioms g = record {
  limit = refl;
  growing = λ q k. k;
  stays = λ p b k. k;
  settled = λ p b listed at. absurd (omega (arith, listed.1));
  same_room = refl;
}

looked_then : (axioms : List Numbered) (a b c : Growth) (ps qs : List ℕ) → HasLooked axioms a b ps
    → HasLooked axioms b c qs → HasLooked axioms a c (ps ++ qs)
looked_then axioms a b c ps qs f g = record {
  limit = g.limit ∙ f.limit;
  growing = λ q k. g.growing q (f.growing q k);
  stays = λ p x k. g.stays p x (f.stays p x k);
  settled =
      λ p x listed at. elim (Contains-append_cases ps qs p listed)
      [ inl first ↦ g.stays p x.axiom (f.settled p x first at) | inr last ↦ g.settled p x last at ];
  same_room = g.same_room ∙ f.same_room;
}

pub looked_more : (axioms : List Numbered) (a b c : Growth) (places : List ℕ) (i d : ℕ) → i < length places
    → HasLooked axioms a b (take i places) → HasLooked axioms b c (get_or places i d ∷ [])
    → HasLooked axioms a c (take (i + 1) places)
looked_more axioms a b c places i d lt f g =
    let e : take (i + 1) places ≡ take i places ++ (get_or places i d ∷ []) =
    let s : i + 1 ≡ suc i = omega arith in ap (λ (k : ℕ). take k places) s ∙ take-suc places i d lt in
    subst (λ (ps : List ℕ). HasLooked axioms a c ps) (sym e)
    (looked_then axioms a b c (take i places) (get_or places i d ∷ []) f g)

-- ---- a name is taken up

-- where the places of a name are looked at, all axioms are settled that were so while the name waited
pub next_settled : (axioms : List Numbered) (u : Users) (old mid new : Growth) (name : Name) (ps : List ℕ)
    → IsIndex axioms (length axioms) u → ps ≡ places_of u name
    → mid.members ≡ old.members → mid.marks ≡ old.marks → old.pending.items ≡ mid.pending.items ++ name ∷ []
    → HasLooked axioms mid new ps → AllSettled axioms old → AllSettled axioms new
next_settled axioms u old mid new name ps index is em ek ep looked all place a within there =
    settled_by old place a.axiom (is_settled new place a.axiom ≡ true) (all place a within there)
    (λ member. looked.stays place a.axiom
    (by_member mid place a.axiom (ap (λ (m : Limited). set.contains m.members (place + 1)) em ∙ member)))
    (λ form. looked.stays place a.axiom
    (by_form mid place a.axiom (ap (λ (m : Marks). is_local (is_marked m) a.axiom) ek ∙ form)))
    (λ waits.
    let which = which_passes (is_among old.pending.items) (axiom_names a.axiom) waits in
    elim (among_cases mid.pending.items (name ∷ []) which.0
    (ap (λ (ns : List Name). is_among ns which.0) (sym ep) ∙ which.2)) [
      | inl still ↦
          looked.stays place a.axiom
          (by_name mid place a.axiom
          (some_passes (is_among mid.pending.items) (axiom_names a.axiom) which.0 which.1 still))
      | inr taken ↦
          let same : which.0 ≡ name = only_name which.0 name taken in
          let uses : is_among (axiom_names a.axiom) name ≡ true =
          ap (is_among (axiom_names a.axiom)) (sym same) ∙ which.1 in
          let kept = index.all_kept name place a within there uses in
          looked.settled place a (subst (λ (xs : List ℕ). Contains xs place) (sym is) kept) there
    ])

pub places_within : (axioms : List Numbered) (u : Users) (name : Name) (ps : List ℕ) → IsIndex axioms (length axioms) u
    → ps ≡ places_of u name → (k d : ℕ) → k < length ps → get_or ps k d < length axioms
places_within axioms u name ps index is k d lt =
    index.within name (get_or ps k d)
    (subst (λ (xs : List ℕ). Contains xs (get_or ps k d)) is (k, lt, get_or_default ps k (get_or ps k d) d lt))

-- ---- the beginning and the end

pub starts : (axioms : List Numbered) (q : Query) (classes roles : ℕ) (m : Marks) (g : Growth) (waited ns : List Name)
    → IsUnmarked classes roles m → ns ≡ query_names q → HasTaken m g.marks waited g.pending.items ns
    → g.members.members ≡ set.empty → all_listed classes roles axioms ≡ true → GrowsFrom axioms q g
starts axioms q classes roles m g waited ns none are taken empty listed = record {
  listed =
      (λ j. all_listed ((taken.marks.same_classes ∙ none.classes_listed) j)
      ((taken.marks.same_roles ∙ none.roles_listed) j) axioms)
      ∙ listed;
  least = λ t closed k member. absurd (true≢false (sym member ∙ no_member k));
  marked_is_name = λ n marked.
      among_left (query_names q) (flat_map axiom_names (axioms_in_set g.members.members axioms)) n
      (elim (or_cases (is_marked m n) (is_among ns n && has_place m n) (sym (taken.marks.marked n) ∙ marked)) [
        | inl before ↦ absurd (true≢false (sym before ∙ none.none_marked n))
        | inr now ↦ ap (λ (xs : List Name). is_among xs n) (sym are) ∙ (and_parts (is_among ns n) (has_place m n) now).0
      ]);
  name_is_marked = λ n among placed.
      elim (among_cases (query_names q) (flat_map axiom_names (axioms_in_set g.members.members axioms)) n among) [
        | inl of_query ↦
            taken.marks.marked n
            ∙ or_right (is_marked m n) (is_among ns n && has_place m n)
            (and_from (is_among ns n) (has_place m n) (ap (λ (xs : List Name). is_among xs n) are ∙ of_query)
            (sym (same_places m g.marks ns taken.marks n) ∙ placed))
        | inr of_axiom ↦
            let found = by_axiom (axioms_in_set g.members.members axioms) n of_axiom in
            let at = in_set g.members.members axioms found.0 found.1 in
            absurd (true≢false (sym at.member ∙ no_member (at.place + 1)))
      ];
}
  where
    no_member : (k : ℕ) → set.contains g.members.members k ≡ false
    no_member k = ap (λ (s : NumberSet). set.contains s k) empty ∙ set.contains-empty nat_cmp k

pub ends : (axioms : List Numbered) (q : Query) (g : Growth) → GrowsFrom axioms q g → AllSettled axioms g
    → g.pending.items ≡ [] → IsWithin (length axioms) g.members.members → IsLocalModule axioms q g.members.members
ends axioms q g grown all none within = record {
  within = within;
  closed = λ place a there open_.
      settled_by g place a.axiom (set.contains g.members.members (place + 1) ≡ true)
      (all place a (slice_get_within axioms place a there) there)
      (λ member. member)
      (λ form. absurd (true≢false
      (sym (stays_local (is_among (module_names axioms q g.members.members)) (is_marked g.marks) a.axiom
      (λ n among named. grown.name_is_marked n named
      (name_placed (length g.marks.classes.items) (length g.marks.roles.items) axioms grown.listed place a there n
      among))
      form)
      ∙ open_)))
      (λ waits.
      let which = which_passes (is_among g.pending.items) (axiom_names a.axiom) waits in
      let clash : false ≡ true = ap (λ (ns : List Name). is_among ns which.0) (sym none) ∙ which.2 in
      absurd (cc clash));
  least = grown.least;
}

-- one axiom more was looked at
pub first_more : (axioms : List Numbered) (count : ℕ) (old new : Growth) → FirstSettled axioms count old
    → HasLooked axioms old new (count ∷ []) → FirstSettled axioms (count + 1) new
first_more axioms count old new first looked place a lt there =
    elim (cases_eq place count) [
      | inl e ↦ looked.settled place a (0, omega arith, sym e) there
      | inr ne ↦ looked.stays place a.axiom (first place a (omega arith) there)
    ]
