-- Names that come in, one after another.
use Rattle.std.proofs.Common.{◌≡◌, ℕ, suc, ◌+◌, ◌<◌, Bool, true, false, ◌&&◌, ◌||◌, List, [], ◌∷◌, ◌++◌, length, take}
use Rattle.std.proofs.Common.{get_or, refl, ap, sym, ◌∙◌, subst, arith, inl, inr}
use Rattle.std.proofs.Math.Seq.{take-suc}
use Rattle.std.proofs.lemmas.Bool.{cases_Bool}
use Rattle.std.proofs.lemmas.List.Folds.{list_any-append}
use Rattle.std.proofs.Math.Bool.{or-false}
use Rattle.shq_terms.proofs.Bools.{or_and_gathered}
use Rattle.pinpointing_specs.specs.declared.module_laws.Name.{Name}
use Rattle.pinpointing_specs.specs.Signature.{same_name, is_among}
use Rattle.module_extract.specs.declared.marks.Marks.{Marks}
use Rattle.module_extract.specs.Marks.{is_listed, has_place, is_marked, HasMarked}
use Rattle.module_extract.specs.Growth.{HasTaken}

pub same_places : (old new : Marks) (names : List Name) → HasMarked old new names → (n : Name)
    → has_place new n ≡ has_place old n
same_places old new names h n = λ j. is_listed (h.same_classes j) (h.same_roles j) n

marked_none : (m : Marks) → HasMarked m m []
marked_none m = record { same_classes = refl; same_roles = refl; marked = λ n. sym (or-false (is_marked m n)) }

marked_then : (a b c : Marks) (ms ns : List Name) → HasMarked a b ms → HasMarked b c ns → HasMarked a c (ms ++ ns)
marked_then a b c ms ns f g = record {
  same_classes = g.same_classes ∙ f.same_classes;
  same_roles = g.same_roles ∙ f.same_roles;
  marked = λ n.
      g.marked n
      ∙ (λ j. f.marked n j || (is_among ns n && same_places a b ms f n j))
      ∙ or_and_gathered (is_marked a n) (is_among ms n) (is_among ns n) (has_place a n)
      ∙ ap (λ (v : Bool). is_marked a n || (v && has_place a n)) (sym (list_any-append (same_name n) ms ns));
}

pub taken_none : (m : Marks) (waiting : List Name) → HasTaken m m waiting waiting []
taken_none m waiting = record {
  marks = marked_none m;
  still_wait = λ n h. h;
  fresh_wait = λ n h k. let clash : true ≡ false = sym h ∙ k in absurd (cc clash);
  same_room = refl;
}

taken_then : (a b c : Marks) (ws xs ys : List Name) (ms ns : List Name) → HasTaken a b ws xs ms → HasTaken b c xs ys ns
    → HasTaken a c ws ys (ms ++ ns)
taken_then a b c ws xs ys ms ns f g = record {
  marks = marked_then a b c ms ns f.marks g.marks;
  still_wait = λ n h. g.still_wait n (f.still_wait n h);
  fresh_wait = λ n h k. elim (cases_Bool (is_marked b n)) [
    | inl before ↦ g.still_wait n (f.fresh_wait n before k)
    | inr not_before ↦ g.fresh_wait n h not_before
  ];
  same_room = g.same_room ∙ f.same_room;
}

-- one name more of a list
pub taken_more : (a b c : Marks) (ws xs ys : List Name) (names : List Name) (i : ℕ) (d : Name) → i < length names
    → HasTaken a b ws xs (take i names) → HasTaken b c xs ys (get_or names i d ∷ [])
    → HasTaken a c ws ys (take (i + 1) names)
taken_more a b c ws xs ys names i d lt f g =
    let e : take (i + 1) names ≡ take i names ++ (get_or names i d ∷ []) =
    let s : i + 1 ≡ suc i = omega arith in ap (λ (k : ℕ). take k names) s ∙ take-suc names i d lt in
    subst (λ (ns : List Name). HasTaken a c ws ys ns) (sym e)
    (taken_then a b c ws xs ys (take i names) (get_or names i d ∷ []) f g)
