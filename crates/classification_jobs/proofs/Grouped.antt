-- The sets of classes from which groups are made.
use Rattle.std.proofs.Common.{◌≡◌, ℕ, ◌+◌, ◌<◌, ◌&&◌, not, Bool, true, false, eqb, List, [], ◌∷◌}
use Rattle.std.proofs.Common.{map, refl, ap, ◌∙◌, arith}
use Rattle.std.specs.List.{list_all}
use Rattle.std.specs.FinSet as set
use Rattle.std.proofs.lemmas.Bool.{and_from}
use Rattle.lane_sieve.specs.Sets.{NumberSet, passing}
use Rattle.axiom_sets.specs.Sets.{Limited}
use Rattle.classification_jobs.specs.TaxonomyLists.{GroupLists}
use Rattle.classifier.specs.Groups.{Parthood, is_equal, is_first}
use Rattle.classifier.specs.ClassNames.{are_listed}
use Rattle.classifier.specs.ClassSets.{has_class, class_list, HoldsClasses}
use Rattle.classifier.proofs.Passing.{below-passing}
use Rattle.classifier.proofs.Members.{taken_out, class_list-holds}
use Rattle.classification_jobs.specs.Taxonomies.{is_above, is_parent, group_of, hierarchy_of}
use Rattle.classification_jobs.specs.Listing.{group_is_listed, hierarchy_is_listed}

and_turn : (a b c : Bool) → ((a && b) && c) ≡ (b && (a && c))
and_turn true true c = refl
and_turn true false c = refl
and_turn false true c = refl
and_turn false false c = refl

false_last : (a b c : Bool) → b ≡ false → ((a && b) && c) ≡ false
false_last a true c e = absurd (cc e)
false_last true false c e = refl
false_last false false c e = refl

module _ (count : ℕ) (r : Parthood) (class : ℕ) where
  -- the first classes of other groups that hold the class
  pub upper_ones : (s t u a : Limited) → HoldsClasses count (is_first count r) s → t.limit ≡ s.limit → u.limit ≡ t.limit
      → t.members ≡ set.remove s.members (class + 1)
      → ((x : ℕ) → x < count + 2 → set.contains a.members (x + 1) ≡ r class x)
      → ((x : ℕ) → has_class u x ≡ (has_class t x && has_class a x))
      → HoldsClasses count (is_above count r class) u
  upper_ones s t u a firsts limit limit' taken above rest = record {
    limit = limit' ∙ limit ∙ firsts.limit;
    inside =
        λ x lt. whole x ∙ (λ i. (not (eqb x class) && firsts.inside x lt i) && above x (omega arith) i)
        ∙ and_turn (not (eqb x class)) (is_first count r x) (r class x);
    outside = λ x ge. whole x ∙ false_last (not (eqb x class)) (has_class s x) (has_class a x) (firsts.outside x ge);
  }
    where
      whole : (x : ℕ) → has_class u x ≡ ((not (eqb x class) && has_class s x) && has_class a x)
      whole x =
          rest x ∙ ap (λ (v : Bool). v && has_class a x)
          (ap (λ (m : NumberSet). set.contains m (x + 1)) taken ∙ taken_out s.members class x)

  pub group_is : (g : GroupLists) (e : Limited) → HoldsClasses count (is_equal count r class) e
      → g.classes ≡ class_list e → g.parents ≡ passing (is_parent count r class) 0 count → g ≡ group_of count r class
  unfolding group_of
  group_is g e equal classes parents =
      λ i. record {
        classes = (classes ∙ class_list-holds count (is_equal count r class) e equal) i;
        parents = parents i;
      }

-- ---- all classes are listed

module _ (count : ℕ) (r : Parthood) where
  group_listed : (x : ℕ) → group_is_listed count (group_of count r x) ≡ true
  unfolding group_of
  group_listed x =
      and_from (are_listed count (group_of count r x).classes) (are_listed count (group_of count r x).parents)
      (below-passing (is_equal count r x) count) (below-passing (is_parent count r x) count)

  groups_listed : (xs : List ℕ) → list_all (group_is_listed count) (map (group_of count r) xs) ≡ true
  groups_listed [] = refl
  groups_listed (x ∷ xs) =
      and_from (group_is_listed count (group_of count r x))
      (list_all (group_is_listed count) (map (group_of count r) xs)) (group_listed x) (groups_listed xs)

  pub hierarchy_listed : hierarchy_is_listed count (hierarchy_of count r) ≡ true
  unfolding hierarchy_of
  hierarchy_listed =
      let h = hierarchy_of count r in
      and_from (are_listed count h.nothing) (are_listed count h.thing && list_all (group_is_listed count) h.groups)
      (below-passing (λ x. r x (count + 1)) count)
      (and_from (are_listed count h.thing) (list_all (group_is_listed count) h.groups) (below-passing (r count) count)
      (groups_listed (passing (is_first count r) 0 count)))
