-- What one member or one pair more adds to an interpretation.
use Rattle.std.proofs.Common.{◌≡◌, ℕ, ◌&&◌, ◌||◌, eqb, Bool, true, List, [], ◌∷◌, refl, ap, ◌∙◌, sym, subst}
use Rattle.std.specs.Prelude.{nat_eq}
use Rattle.std.specs.List.{list_any}
use Rattle.std.specs.BTreeSet.{insert_key}
use Rattle.std.specs.declared.cmp.Ordering.{Ordering}
use Rattle.std.specs.declared.cmp.Ordering.TheVariants.{Less, Equal, Greater}
use Rattle.std.specs.Ordering.{match_ordering, nat_cmp, ordering_then}
use Rattle.std.proofs.Math.Bool.{or_comm, or_assoc, or-false}
use Rattle.std.proofs.lemmas.Map.Lookups.{exact_unsigned}
use Rattle.finite_model.specs.ModelLists.{ModelLists, is_member, is_link, member_cmp, link_cmp, with_member, with_link}
use Rattle.model_builder.specs.Gains.{HasMembers, HasLinks}
use Rattle.model_builder.proofs.Tests.{or_absorbs}

module _ {T : Type 0} (cmp : T → T → Ordering) (p : T → Bool) (u : T)
    (same : (t : T) → cmp u t ≡ Equal → p t ≡ p u) where
  any_inserted : (ts : List T) → list_any p (insert_key cmp ts u) ≡ (list_any p ts || p u)
  any_inserted [] = or-false (p u)
  any_inserted (t ∷ ts) = by (cmp u t) refl (any_inserted ts)
    where
      by : (o : Ordering) → cmp u t ≡ o → list_any p (insert_key cmp ts u) ≡ (list_any p ts || p u)
          → list_any p (match_ordering o (u ∷ t ∷ ts) (t ∷ ts) (t ∷ insert_key cmp ts u))
          ≡ (p t || list_any p ts || p u)
      by Less e rest = or_comm (p u) (p t || list_any p ts)
      by Equal e rest = or_absorbs (p t) (list_any p ts) (p u) (same t e)
      by Greater e rest = ap (λ (b : Bool). p t || b) rest ∙ sym (or_assoc (p t) (list_any p ts) (p u))

then_equal : (a b : Ordering) → ordering_then a b ≡ Equal → (a ≡ Equal) × (b ≡ Equal)
then_equal Equal b h = (refl, h)
then_equal Less b h = cc
then_equal Greater b h = cc

same_member : (a x : ℕ) (u t : ℕ × ℕ) → member_cmp u t ≡ Equal → is_member a x t ≡ is_member a x u
same_member a x u t h =
    let e = then_equal (nat_cmp u.0 t.0) (nat_cmp u.1 t.1) h in
    let first : t.0 ≡ u.0 = sym (exact_unsigned u.0 t.0 e.0) in
    let second : t.1 ≡ u.1 = sym (exact_unsigned u.1 t.1 e.1) in
    λ i. nat_eq (first i) a && nat_eq (second i) x

same_link : (s x y : ℕ) (u t : ℕ × ℕ × ℕ) → link_cmp u t ≡ Equal → is_link s x y t ≡ is_link s x y u
same_link s x y u t h =
    let e = then_equal (nat_cmp u.0 t.0) (ordering_then (nat_cmp u.1 t.1) (nat_cmp u.2 t.2)) h in
    let d = then_equal (nat_cmp u.1 t.1) (nat_cmp u.2 t.2) e.1 in
    let role : t.0 ≡ u.0 = sym (exact_unsigned u.0 t.0 e.0) in
    let from : t.1 ≡ u.1 = sym (exact_unsigned u.1 t.1 d.0) in
    let to : t.2 ≡ u.2 = sym (exact_unsigned u.2 t.2 d.1) in
    λ i. nat_eq (role i) s && nat_eq (from i) x && nat_eq (to i) y

pub member_gained : (k : ModelLists) (a x : ℕ) → HasMembers k (with_member a x k) (λ b y. eqb a b && eqb x y)
member_gained k a x = record {
  same_size = refl;
  same_links = refl;
  same_individuals = refl;
  members_are = λ b y. any_inserted member_cmp (is_member b y) (a, x) (same_member b y (a, x)) k.members;
}

pub link_gained : (k : ModelLists) (r v u : ℕ) → HasLinks k (with_link r v u k) (λ s x y. eqb r s && eqb v x && eqb u y)
link_gained k r v u = record {
  same_size = refl;
  same_members = refl;
  same_individuals = refl;
  links_are = λ s x y lt mt. any_inserted link_cmp (is_link s x y) (r, v, u) (same_link s x y (r, v, u)) k.links;
}

pub member_put : (k n : ModelLists) (a x : ℕ) → n ≡ with_member a x k → HasMembers k n (λ b y. eqb a b && eqb x y)
member_put k n a x is =
    subst (λ (m : ModelLists). HasMembers k m (λ b y. eqb a b && eqb x y)) (sym is) (member_gained k a x)

-- the pair is put where a condition holds
pub link_put_where : (k n : ModelLists) (b : Bool) (r v u : ℕ) → b ≡ true → n ≡ with_link r v u k
    → HasLinks k n (λ s x y. b && (eqb r s && eqb v x && eqb u y))
link_put_where k n b r v u put is =
    subst (λ (t : Bool). HasLinks k n (λ s x y. t && (eqb r s && eqb v x && eqb u y))) (sym put)
    (subst (λ (m : ModelLists). HasLinks k m (λ s x y. eqb r s && eqb v x && eqb u y)) (sym is) (link_gained k r v u))
