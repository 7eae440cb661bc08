-- What is put into an interpretation leaves its elements in the domain.
use Rattle.std.proofs.Common.{◌≡◌, ℕ, ◌<◌, ◌≤◌, Bool, true, false, ◌&&◌, cond, List, [], ◌∷◌, ◌^◌, Option, Some, refl}
use Rattle.std.proofs.Common.{ap, ◌∙◌, arith}
use Rattle.std.specs.Prelude.{nat_eq, nat_lt, IsTrue, unwrap_or}
use Rattle.std.specs.List.{list_all}
use Rattle.std.specs.List.Sorted.{IsStrictlySortedBy}
use Rattle.std.specs.BTreeSet.{insert_key}
use Rattle.std.specs.BTreeMap.{insert_entry, is_at}
use Rattle.std.specs.Map.{lookup, remove_entry, keys_of}
use Rattle.std.specs.declared.cmp.Ordering.{Ordering}
use Rattle.std.specs.declared.cmp.Ordering.TheVariants.{Less, Equal, Greater}
use Rattle.std.specs.Ordering.{nat_cmp, match_ordering}
use Rattle.std.proofs.lemmas.Bool.{and_parts, and_from}
use Rattle.std.proofs.lemmas.Bool.Decides.{nat_tests}
use Rattle.shq_terms.specs.Listed.{Listed}
use Rattle.finite_model.specs.Written.{uses_listed_names}
use Rattle.finite_model.specs.ReadBack.{IsKept}
use Rattle.shq_meaning.specs.Truth.{PlacesIndividuals}
use Rattle.finite_model.specs.ModelLists.{ModelLists, IsDomain, member_cmp, link_cmp, tuple_cmp, individuals_below}
use Rattle.finite_model.specs.ModelLists.{element_at, meaning}

module _ {T : Type 0} (cmp : T → T → Ordering) (p : T → Bool) where
  all_inserted : (ts : List T) (u : T) → list_all p ts ≡ true → p u ≡ true → list_all p (insert_key cmp ts u) ≡ true
  all_inserted [] u all here = and_from (p u) true here refl
  all_inserted (t ∷ ts) u all here =
      let parts = and_parts (p t) (list_all p ts) all in
      by (cmp u t) parts.0 parts.1 (all_inserted ts u parts.1 here)
    where
      by : (o : Ordering) → p t ≡ true → list_all p ts ≡ true → list_all p (insert_key cmp ts u) ≡ true
          → list_all p (match_ordering o (u ∷ t ∷ ts) (t ∷ ts) (t ∷ insert_key cmp ts u)) ≡ true
      by Less first rest more = and_from (p u) (p t && list_all p ts) here (and_from (p t) (list_all p ts) first rest)
      by Equal first rest more = and_from (p t) (list_all p ts) first rest
      by Greater first rest more = and_from (p t) (list_all p (insert_key cmp ts u)) first more

pub member_put : (size a x : ℕ) (ms : List (ℕ × ℕ)) (ls : List (ℕ × ℕ × ℕ)) (ps : List (ℕ × ℕ)) → IsDomain size ms ls ps
    → x < size → IsDomain size (insert_key member_cmp ms (a, x)) ls ps
member_put size a x ms ls ps inside below =
    let is : nat_lt x size ≡ true = grind (arith, nat_tests) in
    record {
      some = inside.some;
      links_inside = inside.links_inside;
      individuals_inside = inside.individuals_inside;
      members_inside = all_inserted member_cmp (λ m. nat_lt m.1 size) ms (a, x) inside.members_inside is;
    }

pub link_put : (size r x y : ℕ) (ms : List (ℕ × ℕ)) (ls : List (ℕ × ℕ × ℕ)) (ps : List (ℕ × ℕ)) → IsDomain size ms ls ps
    → x < size → y < size → IsDomain size ms (insert_key tuple_cmp ls (r, x, y)) ps
link_put size r x y ms ls ps inside from to =
    let is_from : nat_lt x size ≡ true = grind (arith, nat_tests) in
    let is_to : nat_lt y size ≡ true = grind (arith, nat_tests) in
    record {
      some = inside.some;
      members_inside = inside.members_inside;
      individuals_inside = inside.individuals_inside;
      links_inside =
          all_inserted tuple_cmp (λ l. nat_lt l.1 size && nat_lt l.2 size) ls (r, x, y) inside.links_inside
          (and_from (nat_lt x size) (nat_lt y size) is_from is_to);
    }

-- ---- individuals

module _ (p : ℕ × ℕ → Bool) where
  all_removed : (a : ℕ) (ps : List (ℕ × ℕ)) → list_all p ps ≡ true
      → list_all p (remove_entry (is_at (nat_cmp a)) ps) ≡ true
  all_removed a [] all = refl
  all_removed a (q ∷ ps) all =
      let parts = and_parts (p q) (list_all p ps) all in
      by (is_at (nat_cmp a) q.0) parts.0 parts.1 (all_removed a ps parts.1)
    where
      by : (b : Bool) → p q ≡ true → list_all p ps ≡ true → list_all p (remove_entry (is_at (nat_cmp a)) ps) ≡ true
          → list_all p (cond b ps (q ∷ remove_entry (is_at (nat_cmp a)) ps)) ≡ true
      by true first rest fewer = rest
      by false first rest fewer = and_from (p q) (list_all p (remove_entry (is_at (nat_cmp a)) ps)) first fewer

  all_entered : (a x : ℕ) (ps : List (ℕ × ℕ)) → list_all p ps ≡ true → ((b : ℕ) → p (b, x) ≡ true)
      → list_all p (insert_entry nat_cmp ps a x) ≡ true
  all_entered a x [] all here = and_from (p (a, x)) true (here a) refl
  all_entered a x (q ∷ ps) all here =
      let parts = and_parts (p q) (list_all p ps) all in
      by (nat_cmp a q.0) parts.0 parts.1 (all_entered a x ps parts.1 here)
    where
      by : (o : Ordering) → p q ≡ true → list_all p ps ≡ true → list_all p (insert_entry nat_cmp ps a x) ≡ true
          → list_all p (match_ordering o ((a, x) ∷ q ∷ ps) ((q.0, x) ∷ ps) (q ∷ insert_entry nat_cmp ps a x)) ≡ true
      by Less first rest more =
          and_from (p (a, x)) (p q && list_all p ps) (here a) (and_from (p q) (list_all p ps) first rest)
      by Equal first rest more = and_from (p (q.0, x)) (list_all p ps) (here q.0) rest
      by Greater first rest more = and_from (p q) (list_all p (insert_entry nat_cmp ps a x)) first more

module _ (size a x : ℕ) (ms : List (ℕ × ℕ)) (ls : List (ℕ × ℕ × ℕ)) (ps : List (ℕ × ℕ))
    (inside : IsDomain size ms ls ps) where
  pub individual_removed : IsDomain size ms ls (remove_entry (is_at (nat_cmp a)) ps)
  individual_removed = record {
    some = inside.some;
    members_inside = inside.members_inside;
    links_inside = inside.links_inside;
    individuals_inside = all_removed (λ p. nat_lt 0 p.1 && nat_lt p.1 size) a ps inside.individuals_inside;
  }

  pub individual_entered : ¬ (x ≡ 0) → x < size → IsDomain size ms ls (insert_entry nat_cmp ps a x)
  individual_entered other below =
      let some : nat_lt 0 x ≡ true = grind (arith, nat_tests) in
      let less : nat_lt x size ≡ true = grind (arith, nat_tests) in
      record {
        some = inside.some;
        members_inside = inside.members_inside;
        links_inside = inside.links_inside;
        individuals_inside =
            all_entered (λ p. nat_lt 0 p.1 && nat_lt p.1 size) a x ps inside.individuals_inside
            (λ b. and_from (nat_lt 0 x) (nat_lt x size) some less);
      }

pub element_below : (size a : ℕ) (ps : List (ℕ × ℕ)) → 1 ≤ size → individuals_below size ps ≡ true
    → element_at ps a < size
element_below size a [] some all = omega arith
element_below size a (q ∷ ps) some all =
    let parts = and_parts (nat_lt 0 q.1 && nat_lt q.1 size) (individuals_below size ps) all in
    let both = and_parts (nat_lt 0 q.1) (nat_lt q.1 size) parts.0 in
    by (is_at (nat_cmp a) q.0) both.1 (element_below size a ps some parts.1)
  where
    by : (b : Bool) → nat_lt q.1 size ≡ true → element_at ps a < size
        → unwrap_or (cond b (Some q.1) (lookup (is_at (nat_cmp a)) ps)) 0 < size
    by true here rest = grind (arith, nat_tests)
    by false here rest = rest

-- each individual is one of the elements
pub placed_inside : (k : ModelLists) → IsDomain k.size k.members k.links k.individuals → PlacesIndividuals (meaning k)
placed_inside k inside a = element_below k.size a k.individuals inside.some inside.individuals_inside

-- the element that was put stands, and no other individual changes
pub stands : (a x b : ℕ) (old new w : Option ℕ) → unwrap_or w 0 ≡ x → new ≡ cond (is_at (nat_cmp a) b) w old
    → unwrap_or new 0 ≡ cond (nat_eq b a) x (unwrap_or old 0)
stands a x b old new w is changed =
    let same : is_at (nat_cmp a) b ≡ nat_eq b a = grind (arith, nat_tests) in
    ap (λ (v : Option ℕ). unwrap_or v 0) changed ∙ ap (λ t. unwrap_or (cond t w old) 0) same ∙ by (nat_eq b a)
  where
    by : (t : Bool) → unwrap_or (cond t w old) 0 ≡ cond t x (unwrap_or old 0)
    by true = is
    by false = refl

-- what is kept of an interpretation whose classes, roles and individuals are listed
pub is_kept : (o : Listed) (k : ModelLists) → IsTrue (uses_listed_names o k)
    → IsDomain k.size k.members k.links k.individuals → k.size < 2 ^ 32 → IsStrictlySortedBy member_cmp k.members
    → IsStrictlySortedBy link_cmp k.links → IsStrictlySortedBy nat_cmp (keys_of k.individuals) → IsKept o k
is_kept o k listed inside small members links individuals = record {
  some = inside.some;
  small = small;
  listed = listed;
  members_ascend = members;
  members_inside = inside.members_inside;
  links_ascend = links;
  links_inside = inside.links_inside;
  individuals_ascend = individuals;
  individuals_inside = inside.individuals_inside;
}
