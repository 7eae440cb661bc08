-- Which sets can follow.
use Rattle.std.proofs.Common.{◌≡◌, ℕ, zero, suc, ◌+◌, ◌-◌, ◌^◌, ◌≤◌, true, List, [], ◌∷◌, length, map, Option, Some}
use Rattle.std.proofs.Common.{None, refl, ap, sym, ◌∙◌, subst, arith}
use Rattle.std.specs.Prelude.{IfSome}
use Rattle.std.specs.List.{All}
use Rattle.std.specs.Ordering.{nat_cmp, is_lt}
use Rattle.std.specs.Cmp.Lexicographic.{slice_cmp}
use Rattle.std.specs.declared.cmp.Ordering.TheVariants.{Less}
use Rattle.std.proofs.lemmas.Nat.{pow_pos}
use Rattle.axiom_sets.specs.Sets.{Limited, member_list, list_cmp}
use Rattle.pinpointing_specs.specs.Order.{IsAscending}
use Rattle.shq_terms.specs.Listed.{Listed}
use Rattle.finite_model.proofs.Numerals.{Ascend}
use Rattle.audit_file.specs.AuditLists.{follows}
use Rattle.audit_file.specs.Following.{lists_after, can_follow}
use Rattle.audit_file.specs.Written.{IsSetOf}
use Rattle.audit_file.proofs.Following.{most, falls, next_list}
use Rattle.audit_file.proofs.ListedSets.{list_ascends, set_of, set_of_within, set_of_list}

-- ---- sets of a list that ascends

pub rest_ascends : (s : Limited) (sets : List Limited) → IsAscending (s ∷ sets) → IsAscending sets
rest_ascends s sets up i j d less within = up (suc i) (suc j) d (omega (arith, less)) (omega (arith, within))

module _ (o : Listed) where
  numbers_up : (s : Limited) → IsSetOf o s → Ascend 1 (length o.axioms + 1) (member_list s)
  numbers_up s is = subst (λ (n : ℕ). Ascend 1 (n + 1) (member_list s)) is.limit (list_ascends s is.within)

  later_sets : (s : Limited) (sets : List Limited) → IsAscending (s ∷ sets) → All (IsSetOf o) (s ∷ sets)
      → length sets ≤ can_follow (length o.axioms) (Some s)
  later_sets s [] up of = omega arith
  later_sets s (t ∷ sets) up of =
      let first : IsSetOf o s = of 0 s (omega arith) in
      let second : IsSetOf o t = of 1 s (omega arith) in
      let less : list_cmp s t ≡ Less = up 0 1 s (omega arith) (omega arith) in
      let fewer =
      falls (length o.axioms) 0 (member_list s) (member_list t) (numbers_up s first) (numbers_up t second) less in
      omega
      (arith, fewer, later_sets t sets (rest_ascends s (t ∷ sets) up) (λ k d lt. of (suc k) d (omega (arith, lt))))

  whole_range : can_follow (length o.axioms) None ≡ 2 ^ (length o.axioms - 0)
  whole_range = let e : length o.axioms ≡ length o.axioms - 0 = omega arith in ap (λ (n : ℕ). 2 ^ n) e

  all_sets : (sets : List Limited) → IsAscending sets → All (IsSetOf o) sets
      → length sets ≤ can_follow (length o.axioms) None
  all_sets [] up of = omega arith
  all_sets (s ∷ sets) up of =
      let first : IsSetOf o s = of 0 s (omega arith) in
      omega (
        arith,
        later_sets s sets up of,
        most (length o.axioms) 0 (member_list s) (numbers_up s first),
        whole_range,
        pow_pos (length o.axioms - 0),
      )

module _ {X : Type 0} (set_in : X → Limited) (o : Listed) where
  all_mapped : (xs : List X) → All (λ (x : X). IsSetOf o (set_in x)) xs → All (IsSetOf o) (map set_in xs)
  all_mapped [] of k d lt = absurd (omega (arith, lt))
  all_mapped (x ∷ xs) of zero d lt = of 0 x (omega arith)
  all_mapped (x ∷ xs) of (suc k) d lt =
      all_mapped xs (λ j e less. of (suc j) e (omega (arith, less))) k d (omega (arith, lt))

  same_length : (xs : List X) → length (map set_in xs) ≡ length xs
  same_length [] = refl
  same_length (x ∷ xs) = ap suc (same_length xs)

  pub room_behind : (x : X) (xs : List X) → IsAscending (map set_in (x ∷ xs))
      → All (λ (y : X). IsSetOf o (set_in y)) (x ∷ xs) → length xs ≤ can_follow (length o.axioms) (Some (set_in x))
  room_behind x xs up of =
      omega (arith, later_sets o (set_in x) (map set_in xs) up (all_mapped (x ∷ xs) of), same_length xs)

  pub room_of_all : (xs : List X) → IsAscending (map set_in xs) → All (λ (y : X). IsSetOf o (set_in y)) xs
      → length xs ≤ can_follow (length o.axioms) None
  room_of_all xs up of = omega (arith, all_sets o (map set_in xs) up (all_mapped xs of), same_length xs)

-- ---- a set that can come next

-- a set of axioms that comes after the one before it, and after which so many more can come
pub record IsNextSet (o : Listed) (before : Option Limited) (more : ℕ) (s : Limited) : Type 0 where
  pub is_set : IsSetOf o s
  pub after : follows before s ≡ true
  pub room : more ≤ can_follow (length o.axioms) (Some s)

set_by : (o : Listed) (before : Option Limited) (more : ℕ) (xs : List ℕ) → Ascend 1 (length o.axioms + 1) xs
    → ((s : Limited) → member_list s ≡ xs → follows before s ≡ true)
    → more ≤ lists_after (length o.axioms) 0 xs → (s : Limited) × IsNextSet o before more s
set_by o before more xs up after room =
    let n = length o.axioms in
    let s = set_of n xs in
    let list : member_list s ≡ xs = set_of_list n xs up in (
      s,
      record {
        is_set = record { limit = refl; within = set_of_within n xs up };
        after = after s list;
        room = subst (λ (ys : List ℕ). more ≤ lists_after n 0 ys) (sym list) room;
      },
    )

pub next_set : (o : Listed) (before : Option Limited) (more : ℕ) → IfSome before (IsSetOf o)
    → suc more ≤ can_follow (length o.axioms) before → (s : Limited) × IsNextSet o before more s
next_set o None more of room =
    set_by o None more [] tt (λ s is. refl) (omega (arith, room, whole_range o))
next_set o (Some t) more of room =
    let r = next_list (length o.axioms) 0 (member_list t) (numbers_up o t of) (omega (arith, room)) in
    let leaves = r.1.leaves in
    set_by o (Some t) more r.0 r.1.ascends
    (λ s is. ap (λ (ys : List ℕ). is_lt (slice_cmp nat_cmp (member_list t) ys)) is ∙ ap is_lt r.1.later)
    (omega (arith, room, leaves))
