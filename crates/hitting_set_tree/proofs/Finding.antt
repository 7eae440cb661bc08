-- What the lists are once the tree is done.
use Rattle.std.proofs.Common.{◌≡◌, ℕ, ◌-◌, ◌++◌, List, length, Bool, true, false, cond, sym, ◌∙◌, subst, inl, inr}
use Rattle.std.specs.Prelude.{◌↔◌}
use Rattle.std.specs.List.{Contains}
use Rattle.std.proofs.lemmas.Bool.{true≢false}
use Rattle.std.proofs.lemmas.List.Elements.{Contains-append_cases}
use Rattle.lane_sieve.specs.Sets.{NumberSet}
use Rattle.axiom_sets.specs.Sets.{Limited}
use Rattle.pinpointing_specs.specs.Smallest.{Grows, HasPart, IsExplored}
use Rattle.pinpointing_specs.specs.Order.{IsAscending}
use Rattle.pinpointing_specs.specs.Nodes.{AreNodes, AreSettled}
use Rattle.pinpointing_specs.proofs.Explored.{laws_of_lists}
use Rattle.set_questions.specs.Meaning.{Meaning}
use Rattle.set_questions.specs.InOrder.{HaveOneLimit}
use Rattle.hitting_set_tree.specs.declared.tree.Found.{Found}
use Rattle.hitting_set_tree.specs.Tree.{Lists, LacksSome, AreSettledOrOpen, HasFoundIn, ListsShown, HoldsLists, IsGrown}
use Rattle.hitting_set_tree.specs.Open.{Closes, HasOpen, IsEnded}
use Rattle.hitting_set_tree.specs.Found.{IsFound}
use Rattle.hitting_set_tree.proofs.Opening.{settled_still}

-- the same sets are listed in another order
module _ (justifications justifications' : List Limited)
    (same : (s : Limited) → Contains justifications' s ↔ Contains justifications s) where
  nodes_same : (taken : List Limited) → AreNodes justifications taken → AreNodes justifications' taken
  nodes_same taken nodes = (
    nodes.0,
    record {
      distinct = nodes.1.distinct;
      root = nodes.1.root;
      parent = λ k d pos lt. let up = nodes.1.parent k d pos lt in (up.0, up.1, (same (nodes.0 up.0)).1 up.2, up.3);
    },
  )

  settled_same : (leaves taken : List Limited) (count : ℕ) → AreSettled justifications leaves taken count
      → AreSettled justifications' leaves taken count
  settled_same leaves taken count settled k d low lt =
      settled_still justifications justifications' leaves leaves _ (λ x at. (same x).1 at) (λ x at. at)
      (settled k d low lt)

  explored_same : (holds : NumberSet → Type 0) (limit : ℕ) (leaves : List Limited)
      → IsExplored holds limit justifications leaves → IsExplored holds limit justifications' leaves
  explored_same holds limit leaves explored =
      record {
        limits = λ j at. explored.limits j ((same j).0 at);
        smallest = λ j at. explored.smallest j ((same j).0 at);
        leaf_limits = explored.leaf_limits;
        ends = explored.ends;
        covered = λ t meets. explored.covered t (λ j at. meets j ((same j).1 at));
      }

  open_same : (m : Meaning) (leaves : List Limited) → AreSettledOrOpen m justifications leaves
      → AreSettledOrOpen m justifications' leaves
  open_same m leaves each k d lt = elim (each k d lt) [
    | inl is ↦
        inl (settled_still justifications justifications' leaves leaves _ (λ x at. (same x).1 at) (λ x at. at) is)
    | inr left ↦ inr left
  ]

  part_same : (s : NumberSet) → HasPart justifications s → HasPart justifications' s
  part_same s part = (part.0, (same part.0).1 part.1, part.2)

  found_same : (m : Meaning) (s : NumberSet) (finished : Bool) → HasFoundIn m justifications s finished
      → HasFoundIn m justifications' s finished
  found_same m s true found = part_same s found
  found_same m s false found = elim found [ inl part ↦ inl (part_same s part) | inr left ↦ inr left ]

  pub shown_same : (m m' : Meaning) (finished : Bool) → ListsShown m m' justifications finished
      → ListsShown m m' justifications' finished
  shown_same m m' finished each s shown =
      elim (each s shown) [ inl before ↦ inl before | inr found ↦ inr (found_same m' s finished found) ]

  lacks_same : (leaves : List Limited) → LacksSome justifications leaves → LacksSome justifications' leaves
  lacks_same leaves lacks = (lacks.0, λ j at. lacks.1 j ((same j).0 at), lacks.2)

-- all sets that are listed have one limit
one_limit : (n : ℕ) (xs ys : List Limited) → ((x : Limited) → Contains xs x → x.limit ≡ n)
    → ((y : Limited) → Contains ys y → y.limit ≡ n) → HaveOneLimit (xs ++ ys)
one_limit n xs ys left right s t s_at t_at =
    let each : (x : Limited) → Contains (xs ++ ys) x → x.limit ≡ n =
    λ x at. elim (Contains-append_cases xs ys x at) [ inl front ↦ left x front | inr back ↦ right x back ] in
    each s s_at ∙ sym (each t t_at)

pub found_lists : (m : Meaning) (ls : Lists) (f : Found) → Grows m.holds → IsAscending f.justifications.items
    → ((s : Limited) → Contains f.justifications.items s ↔ Contains ls.justifications s) → f.leaves.items ≡ ls.leaves
    → Closes m.taken ls f.finished → IsGrown m ls f.finished → IsFound m f
found_lists m ls f grows order same leaves closes grown =
    let js = f.justifications.items in
    let listed = grown.listed in
    let just_limits : (j : Limited) → Contains js j → j.limit ≡ m.size = λ j at. listed.just_limits j ((same j).0 at) in
    let leaf : (l : Limited) → Contains f.leaves.items l → Contains ls.leaves l =
    λ l at. subst (λ (xs : List Limited). Contains xs l) leaves at in
    let leaf_limits : (l : Limited) → Contains f.leaves.items l → l.limit ≡ m.size =
    λ l at. listed.leaf_limits l (leaf l at) in
    let explored : f.finished ≡ true → IsExplored m.holds m.size js f.leaves.items = λ e.
    subst (λ (xs : List Limited). IsExplored m.holds m.size js xs) (sym leaves)
    (explored_same ls.justifications js same m.holds m.size ls.leaves (grown.explored e)) in
    record {
      order = order;
      just_limits = just_limits;
      smallest = λ j at. listed.smallest j ((same j).0 at);
      shown_yes = λ j at. listed.shown_yes j ((same j).0 at);
      leaf_limits = leaf_limits;
      leaf_taken = λ l at. closes.1 l (leaf l at);
      ends = λ l at. listed.ends l (leaf l at);
      shown_no = λ l at. listed.shown_no l (leaf l at);
      limits = one_limit m.size js f.leaves.items just_limits leaf_limits;
      nodes = nodes_same ls.justifications js same m.taken closes.0;
      settled =
          subst
          (λ (xs : List Limited). AreSettled js xs m.taken (cond f.finished (length m.taken) (length m.taken - 1)))
          (sym leaves)
          (settled_same ls.justifications js same ls.leaves m.taken
          (cond f.finished (length m.taken) (length m.taken - 1)) closes.2);
      all =
          λ e s limit smallest. (laws_of_lists m.holds m.size js f.leaves.items grows (explored e) s limit).1 smallest;
      explored = explored;
      spent = grown.spent;
      lacks =
          λ e. subst (λ (xs : List Limited). LacksSome js xs) (sym leaves)
          (lacks_same ls.justifications js same ls.leaves (grown.lacks e));
      left_open =
          λ e. subst (λ (xs : List Limited). AreSettledOrOpen m js xs) (sym leaves)
          (open_same ls.justifications js same m ls.leaves (grown.left_open e));
    }

-- the budget was spent
pub closes_ended : (taken : List Limited) (ls : Lists) → IsEnded taken ls → Closes taken ls false
closes_ended taken ls end = (end.nodes, end.leaf_taken, end.settled)

-- the budget sufficed
pub closes_open : (taken : List Limited) (ls : Lists) (rooted : ℕ) → HasOpen taken ls rooted → Closes taken ls true
closes_open taken ls rooted state = ((state.0, state.1.tree), state.1.leaf_taken, state.1.settled)

pub grown_spent : (m : Meaning) (ls : Lists) → HoldsLists m ls → m.left ≡ 0 → LacksSome ls.justifications ls.leaves
    → AreSettledOrOpen m ls.justifications ls.leaves → IsGrown m ls false
grown_spent m ls listed spent lacks left = record {
  listed = listed;
  explored = λ e. absurd (true≢false (sym e));
  spent = λ _. spent;
  lacks = λ _. lacks;
  left_open = λ _. left;
}
