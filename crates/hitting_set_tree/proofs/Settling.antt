-- What settles a node that was taken.
use Rattle.std.proofs.Common.{◌≡◌, ℕ, ◌≤◌, List, length, true, sym, subst, arith}
use Rattle.lane_sieve.specs.Sets.{IsPart}
use Rattle.axiom_sets.specs.Sets.{Limited, IsWithin, member_list}
use Rattle.axiom_sets.proofs.Listed.{member_list-short}
use Rattle.pinpointing_specs.specs.Smallest.{IsMinimalYes, rest, numbers_to}
use Rattle.pinpointing_specs.proofs.Choices.{in_difference}
use Rattle.set_questions.specs.Meaning.{Meaning, Keeps}
use Rattle.set_questions.proofs.Rest.{numbers_within}
use Rattle.hitting_set_tree.specs.declared.frames.Node.{Node}
use Rattle.hitting_set_tree.specs.Territory.{IsNode, InNode}
use Rattle.hitting_set_tree.specs.Weight.{node_weight}
use Rattle.hitting_set_tree.specs.Tree.{Lists, HoldsLists, IsStep, AddsLabel, AddsLeaf}
use Rattle.hitting_set_tree.specs.Open.{HasOpen, HasPending}
use Rattle.hitting_set_tree.proofs.Opening.{has_just_open, has_leaf_open}
use Rattle.hitting_set_tree.proofs.Stepping.{with_just, with_leaf, step_just, step_leaf}

same_lists : (a b : Lists) → a.justifications ≡ b.justifications → a.leaves ≡ b.leaves → a.frames ≡ b.frames → a ≡ b
same_lists a b e f g = λ i. record { justifications = e i; leaves = f i; frames = g i }

pub own_limit : (n : ℕ) (node : Node) → IsNode n node → IsNode node.hit.limit node
own_limit n node good = subst (λ (k : ℕ). IsNode k node) (sym good.hit_limit) good

pub node_still : (m m' : Meaning) (node : Node) → Keeps m m' → IsNode m.size node → IsNode m'.size node
node_still m m' node keeps good = subst (λ (k : ℕ). IsNode k node) (sym keeps.same_size) good

-- a set in the rest of a node has no more members than there are numbers
pub few_in_rest : (s part : Limited) (n : ℕ) → IsPart part.members (rest s) → part.limit ≡ s.limit → s.limit ≡ n
    → length (member_list part) ≤ n
few_in_rest s part n inside e f =
    let within : IsWithin part.limit part.members = λ k h.
    let both = numbers_within s.limit k (in_difference (numbers_to s.limit) s.members k (inside k h)).0 in
    (both.0, omega (arith, both.1)) in
    omega (arith, member_list-short part within)

module _ (old new : Lists) (rooted : ℕ) (node : Node) where
  labelled : (just : Limited) (adds : AddsLabel old new rooted node just) → with_just old just adds.frame ≡ new
  labelled just adds =
      same_lists (with_just old just adds.frame) new (sym adds.justifications) (sym adds.leaves) (sym adds.frames)

  leaf : AddsLeaf old new rooted node → with_leaf old node.hit ≡ new
  leaf adds = same_lists (with_leaf old node.hit) new (sym adds.justifications) (sym adds.leaves) (sym adds.frames)

  module _ (m : Meaning) (good : IsNode m.size node) (listed : HoldsLists m old) where
    pub labelled_step : (just : Limited) → AddsLabel old new rooted node just → just.limit ≡ m.size
        → IsMinimalYes m.holds just → m.shown_yes just.members → IsStep m old new (InNode node) (node_weight node) true
    labelled_step just adds limit smallest shown =
        subst (λ (ls : Lists). IsStep m old ls (InNode node) (node_weight node) true) (labelled just adds)
        (step_just m old node listed just adds.frame good.hit_limit limit smallest shown adds.stands)

    pub leaf_step : AddsLeaf old new rooted node → IsWithin node.hit.limit node.hit.members → ¬ m.holds (rest node.hit)
        → m.shown_no (rest node.hit) → IsStep m old new (InNode node) (node_weight node) true
    leaf_step adds within ends shown =
        subst (λ (ls : Lists). IsStep m old ls (InNode node) (node_weight node) true) (leaf adds)
        (step_leaf m old node listed good.hit_limit within ends shown)

  module _ (taken : List Limited) (pending : HasPending taken old node) where
    pub labelled_open : (just : Limited) → AddsLabel old new rooted node just → HasOpen taken new rooted
    labelled_open just adds =
        subst (λ (r : ℕ). HasOpen taken new r) (sym adds.all)
        (subst (λ (ls : Lists). HasOpen taken ls (length ls.frames)) (labelled just adds)
        (has_just_open rooted taken old node pending.0 pending.1 just adds.frame adds.stands))

    pub leaf_is_open : AddsLeaf old new rooted node → HasOpen taken new rooted
    leaf_is_open adds =
        subst (λ (r : ℕ). HasOpen taken new r) (sym adds.all)
        (subst (λ (ls : Lists). HasOpen taken ls (length ls.frames)) (leaf adds)
        (has_leaf_open rooted taken old node pending.0 pending.1))
