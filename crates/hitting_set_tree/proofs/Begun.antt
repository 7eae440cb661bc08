-- The taken nodes are those of a tree, also where memory is refused.
use Rattle.std.proofs.Common.{◌≡◌, ℕ, List, [], sym, subst, arith}
use Rattle.std.specs.FinSet as set
use Rattle.std.specs.Prelude.{Result, Ok, Err, OnErr}
use Rattle.axiom_sets.specs.Sets.{Limited}
use Rattle.pinpointing_specs.specs.Nodes.{AreNodes}
use Rattle.set_questions.specs.Meaning.{Meaning, Keeps}
use Rattle.hitting_set_tree.specs.declared.frames.Node.{Node}
use Rattle.hitting_set_tree.specs.Tree.{Lists, HoldsLists}
use Rattle.hitting_set_tree.specs.Open.{HasOpen, HasPending}
use Rattle.hitting_set_tree.specs.Found.{HasTree}
use Rattle.hitting_set_tree.proofs.Stepping.{keeps_listed}

-- what is so however a call ends
pub in_err : {T X : Type 0} {P : Type 0} (r : Result T X) → P → OnErr r P
in_err (Ok x) holds = tt
in_err (Err e) holds = holds

pub tree_of : (m : Meaning) (ls : Lists) → HoldsLists m ls → AreNodes ls.justifications m.taken → HasTree m
tree_of m ls listed nodes = record {
  labels = ls.justifications;
  limits = listed.just_limits;
  smallest = listed.smallest;
  shown_yes = listed.shown_yes;
  nodes = nodes;
}

pub open_tree : (m : Meaning) (ls : Lists) (rooted : ℕ) → HoldsLists m ls → HasOpen m.taken ls rooted → HasTree m
open_tree m ls rooted listed state = tree_of m ls listed (state.0, state.1.tree)

pub pending_tree : (m : Meaning) (ls : Lists) (node : Node) → HoldsLists m ls → HasPending m.taken ls node → HasTree m
pending_tree m ls node listed pending = tree_of m ls listed (pending.0, pending.1.tree)

-- later, when other nodes were taken
pub tree_later : (m m' : Meaning) (ls : Lists) → Keeps m m' → HoldsLists m ls → AreNodes ls.justifications m'.taken
    → HasTree m'
tree_later m m' ls keeps listed nodes = tree_of m' ls (keeps_listed m m' ls keeps listed) nodes

-- later, when no node was taken
pub pending_later : (m m' : Meaning) (ls : Lists) (node : Node) → Keeps m m' → m'.taken ≡ m.taken → HoldsLists m ls
    → HasPending m.taken ls node → HasTree m'
pending_later m m' ls node keeps same listed pending =
    tree_later m m' ls keeps listed
    (subst (λ (t : List Limited). AreNodes ls.justifications t) (sym same) (pending.0, pending.1.tree))

pub nodes_still : (m m' : Meaning) (ls : Lists) (rooted : ℕ) → m'.taken ≡ m.taken → HasOpen m.taken ls rooted
    → AreNodes ls.justifications m'.taken
nodes_still m m' ls rooted same state =
    subst (λ (t : List Limited). AreNodes ls.justifications t) (sym same) (state.0, state.1.tree)

-- no node was taken
pub no_tree : (m : Meaning) → m.taken ≡ [] → HasTree m
no_tree m none = record {
  labels = [];
  limits = λ j at. absurd (omega (arith, at.1));
  smallest = λ j at. absurd (omega (arith, at.1));
  shown_yes = λ j at. absurd (omega (arith, at.1));
  nodes = subst (λ (t : List Limited). AreNodes [] t) (sym none) (
    λ _. record { limit = 0; members = set.empty },
    record {
      distinct = λ i j d lt within. absurd (omega arith);
      root = λ d within. absurd (omega arith);
      parent = λ k d pos within. absurd (omega arith);
    },
  );
}
