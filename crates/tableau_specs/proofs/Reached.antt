-- The laws of reached trails.
use Rattle.std.proofs.Common.{◌≡◌, ℕ, zero, suc, ◌<◌, Bool, ◌⊎◌, ap, ◌∙◌, refl, inl, inr, true, false, List, [], ◌∷◌}
use Rattle.std.proofs.Common.{take, Some, sym, subst, arith}
use Rattle.std.specs.List.{slice_get, list_any}
use Rattle.std.proofs.lemmas.Option.{slice_get_within, get_or_from_slice_get}
use Rattle.calculus_specs.specs.declared.facts.Fact.{Fact}
use Rattle.calculus_specs.specs.declared.facts.Fact.TheVariants.{Has, Edge, Apart, Same}
use Rattle.calculus_specs.specs.Joins.{rep}
use Rattle.calculus_specs.specs.State.{node_count_from, parent_from, has_edge, are_apart, gives_apart, speak_of_nodes}
use Rattle.tableau_specs.specs.declared.Branch.{Branch}
use Rattle.tableau_specs.specs.declared.Branch.TheVariants.{Or, Choose, Pair}
use Rattle.tableau_specs.specs.declared.Item.{Item}
use Rattle.tableau_specs.specs.declared.Item.TheVariants.{Fact as Says, Mark}
use Rattle.tableau_specs.specs.Items.{facts_of}
use Rattle.tableau_specs.specs.Steps.{SearchContext, below_of, IsGiven, HasPlainClash}
use Rattle.tableau_specs.specs.Reached.{start, Follows}
use Rattle.tableau_specs.specs.StepLaws.{IsOn, BranchIsOn, AreSiblings, LeadsDown}
use Rattle.tableau_specs.proofs.Built.{Supports, SupportsBranch, IsBuilt, built_none, built_push}
use Rattle.tableau_specs.proofs.TreeShaped.{IsTreeShaped, Leads, linked_first, apart_are_nodes, built_speak}
use Rattle.tableau_specs.proofs.TreeShaped.{joined_nodes, built_tree_shaped, sibling_nodes, parent_of_origin}
use Rattle.tableau_specs.proofs.TreeShaped.{origin_of_parent}
use Rattle.tableau_specs.proofs.Legal.{given_on_first, legal_built, any_edge}
use Rattle.tableau_specs.specs.Clash.IsPlainClash.{plain_differ}
use Rattle.std.proofs.lemmas.Bool.{cases_Bool}
use Rattle.calculus_specs.proofs.Joined.{rep-le, rep-joined, joined-rep}
use Rattle.tableau_specs.specs.Clash.{IsPlainClash}

start_built : (first : ℕ) (G : Fact ℕ → Type 0) (at sub not_sup : ℕ) → at < first
    → IsBuilt first G (start at sub not_sup)
start_built first G at sub not_sup lt =
    built_push first G (Says (Has at sub) ∷ []) (Says (Has at not_sup))
    (built_push first G [] (Says (Has at sub)) (built_none first G) (omega arith)) (omega arith)

pub follows_built : (w : SearchContext) (first : List Item) (k : ℕ) (trail : List Item)
    → IsBuilt w.first (IsGiven w) first → Follows w first k trail → IsBuilt w.first (IsGiven w) trail
follows_built w first zero trail h r = subst (IsBuilt w.first (IsGiven w)) (sym r) h
follows_built w first (suc k) trail h r = legal_built w r.0 trail (follows_built w first k r.0 h r.1) r.2

pub reached_built : (w : SearchContext) (at sub not_sup k : ℕ) (trail : List Item) → at < w.first
    → Follows w (start at sub not_sup) k trail → IsBuilt w.first (IsGiven w) trail
reached_built w at sub not_sup k trail lt r =
    follows_built w (start at sub not_sup) k trail (start_built w.first (IsGiven w) at sub not_sup lt) r

pub reached_tree_shaped : (w : SearchContext) (at sub not_sup k : ℕ) (trail : List Item) → at < w.first
    → Follows w (start at sub not_sup) k trail → IsTreeShaped w.first (IsGiven w) (given_on_first w) (facts_of trail)
reached_tree_shaped w at sub not_sup k trail lt r =
    built_tree_shaped w.first (IsGiven w) (given_on_first w) trail (reached_built w at sub not_sup k trail lt r)

-- ---- each node stands before it is spoken of

module _ (w : SearchContext) where
  branch_on : (fs : List (Fact ℕ)) (b : Branch) → SupportsBranch w.first (IsGiven w) fs b
      → BranchIsOn (node_count_from w.first fs) b
  branch_on fs (Or x c) h = h
  branch_on fs (Choose y e) h = h
  branch_on fs (Pair y z) h = sibling_nodes w.first fs y z h

  supported_on : (fs : List (Fact ℕ)) (i : Item) → Supports w.first (IsGiven w) fs i
      → IsOn w (node_count_from w.first fs) i
  supported_on fs (Says (Has x c)) h = h
  supported_on fs (Says (Edge r x y)) h = h
  supported_on fs (Says (Apart y z)) h = (h.0, h.1)
  supported_on fs (Says (Same y z)) h = joined_nodes w.first (IsGiven w) (given_on_first w) fs y z h
  supported_on fs (Mark c) h = branch_on fs c.branch h

  supported_at : (is : List Item) → IsBuilt w.first (IsGiven w) is → (place : ℕ) (i : Item)
      → slice_get is place ≡ Some i → Supports w.first (IsGiven w) (facts_of (take place is)) i
  supported_at is h place i read =
      let g = h place i (slice_get_within is place i read) in
      rw (get_or_from_slice_get is place i i read) at g

pub nodes_before : (w : SearchContext) (at sub not_sup k : ℕ) (trail : List Item) → at < w.first
    → Follows w (start at sub not_sup) k trail
    → (place : ℕ) (i : Item) → slice_get trail place ≡ Some i
    → IsOn w (node_count_from w.first (facts_of (take place trail))) i
nodes_before w at sub not_sup k trail lt r place i read =
    supported_on w (facts_of (take place trail)) i
    (supported_at w trail (reached_built w at sub not_sup k trail lt r) place i read)

-- ---- the other laws

rep-rep : (fs : List (Fact ℕ)) (y : ℕ) → rep fs (rep fs y) ≡ rep fs y
rep-rep fs y = sym (rep-joined fs y (rep fs y) (joined-rep fs y))

-- where there is no plain clash, no node is apart from itself: that would be a clash at its representative
pub not_apart_clear : (w : SearchContext) (fs : List (Fact ℕ)) → speak_of_nodes w.first fs ≡ true
    → ¬ IsPlainClash w.first (below_of w) w.table fs → (x : ℕ) → are_apart fs x x ≡ false
not_apart_clear w fs speak clear x = elim (cases_Bool (are_apart fs x x)) [
  | inr not' ↦ not'
  | inl held ↦
      let node =
      apart_are_nodes (rep fs) (node_count_from w.first fs) (rep fs x) (rep fs x) fs (rep-le fs) speak held in
      let there : are_apart fs (rep fs x) (rep fs x) ≡ true =
      ap (λ (a : ℕ). list_any (gives_apart (rep fs) a a) fs) (rep-rep fs x) ∙ held in
      absurd (clear (plain_differ (rep fs x) (rep fs x) node.0 node.0 there refl))
]

pub not_apart_itself : (w : SearchContext) (at sub not_sup k : ℕ) (trail : List Item) → at < w.first
    → Follows w (start at sub not_sup) k trail
    → ¬ HasPlainClash w trail ⊎ ((f : Fact ℕ) → ¬ IsGiven w f) → (x : ℕ) → are_apart (facts_of trail) x x ≡ false
not_apart_itself w at sub not_sup k trail lt r (inl clear) x =
    not_apart_clear w (facts_of trail)
    (built_speak w.first (IsGiven w) (given_on_first w) trail (reached_built w at sub not_sup k trail lt r)) clear x
not_apart_itself w at sub not_sup k trail lt r (inr none) x =
    (reached_tree_shaped w at sub not_sup k trail lt r).not_apart none (rep (facts_of trail) x)

pub joins_siblings : (w : SearchContext) (at sub not_sup k : ℕ) (trail : List Item) → at < w.first
    → Follows w (start at sub not_sup) k trail
    → (place y z : ℕ) → slice_get trail place ≡ Some (Says (Same y z))
    → AreSiblings (facts_of (take place trail)) y z ⊎ IsGiven w (Same y z)
joins_siblings w at sub not_sup k trail lt r place y z read =
    supported_at w trail (reached_built w at sub not_sup k trail lt r) place (Says (Same y z)) read

leads_down : (w : SearchContext) (fs : List (Fact ℕ)) (x y : ℕ)
    → Leads w.first (IsGiven w) (given_on_first w) (rep fs) fs (rep fs x) (rep fs y) → LeadsDown w fs x y
leads_down w fs x y (inl l) =
    let t = linked_first w.first (IsGiven w) (given_on_first w) (rep fs) (rep fs x) (rep fs y) (rep-le fs) l in
    inl (record {
      role = l.role;
      begin = l.begin;
      end = l.end;
      is_given = l.is_given;
      at_begin = l.at_begin;
      at_end = l.at_end;
      begins_first = t.0;
      ends_first = t.1;
    })
leads_down w fs x y (inr u) = inr (record {
  up = u.up;
  is_parent = parent_of_origin w.first fs (rep fs y) u.up u.not_first u.is_origin;
  is_joined = u.is_joined;
})

pub successor_is_child : (w : SearchContext) (at sub not_sup k : ℕ) (trail : List Item) → at < w.first
    → Follows w (start at sub not_sup) k trail
    → (roles : ℕ → Bool) (x y : ℕ) → has_edge (facts_of trail) roles x y ≡ true → LeadsDown w (facts_of trail) x y
successor_is_child w at sub not_sup k trail lt r roles x y h =
    let fs = facts_of trail in
    leads_down w fs x y
    ((reached_tree_shaped w at sub not_sup k trail lt r).leads (rep fs x) (rep fs y) (any_edge fs roles x y h))

pub parents_less : (w : SearchContext) (at sub not_sup k : ℕ) (trail : List Item) → at < w.first
    → Follows w (start at sub not_sup) k trail
    → (x p : ℕ) → parent_from w.first (facts_of trail) x ≡ Some p → p < x
parents_less w at sub not_sup k trail lt r x p h =
    let o = origin_of_parent w.first (facts_of trail) x p h in
    (reached_tree_shaped w at sub not_sup k trail lt r).less x p o.0 o.1
