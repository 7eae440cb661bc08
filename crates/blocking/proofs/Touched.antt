-- The least node that facts touch.
use Rattle.std.proofs.Common.{◌≡◌, ℕ, zero, suc, ◌+◌, ◌≤◌, min, List, [], ◌∷◌, ◌++◌, length, take, drop, Some, refl, ap}
use Rattle.std.proofs.Common.{sym, ◌∙◌, subst, arith, append_assoc, append-nil, add-one, Bool, true, false, inl, inr}
use Rattle.std.specs.Prelude.{slice_get, nat_lt, if◌then◌else◌}
use Rattle.std.proofs.lemmas.Bool.{cases_lt, le-ltb}
use Rattle.std.proofs.lemmas.Bool.Decides.{nat_tests}
use Rattle.std.proofs.lemmas.List.{take-append-drop}
use Rattle.calculus_specs.specs.declared.facts.Fact.{Fact}
use Rattle.calculus_specs.specs.declared.facts.Fact.TheVariants.{Has, Edge, Apart, Same}
use Rattle.calculus_specs.specs.Joins.{merged, rep_after, rep}
use Rattle.calculus_specs.specs.State.{node_count_from, HaveParentsBefore}
use Rattle.calculus_specs.proofs.Joined.{rep-snoc}
use Rattle.tableau_specs.specs.declared.Item.{Item}
use Rattle.completion_tree.specs.declared.tree.Entry.{Entry}
use Rattle.completion_tree.specs.declared.tree.Entry.TheVariants.{Fact as Grounded, Mark}
use Rattle.completion_tree.specs.Trail.{facts_in, item_of, items_of}
use Rattle.completion_tree.proofs.Entries.{facts_in-append}
use Rattle.tableau_specs.specs.BlockLaws.{LeavesBelow, AllLeaveBelow}
use Rattle.blocking.specs.Followed.{Printed, AreBlocksBelow}
use Rattle.blocking.proofs.BlockLists.{going_on, going_back}
use Rattle.blocking.specs.Changed.{least_with, least_of_item, least_touched}

-- ---- representatives fall

merged-le : (y z x : ℕ) → merged y z x ≤ x
merged-le y z x = grind (arith, nat_tests)

after-le : (m : ℕ → ℕ) (f : Fact ℕ) (x : ℕ) → rep_after m f x ≤ m x
after-le m (Same y z) x = merged-le (m y) (m z) (m x)
after-le m (Has y c) x = omega arith
after-le m (Edge r y z) x = omega arith
after-le m (Apart y z) x = omega arith

rep-falls : (fs new : List (Fact ℕ)) (x : ℕ) → rep (fs ++ new) x ≤ rep fs x
rep-falls fs [] x = omega (arith, ap (λ (l : List (Fact ℕ)). rep l x) (append-nil fs))
rep-falls fs (f ∷ new) x =
    omega (
      arith,
      ap (λ (l : List (Fact ℕ)). rep l x) (append_assoc fs (f ∷ []) new),
      rep-falls (fs ++ f ∷ []) new x,
      rep-snoc fs f x,
      after-le (rep fs) f x,
    )

-- ---- the least

with-le : (first : ℕ) (m : ℕ → ℕ) (bound : ℕ) (f : Fact ℕ) → least_with first m bound f ≤ bound
with-le first m bound (Has y c) = omega arith
with-le first m bound (Edge r y z) = by (nat_lt z first)
  where
    by : (b : Bool) → (if b then bound else min bound z) ≤ bound
    by true = omega arith
    by false = omega arith
with-le first m bound (Apart y z) = omega arith
with-le first m bound (Same y z) = omega arith

touched-le : (first : ℕ) (m : ℕ → ℕ) (bound : ℕ) (fs : List (Fact ℕ)) → least_touched first m bound fs ≤ bound
touched-le first m bound [] = omega arith
touched-le first m bound (f ∷ fs) =
    omega (arith, touched-le first m (least_with first m bound f) fs, with-le first m bound f)

-- a fact leaves what is below the nodes that it touches, by representatives that are not above those of now
left_by : (first : ℕ) (fs : List (Fact ℕ)) (m : ℕ → ℕ) (bound n : ℕ) (f : Fact ℕ) → ((x : ℕ) → m x ≤ rep fs x)
    → n ≤ least_with first m bound f → LeavesBelow first fs f n
left_by first fs m bound n (Has y c) falls le = omega (arith, falls y)
left_by first fs m bound n (Edge r y z) falls le = elim (cases_lt z first) [
  | inl lt ↦ inr lt
  | inr ge ↦ inl (omega (arith, le, ap (λ (b : Bool). if b then bound else min bound z) (le-ltb z first ge)))
]
left_by first fs m bound n (Apart y z) falls le = tt
left_by first fs m bound n (Same y z) falls le = (omega (arith, falls y), omega (arith, falls z))

all_left_by : (first : ℕ) (fs new : List (Fact ℕ)) (m : ℕ → ℕ) (bound n : ℕ) → ((x : ℕ) → m x ≤ rep (fs ++ new) x)
    → n ≤ least_touched first m bound new → AllLeaveBelow first fs new n
all_left_by first fs [] m bound n falls le = tt
all_left_by first fs (f ∷ new) m bound n falls le = (
  left_by first fs m bound n f (λ x. omega (arith, falls x, rep-falls fs (f ∷ new) x))
      (omega (arith, le, touched-le first m (least_with first m bound f) new)),
  all_left_by first (fs ++ f ∷ []) new m (least_with first m bound f) n
      (λ x. omega (arith, falls x, ap (λ (l : List (Fact ℕ)). rep l x) (append_assoc fs (f ∷ []) new))) le,
)

-- ---- over a trail

pub touched_next : (first : ℕ) (m : ℕ → ℕ) (bound : ℕ) (es : List Entry) (at : ℕ) (item : Item)
    → slice_get (items_of es) at ≡ Some item
    → least_touched first m bound (facts_in (drop at es))
    ≡ least_touched first m (least_of_item first m bound item) (facts_in (drop (at + 1) es))
touched_next first m bound es at item e =
    next es at e
    ∙ ap (λ (k : ℕ). least_touched first m (least_of_item first m bound item) (facts_in (drop k es))) (sym (add-one at))
  where
    of_first : (e : Entry) (es : List Entry) → Some (item_of e) ≡ Some item
        → least_touched first m bound (facts_in (e ∷ es))
        ≡ least_touched first m (least_of_item first m bound item) (facts_in es)
    of_first (Grounded f by) es e =
        let is : item_of (Grounded f by) ≡ item = cc in
        ap (λ (t : Item). least_touched first m (least_of_item first m bound t) (facts_in es)) is
    of_first (Mark c) es e =
        let is : item_of (Mark c) ≡ item = cc in
        ap (λ (t : Item). least_touched first m (least_of_item first m bound t) (facts_in es)) is

    next : (es : List Entry) (at : ℕ) → slice_get (items_of es) at ≡ Some item
        → least_touched first m bound (facts_in (drop at es))
        ≡ least_touched first m (least_of_item first m bound item) (facts_in (drop (suc at) es))
    next [] at e = cc
    next (e' ∷ es) zero e = of_first e' es e
    next (e' ∷ es) (suc at) e = next es at e

-- where no entry is left
pub none_left : (first : ℕ) (m : ℕ → ℕ) (bound : ℕ) (es : List Entry) (at : ℕ) → length es ≤ at
    → least_touched first m bound (facts_in (drop at es)) ≡ bound
none_left first m bound [] zero le = refl
none_left first m bound [] (suc at) le = refl
none_left first m bound (e ∷ es) zero le = absurd (omega arith)
none_left first m bound (e ∷ es) (suc at) le = none_left first m bound es at (omega arith)

pub trail_left : (first : ℕ) (es : List Entry) (place bound n : ℕ)
    → n ≡ least_touched first (rep (facts_in es)) bound (facts_in (drop place es))
    → AllLeaveBelow first (facts_in (take place es)) (facts_in (drop place es)) n
trail_left first es place bound n e =
    let fs = facts_in (take place es) in
    let new = facts_in (drop place es) in
    let whole : fs ++ new ≡ facts_in es =
    sym (facts_in-append (take place es) (drop place es)) ∙ ap facts_in (take-append-drop place es) in
    all_left_by first fs new (rep (facts_in es)) bound n (λ x. omega (arith, ap (λ (l : List (Fact ℕ)). rep l x) whole))
    (omega arith)

-- ---- blocks over a trail

module _ (first : ℕ) (es : List Entry) (place from n r : ℕ) (p : Printed)
    (before : HaveParentsBefore first (facts_in es))
    (leave : AllLeaveBelow first (facts_in (take place es)) (facts_in (drop place es)) n)
    (is : r ≡ min from n) where
  abbrev fs : List (Fact ℕ)
  fs = facts_in (take place es)

  abbrev new : List (Fact ℕ)
  new = facts_in (drop place es)

  whole : fs ++ new ≡ facts_in es
  whole = sym (facts_in-append (take place es) (drop place es)) ∙ ap facts_in (take-append-drop place es)

  before_here : HaveParentsBefore first (fs ++ new)
  before_here = subst (HaveParentsBefore first) (sym whole) before

  pub stand_after : AreBlocksBelow first fs from p → AreBlocksBelow first (facts_in es) r p
  stand_after h =
      subst (λ (k : ℕ). AreBlocksBelow first (facts_in es) k p) (sym is)
      (subst (λ (l : List (Fact ℕ)). AreBlocksBelow first l (min from n) p) whole
      (going_on first fs new from n p before_here leave h))

  pub stand_before : AreBlocksBelow first (facts_in es) from p
      → AreBlocksBelow first fs (min r (node_count_from first fs)) p
  stand_before h =
      let same : min from (min n (node_count_from first fs)) ≡ min r (node_count_from first fs) = omega arith in
      subst (λ (k : ℕ). AreBlocksBelow first fs k p) same
      (going_back first fs new from n p before_here leave
      (subst (λ (l : List (Fact ℕ)). AreBlocksBelow first l from p) (sym whole) h))
