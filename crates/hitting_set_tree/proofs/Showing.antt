-- What was shown is not lost, and what is left open.
use Rattle.std.proofs.Common.{◌≡◌, ℕ, ◌-◌, List, length, get_or, Bool, true, false, sym, subst, arith, ◌⊎◌, inl, inr}
use Rattle.std.specs.Prelude.{Result, Ok, Err, IfOk, OnOk}
use Rattle.std.specs.List.{Contains}
use Rattle.std.proofs.lemmas.Bool.{cases_lt}
use Rattle.std.proofs.lemmas.List.Elements.{Contains-push}
use Rattle.lane_sieve.specs.Sets.{NumberSet, IsPart}
use Rattle.axiom_sets.specs.Sets.{Limited}
use Rattle.pinpointing_specs.specs.Smallest.{Grows, rest, HasPart}
use Rattle.pinpointing_specs.specs.Nodes.{AreSettled}
use Rattle.set_questions.specs.Meaning.{Meaning, Keeps, ShowsNothing}
use Rattle.set_questions.specs.Asked.{Answers, ShowsNoOther}
use Rattle.set_questions.specs.declared.entail.Reply.{Reply}
use Rattle.set_questions.specs.declared.entail.Reply.TheVariants.{Yes, No, Spent}
use Rattle.justification_shrink.specs.Shrunk.{LosesNothing}
use Rattle.justification_shrink.specs.declared.Shrunk.TheVariants as S
use Rattle.hitting_set_tree.specs.declared.frames.Node.{Node}
use Rattle.hitting_set_tree.specs.Tree.{Lists, others, AddsLabel, AreSettledOrOpen, HasFoundIn, HasFoundNamed}
use Rattle.hitting_set_tree.specs.Tree.{ListsShown, KeepsAll}
use Rattle.hitting_set_tree.specs.Open.{HasPending}

-- ---- what was shown

-- nothing was
pub shown_still : (m : Meaning) (js : List Limited) (b : Bool) → ListsShown m m js b
shown_still m js b s at = inl at

part_found : (m : Meaning) (js : List Limited) (s : NumberSet) (b : Bool) → HasPart js s → HasFoundIn m js s b
part_found m js s true part = part
part_found m js s false part = inl part

more_found : (js js' : List Limited) → KeepsAll js js' → (s : NumberSet) → HasPart js s → HasPart js' s
more_found js js' more s part = (part.0, more part.0 part.1, part.2)

-- from m to m', and from there to m''
pub shown_on : (m m' m'' : Meaning) (js js' : List Limited) (b : Bool) → KeepsAll js js' → ListsShown m m' js true
    → ListsShown m' m'' js' b → ListsShown m m'' js' b
shown_on m m' m'' js js' b more first second s at =
    elim (second s at) [
      | inl before ↦ elim (first s before)
          [ inl old ↦ inl old | inr found ↦ inr (part_found m'' js' s b (more_found js js' more s found)) ]
      | inr found ↦ inr found
    ]

-- a call that shows nothing comes first
pub shown_after : (m m' m'' : Meaning) (js : List Limited) (b : Bool) → ShowsNothing m m' → ListsShown m' m'' js b
    → ListsShown m m'' js b
shown_after m m' m'' js b same second s at =
    elim (second s at) [ inl before ↦ inl (same s before) | inr found ↦ inr found ]

-- two calls that show nothing
pub nothing_on : (m m' m'' : Meaning) → ShowsNothing m m' → ShowsNothing m' m'' → ShowsNothing m m''
nothing_on m m' m'' g h s at = g s (h s at)

-- sets that contain one are found with it
found_above : (m : Meaning) (js : List Limited) (s t : NumberSet) (b : Bool) → IsPart s t → HasFoundIn m js s b
    → HasFoundIn m js t b
found_above m js s t true part found = (found.0, found.1, λ k h. part k (found.2 k h))
found_above m js s t false part found = elim found [
  | inl listed ↦ inl (listed.0, listed.1, λ k h. part k (listed.2 k h))
  | inr left ↦ inr (left.0, (λ k h. part k (left.1 k h)), left.2)
]

-- an ask comes first, whose answer is then settled
pub shown_asked : (m m' m'' : Meaning) (js : List Limited) (b : Bool) (answer : Reply) → ShowsNoOther m m' answer
    → HasFoundNamed m'' js answer b → ListsShown m' m'' js b → ListsShown m m'' js b
shown_asked m m' m'' js b (Yes part) one named second s at =
    elim (second s at) [
      | inl before ↦ elim (one s before) [
        | inl old ↦ inl old
        | inr inside ↦ inr (found_above m'' js part.members s b inside named)
      ]
      | inr found ↦ inr found
    ]
shown_asked m m' m'' js b No one named second s at =
    elim (second s at) [ inl before ↦ inl (one s before) | inr found ↦ inr found ]
shown_asked m m' m'' js b Spent one named second s at =
    elim (second s at) [ inl before ↦ inl (one s before) | inr found ↦ inr found ]

pub all_shown_asked : {X : Type 0} (m m' m'' : Meaning) (js : List Limited) (answer : Reply) → ShowsNoOther m m' answer
    → (r : Result Bool X) → IfOk r (HasFoundNamed m'' js answer) → IfOk r (ListsShown m' m'' js)
    → IfOk r (ListsShown m m'' js)
all_shown_asked m m' m'' js answer one (Ok b) named second = shown_asked m m' m'' js b answer one named second
all_shown_asked m m' m'' js answer one (Err e) named second = tt

pub all_shown_after : {X : Type 0} (m m' m'' : Meaning) (js : List Limited) → ShowsNothing m m' → (r : Result Bool X)
    → IfOk r (ListsShown m' m'' js) → IfOk r (ListsShown m m'' js)
all_shown_after m m' m'' js same (Ok b) second = shown_after m m' m'' js b same second
all_shown_after m m' m'' js same (Err e) second = tt

pub all_shown_on : {X : Type 0} (m m' m'' : Meaning) (js js' : List Limited) → ListsShown m m' js true
    → (r : Result Bool X) → OnOk r (KeepsAll js js') → IfOk r (ListsShown m' m'' js') → IfOk r (ListsShown m m'' js')
all_shown_on m m' m'' js js' first (Ok b) more second = shown_on m m' m'' js js' b more first second
all_shown_on m m' m'' js js' first (Err e) more second = tt

-- a yes-set was shrunk, and the smallest one was listed
module _ (m m' : Meaning) (old new : Lists) (rooted : ℕ) (node : Node) (part just : Limited)
    (adds : AddsLabel old new rooted node just) where
  listed_last : Contains new.justifications just
  listed_last =
      subst (λ (xs : List Limited). Contains xs just) (sym adds.justifications) (Contains-push old.justifications just)

  pub shown_label : LosesNothing m m' part (S.Smallest just) → ListsShown m m' new.justifications true
  shown_label above s at = elim (above s at) [ inl before ↦ inl before | inr inside ↦ inr (just, listed_last, inside) ]

  pub label_found : IsPart just.members part.members → HasFoundIn m' new.justifications part.members true
  label_found inside = (just, listed_last, inside)

-- or the budget was spent
pub shown_cut : (m m' : Meaning) (js : List Limited) (part : Limited) → LosesNothing m m' part S.Spent
    → ListsShown m m' js false
shown_cut m m' js part cut s at =
    elim (cut.3 s at) [ inl before ↦ inl before | inr inside ↦ inr (inr (cut.0, inside, cut.2)) ]

pub cut_found : (m m' : Meaning) (js : List Limited) (part : Limited) → LosesNothing m m' part S.Spent
    → HasFoundIn m' js part.members false
cut_found m m' js part cut = inr (cut.0, cut.1, cut.2)

-- ---- what is left open

pub settled_open : (m : Meaning) (ls : Lists) → AreSettled ls.justifications ls.leaves m.taken (length m.taken)
    → AreSettledOrOpen m ls.justifications ls.leaves
settled_open m ls settled k d lt = inl (settled k d lt lt)

-- the node that was taken last is not settled
pub pending_open : (m : Meaning) (ls : Lists) (node : Node) → HasPending m.taken ls node
    → (m.holds (rest node.hit) ⊎ m.unknown (rest node.hit)) → AreSettledOrOpen m ls.justifications ls.leaves
pending_open m ls node pending left k d lt =
    elim (cases_lt k (length m.taken - 1)) [
      | inl low ↦ inl (pending.1.settled k d low lt)
      | inr high ↦
          let is : k ≡ length m.taken - 1 = omega (arith, lt, high) in
          inr (subst (λ (n : Limited). m.holds (rest n) ⊎ m.unknown (rest n))
          (sym (subst (λ (i : ℕ). get_or m.taken i d ≡ node.hit) (sym is) (pending.1.last d))) left)
    ]

-- the rest of a node with a yes-set in it is one
pub rest_holds : (m m' : Meaning) (node : Node) (part : Limited) → Keeps m m' → Grows m'.holds
    → Answers m (others node) (Yes part) → m'.holds (rest node.hit)
rest_holds m m' node part keeps grows answer =
    grows part.members (rest node.hit) answer.1 ((keeps.same_question part.members).0 answer.2)
