-- What a look at a node does to the lists.
use Rattle.std.proofs.Common.{◌≡◌, ℕ, ◌+◌, ◌<◌, ◌++◌, ◌∷◌, [], List, length, get_or, Bool, true, false, refl, sym, ap}
use Rattle.std.proofs.Common.{◌∙◌, subst, arith, inl, inr}
use Rattle.std.specs.Prelude.{Option, None, Some, IfSome, IfNone, is_some}
use Rattle.std.specs.Ordering.{nat_cmp}
use Rattle.std.specs.List.{All, Contains}
use Rattle.std.specs.FinSet as set
use Rattle.std.proofs.lemmas.Bool.{true≢false}
use Rattle.std.proofs.lemmas.List.Elements.{All-contains, Contains-append_left, Contains-get_or, Contains-push}
use Rattle.std.proofs.lemmas.List.Elements.{Contains-push_cases}
use Rattle.lane_sieve.specs.Sets.{NumberSet, IsPart, DoMeet}
use Rattle.axiom_sets.specs.Sets.{Limited, IsWithin}
use Rattle.pinpointing_specs.specs.Smallest.{AreApart, rest, IsMinimalYes, HasPart, IsExplored}
use Rattle.pinpointing_specs.proofs.Choices.{in_rest}
use Rattle.set_questions.specs.Meaning.{Meaning, Keeps}
use Rattle.hitting_set_tree.specs.declared.frames.Frame.{Frame}
use Rattle.hitting_set_tree.specs.declared.frames.Node.{Node}
use Rattle.hitting_set_tree.specs.declared.frames.Look.TheVariants.{Done}
use Rattle.hitting_set_tree.specs.Territory.{InNode, InFrame, IsFrame, IsNextChild, Frames, Looks}
use Rattle.hitting_set_tree.specs.Weight.{weight, frame_weight, node_weight, free_count}
use Rattle.hitting_set_tree.specs.Tree.{Lists, with_frame, HoldsLists, AreSettledOrOpen, IsCovered, IsOutstanding}
use Rattle.hitting_set_tree.specs.Tree.{IsStep}
use Rattle.hitting_set_tree.proofs.Counts.{pow_pos}

pub keeps_minimal : (m m' : Meaning) → Keeps m m' → (s : Limited) → IsMinimalYes m.holds s → IsMinimalYes m'.holds s
keeps_minimal m m' keeps s h =
    record {
      within = h.within;
      yes_set = (keeps.same_question s.members).0 h.yes_set;
      needed = λ k member claim. h.needed k member ((keeps.same_question (set.remove s.members k)).1 claim);
    }

pub keeps_listed : (m m' : Meaning) (ls : Lists) → Keeps m m' → HoldsLists m ls → HoldsLists m' ls
keeps_listed m m' ls keeps h =
    record {
      just_limits = λ j at. h.just_limits j at ∙ sym keeps.same_size;
      smallest = λ j at. keeps_minimal m m' keeps j (h.smallest j at);
      shown_yes = λ j at. keeps.keeps_yes j.members (h.shown_yes j at);
      leaf_limits = λ l at. h.leaf_limits l at ∙ sym keeps.same_size;
      ends = λ l at. let both = h.ends l at in (both.0, λ claim. both.1 ((keeps.same_question (rest l)).1 claim));
      shown_no = λ l at. keeps.keeps_no (rest l) (h.shown_no l at);
      frames = λ f at. subst (λ (n : ℕ). IsFrame n f) (sym keeps.same_size) (h.frames f at);
    }

pub weight_push : (fs : List Frame) (f : Frame) → weight (fs ++ f ∷ []) ≡ weight fs + frame_weight f
unfolding weight
weight_push [] f = omega arith
weight_push (g ∷ gs) f = omega (arith, weight_push gs f)

-- the same by a push, with the fact for each that was there and for the new one
pushed : {X : Type 0} (P : X → Type 0) (xs : List X) (y : X) → ((x : X) → Contains xs x → P x) → P y → (x : X)
    → Contains (xs ++ y ∷ []) x → P x
pushed P xs y each new x at = elim (Contains-push_cases xs y x at) [ inl old ↦ each x old | inr e ↦ subst P e new ]

abbrev pub with_just : Lists → Limited → Frame → Lists
with_just ls j f =
    record { justifications = ls.justifications ++ j ∷ []; leaves = ls.leaves; frames = ls.frames ++ f ∷ [] }

abbrev pub with_leaf : Lists → Limited → Lists
with_leaf ls l = record { justifications = ls.justifications; leaves = ls.leaves ++ l ∷ []; frames = ls.frames }

module _ (m : Meaning) (ls : Lists) (node : Node) (listed : HoldsLists m ls) where
  pub step_spent : m.left ≡ 0 → AreSettledOrOpen m ls.justifications ls.leaves → IsOutstanding ls node
      → IsStep m ls ls (InNode node) (node_weight node) false
  step_spent none left out = record {
    listed = listed;
    covered = λ e. absurd (true≢false (sym e));
    lighter = λ e. absurd (true≢false (sym e));
    spent = λ _. none;
    lacks = λ _. (node.hit.members, out.0, out.1);
    left_open = λ _. left;
    grows = λ j at. at;
  }

  -- nothing is to be done, since each set beside the lists has a leaf as part
  pub step_pruned : HasPart ls.leaves node.hit.members → IsStep m ls ls (InNode node) (node_weight node) true
  step_pruned leaf =
      record {
        listed = listed;
        covered = λ _ before t meets. elim (before t meets) [
          | inl known ↦ inl known
          | inr r ↦
              elim r [ inl ahead ↦ inr (inl ahead) | inr inside ↦ inl (leaf.0, leaf.1, λ k h. inside.0 k (leaf.2 k h)) ]
        ];
        lighter = λ _. omega (arith, pow_pos (free_count node.hit node.barred));
        spent = λ e. absurd (true≢false e);
        lacks = λ e. absurd (true≢false e);
        left_open = λ e. absurd (true≢false e);
        grows = λ j at. at;
      }

  pub step_leaf : node.hit.limit ≡ m.size → IsWithin node.hit.limit node.hit.members → ¬ m.holds (rest node.hit)
      → m.shown_no (rest node.hit) → IsStep m ls (with_leaf ls node.hit) (InNode node) (node_weight node) true
  step_leaf e within ends shown =
      record {
        listed = record {
          just_limits = listed.just_limits;
          smallest = listed.smallest;
          shown_yes = listed.shown_yes;
          leaf_limits = pushed (λ (l : Limited). l.limit ≡ m.size) ls.leaves node.hit listed.leaf_limits e;
          ends =
              pushed (λ (l : Limited). IsWithin l.limit l.members × ¬ m.holds (rest l)) ls.leaves node.hit listed.ends
              (within, ends);
          shown_no = pushed (λ (l : Limited). m.shown_no (rest l)) ls.leaves node.hit listed.shown_no shown;
          frames = listed.frames;
        };
        covered = λ _ before t meets. elim (before t meets) [
          | inl known ↦ inl (known.0, Contains-append_left ls.leaves (node.hit ∷ []) known.0 known.1, known.2)
          | inr r ↦ elim r
              [ inl ahead ↦ inr (inl ahead) | inr inside ↦ inl (node.hit, Contains-push ls.leaves node.hit, inside.0) ]
        ];
        lighter = λ _. omega (arith, pow_pos (free_count node.hit node.barred));
        spent = λ e. absurd (true≢false e);
        lacks = λ e. absurd (true≢false e);
        left_open = λ e. absurd (true≢false e);
        grows = λ j at. at;
      }

  -- a frame takes over from its node, whose label each set meets
  framed : (justifications : List Limited) (j : Limited) (f : Frame) → node.hit.limit ≡ m.size → Frames node j f
      → Contains justifications j
      → ((x : Limited) → Contains ls.justifications x → Contains justifications x)
      → IsCovered ls (InNode node)
      → IsCovered (record { justifications = justifications; leaves = ls.leaves; frames = ls.frames ++ f ∷ [] })
      (λ _. ⊥)
  framed justifications j f e stands at more before t meets =
      elim (before t (λ x x_at. meets x (more x x_at))) [
        | inl known ↦ inl known
        | inr r ↦ elim r [
          | inl ahead ↦ inr (inl (ahead.0, Contains-append_left ls.frames (f ∷ []) ahead.0 ahead.1, ahead.2))
          | inr inside ↦ inr (inl (f, Contains-push ls.frames f, stands.opens t inside (meets j at)))
        ]
      ]

  pub step_just : (j : Limited) (f : Frame) → node.hit.limit ≡ m.size → j.limit ≡ m.size → IsMinimalYes m.holds j
      → m.shown_yes j.members → Frames node j f → IsStep m ls (with_just ls j f) (InNode node) (node_weight node) true
  step_just j f e limit smallest shown stands =
      record {
        listed = record {
          just_limits = pushed (λ (x : Limited). x.limit ≡ m.size) ls.justifications j listed.just_limits limit;
          smallest = pushed (λ (x : Limited). IsMinimalYes m.holds x) ls.justifications j listed.smallest smallest;
          shown_yes = pushed (λ (x : Limited). m.shown_yes x.members) ls.justifications j listed.shown_yes shown;
          leaf_limits = listed.leaf_limits;
          ends = listed.ends;
          shown_no = listed.shown_no;
          frames =
              pushed (λ (x : Frame). IsFrame m.size x) ls.frames f listed.frames
              (subst (λ (n : ℕ). IsFrame n f) e stands.good);
        };
        covered =
            λ _. framed (ls.justifications ++ j ∷ []) j f e stands (Contains-push ls.justifications j)
            (λ x at. Contains-append_left ls.justifications (j ∷ []) x at);
        lighter = λ _. omega (arith, weight_push ls.frames f, stands.lighter);
        spent = λ e. absurd (true≢false e);
        lacks = λ e. absurd (true≢false e);
        left_open = λ e. absurd (true≢false e);
        grows = λ x at. Contains-append_left ls.justifications (j ∷ []) x at;
      }

  pub step_frame : (j : Limited) (f : Frame) → node.hit.limit ≡ m.size → Contains ls.justifications j → Frames node j f
      → IsStep m ls (with_frame ls f) (InNode node) (node_weight node) true
  step_frame j f e at stands =
      record {
        listed = record {
          just_limits = listed.just_limits;
          smallest = listed.smallest;
          shown_yes = listed.shown_yes;
          leaf_limits = listed.leaf_limits;
          ends = listed.ends;
          shown_no = listed.shown_no;
          frames =
              pushed (λ (x : Frame). IsFrame m.size x) ls.frames f listed.frames
              (subst (λ (n : ℕ). IsFrame n f) e stands.good);
        };
        covered = λ _. framed ls.justifications j f e stands at (λ x x_at. x_at);
        lighter = λ _. omega (arith, weight_push ls.frames f, stands.lighter);
        spent = λ e. absurd (true≢false e);
        lacks = λ e. absurd (true≢false e);
        left_open = λ e. absurd (true≢false e);
        grows = λ x at. at;
      }

-- a part of the rest is apart
pub apart_from_rest : (s : Limited) (p j : NumberSet) → IsPart j p → IsPart p (rest s) → AreApart j s.members
apart_from_rest s p j inside part k h = in_rest s k (part k (inside k h))

-- a frame whose child was looked at
pub step_child : (m : Meaning) (ls new : Lists) (frame left : Frame) (node : Node) (went_on : Bool)
    → IsNextChild frame left node → IsStep m (with_frame ls left) new (InNode node) (node_weight node) went_on
    → IsStep m ls new (InFrame frame) (frame_weight frame) went_on
step_child m ls new frame left node went_on looks step =
    record {
      listed = step.listed;
      covered = λ e before. step.covered e (λ t meets. elim (before t meets) [
        | inl known ↦ inl known
        | inr r ↦ elim r [
          | inl ahead ↦ inr (inl (ahead.0, Contains-append_left ls.frames (left ∷ []) ahead.0 ahead.1, ahead.2))
          | inr inside ↦ elim (looks.splits t inside)
              [ inl stays ↦ inr (inl (left, Contains-push ls.frames left, stays)) | inr goes ↦ inr (inr goes) ]
        ]
      ]);
      lighter = λ e. omega (arith, step.lighter e, weight_push ls.frames left, looks.lighter);
      spent = step.spent;
      lacks = step.lacks;
      left_open = step.left_open;
      grows = step.grows;
    }

-- a frame that has no child left
pub step_done : (m : Meaning) (ls : Lists) (frame left : Frame) → HoldsLists m ls → Looks frame left Done
    → IsStep m ls ls (InFrame frame) (frame_weight frame) true
step_done m ls frame left listed looks =
    record {
      listed = listed;
      covered = λ _ before t meets. elim (before t meets) [
        | inl known ↦ inl known
        | inr r ↦ elim r [ inl ahead ↦ inr (inl ahead) | inr inside ↦ absurd (looks t inside) ]
      ];
      lighter = λ _. omega arith;
      spent = λ e. absurd (true≢false e);
      lacks = λ e. absurd (true≢false e);
      left_open = λ e. absurd (true≢false e);
      grows = λ j at. at;
    }

-- the frame that was taken off the lists
pub listed_with : (m : Meaning) (ls : Lists) (f : Frame) → HoldsLists m ls → IsFrame m.size f
    → HoldsLists m (with_frame ls f)
listed_with m ls f listed good =
    record {
      just_limits = listed.just_limits;
      smallest = listed.smallest;
      shown_yes = listed.shown_yes;
      leaf_limits = listed.leaf_limits;
      ends = listed.ends;
      shown_no = listed.shown_no;
      frames = pushed (λ (x : Frame). IsFrame m.size x) ls.frames f listed.frames good;
    }

in_none : (f : Frame) → ¬ Contains {X = Frame} [] f
in_none f at = absurd (omega (arith, at.1))

pub explored : (m : Meaning) (ls : Lists) → ls.frames ≡ [] → HoldsLists m ls → IsCovered ls (λ _. ⊥)
    → IsExplored m.holds m.size ls.justifications ls.leaves
explored m ls none listed covered =
    record {
      limits = listed.just_limits;
      smallest = listed.smallest;
      leaf_limits = listed.leaf_limits;
      ends = listed.ends;
      covered = λ t meets. elim (covered t meets) [
        | inl leaf ↦ leaf
        | inr r ↦ elim r [
          | inl ahead ↦ absurd (in_none ahead.0 (subst (λ (fs : List Frame). Contains fs ahead.0) none ahead.1))
          | inr never ↦ absurd never
        ]
      ];
    }

pub all_limits : (xs : List Limited) (n n' : ℕ) → ((x : Limited) → Contains xs x → x.limit ≡ n) → n' ≡ n
    → (k : ℕ) (d : Limited) → k < length xs → (get_or xs k d).limit ≡ n'
all_limits xs n n' each e k d lt = each (get_or xs k d) (Contains-get_or xs k d lt) ∙ sym e

pub all_frames : (xs : List Frame) (n : ℕ) → ((x : Frame) → Contains xs x → IsFrame n x) → (k : ℕ) (d : Frame)
    → k < length xs → IsFrame n (get_or xs k d)
all_frames xs n each k d lt = each (get_or xs k d) (Contains-get_or xs k d lt)

pub some_of : (o : Option ℕ) (P Q : ℕ → Type 0) → is_some o ≡ true → IfSome o P → IfSome o Q → (n : ℕ) × P n × Q n
some_of None P Q e p q = absurd (true≢false (sym e))
some_of (Some n) P Q e p q = (n, p, q)

pub none_in : (s : NumberSet) → s ≡ set.empty → (k : ℕ) → set.contains s k ≡ true → ⊥
none_in s e k h = true≢false (sym h ∙ ap (λ (x : NumberSet). set.contains x k) e ∙ set.contains-empty nat_cmp k)

pub root_covered : (node : Node) → node.hit.members ≡ set.empty → node.barred.members ≡ set.empty
    → IsCovered (record { justifications = []; leaves = []; frames = [] }) (InNode node)
root_covered node hit barred t meets =
    inr (inr (λ k h. absurd (none_in node.hit.members hit k h), λ k h. absurd (none_in node.barred.members barred k h)))

-- ---- the last frame is taken off

pub unlisted : (m : Meaning) (ls : Lists) (f : Frame) → HoldsLists m (with_frame ls f) → HoldsLists m ls
unlisted m ls f listed =
    record {
      just_limits = listed.just_limits;
      smallest = listed.smallest;
      shown_yes = listed.shown_yes;
      leaf_limits = listed.leaf_limits;
      ends = listed.ends;
      shown_no = listed.shown_no;
      frames = λ x at. listed.frames x (Contains-append_left ls.frames (f ∷ []) x at);
    }

pub last_frame : (m : Meaning) (ls : Lists) (f : Frame) → HoldsLists m (with_frame ls f) → IsFrame m.size f
last_frame m ls f listed = listed.frames f (Contains-push ls.frames f)

pub uncovered : (ls : Lists) (f : Frame) → IsCovered (with_frame ls f) (λ _. ⊥) → IsCovered ls (InFrame f)
uncovered ls f covered t meets =
    elim (covered t meets) [
      | inl known ↦ inl known
      | inr r ↦ elim r [
        | inl ahead ↦ elim (Contains-push_cases ls.frames f ahead.0 ahead.1) [
          | inl old ↦ inr (inl (ahead.0, old, ahead.2))
          | inr e ↦ inr (inr (subst (λ (x : Frame). InFrame x t) (sym e) ahead.2))
        ]
        | inr never ↦ absurd never
      ]
    ]

-- ---- a node that is outstanding

-- no listed set is apart from it, and no leaf is part of it
pub outstanding : (ls : Lists) (node : Node) (justifications leaves : List Limited) → justifications ≡ ls.justifications
    → leaves ≡ ls.leaves → All (λ s. DoMeet s.members node.hit.members) justifications
    → All (λ s. ¬ IsPart s.members node.hit.members) leaves → IsOutstanding ls node
outstanding ls node justifications leaves js lvs meet none = (
  λ j at. All-contains (λ s. DoMeet s.members node.hit.members) justifications j meet
      (subst (λ (xs : List Limited). Contains xs j) (sym js) at),
  λ part. All-contains (λ s. ¬ IsPart s.members node.hit.members) leaves part.0 none
      (subst (λ (xs : List Limited). Contains xs part.0) (sym lvs) part.1) part.2,
)

-- what holds where there is none
pub if_nothing : (o : Option ℕ) (P : Type 0) → ((n : ℕ) → ¬ (o ≡ Some n)) → IfNone o P → P
if_nothing None P not_some h = h
if_nothing (Some n) P not_some h = absurd (not_some n refl)

pub if_not_some : (o : Option ℕ) (P : Type 0) → is_some o ≡ false → IfNone o P → P
if_not_some None P e h = h
if_not_some (Some n) P e h = absurd (true≢false e)
