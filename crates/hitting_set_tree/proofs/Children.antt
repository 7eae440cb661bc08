-- What a frame and a child stand for.
use Rattle.std.proofs.Common.{◌≡◌, ◌≢◌, ℕ, ◌+◌, ◌*◌, ◌^◌, ◌≤◌, ◌⊎◌, ◌&&◌, ◌||◌, not, Bool, true, false, cond, eqb}
use Rattle.std.proofs.Common.{add-zero, refl, sym, ap, ◌∙◌, subst, arith, inl, inr, eq-eqb}
use Rattle.std.proofs.Math.Bool.{or-true, and-false}
use Rattle.std.specs.FinSet as set
use Rattle.std.proofs.lemmas.Bool.{cases_eq, cases_Bool, true≢false, ne_eqb, or_cases, and_parts, eqb-true}
use Rattle.lane_sieve.specs.Sets.{NumberSet, IsPart, DoMeet}
use Rattle.lane_sieve.proofs.Bits.{contains_insert, contains_remove}
use Rattle.axiom_sets.specs.Sets.{Limited}
use Rattle.pinpointing_specs.specs.Smallest.{AreApart}
use Rattle.pinpointing_specs.proofs.Choices.{in_without, to_without, meet_or_apart}
use Rattle.hitting_set_tree.specs.declared.frames.Frame.{Frame}
use Rattle.hitting_set_tree.specs.declared.frames.Node.{Node}
use Rattle.hitting_set_tree.specs.Territory.{InNode, InScope, InFrame, IsNode, IsFrame, IsNextChild, Frames}
use Rattle.hitting_set_tree.specs.Weight.{count_below, is_free, free_count, ahead_count, node_weight, frame_weight}
use Rattle.hitting_set_tree.proofs.Counts.{count_sum, count_same, count_one, child_weight, frame_less}

pub apart_turned : (s t : NumberSet) → AreApart s t → AreApart t s
apart_turned s t apart k h =
    elim (cases_Bool (set.contains s k)) [ inl yes' ↦ absurd (true≢false (sym h ∙ apart k yes')) | inr no' ↦ no' ]

free_parts : (h b l : Bool) → (l ≡ true → h ≡ false)
    → cond (not h && not b) 1 0 ≡ cond (not h && not (b || l)) 1 0 + cond (l && not b) 1 0
free_parts true b true h = absurd (true≢false (h refl))
free_parts true b false h = refl
free_parts false true true h = refl
free_parts false true false h = refl
free_parts false false true h = refl
free_parts false false false h = refl

-- ---- the frame of a node

module _ (node : Node) (label : Limited) (barred ahead : Limited) (good : IsNode node.hit.limit node)
    (apart : AreApart label.members node.hit.members)
    (barred_limit : barred.limit ≡ node.hit.limit) (ahead_limit : ahead.limit ≡ node.hit.limit)
    (both : (k : ℕ)
    → set.contains barred.members k ≡ (set.contains node.barred.members k || set.contains label.members k))
    (less : (k : ℕ)
    → set.contains ahead.members k ≡ (set.contains label.members k && not (set.contains node.barred.members k))) where
  abbrev frame : Frame
  frame = record { hit = node.hit; barred = barred; ahead = ahead; label = label }

  free_split : (k : ℕ)
      → cond (is_free node.hit node.barred k) 1 0
      ≡ cond (is_free node.hit barred k) 1 0 + cond (set.contains ahead.members k) 1 0
  free_split k =
      free_parts (set.contains node.hit.members k) (set.contains node.barred.members k) (set.contains label.members k)
      (apart k)
      ∙ ap (λ (x : Bool). cond (not (set.contains node.hit.members k) && not x) 1 0
      + cond (set.contains label.members k && not (set.contains node.barred.members k)) 1 0)
      (sym (both k))
      ∙ ap (λ (x : Bool). cond (is_free node.hit barred k) 1 0 + cond x 1 0) (sym (less k))

  in_label : (k : ℕ) → set.contains node.barred.members k ≡ false → set.contains barred.members k ≡ true
      → set.contains label.members k ≡ true
  in_label k no' h = ap (λ (b : Bool). b || set.contains label.members k) (sym no') ∙ sym (both k) ∙ h

  to_ahead : (k : ℕ) → set.contains node.barred.members k ≡ false → set.contains label.members k ≡ true
      → set.contains ahead.members k ≡ true
  to_ahead k no' yes' = less k ∙ ap (λ (b : Bool). b && not (set.contains node.barred.members k)) yes' ∙ ap not no'

  opens : (t : NumberSet) → InNode node t → DoMeet label.members t → InFrame frame t
  opens t inside meet = (
    (
      inside.0,
      λ k in_barred shut.
          elim (cases_Bool (set.contains node.barred.members k)) [
            | inl yes' ↦ inside.1 k yes'
            | inr no' ↦ absurd (true≢false (sym (to_ahead k no' (in_label k no' in_barred)) ∙ shut))
          ],
    ),
    (meet.0, to_ahead meet.0 (apart_turned node.barred.members t inside.1 meet.0 meet.2) meet.1, meet.2),
  )

  scoped : (t : NumberSet) → InScope frame t → InNode node t
  scoped t inside = (
    inside.0,
    λ k yes'.
        inside.1 k (both k ∙ ap (λ (b : Bool). b || set.contains label.members k) yes')
        (less k ∙ ap (λ (b : Bool). set.contains label.members k && not b) yes'
        ∙ and-false (set.contains label.members k)),
  )

  keeps_apart : AreApart node.hit.members barred.members
  keeps_apart k h =
      both k ∙ ap (λ (b : Bool). b || set.contains label.members k) (good.apart k h)
      ∙ apart_turned label.members node.hit.members apart k h

  inside_barred : IsPart ahead.members barred.members
  inside_barred k h =
      both k ∙ ap (λ (b : Bool). set.contains node.barred.members k || b)
      (and_parts (set.contains label.members k) (not (set.contains node.barred.members k)) (sym (less k) ∙ h)).0
      ∙ or-true (set.contains node.barred.members k)

  pub frames : Frames node label frame
  frames =
      let total : free_count node.hit node.barred ≡ free_count node.hit barred + ahead_count frame =
      count_sum (is_free node.hit barred) (set.contains ahead.members) (is_free node.hit node.barred) free_split
      (node.hit.limit + 1) in
      record {
        good = record {
          hit_limit = refl;
          barred_limit = barred_limit;
          ahead_limit = ahead_limit;
          apart = keeps_apart;
          ahead_barred = inside_barred;
          label_apart = apart;
          ahead_label =
              λ k h. (and_parts (set.contains label.members k) (not (set.contains node.barred.members k))
              (sym (less k) ∙ h)).0;
        };
        same_hit = refl;
        same_label = refl;
        opens = opens;
        inside = scoped;
        lighter =
            subst (λ (f : ℕ). frame_weight frame + 1 ≤ 2 * 2 ^ f) (sym total)
            (frame_less (free_count node.hit barred) (ahead_count frame));
      }

-- ---- a child of a frame

module _ (frame : Frame) (number : ℕ) (hit barred ahead : Limited) (good : IsFrame frame.hit.limit frame)
    (member : set.contains frame.ahead.members number ≡ true) (low : number ≤ frame.hit.limit)
    (hit_limit : hit.limit ≡ frame.hit.limit) (barred_limit : barred.limit ≡ frame.hit.limit)
    (ahead_limit : ahead.limit ≡ frame.hit.limit)
    (hits : hit.members ≡ set.insert frame.hit.members number)
    (bars : barred.members ≡ set.remove frame.barred.members number)
    (leaves : ahead.members ≡ set.remove frame.ahead.members number) where
  abbrev left : Frame
  left = record { hit = frame.hit; barred = barred; ahead = ahead; label = frame.label }

  abbrev node : Node
  node = record { hit = hit; barred = barred }

  barred_before : (k : ℕ) → set.contains barred.members k ≡ true
      → (k ≢ number) × (set.contains frame.barred.members k ≡ true)
  barred_before k h =
      in_without frame.barred.members number k (subst (λ (s : NumberSet). set.contains s k ≡ true) bars h)

  to_barred : (k : ℕ) → k ≢ number → set.contains frame.barred.members k ≡ true → set.contains barred.members k ≡ true
  to_barred k ne h =
      subst (λ (s : NumberSet). set.contains s k ≡ true) (sym bars) (to_without frame.barred.members number k ne h)

  to_ahead_left : (k : ℕ) → k ≢ number → set.contains frame.ahead.members k ≡ true → set.contains ahead.members k ≡ true
  to_ahead_left k ne h =
      subst (λ (s : NumberSet). set.contains s k ≡ true) (sym leaves) (to_without frame.ahead.members number k ne h)

  ahead_before : (k : ℕ) → set.contains ahead.members k ≡ true
      → (k ≢ number) × (set.contains frame.ahead.members k ≡ true)
  ahead_before k h =
      in_without frame.ahead.members number k (subst (λ (s : NumberSet). set.contains s k ≡ true) leaves h)

  not_barred : (k : ℕ) → (set.contains barred.members k ≡ true → ⊥) → set.contains barred.members k ≡ false
  not_barred k none =
      elim (cases_Bool (set.contains barred.members k)) [ inl yes' ↦ absurd (none yes') | inr no' ↦ no' ]

  hit_cases : (k : ℕ) → set.contains hit.members k ≡ true → (k ≡ number) ⊎ (set.contains frame.hit.members k ≡ true)
  hit_cases k h =
      elim (or_cases (eqb k number) (set.contains frame.hit.members k)
      (sym (contains_insert frame.hit.members number k) ∙ subst (λ (s : NumberSet). set.contains s k ≡ true) hits h)) [
        | inl e ↦ inl (eqb-true k number e)
        | inr old ↦ inr old
      ]

  left_good : IsFrame frame.hit.limit left
  left_good =
      record {
        hit_limit = refl;
        barred_limit = barred_limit;
        ahead_limit = ahead_limit;
        apart = λ k h. not_barred k (λ yes'. true≢false (sym (barred_before k yes').1 ∙ good.apart k h));
        ahead_barred = λ k h. let both = ahead_before k h in to_barred k both.0 (good.ahead_barred k both.1);
        label_apart = good.label_apart;
        ahead_label = λ k h. good.ahead_label k (ahead_before k h).1;
      }

  node_good : IsNode frame.hit.limit node
  node_good =
      record {
        hit_limit = hit_limit;
        barred_limit = barred_limit;
        apart = λ k h. not_barred k (λ yes'.
            let before = barred_before k yes' in
            elim (hit_cases k h) [ inl e ↦ before.0 e | inr old ↦ true≢false (sym before.1 ∙ good.apart k old) ]);
      }

  none_but : (t : NumberSet) → AreApart ahead.members t → (m : ℕ) → set.contains frame.ahead.members m ≡ true
      → set.contains t m ≡ true → m ≡ number
  none_but t apart m in_ahead in_t =
      elim (cases_eq m number)
      [ inl e ↦ e | inr ne ↦ absurd (true≢false (sym in_t ∙ apart m (to_ahead_left m ne in_ahead))) ]

  splits : (t : NumberSet) → InFrame frame t → InFrame left t ⊎ InNode node t
  splits t inside =
      elim (meet_or_apart ahead.members t) [
        | inl meet ↦
            inl (
              (
                inside.0.0,
                λ k in_barred shut.
                    let before = barred_before k in_barred in
                    inside.0.1 k before.1 (elim (cases_Bool (set.contains frame.ahead.members k))
                    [ inl yes' ↦ absurd (true≢false (sym (to_ahead_left k before.0 yes') ∙ shut)) | inr no' ↦ no' ]),
              ),
              meet,
            )
        | inr apart ↦
            let meet = inside.1 in
            inr (
              λ k h. elim (hit_cases k h) [
                | inl e ↦
                    subst (λ (m : ℕ). set.contains t m ≡ true) (none_but t apart meet.0 meet.1 meet.2 ∙ sym e) meet.2
                | inr old ↦ inside.0.0 k old
              ],
              λ k in_barred.
                  let before = barred_before k in_barred in
                  elim (cases_Bool (set.contains frame.ahead.members k)) [
                    | inl yes' ↦ apart k (to_ahead_left k before.0 yes')
                    | inr no' ↦ inside.0.1 k before.1 no'
                  ],
            )
      ]

  in_hit : set.contains hit.members number ≡ true
  in_hit =
      ap (λ (s : NumberSet). set.contains s number) hits ∙ contains_insert frame.hit.members number number
      ∙ ap (λ (b : Bool). b || set.contains frame.hit.members number) (eq-eqb number number refl)

  keeps_hit : IsPart frame.hit.members hit.members
  keeps_hit k h =
      ap (λ (s : NumberSet). set.contains s k) hits ∙ contains_insert frame.hit.members number k
      ∙ ap (λ (b : Bool). eqb k number || b) h ∙ or-true (eqb k number)

  shared : (t : NumberSet) → InNode node t → ¬ InFrame left t
  shared t inside in_left =
      let meet = in_left.1 in
      true≢false (sym meet.2 ∙ inside.1 meet.0 (left_good.ahead_barred meet.0 meet.1))

  node_inside : (t : NumberSet) → InNode node t → InFrame frame t
  node_inside t inside = (
    (
      λ k h. inside.0 k (keeps_hit k h),
      λ k in_barred shut. inside.1 k
          (to_barred k (λ e. true≢false (sym member ∙ ap (set.contains frame.ahead.members) (sym e) ∙ shut)) in_barred),
    ),
    (number, member, inside.0 number in_hit),
  )

  left_inside : (t : NumberSet) → InScope left t → InScope frame t
  left_inside t inside = (
    inside.0,
    λ k in_barred shut.
        inside.1 k
        (to_barred k (λ e. true≢false (sym member ∙ ap (set.contains frame.ahead.members) (sym e) ∙ shut)) in_barred)
        (elim (cases_Bool (set.contains ahead.members k))
        [ inl yes' ↦ absurd (true≢false (sym (ahead_before k yes').1 ∙ shut)) | inr no' ↦ no' ]),
  )

  in_frame_barred : set.contains frame.barred.members number ≡ true
  in_frame_barred = good.ahead_barred number member

  not_hit : set.contains frame.hit.members number ≡ false
  not_hit = apart_turned frame.hit.members frame.barred.members good.apart number in_frame_barred

  barred_is : (k : ℕ) → set.contains barred.members k ≡ (not (eqb k number) && set.contains frame.barred.members k)
  barred_is k = ap (λ (s : NumberSet). set.contains s k) bars ∙ contains_remove frame.barred.members number k

  hit_is : (k : ℕ) → set.contains hit.members k ≡ (eqb k number || set.contains frame.hit.members k)
  hit_is k = ap (λ (s : NumberSet). set.contains s k) hits ∙ contains_insert frame.hit.members number k

  ahead_is : (k : ℕ) → set.contains ahead.members k ≡ (not (eqb k number) && set.contains frame.ahead.members k)
  ahead_is k = ap (λ (s : NumberSet). set.contains s k) leaves ∙ contains_remove frame.ahead.members number k

  same_free : (k : ℕ) → is_free hit barred k ≡ is_free frame.hit frame.barred k
  same_free k =
      elim (cases_eq k number) [
        | inl e ↦ rw (e, hit_is number, barred_is number, eq-eqb number number refl, in_frame_barred, not_hit) refl
        | inr ne ↦ rw (hit_is k, barred_is k, ne_eqb k number ne) refl
      ]

  one_freed : (k : ℕ)
      → cond (is_free frame.hit barred k) 1 0 ≡ cond (is_free frame.hit frame.barred k) 1 0 + cond (eqb k number) 1 0
  one_freed k =
      elim (cases_eq k number) [
        | inl e ↦ rw (e, barred_is number, eq-eqb number number refl, in_frame_barred, not_hit) refl
        | inr ne ↦ rw (barred_is k, ne_eqb k number ne) (sym (add-zero _))
      ]

  one_fewer : (k : ℕ)
      → cond (set.contains frame.ahead.members k) 1 0
      ≡ cond (set.contains ahead.members k) 1 0 + cond (eqb k number) 1 0
  one_fewer k =
      elim (cases_eq k number) [
        | inl e ↦ rw (e, ahead_is number, eq-eqb number number refl, member) refl
        | inr ne ↦ rw (ahead_is k, ne_eqb k number ne) (sym (add-zero _))
      ]

  weighs : node_weight node + frame_weight left ≤ frame_weight frame
  weighs =
      let g = free_count frame.hit frame.barred in
      let p = ahead_count left in
      let same : free_count hit barred ≡ g =
      ap (λ (n : ℕ). count_below (is_free hit barred) (n + 1)) hit_limit
      ∙ count_same (is_free hit barred) (is_free frame.hit frame.barred) same_free (frame.hit.limit + 1) in
      let freed : free_count frame.hit barred ≡ g + 1 =
      count_sum (is_free frame.hit frame.barred) (λ k. eqb k number) (is_free frame.hit barred) one_freed
      (frame.hit.limit + 1)
      ∙ ap (λ (n : ℕ). g + n) (count_one number (frame.hit.limit + 1) (omega arith)) in
      let fewer : ahead_count frame ≡ p + 1 =
      count_sum (set.contains ahead.members) (λ k. eqb k number) (set.contains frame.ahead.members) one_fewer
      (frame.hit.limit + 1)
      ∙ ap (λ (n : ℕ). p + n) (count_one number (frame.hit.limit + 1) (omega arith)) in
      rw (same, freed, fewer) (child_weight g p)

  pub next_child : IsNextChild frame left node
  next_child =
      record {
        good = left_good;
        node_good = node_good;
        same_hit = refl;
        same_label = refl;
        child = record {
          apart = good.label_apart;
          number = number;
          of_label = good.ahead_label number member;
          grown = hits;
        };
        splits = splits;
        shared = shared;
        node_inside = node_inside;
        left_inside = left_inside;
        ahead_inside = λ k h. (ahead_before k h).1;
        lighter = weighs;
      }
