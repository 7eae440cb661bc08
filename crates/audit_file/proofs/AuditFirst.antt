-- The malformed line that is told of lines that are no audit is the first.
use Rattle.std.proofs.Common.{◌≡◌, ℕ, zero, suc, ◌+◌, ◌-◌, ◌^◌, ◌<◌, ◌≤◌, List, [], ◌∷◌, ◌++◌, length, take, Result}
use Rattle.std.proofs.Common.{true, Ok, Err, Option, Some, None, refl, ap, sym, ◌∙◌, subst, arith, inl, inr}
use Rattle.std.specs.Prelude.{codes, decimal, slice_get, option_map, option_and_then, IfSome, nat_le}
use Rattle.std.specs.List.{list_all}
use Rattle.std.specs.Result.{result_ok}
use Rattle.std.specs.Str.{bytes_eq}
use Rattle.std.proofs.lemmas.Bool.{leb-true}
use Rattle.std.proofs.lemmas.List.{length-take, length-append, append-nil}
use Rattle.std.proofs.lemmas.Option.{slice_get-get_or}
use Rattle.std.proofs.Math.Seq.{get_or-append_seam}
use Rattle.axiom_sets.specs.Sets.{Limited}
use Rattle.certificate_lines.specs.Lines.{words, number_in}
use Rattle.certificate_lines.specs.Malformed.{BeginsText, IsFirstMalformed, clamped_line}
use Rattle.certificate_lines.specs.declared.fault.LineFault.{LineFault}
use Rattle.certificate_lines.specs.declared.fault.LineFault.TheVariants.{Malformed, NoMemory}
use Rattle.certificate_lines.specs.Names.{is_word_byte}
use Rattle.certificate_lines.specs.Written.{line_of}
use Rattle.shq_terms.specs.Listed.{Listed}
use Rattle.finite_model.specs.ModelText.{model_line_read, size_in, empty_body, model_body, model_of}
use Rattle.finite_model.specs.Malformed.{malformed_model_line}
use Rattle.finite_model.proofs.FirstLine.{model_tells}
use Rattle.refutation_tree.specs.RefutationText.{refutation_line_read, refutation_body, begun, axioms_in, axioms_from}
use Rattle.refutation_tree.specs.RefutationText.{head_in, refutation_of}
use Rattle.refutation_tree.specs.Malformed.{malformed_refutation_line}
use Rattle.refutation_tree.proofs.FirstLine.{refutation_tells}
use Rattle.refutation_tree.proofs.Writable.{and_then_some, when_some}
use Rattle.audit_file.specs.AuditLists.{AuditLists, last_justified, last_repaired, with_justification, with_repair}
use Rattle.audit_file.specs.AuditLists.{empty_audit}
use Rattle.audit_file.specs.AuditText.{Ahead, Reads, read_on, line_read, times, fixed, count_in, set_in}
use Rattle.audit_file.specs.AuditText.{refutation_read, model_read, justification_read, repair_read, counted_read}
use Rattle.audit_file.specs.AuditText.{justifications_read, repairs_read, blank_read, end_read, closed, audit_read}
use Rattle.audit_file.specs.AuditText.{audit_in, up_to, count_line, told, IsFaultBy}
use Rattle.audit_file.specs.Following.{can_follow}
use Rattle.audit_file.specs.Malformed.{audit_of, AuditsTellMalformed, IsFirstFault}
use Rattle.audit_file.specs.Written.{IsSetOf}
use Rattle.audit_file.specs.declared.entries.Justification.{Justification}
use Rattle.audit_file.specs.declared.entries.Repair.{Repair}
use Rattle.audit_file.proofs.Completed.{Completes, both_complete, line_completes, done_completes, block_completes}
use Rattle.audit_file.proofs.Completed.{blank_completes, mapped_completes}
use Rattle.audit_file.proofs.Fitting.{on_ok, line_ok, set_read, times_keeps}
use Rattle.audit_file.proofs.ListedSets.{line_within}
use Rattle.audit_file.proofs.Room.{next_set}
use Rattle.audit_file.proofs.TextBack.{set_row, set_back, count_back}
use Rattle.audit_file.proofs.Cut.{refutation_ends, model_ends}
use Rattle.audit_file.proofs.Fronts.{at_lines, IsFront, Ends, IsLast, both_front, both_last, line_front, done_front}
use Rattle.audit_file.proofs.Fronts.{times_front}
use Rattle.audit_file.proofs.Fronts.{blank_last, mapped_last}
use Rattle.audit_file.proofs.BlockFront.{HasEnd, body_has, line_has, block_front}

refutation_has : (o : Listed) → HasEnd (refutation_of o)
refutation_has o =
    line_has head_in (λ u. axioms_from o)
    (λ u. line_has (axioms_in o) (λ a. refutation_body o (begun a))
    (λ a. body_has (refutation_line_read o) (λ last. last) (begun a)))

model_has : (o : Listed) → HasEnd (model_of o)
model_has o =
    line_has size_in (λ n. model_body o (empty_body n))
    (λ n. body_has (model_line_read o) (λ c. c.model) (empty_body n))

module _ (o : Listed) where
  refutation_front : IsFront (refutation_read o)
  refutation_front =
      block_front (refutation_of o) (malformed_refutation_line o) (refutation_tells o) (refutation_ends o)
      (refutation_has o)

  model_front : IsFront (model_read o)
  model_front = block_front (model_of o) (malformed_model_line o) (model_tells o) (model_ends o) (model_has o)

  justification_front : (more : ℕ) (a : AuditLists) → IsFront (justification_read o more a)
  justification_front more a =
      both_front (line_read (set_in (length o.axioms) (last_justified a) more))
      (λ s from. read_on (refutation_read o from) (λ r next. Ok (with_justification s r a, next)))
      (line_front (set_in (length o.axioms) (last_justified a) more))
      (λ s. both_front (refutation_read o) (λ r next. Ok (with_justification s r a, next)) refutation_front
      (λ r. done_front (with_justification s r a)))

  repair_front : (more : ℕ) (a : AuditLists) → IsFront (repair_read o more a)
  repair_front more a =
      both_front (line_read (set_in (length o.axioms) (last_repaired a) more))
      (λ s from. read_on (model_read o from) (λ m next. Ok (with_repair s m a, next)))
      (line_front (set_in (length o.axioms) (last_repaired a) more))
      (λ s. both_front (model_read o) (λ m next. Ok (with_repair s m a, next)) model_front
      (λ m. done_front (with_repair s m a)))

  counted_front : (keyword : List ℕ) (most : ℕ) (step : ℕ → AuditLists → Ahead → Reads AuditLists)
      → ((more : ℕ) (a : AuditLists) → IsFront (step more a)) → (a : AuditLists)
      → IsFront (counted_read keyword most step a)
  counted_front keyword most step fronts a =
      both_front (line_read (count_in keyword most)) (λ n from. times step n a from)
      (line_front (count_in keyword most)) (λ n. times_front step fronts n a)

  justifications_front : (a : AuditLists) → IsFront (justifications_read o a)
  justifications_front a =
      counted_front (codes "justifications") (can_follow (length o.axioms) (last_justified a)) (justification_read o)
      justification_front a

  repairs_front : (a : AuditLists) → IsFront (repairs_read o a)
  repairs_front a =
      counted_front (codes "repairs") (can_follow (length o.axioms) (last_repaired a)) (repair_read o) repair_front a

  end_last : IsLast end_read
  end_last =
      both_last (line_read (fixed (codes "end audit"))) (λ u from. blank_read from)
      (line_front (fixed (codes "end audit"))) (λ u. blank_last)

  closed_last : (a : AuditLists) → IsLast (closed a)
  closed_last a = mapped_last (λ u. a) end_read end_last

  repairs_last : (b : AuditLists) → IsLast (λ at. read_on (repairs_read o b at) closed)
  repairs_last b = both_last (repairs_read o b) closed (repairs_front b) closed_last

  justifications_last : IsLast
      (λ at. read_on (justifications_read o empty_audit at) (λ b second. read_on (repairs_read o b second) closed))
  justifications_last =
      both_last (justifications_read o empty_audit) (λ b second. read_on (repairs_read o b second) closed)
      (justifications_front empty_audit) repairs_last

  audit_last : IsLast (audit_read o empty_audit)
  audit_last =
      both_last (line_read (fixed (codes "audit")))
      (λ u first. read_on (justifications_read o empty_audit first)
      (λ b second. read_on (repairs_read o b second) closed))
      (line_front (fixed (codes "audit"))) (λ u. justifications_last)

-- ---- what lacks just the next line can be completed

-- where nothing is ahead, the next line is told
told_front : {A : Type 0} (f : Ahead → Reads A) → IsFront f → (n m : ℕ) → f (at_lines n []) ≡ Err m → m ≡ n
told_front f front n m h = let b = front.bad n [] m h in let within = b.2.within in omega (arith, b.1, within)

told_last : {C : Type 0} (f : Ahead → Result C ℕ) → IsLast f → (n m : ℕ) → f (at_lines n []) ≡ Err m → m ≡ n
told_last f last n m h = let b = last n [] m h in let within = b.2.within in omega (arith, b.1, within)

module _ (o : Listed) (few : length o.axioms + 1 < 2 ^ 32) where
  refutation_completes : Completes (refutation_read o)
  refutation_completes =
      block_completes (refutation_of o) (malformed_refutation_line o) (refutation_tells o) (refutation_ends o)

  model_completes : Completes (model_read o)
  model_completes = block_completes (model_of o) (malformed_model_line o) (model_tells o) (model_ends o)

  -- a line of a set is there, if one can follow
  set_completes : (before : Option Limited) (more : ℕ) → IfSome before (IsSetOf o)
      → suc more ≤ can_follow (length o.axioms) before
      → Completes (line_read (set_in (length o.axioms) before more))
  set_completes before more of room =
      let next = next_set o before more of room in
      let s = next.0 in
      let small : s.limit + 1 < 2 ^ 32 = omega (arith, few, next.1.is_set.limit) in
      line_completes (set_in (length o.axioms) before more) (set_row s next.1.is_set.within small) s
      (set_back s next.1.is_set.within small (length o.axioms) before more next.1.is_set.limit next.1.after
      next.1.room)

  justification_completes : (more : ℕ) (a : AuditLists) → IfSome (last_justified a) (IsSetOf o)
      → suc more ≤ can_follow (length o.axioms) (last_justified a) → Completes (justification_read o more a)
  justification_completes more a of room =
      both_complete (line_read (set_in (length o.axioms) (last_justified a) more))
      (λ s from. read_on (refutation_read o from) (λ r next. Ok (with_justification s r a, next)))
      (line_front (set_in (length o.axioms) (last_justified a) more))
      (set_completes (last_justified a) more of room)
      (λ s. told_front (λ from. read_on (refutation_read o from) (λ r next. Ok (with_justification s r a, next)))
      (both_front (refutation_read o) (λ r next. Ok (with_justification s r a, next)) (refutation_front o)
      (λ r. done_front (with_justification s r a))))
      (λ at s next read. both_complete (refutation_read o) (λ r after. Ok (with_justification s r a, after))
      (refutation_front o) refutation_completes
      (λ r. told_front (λ after. Ok (with_justification s r a, after)) (done_front (with_justification s r a)))
      (λ from r after was. done_completes (with_justification s r a)))

  repair_completes : (more : ℕ) (a : AuditLists) → IfSome (last_repaired a) (IsSetOf o)
      → suc more ≤ can_follow (length o.axioms) (last_repaired a) → Completes (repair_read o more a)
  repair_completes more a of room =
      both_complete (line_read (set_in (length o.axioms) (last_repaired a) more))
      (λ s from. read_on (model_read o from) (λ m next. Ok (with_repair s m a, next)))
      (line_front (set_in (length o.axioms) (last_repaired a) more))
      (set_completes (last_repaired a) more of room)
      (λ s. told_front (λ from. read_on (model_read o from) (λ m next. Ok (with_repair s m a, next)))
      (both_front (model_read o) (λ m next. Ok (with_repair s m a, next)) (model_front o)
      (λ m. done_front (with_repair s m a))))
      (λ at s next read. both_complete (model_read o) (λ m after. Ok (with_repair s m a, after)) (model_front o)
      model_completes
      (λ m. told_front (λ after. Ok (with_repair s m a, after)) (done_front (with_repair s m a)))
      (λ from m after was. done_completes (with_repair s m a)))

  -- ---- so many sets

  -- the set that was read last is one of axioms, and so many can follow it
  record HasRoom (before : Option Limited) (more : ℕ) : Type 0 where
    pub of : IfSome before (IsSetOf o)
    pub room : more ≤ can_follow (length o.axioms) before

  set_leaves_room : (before : Option Limited) (more : ℕ) (l : List ℕ) (s : Limited)
      → set_in (length o.axioms) before more l ≡ Some s → HasRoom (Some s) more
  set_leaves_room before more l s h =
      let r = set_read (length o.axioms) before more l s h in
      record {
        of = record { limit = r.limit; within = line_within (length o.axioms) (words l) s r.says };
        room = r.room;
      }

  last_pushed : {X : Type 0} (set_of : X → Limited) (xs : List X) (x : X)
      → option_map set_of (slice_get (xs ++ x ∷ []) (length (xs ++ x ∷ []) - 1)) ≡ Some (set_of x)
  last_pushed set_of xs x =
      let long = length-append xs (x ∷ []) in
      let last : length (xs ++ x ∷ []) - 1 ≡ length xs = omega (arith, long) in
      ap (λ k. option_map set_of (slice_get (xs ++ x ∷ []) k)) last
      ∙ ap (option_map set_of) (slice_get-get_or (xs ++ x ∷ []) (length xs) x (omega (arith, long)))
      ∙ ap (λ y. Some (set_of y)) (get_or-append_seam xs x [] x)

  justification_leaves : (more : ℕ) (a : AuditLists) (at : Ahead) (b : AuditLists) (next : Ahead)
      → justification_read o more a at ≡ Ok (b, next) → HasRoom (last_justified b) more
  justification_leaves more a at b next h =
      let set =
      on_ok (line_read (set_in (length o.axioms) (last_justified a) more) at)
      (λ s from. read_on (refutation_read o from) (λ r after. Ok (with_justification s r a, after))) (b, next) h in
      let line = line_ok (set_in (length o.axioms) (last_justified a) more) at set.0.0 set.0.1 set.1 in
      let read =
      on_ok (refutation_read o set.0.1) (λ r after. Ok (with_justification set.0.0 r a, after)) (b, next) set.2 in
      let same : ◌≡◌ {A = AuditLists × Ahead} (with_justification set.0.0 read.0.0 a, read.0.1) (b, next) = cc read.2 in
      let j : Justification = record { set = set.0.0; refutation = read.0.0 } in
      subst (λ (p : AuditLists × Ahead). HasRoom (last_justified p.0) more) same
      (subst (λ (before : Option Limited). HasRoom before more)
      (sym (last_pushed (λ (x : Justification). x.set) a.justifications j))
      (set_leaves_room (last_justified a) more line.line set.0.0 line.is))

  repair_leaves : (more : ℕ) (a : AuditLists) (at : Ahead) (b : AuditLists) (next : Ahead)
      → repair_read o more a at ≡ Ok (b, next) → HasRoom (last_repaired b) more
  repair_leaves more a at b next h =
      let set =
      on_ok (line_read (set_in (length o.axioms) (last_repaired a) more) at)
      (λ s from. read_on (model_read o from) (λ m after. Ok (with_repair s m a, after))) (b, next) h in
      let line = line_ok (set_in (length o.axioms) (last_repaired a) more) at set.0.0 set.0.1 set.1 in
      let read = on_ok (model_read o set.0.1) (λ m after. Ok (with_repair set.0.0 m a, after)) (b, next) set.2 in
      let same : ◌≡◌ {A = AuditLists × Ahead} (with_repair set.0.0 read.0.0 a, read.0.1) (b, next) = cc read.2 in
      let r : Repair = record { set = set.0.0; model = read.0.0 } in
      subst (λ (p : AuditLists × Ahead). HasRoom (last_repaired p.0) more) same
      (subst (λ (before : Option Limited). HasRoom before more)
      (sym (last_pushed (λ (x : Repair). x.set) a.repairs r))
      (set_leaves_room (last_repaired a) more line.line set.0.0 line.is))

  module _ (step : ℕ → AuditLists → Ahead → Reads AuditLists) (last : AuditLists → Option Limited)
      (fronts : (more : ℕ) (a : AuditLists) → IsFront (step more a))
      (completes : (more : ℕ) (a : AuditLists) → IfSome (last a) (IsSetOf o)
      → suc more ≤ can_follow (length o.axioms) (last a) → Completes (step more a))
      (leaves : (more : ℕ) (a : AuditLists) (at : Ahead) (b : AuditLists) (next : Ahead)
      → step more a at ≡ Ok (b, next) → HasRoom (last b) more) where
    times_complete : (n : ℕ) (a : AuditLists) → HasRoom (last a) n → Completes (times step n a)
    times_complete zero a has = done_completes a
    times_complete (suc n) a has =
        both_complete (step n a) (times step n) (fronts n a) (completes n a has.of has.room)
        (λ b. told_front (times step n b) (times_front step fronts n b))
        (λ at b next read. times_complete n b (leaves n a at b next read))

    counted_complete : (keyword : List ℕ) (a : AuditLists) → IfSome (last a) (IsSetOf o)
        → list_all is_word_byte keyword ≡ true → bytes_eq keyword keyword ≡ true
        → Completes (counted_read keyword (can_follow (length o.axioms) (last a)) step a)
    counted_complete keyword a of plain same =
        let most = can_follow (length o.axioms) (last a) in
        both_complete (line_read (count_in keyword most)) (λ n from. times step n a from)
        (line_front (count_in keyword most))
        (line_completes (count_in keyword most) (line_of keyword (decimal 0 ∷ [])) 0
        (count_back keyword most 0 plain same (omega arith) (omega arith)))
        (λ n. told_front (times step n a) (times_front step fronts n a))
        (λ at n next read.
        let line = line_ok (count_in keyword most) at n next read in
        times_complete n a (record { of = of; room = count_room keyword most line.line n line.is }))
      where
        count_room : (keyword : List ℕ) (most : ℕ) (l : List ℕ) (n : ℕ) → count_in keyword most l ≡ Some n → n ≤ most
        count_room keyword most l n h = by (words l) h
          where
            by : (ws : List (List ℕ)) → count_line keyword most ws ≡ Some n → n ≤ most
            by [] h = absurd (cc h)
            by (k ∷ []) h = absurd (cc h)
            by (k ∷ w ∷ []) h =
                let word = when_some (bytes_eq k keyword) (option_and_then (up_to most) (number_in w)) n h in
                let number = and_then_some (up_to most) (number_in w) n word.1 in
                let inside = when_some (nat_le number.0 most) (Some number.0) n number.2 in
                let same : number.0 ≡ n = cc inside.1 in
                omega (arith, leb-true number.0 most inside.0, same)
            by (k ∷ w ∷ v ∷ ws) h = absurd (cc h)

  no_set : (a : AuditLists) → a.justifications ≡ [] → IfSome (last_justified a) (IsSetOf o)
  no_set a none =
      subst (λ (js : List Justification). IfSome (option_map (λ (j : Justification). j.set)
      (slice_get js (length js - 1))) (IsSetOf o)) (sym none) tt

  no_repair : (a : AuditLists) → a.repairs ≡ [] → IfSome (last_repaired a) (IsSetOf o)
  no_repair a none =
      subst (λ (rs : List Repair). IfSome (option_map (λ (r : Repair). r.set) (slice_get rs (length rs - 1)))
      (IsSetOf o)) (sym none) tt

  -- ---- the whole

  end_completes : Completes end_read
  end_completes =
      both_complete (line_read (fixed (codes "end audit"))) (λ u from. blank_read from)
      (line_front (fixed (codes "end audit"))) (line_completes (fixed (codes "end audit")) (codes "end audit") tt refl)
      (λ u. told_last blank_read blank_last) (λ at u next read. blank_completes)

  closed_completes : (a : AuditLists) → Completes (closed a)
  closed_completes a = mapped_completes (λ u. a) end_read end_completes

  repairs_complete : (b : AuditLists) → b.repairs ≡ [] → Completes (λ at. read_on (repairs_read o b at) closed)
  repairs_complete b none =
      both_complete (repairs_read o b) closed (repairs_front o b)
      (counted_complete (repair_read o) last_repaired (repair_front o) repair_completes repair_leaves
      (codes "repairs") b (no_repair b none) refl refl)
      (λ a. told_last (closed a) (closed_last o a)) (λ at a next read. closed_completes a)

  -- the justifications leave the repairs as they are
  no_repairs_yet : (at : Ahead) (b : AuditLists) (next : Ahead)
      → justifications_read o empty_audit at ≡ Ok (b, next) → b.repairs ≡ []
  no_repairs_yet at b next h =
      let count =
      on_ok (line_read (count_in (codes "justifications") (can_follow (length o.axioms) None)) at)
      (λ n from. times (justification_read o) n empty_audit from) (b, next) h in
      times_keeps (justification_read o) (λ a from. a.repairs ≡ []) keeps count.0.0 empty_audit count.0.1 b next count.2
      refl
    where
      keeps : (k : ℕ) (a : AuditLists) (from : Ahead) (c : AuditLists) (after : Ahead)
          → justification_read o k a from ≡ Ok (c, after) → a.repairs ≡ [] → c.repairs ≡ []
      keeps k a from c after read none =
          let set =
          on_ok (line_read (set_in (length o.axioms) (last_justified a) k) from)
          (λ s from. read_on (refutation_read o from) (λ r after. Ok (with_justification s r a, after))) (c, after)
          read in
          let block =
          on_ok (refutation_read o set.0.1) (λ r after. Ok (with_justification set.0.0 r a, after)) (c, after) set.2 in
          let same : ◌≡◌ {A = AuditLists × Ahead} (with_justification set.0.0 block.0.0 a, block.0.1) (c, after) =
          cc block.2 in
          ap (λ (p : AuditLists × Ahead). p.0.repairs) (sym same) ∙ none

  audit_completes : Completes (audit_read o empty_audit)
  audit_completes =
      both_complete (line_read (fixed (codes "audit")))
      (λ u first. read_on (justifications_read o empty_audit first)
      (λ b second. read_on (repairs_read o b second) closed))
      (line_front (fixed (codes "audit"))) (line_completes (fixed (codes "audit")) (codes "audit") tt refl)
      (λ u. told_last (λ first. read_on (justifications_read o empty_audit first)
      (λ b second. read_on (repairs_read o b second) closed))
      (justifications_last o))
      (λ at u next read. both_complete (justifications_read o empty_audit)
      (λ b second. read_on (repairs_read o b second) closed) (justifications_front o empty_audit)
      (counted_complete (justification_read o) last_justified (justification_front o) justification_completes
      justification_leaves (codes "justifications") empty_audit tt refl refl)
      (λ b. told_last (λ second. read_on (repairs_read o b second) closed) (repairs_last o b))
      (λ from b after was. repairs_complete b (no_repairs_yet from b after was)))

  module _ (ls : List (List ℕ)) (n : ℕ) (h : audit_in o ls ≡ Err n) where
    abbrev found : (k : ℕ) × (n ≡ 1 + k) × Ends (audit_read o empty_audit) 1 ls k
    found = audit_last o 1 ls n h

    begins : BeginsText (audit_of o) (take found.0 ls)
    begins = elim (found.2.before found.0 (omega arith)) [
      | inl ok ↦
          ([], ok.0, ap (audit_of o) (append-nil (take found.0 ls)) ∙ ap result_ok ok.1)
      | inr lacks ↦
          let within = found.2.within in
          let e : 1 + found.0 ≡ 1 + length (take found.0 ls) = omega (arith, length-take found.0 ls, within) in
          let more = audit_completes 1 (take found.0 ls) (lacks ∙ ap Err e) in
          (more.0, more.1, ap result_ok more.2)
    ]

    no_other : found.0 < length ls → BeginsText (audit_of o) (take (suc found.0) ls) → ⊥
    no_other lt some =
        let clash : ◌≡◌ {A = Option AuditLists} None (Some some.1) =
        sym (ap result_ok (found.2.stops lt some.0)) ∙ some.2 in
        absurd (cc clash)

    first_malformed : IsFirstMalformed 1 (audit_of o) ls n
    first_malformed = (
      found.0,
      found.1,
      record { no_text = ap result_ok h; within = found.2.within; begins = begins; stops = no_other },
    )

-- the fault that is told
pub first_fault : (o : Listed) (ls : List (List ℕ)) (e : LineFault) → length o.axioms + 1 < 2 ^ 32
    → IsFaultBy (audit_in o ls) e → IsFirstFault o ls e
first_fault o ls NoMemory few fault = tt
first_fault o ls (Malformed line) few fault = by (audit_in o ls) refl
  where
    by : (r : Result AuditLists ℕ) → audit_in o ls ≡ r → IsFirstFault o ls (Malformed line)
    by (Ok a) is =
        let clash : ◌≡◌ {A = Option ℕ} None (Some line) = sym (ap told is) ∙ fault in absurd (cc clash)
    by (Err n) is =
        let same : clamped_line n ≡ line = cc (sym (ap told is) ∙ fault) in
        (n, first_malformed o few ls n is, sym same)

pub tell_malformed : AuditsTellMalformed
tell_malformed o ls n few h = first_malformed o few ls n h
