-- One block more in the log.
use Rattle.std.proofs.Common.{◌≡◌, ◌⊎◌, ℕ, zero, suc, ◌+◌, ◌-◌, ◌<◌, ◌||◌, Bool, true, false, List, [], ◌∷◌, ◌++◌}
use Rattle.std.proofs.Common.{length, take, Some, refl, ap, sym, ◌∙◌, subst, arith, inl, inr, length-append, append-nil}
use Rattle.std.specs.Prelude.{slice_get}
use Rattle.std.specs.List.{All, list_any}
use Rattle.std.proofs.Math.Seq.{take-append_seam}
use Rattle.std.proofs.lemmas.Bool.{or_cases, true≢false}
use Rattle.std.proofs.lemmas.Grind.{flat_map-append}
use Rattle.std.proofs.lemmas.List.Elements.{All-nil, All-append, All-weaker}
use Rattle.std.proofs.lemmas.List.Folds.{list_any-append}
use Rattle.std.proofs.lemmas.List.Sums.{sum_by-append}
use Rattle.std.proofs.lemmas.Option.{slice_get_within}
use Rattle.shq_terms.specs.Concept.{Concept}
use Rattle.shq_terms.specs.Listed.{Listed}
use Rattle.shq_terms.specs.declared.axioms.On.TheVariants.{Individual}
use Rattle.shq_terms.specs.declared.axioms.Query.{Query}
use Rattle.realizer.specs.Entry.{Entry}
use Rattle.realizer.specs.Entry.TheVariants.{Test, Node}
use Rattle.realizer.specs.Entries.{cost_of, spent_of, is_spent}
use Rattle.realizer.specs.HonestLog.{IsHonestEntry, IsHonestWithin, IsTestOf, IsPinpointingLog}
use Rattle.pinpointing_jobs.specs.Told.{IsTestOfOther, AreTestsOfOthers}
use Rattle.pinpointing_jobs.proofs.Logged.{at_end}
use Rattle.pinpointing_jobs.specs.Wanted.{ShowsAll}
use Rattle.realizer.specs.Instances.{instance_query}
use Rattle.individual_jobs.specs.ReasonLogs.{IsBlock, joined_blocks, AreBlocks, IsReasonLog, AreShown}

-- ---- the whole log

-- what stands at a place of two lists stands in the one or in the other
of_two : {X : Type 0} (xs ys : List X) (place : ℕ) (y : X) → slice_get (xs ++ ys) place ≡ Some y
    → (slice_get xs place ≡ Some y)
    ⊎ ((place ≡ length xs + (place - length xs)) × (slice_get ys (place - length xs) ≡ Some y))
of_two {X = X} [] ys place y at =
    let same : place - 0 ≡ place = omega arith in
    inr (omega arith, ap (slice_get ys) same ∙ at)
of_two {X = X} (x ∷ xs) ys zero y at = inl at
of_two {X = X} (x ∷ xs) ys (suc place) y at =
    elim (of_two xs ys place y at) [
      | inl h ↦ inl h
      | inr h ↦
          let same : suc place - length (x ∷ xs) ≡ place - length xs = omega arith in
          inr (omega (arith, h.0), ap (slice_get ys) same ∙ h.1)
    ]

-- an entry that is a test which spent the budget
spent_at : (log : List Entry) (place : ℕ) (e : Entry) → list_any is_spent log ≡ false → slice_get log place ≡ Some e
    → ¬ (is_spent e ≡ true)
spent_at [] place e none at spent = cc
spent_at (d ∷ log) zero e none at spent =
    let same : d ≡ e = cc in
    true≢false (sym (ap (λ (b : Bool). b || list_any is_spent log) (ap is_spent same ∙ spent)) ∙ none)
spent_at (d ∷ log) (suc place) e none at spent = spent_at log place e (later (is_spent d) none) at spent
  where
    later : (b : Bool) → (b || list_any is_spent log) ≡ false → list_any is_spent log ≡ false
    later true h = let k : true ≡ false = h in absurd (cc k)
    later false h = h

module _ (o : Listed) (budget : ℕ) (log gained : List Entry) (kept : IsHonestWithin o budget log)
    (none : list_any is_spent log ≡ false) (more : IsHonestWithin o (budget - spent_of log) gained) where
  spent_both : spent_of (log ++ gained) ≡ spent_of log + spent_of gained
  spent_both = sum_by-append cost_of log gained

  ends_last : (place : ℕ) (e : Entry) → slice_get (log ++ gained) place ≡ Some e → is_spent e ≡ true
      → place + 1 ≡ length (log ++ gained)
  ends_last place e at spent =
      elim (of_two log gained place e at) [
        | inl before ↦ absurd (spent_at log place e none before spent)
        | inr after ↦
            omega (arith, after.0, more.ends.is_last (place - length log) e after.1 spent, length-append log gained)
      ]

  ends_whole : list_any is_spent (log ++ gained) ≡ true → spent_of (log ++ gained) ≡ budget
  ends_whole any =
      elim
      (or_cases (list_any is_spent log) (list_any is_spent gained) (sym (list_any-append is_spent log gained) ∙ any)) [
        | inl before ↦ absurd (true≢false (sym before ∙ none))
        | inr after ↦ omega (arith, more.ends.is_whole after, spent_both, kept.within)
      ]

  pub honest_more : IsHonestWithin o budget (log ++ gained)
  honest_more = record {
    within = omega (arith, more.within, spent_both, kept.within);
    honest = All-append (IsHonestEntry o) log gained kept.honest more.honest;
    ends = record { is_last = ends_last; is_whole = ends_whole };
  }

-- ---- its blocks

joined_more : (blocks : List (List Entry)) (block : List Entry)
    → joined_blocks (blocks ++ block ∷ []) ≡ joined_blocks blocks ++ block
joined_more blocks block =
    flat_map-append (λ (b : List Entry). b) blocks (block ∷ [])
    ∙ ap (λ (log : List Entry). joined_blocks blocks ++ log) (append-nil block)

-- what holds of each entry of each block
all_joined : (P : Entry → Type 0) (blocks : List (List Entry))
    → ((a : ℕ) (block : List Entry) → slice_get blocks a ≡ Some block → All P block) → All P (joined_blocks blocks)
all_joined P [] each = All-nil P
all_joined P (block ∷ blocks) each =
    All-append P block (joined_blocks blocks) (each 0 block refl)
    (all_joined P blocks (λ a next at. each (suc a) next at))

module _ (o : Listed) (c : Concept) (budget : ℕ) (blocks : List (List Entry)) (log : List Entry)
    (is_log : IsReasonLog o c budget blocks log) where
  -- the tests until now are of other individuals
  other : (a : ℕ) → a < length blocks → (e : Entry) → IsTestOf (instance_query c a) e
      → IsTestOfOther (instance_query c (length blocks)) e
  other a before (Test s p steps end) is = λ same.
      let on : Individual a ≡ Individual (length blocks) = ap (λ (q : Query). q.on) (sym is ∙ same) in
      let at : a ≡ length blocks = cc in
      omega (arith, before, at)
  other a before (Node s) is = tt

  pub tests_of_others : AreTestsOfOthers (instance_query c (length blocks)) log
  tests_of_others =
      let q : Query = instance_query c (length blocks) in
      subst (AreTestsOfOthers q) (sym is_log.is_log)
      (all_joined (IsTestOfOther q) blocks (λ a block at.
      All-weaker (IsTestOf (instance_query c a)) (IsTestOfOther q)
      (λ e is. other a (slice_get_within blocks a block at) e is) block (is_log.each a block at).tests))

  -- one block more
  module _ (gained : List Entry) (none : list_any is_spent log ≡ false) (listed : length blocks < length o.individuals)
      (more : IsPinpointingLog o (instance_query c (length blocks)) (budget - spent_of log) gained) where
    abbrev q : Query
    q = instance_query c (length blocks)

    is_block : IsBlock o q gained
    is_block =
        record { tests = more.tests; new = more.new; nodes = more.nodes; few = more.few; in_module = more.in_module }

    blocks_more : AreBlocks o c (blocks ++ gained ∷ [])
    blocks_more a block at =
        elim (at_end blocks gained a block at) [
          | inl old ↦ is_log.each a block old.0
          | inr new ↦
              subst (λ (b : List Entry). IsBlock o (instance_query c a) b) new.0
              (subst (λ (n : ℕ). IsBlock o (instance_query c n) gained) (sym new.1) is_block)
        ]

    pub log_more : IsReasonLog o c budget (blocks ++ gained ∷ []) (log ++ gained)
    log_more = record {
      budget_kept = honest_more o budget log gained is_log.budget_kept none more.budget_kept;
      is_log = ap (λ (l : List Entry). l ++ gained) is_log.is_log ∙ sym (joined_more blocks gained);
      each = blocks_more;
      listed = omega (arith, listed, length-append blocks (gained ∷ []));
    }

-- ---- what the blocks show

module _ (o : Listed) (c : Concept) (blocks : List (List Entry)) (shown : AreShown o c blocks) where
  pub shown_more : (gained : List Entry) → ShowsAll o (instance_query c (length blocks)) gained
      → AreShown o c (blocks ++ gained ∷ [])
  shown_more gained shows a block at =
      elim (at_end blocks gained a block at) [
        | inl old ↦ shown a block old.0
        | inr new ↦
            subst (λ (b : List Entry). ShowsAll o (instance_query c a) b) new.0
            (subst (λ (n : ℕ). ShowsAll o (instance_query c n) gained) (sym new.1) shows)
      ]

  in_front : {X : Type 0} (xs : List X) (count place : ℕ) (x : X) → slice_get (take count xs) place ≡ Some x
      → slice_get xs place ≡ Some x
  in_front {X = X} xs zero place x at = cc
  in_front {X = X} [] (suc count) place x at = cc
  in_front {X = X} (y ∷ xs) (suc count) zero x at = at
  in_front {X = X} (y ∷ xs) (suc count) (suc place) x at = in_front xs count place x at

  pub shown_front : (count : ℕ) → AreShown o c (take count blocks)
  shown_front count a block at = shown a block (in_front blocks count a block at)

  -- all blocks but the last one, which was put behind them
  pub shown_before : (gained : List Entry) (count : ℕ) → count ≡ length blocks
      → AreShown o c (take count (blocks ++ gained ∷ []))
  shown_before gained count is =
      subst (AreShown o c)
      (sym (ap (λ (n : ℕ). take n (blocks ++ gained ∷ [])) is ∙ take-append_seam blocks (gained ∷ []))) shown
