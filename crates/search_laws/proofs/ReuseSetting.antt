-- The same steps are legal, and the same ends saturated, where the node in question has the complement of a class from
-- the start. The table may have grown by then.
use Rattle.std.proofs.Common.{◌≡◌, ℕ, ◌<◌, ◌&&◌, Bool, true, false, List, ◌++◌, length, Option, Some, None, refl, ap}
use Rattle.std.proofs.Common.{◌∙◌, ◌⊎◌, sym, subst, inl, inr, eqb, eq-eqb}
use Rattle.std.specs.List.{list_all, range_with_len, All, Contains}
use Rattle.std.proofs.lemmas.List.{get_or_default}
use Rattle.std.proofs.lemmas.Bool.{cases_Bool, and_from}
use Rattle.calculus_specs.specs.Concept.{Concept, name}
use Rattle.calculus_specs.specs.Shape.{Shape, shape_of, IsTable}
use Rattle.calculus_specs.specs.Shape.Shape.{bottom, name as name_shape, not_name, union, some_of, all_of}
use Rattle.calculus_specs.specs.Shape.Shape.{at_least, at_most}
use Rattle.calculus_specs.specs.Rules.{Question}
use Rattle.calculus_specs.specs.Tree.{IsComplement}
use Rattle.calculus_specs.specs.Rows.{Part, Row, Trigger, part_at, conjunct_at}
use Rattle.calculus_specs.specs.Rows.Part.{inclusion, range}
use Rattle.calculus_specs.specs.Rows.Trigger.{always, names, edge, end_of}
use Rattle.calculus_specs.specs.declared.facts.Fact.{Fact}
use Rattle.calculus_specs.specs.declared.facts.Fact.TheVariants.{Has, Edge, Apart, Same}
use Rattle.calculus_specs.specs.Joins.{rep}
use Rattle.calculus_specs.specs.State.{has, all_apart, is_so}
use Rattle.calculus_specs.specs.Reading.{are_listed}
use Rattle.tableau_specs.specs.declared.Branch.{Branch}
use Rattle.tableau_specs.specs.Clash.{filled_successors, IsClash, IsPlainClash}
use Rattle.tableau_specs.specs.Clash.IsClash.{of_bottom, of_names, of_most, of_differ}
use Rattle.tableau_specs.specs.Clash.IsPlainClash.{plain_bottom, plain_names, plain_most, plain_differ}
use Rattle.tableau_specs.specs.Steps.{SearchContext, is_named, has_name, has_names, is_triggered, is_used_at, is_run}
use Rattle.tableau_specs.specs.Steps.{Adds, IsCarried, IsOpen, Generates, MayBranch}
use Rattle.tableau_specs.specs.Steps.Adds.{by_and, by_all, by_carry, by_row}
use Rattle.tableau_specs.specs.Steps.Generates.{by_some, by_least}
use Rattle.tableau_specs.specs.Steps.MayBranch.{on_union, on_filler, on_pair}
use Rattle.tableau_specs.specs.Reached.{context_of}
use Rattle.tableau_specs.proofs.Listed.{most_listed}
use Rattle.tableau_specs.proofs.PlainClash.{successor_has_edge}
use Rattle.search_laws.specs.Runs.{puts_at, has_filler}
use Rattle.search_laws.proofs.Rising.{self_has}
use Rattle.search_laws.proofs.LongerShapes.{same_shape, shape_up, shape_down, complement_up, complement_down}
use Rattle.search_laws.proofs.Turned.{old_facts, new_facts, has_listed, has_up, has_cases, has_other, label_alike}
use Rattle.search_laws.proofs.Turned.{HaveAsBefore, filled_same, run_same}
use Rattle.search_laws.proofs.TurnedBlocks.{HaveBesides, block_same}

module _ (q : Question) (table more : List Shape) (rows : List Row) where
  abbrev pub short : SearchContext
  short = context_of q table rows

  abbrev pub long : SearchContext
  long = context_of q (table ++ more) rows

-- what is so of the facts of each trail of the run
pub record IsSetting (q : Question) (table more : List Shape) (home sub n a : ℕ) (gs : List (Fact ℕ)) : Type 0 where
  pub known : are_listed (length table) (old_facts home q.at sub n gs) ≡ true
  pub moves : (home ≡ q.at) ⊎ (sub ≡ 0)
  pub fillers : (x c s e : ℕ) → has (old_facts home q.at sub n gs) x c ≡ true → has_filler s e (shape_of table c) ≡ true
      → HaveAsBefore home q.at sub n gs q.theory.below x s e
  pub complements : (x c m s e d : ℕ) → has (old_facts home q.at sub n gs) x c ≡ true → shape_of table c ≡ at_most m s e
      → IsComplement (table ++ more) e d → HaveAsBefore home q.at sub n gs q.theory.below x s d
  pub alone : (x : ℕ) → rep (old_facts home q.at sub n gs) x ≡ q.at → x ≡ q.at
  pub stays : rep (old_facts home q.at sub n gs) q.at ≡ q.at
  pub is_first : q.at < q.first
  pub lacks_class : (c : ℕ) → has (old_facts home q.at sub n gs) q.at c ≡ true → ¬ (shape_of table c ≡ name_shape a)
  pub no_part : (c : ℕ) (parts : List ℕ) → has (old_facts home q.at sub n gs) q.at c ≡ true
      → shape_of table c ≡ union parts → ¬ Contains parts n

module _ (q : Question) (table more : List Shape) (rows : List Row) (good : IsTable table) (n a : ℕ)
    (shape_n : shape_of (table ++ more) n ≡ not_name a) where
  module _ (home sub : ℕ) (gs : List (Fact ℕ)) (set : IsSetting q table more home sub n a gs) where
    abbrev old : List (Fact ℕ)
    old = old_facts home q.at sub n gs

    abbrev new : List (Fact ℕ)
    new = new_facts home q.at sub n gs

    pub held_listed : (x c : ℕ) → has old x c ≡ true → c < length table
    held_listed x c h = has_listed (length table) old good.has_top set.known x c h

    -- a concept that is no complement of a name is had as before
    held_down : (x c : ℕ) (s : Shape) → ¬ (not_name a ≡ s) → shape_of (table ++ more) c ≡ s → has new x c ≡ true
        → has old x c ≡ true
    held_down x c s ne sh h = elim (has_cases q.first home q.at sub n gs set.moves set.stays x c h) [
      | inl before ↦ before
      | inr root ↦ absurd (ne (sym shape_n ∙ ap (shape_of (table ++ more)) root.1 ∙ sh))
    ]

    pub down : (x c : ℕ) (s : Shape) → ¬ (not_name a ≡ s) → shape_of (table ++ more) c ≡ s → has new x c ≡ true
        → (has old x c ≡ true) × (shape_of table c ≡ s)
    down x c s ne sh h =
        let before = held_down x c s ne sh h in (before, shape_down table more c s (held_listed x c before) sh)

    pub up : (x c : ℕ) → has old x c ≡ true → has new x c ≡ true
    up = has_up q.first home q.at sub n gs set.moves set.stays

    -- what is not had stays so, but for the complement at the node in question
    pub out_up : (x c : ℕ) → ¬ ((rep old x ≡ q.at) × (n ≡ c)) → has old x c ≡ false → has new x c ≡ false
    out_up x c other out = has_other q.first home q.at sub n gs set.moves set.stays x c other ∙ out

    out_down : (x c : ℕ) → has new x c ≡ false → has old x c ≡ false
    out_down x c out = elim (cases_Bool (has old x c)) [ inr f ↦ f | inl held ↦ (let k = up x c held in cc) ]

    filled : (x c s e : ℕ) → has old x c ≡ true → has_filler s e (shape_of table c) ≡ true
        → filled_successors q.first q.theory.below new x s e ≡ filled_successors q.first q.theory.below old x s e
    filled x c s e h is =
        filled_same q.first home q.at sub n gs set.moves set.stays q.theory.below x s e (set.fillers x c s e h is)

    -- the filler of a shape
    filler_of : (c s e : ℕ) (t : Shape) → shape_of table c ≡ t → has_filler s e t ≡ true
        → has_filler s e (shape_of table c) ≡ true
    filler_of c s e t sh h = ap (has_filler s e) sh ∙ h

    counted : (x c m s e : ℕ) → has old x c ≡ true → shape_of table c ≡ at_most m s e
        → filled_successors q.first q.theory.below new x s e ≡ filled_successors q.first q.theory.below old x s e
    counted x c m s e h sh = filled x c s e h (filler_of c s e (at_most m s e) sh (self_has s e))

    -- ---- rows

    same_name : (x : ℕ) (t : Concept)
        → has_name (long q table more rows) new x t ≡ has_name (short q table more rows) old x t
    same_name x (name b) =
        label_alike q.first home q.at sub n gs set.moves set.stays (λ c. is_named b (shape_of (table ++ more) c))
        (λ c. is_named b (shape_of table c)) (length table) x
        (ap (is_named b) shape_n) (ap (is_named b) good.begins_with_top) good.has_top
        (λ c lt. ap (is_named b) (same_shape table more c lt)) set.known
    same_name x _ = refl

    same_names : (x : ℕ) (positions : List ℕ) (p : Option Part)
        → has_names (long q table more rows) new x positions p ≡ has_names (short q table more rows) old x positions p
    same_names x positions (Some (inclusion cs d)) = λ i. list_all (λ k. same_name x (conjunct_at cs k) i) positions
    same_names x positions (Some (range r d)) = refl
    same_names x positions None = refl

    same_trigger : (x : ℕ) (p : Option Part) (t : Trigger)
        → is_triggered (long q table more rows) new x p t ≡ is_triggered (short q table more rows) old x p t
    same_trigger x p always = refl
    same_trigger x p (names positions) = same_names x positions p
    same_trigger x p (edge s) = refl
    same_trigger x p (end_of s) = refl

    pub same_use : (x : ℕ) (row : Row)
        → is_used_at (long q table more rows) new row x ≡ is_used_at (short q table more rows) old row x
    same_use x row = same_trigger x (part_at q.theory row.axiom_number row.part_number) row.trigger

    -- ---- clashes

    pub plain_down : IsPlainClash q.first q.theory.below (table ++ more) new
        → IsPlainClash q.first q.theory.below table old
    plain_down (plain_bottom x c lt h sh) = let t = down x c bottom (λ k. cc) sh h in plain_bottom x c lt t.0 t.1
    plain_down (plain_names x c d b lt h sh g th) =
        let t = down x c (name_shape b) (λ k. cc) sh h in
        elim (has_cases q.first home q.at sub n gs set.moves set.stays x d g) [
          | inl before ↦
              plain_names x c d b lt t.0 t.1 before (shape_down table more d (not_name b) (held_listed x d before) th)
          | inr root ↦
              let e : not_name a ≡ not_name b = sym shape_n ∙ ap (shape_of (table ++ more)) root.1 ∙ th in
              let same : a ≡ b = cc in
              absurd (set.lacks_class c (subst (λ (y : ℕ). has old y c ≡ true) (set.alone x root.0) t.0)
              (t.1 ∙ ap name_shape (sym same)))
        ]
    plain_down (plain_most x c m s e lt h sh many apart) =
        let t = down x c (at_most m s e) (λ k. cc) sh h in
        let same = counted x c m s e t.0 t.1 in
        plain_most x c m s e lt t.0 t.1 (subst (λ (ys : List ℕ). m < length ys) same many)
        (subst (λ (ys : List ℕ). all_apart old ys ≡ true) same apart)
    plain_down (plain_differ y z lt mt apart same) = plain_differ y z lt mt apart same

    pub clash_up : IsClash q.first q.theory.below table old → IsClash q.first q.theory.below (table ++ more) new
    clash_up (of_bottom x c lt h sh) = of_bottom x c lt (up x c h) (shape_up table more c _ (λ k. cc) sh)
    clash_up (of_names x c d b lt h sh g th) =
        of_names x c d b lt (up x c h) (shape_up table more c _ (λ k. cc) sh) (up x d g)
        (shape_up table more d _ (λ k. cc) th)
    clash_up (of_most x c m s e ys lt h sh len all apart) =
        of_most x c m s e ys lt (up x c h) (shape_up table more c _ (λ k. cc) sh) len
        (run_same q.first home q.at sub n gs set.moves set.stays q.theory.below x s e
        (set.fillers x c s e h (filler_of c s e (at_most m s e) sh (self_has s e))) ys
        ∙ all) apart
    clash_up (of_differ y z lt mt apart same) = of_differ y z lt mt apart same

    -- ---- Add

    carried_up : (x y c s t e : ℕ) → IsCarried (short q table more rows) old x y c s t e
        → IsCarried (long q table more rows) new x y c s t e
    carried_up x y c s t e h = record {
      begin_is_node = h.begin_is_node;
      end_is_node = h.end_is_node;
      holds = up x c h.holds;
      shape = shape_up table more c _ (λ k. cc) h.shape;
      transitive = h.transitive;
      role_below = h.role_below;
      edge = h.edge;
    }

    pub carried_down : (x y c s t e : ℕ) → IsCarried (long q table more rows) new x y c s t e
        → IsCarried (short q table more rows) old x y c s t e
    carried_down x y c s t e h =
        let b = down x c (all_of s e) (λ k. cc) h.shape h.holds in
        record {
          begin_is_node = h.begin_is_node;
          end_is_node = h.end_is_node;
          holds = b.0;
          shape = b.1;
          transitive = h.transitive;
          role_below = h.role_below;
          edge = h.edge;
        }

    pub adds_up : (x d : ℕ) → Adds (short q table more rows) old x d → Adds (long q table more rows) new x d
    adds_up x d (by_and x' c d' parts lt h sh m) =
        by_and x c d parts lt (up x c h) (shape_up table more c _ (λ k. cc) sh) m
    adds_up x d (by_all x' y c s e lt mt h sh leads) =
        by_all x' x c s d lt mt (up x' c h) (shape_up table more c _ (λ k. cc) sh) leads
    adds_up x d (by_carry x' y c s t e d' carried sh) =
        by_carry x' x c s t e d (carried_up x' x c s t e carried) (shape_up table more d _ (λ k. cc) sh)
    adds_up x d (by_row x' row lt m used) = by_row x row lt m (same_use x row ∙ used)

    -- ---- Generate

    same_run : (x c s e m y : ℕ) → has old x c ≡ true → has_filler s e (shape_of table c) ≡ true
        → is_run (long q table more rows) new x s e m y ≡ is_run (short q table more rows) old x s e m y
    same_run x c s e m y h is =
        ap (λ (b : Bool). b && all_apart old (range_with_len y m))
        (run_same q.first home q.at sub n gs set.moves set.stays q.theory.below x s e (set.fillers x c s e h is)
        (range_with_len y m))

    -- each node is blocked as before, if the others that have the complement have a concept besides
    module _ (besides : HaveBesides q.first q.at n old) where
      open_up : (x : ℕ) → IsOpen (short q table more rows) old x → IsOpen (long q table more rows) new x
      open_up x h = record {
        is_node = h.is_node;
        is_rep = h.is_rep;
        is_clear =
            block_same q.first home q.at sub n gs set.moves set.stays set.is_first set.alone besides x h.is_rep
            ∙ h.is_clear;
      }

      open_down : (x : ℕ) → IsOpen (long q table more rows) new x → IsOpen (short q table more rows) old x
      open_down x h = record {
        is_node = h.is_node;
        is_rep = h.is_rep;
        is_clear =
            sym (block_same q.first home q.at sub n gs set.moves set.stays set.is_first set.alone besides x h.is_rep)
            ∙ h.is_clear;
      }

      pub generates_up : (fs : List (Fact ℕ)) → Generates (short q table more rows) old fs
          → Generates (long q table more rows) new fs
      generates_up fs (by_some x c s e at h sh none) =
          by_some x c s e (open_up x at) (up x c h) (shape_up table more c _ (λ k. cc) sh)
          (filled x c s e h (filler_of c s e (some_of s e) sh (self_has s e)) ∙ none)
      generates_up fs (by_least x c m s e at h sh none) =
          by_least x c m s e (open_up x at) (up x c h) (shape_up table more c _ (λ k. cc) sh)
          (λ y. same_run x c s e m y h (filler_of c s e (at_least m s e) sh (self_has s e)) ∙ none y)

      pub generates_down : (fs : List (Fact ℕ)) → Generates (long q table more rows) new fs
          → Generates (short q table more rows) old fs
      generates_down fs (by_some x c s e at h sh none) =
          let t = down x c (some_of s e) (λ k. cc) sh h in
          by_some x c s e (open_down x at) t.0 t.1
          (sym (filled x c s e t.0 (filler_of c s e (some_of s e) t.1 (self_has s e))) ∙ none)
      generates_down fs (by_least x c m s e at h sh none) =
          let t = down x c (at_least m s e) (λ k. cc) sh h in
          by_least x c m s e (open_down x at) t.0 t.1
          (λ y. sym (same_run x c s e m y t.0 (filler_of c s e (at_least m s e) t.1 (self_has s e))) ∙ none y)

    -- ---- Choose

    -- no part of a union at the node in question is the complement
    part_out : (x c : ℕ) (parts : List ℕ) → has old x c ≡ true → shape_of table c ≡ union parts
        → All (λ d. has old x d ≡ false) parts → All (λ d. has new x d ≡ false) parts
    part_out x c parts h sh none k d lt =
        out_up x _
        (λ root. set.no_part c parts (subst (λ (y : ℕ). has old y c ≡ true) (set.alone x root.0) h) sh
        (k, lt, get_or_default parts k n d lt ∙ sym root.1))
        (none k d lt)

    pub may_up : (b : Branch) → MayBranch (short q table more rows) old b → MayBranch (long q table more rows) new b
    may_up b (on_union x c parts lt h sh none) =
        on_union x c parts lt (up x c h) (shape_up table more c _ (λ k. cc) sh) (part_out x c parts h sh none)
    may_up b (on_filler x c m s e y lt h sh next none out) =
        let edge = successor_has_edge old (λ r. q.theory.below r s) x y next in
        let apart : ¬ ((rep old y ≡ q.at) × (n ≡ e)) =
        set.fillers x c s e h (filler_of c s e (at_most m s e) sh (self_has s e)) y edge in
        on_filler x c m s e y lt (up x c h) (shape_up table more c _ (λ k. cc) sh) next (out_up y e apart none)
        (λ d neg. elim (cases_Bool (has new y d)) [
          | inr f ↦ f
          | inl held ↦
              let before =
              sym (has_other q.first home q.at sub n gs set.moves set.stays y d
              (set.complements x c m s e d h sh neg y edge))
              ∙ held in
              let k =
              out d (complement_down table more e d (most_listed (short q table more rows) good c m s e sh)
              (held_listed y d before) neg) in
              cc
        ])
    may_up b (on_pair x c m s e y z lt h sh many cy cz ne apart) =
        on_pair x c m s e y z lt (up x c h) (shape_up table more c _ (λ k. cc) sh)
        (subst (λ (ys : List ℕ). m < length ys) (sym (counted x c m s e h sh)) many)
        (subst (λ (ys : List ℕ). Contains ys y) (sym (counted x c m s e h sh)) cy)
        (subst (λ (ys : List ℕ). Contains ys z) (sym (counted x c m s e h sh)) cz) ne apart

    pub may_down : (b : Branch) → MayBranch (long q table more rows) new b → MayBranch (short q table more rows) old b
    may_down b (on_union x c parts lt h sh none) =
        let t = down x c (union parts) (λ k. cc) sh h in
        on_union x c parts lt t.0 t.1 (λ k d mt. out_down x _ (none k d mt))
    may_down b (on_filler x c m s e y lt h sh next none out) =
        let t = down x c (at_most m s e) (λ k. cc) sh h in
        on_filler x c m s e y lt t.0 t.1 next (out_down y e none)
        (λ d neg. out_down y d
        (out d (complement_up table more e d (most_listed (short q table more rows) good c m s e t.1) neg)))
    may_down b (on_pair x c m s e y z lt h sh many cy cz ne apart) =
        let t = down x c (at_most m s e) (λ k. cc) sh h in
        let same = counted x c m s e t.0 t.1 in
        on_pair x c m s e y z lt t.0 t.1 (subst (λ (ys : List ℕ). m < length ys) same many)
        (subst (λ (ys : List ℕ). Contains ys y) same cy) (subst (λ (ys : List ℕ). Contains ys z) same cz) ne apart

    -- ---- given facts

    -- a fact that does not give the node in question the complement is so as before
    pub so_same : (f : Fact ℕ) → puts_at q.at n f ≡ false → is_so new f ≡ is_so old f
    so_same (Has x c) other =
        has_other q.first home q.at sub n gs set.moves set.stays x c
        (λ root. (let k =
        and_from (eqb x q.at) (eqb c n) (eq-eqb x q.at (set.alone x root.0)) (eq-eqb c n (sym root.1)) in
        cc))
    so_same (Edge r x y) other = refl
    so_same (Apart x y) other = refl
    so_same (Same x y) other = refl

    -- and each fact that was so is so
    pub so_up : (f : Fact ℕ) → is_so old f ≡ true → is_so new f ≡ true
    so_up (Has x c) h = up x c h
    so_up (Edge r x y) h = h
    so_up (Apart x y) h = h
    so_up (Same x y) h = h
