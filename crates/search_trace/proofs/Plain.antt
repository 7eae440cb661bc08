-- Noted lines that close everything are a refutation.
use Rattle.std.proofs.Common.{◌≡◌, ℕ, ◌<◌, ◌&&◌, Bool, false, List, [], ◌∷◌, ◌++◌, map, Option, Some, None, refl, ap}
use Rattle.std.proofs.Common.{◌∙◌, sym}
use Rattle.std.specs.List.{list_all, filter, range_with_len, All}
use Rattle.std.specs.FinSet as sets
use Rattle.std.specs.Option.{option_and_then, option_map}
use Rattle.std.proofs.lemmas.Bool.{and_parts, lt-ltb}
use Rattle.std.proofs.lemmas.List.{map-append}
use Rattle.std.proofs.lemmas.List.Elements.{All-head, All-tail}
use Rattle.refutation_tree.specs.NumberSets.{NumberSet}
use Rattle.calculus_specs.specs.Concept.{Concept}
use Rattle.calculus_specs.specs.Shape.{Shape}
use Rattle.calculus_specs.specs.State.{fresh_facts}
use Rattle.calculus_specs.specs.Line.{Line}
use Rattle.calculus_specs.specs.Line.Line.{start_line, and_line, or_line, all_line, carry_line, row_line, range_line}
use Rattle.calculus_specs.specs.Line.Line.{some_line, least_line, choose_line, pair_line, bottom_line, clash_line}
use Rattle.calculus_specs.specs.Line.Line.{most_line, fact_line, differ_line}
use Rattle.calculus_specs.specs.Rules.{Question, Known, when, nothing_known, asked_facts, started, all_children}
use Rattle.calculus_specs.specs.Rules.{and_children, or_children, carry_children, some_children, least_children}
use Rattle.calculus_specs.specs.Rules.{clash_children, most_children, at_concept, choose_children, children_of}
use Rattle.calculus_specs.specs.Valid.{concept_at, open_after_all, IsRefutation}
use Rattle.calculus_specs.proofs.Stack.{run_refutes}
use Rattle.search_trace.specs.Premises.{Added, more_facts, more_nodes, with_added, Rule, rule_of, holds, is_new}
use Rattle.search_trace.specs.Premises.{children_by, is_start}
use Rattle.search_trace.specs.Leaves.{leaves}
use Rattle.search_trace.specs.Noted.{Marked, marked, is_within, within, items, Noted, known, known_within, noted_added}
use Rattle.search_trace.specs.Noted.{NotedLine, marks_given, noted_by, noted_children, start_of}
use Rattle.search_trace.specs.Among.{IsAmong, IsPart}
use Rattle.search_trace.specs.Renumbered.{renumbered, Reads}
use Rattle.search_trace.proofs.Among.{any_implies, any_filter, any_map, premises_stay}
use Rattle.search_trace.proofs.Single.{when_some}
use Rattle.search_trace.proofs.Strip.{when_true}
use Rattle.search_trace.proofs.Leaves.{some_eq}
use Rattle.search_trace.proofs.Rules.{rules_say}

-- ---- a branch without its marks

pub items_marked : {A : Type 0} → (u : NumberSet) (xs : List A) → items (map (marked u) xs) ≡ xs
items_marked u [] = refl
items_marked u (x ∷ xs) = ap (λ (ys : List _). x ∷ ys) (items_marked u xs)

pub items_more : {A : Type 0} → (u : NumberSet) (ms : List (Marked A)) (xs : List A)
    → items (ms ++ map (marked u) xs) ≡ items ms ++ xs
items_more u ms xs =
    map-append (λ m. m.item) ms (map (marked u) xs) ∙ ap (λ (ys : List _). items ms ++ ys) (items_marked u xs)

known_added : (u : NumberSet) (k : Noted) (a : Added) → known (noted_added u k a) ≡ with_added (known k) a
known_added u k (more_facts fs) =
    ap (λ (xs : List _). record { nodes = items k.nodes; facts = xs }) (items_more u k.facts fs)
known_added u k (more_nodes x s e y n) =
    ap (λ (xs : List _). record { nodes = xs; facts = items (k.facts ++ map (marked u) (fresh_facts x s e y n)) })
    (items_more u k.nodes (range_with_len y n))
    ∙ ap (λ (xs : List _). record { nodes = items k.nodes ++ range_with_len y n; facts = xs })
    (items_more u k.facts (fresh_facts x s e y n))

all_known_added : (u : NumberSet) (k : Noted) (added : List Added)
    → map known (map (noted_added u k) added) ≡ map (with_added (known k)) added
all_known_added u k [] = refl
all_known_added u k (a ∷ added) =
    ap (λ (x : Known). x ∷ map known (map (noted_added u k) added)) (known_added u k a)
    ∙ ap (λ (xs : List Known). with_added (known k) a ∷ xs) (all_known_added u k added)

within_is_part : {A : Type 0} → (u : NumberSet) (ms : List (Marked A)) → IsAmong (within u ms) (items ms)
within_is_part u ms p h =
    any_map (λ m. m.item) p ms
    ∙ any_implies (λ m. is_within u m && p m.item) (λ m. p m.item) (λ m g. (and_parts (is_within u m) (p m.item) g).1)
    ms
    (sym (any_map (λ m. m.item) p (filter (is_within u) ms) ∙ any_filter (λ m. p m.item) (is_within u) ms) ∙ h)

module _ (q : Question) (concept : ℕ → Option Concept) where
  by_known : (k : Noted) (l : NotedLine) (r : Option Rule) (kids : List Noted) → noted_by q concept k l r ≡ Some kids
      → children_by q (known k) r ≡ Some (map known kids)
  by_known k l None kids h = cc
  by_known k l (Some r) kids h =
      let g = marks_given l in
      let new = map (noted_added g k) r.children in
      let fresh = list_all (is_new (known k)) r.children in
      let a =
      when_some (list_all (holds q.theory (known_within l.marks k)) r.premises) (when fresh (Some new)) kids h in
      let b = when_some fresh (Some new) kids a.1 in
      let part : IsPart (known_within l.marks k) (known k) =
      record { nodes = within_is_part l.marks k.nodes; facts = within_is_part l.marks k.facts } in
      let they_hold = premises_stay q.theory (known_within l.marks k) (known k) part r.premises a.0 in
      let plain = map (with_added (known k)) r.children in
      when_true (list_all (holds q.theory (known k)) r.premises) (when fresh (Some plain)) they_hold
      ∙ when_true fresh (Some plain) b.0
      ∙ ap (λ (xs : List Known). Some xs) (sym (all_known_added g k r.children) ∙ ap (map known) (some_eq new kids b.1))

  is_no_start : (k : Noted) (l : NotedLine) (line : Line) (kids : List Noted)
      → noted_by q concept k l (rule_of q concept line) ≡ Some kids → is_start line ≡ false
  is_no_start k l start_line kids h = cc
  is_no_start k l _ kids h = refl

  -- the children of a noted line are those of the line
  pub step_known : (k : Noted) (l : NotedLine) (kids : List Noted) → noted_children q concept k l ≡ Some kids
      → children_of q concept (known k) l.line ≡ Some (map known kids)
  step_known k l kids h =
      rules_say q concept (known k) l.line (is_no_start k l l.line kids h)
      ∙ by_known k l (rule_of q concept l.line) kids h

  abbrev pub lines_in : List NotedLine → List Line
  lines_in ls = map (λ l. l.line) ls

  run_on : (ls : List NotedLine) (outs ks : List Noted) (k : Noted) (l : NotedLine) (r : Option (List Noted))
      → noted_children q concept k l ≡ r
      → ((now : List Noted) → leaves (noted_children q concept) now ls ≡ Some outs
      → open_after_all q concept (map known now) (lines_in ls) ≡ Some (map known outs))
      → option_and_then (λ (left : List Noted). leaves (noted_children q concept) left ls)
      (option_map (λ (new : List Noted). new ++ ks) r)
      ≡ Some outs
      → open_after_all q concept (known k ∷ map known ks) (l.line ∷ lines_in ls) ≡ Some (map known outs)
  run_on ls outs ks k l None e on h = cc
  run_on ls outs ks k l (Some kids) e on h =
      ap (λ (o : Option (List Known)). option_and_then
      (λ (left : List Known). open_after_all q concept left (lines_in ls))
      (option_map (λ (new : List Known). new ++ map known ks) o))
      (step_known k l kids e)
      ∙ ap (λ (xs : List Known). open_after_all q concept xs (lines_in ls)) (sym (map-append known kids ks))
      ∙ on (kids ++ ks) h

  pub run_known : (ls : List NotedLine) (ks outs : List Noted) → leaves (noted_children q concept) ks ls ≡ Some outs
      → open_after_all q concept (map known ks) (lines_in ls) ≡ Some (map known outs)
  run_known [] ks outs h = ap (λ (xs : List Noted). Some (map known xs)) (some_eq ks outs h)
  run_known (l ∷ ls) [] outs h = cc
  run_known (l ∷ ls) (k ∷ ks) outs h =
      run_on ls outs ks k l (noted_children q concept k l) refl (λ now. run_known ls now outs) h

-- ---- the line `start`

start_opens : (q : Question) → q.at < q.first → (concept : ℕ → Option Concept) (lines : List Line)
    → open_after_all q concept (nothing_known ∷ []) (start_line ∷ lines)
    ≡ open_after_all q concept (started q ∷ []) lines
start_opens q lt concept lines =
    ap (λ (b : Bool). option_and_then (λ (left : List Known). open_after_all q concept left lines)
    (option_map (λ (new : List Known). new ++ []) (when b (Some (started q ∷ [])))))
    (lt-ltb q.at q.first lt)

known_start : (q : Question) → known (start_of q) ≡ started q
known_start q =
    ap (λ (xs : List ℕ). record { nodes = xs; facts = asked_facts q.at q.sub q.sup })
    (items_marked sets.empty (range_with_len 0 q.first))

started_runs : (q : Question) (concept : ℕ → Option Concept) (ls : List NotedLine)
    → leaves (noted_children q concept) (start_of q ∷ []) ls ≡ Some []
    → open_after_all q concept (started q ∷ []) (lines_in q concept ls) ≡ Some []
started_runs q concept ls h =
    ap (λ (k : Known). open_after_all q concept (k ∷ []) (lines_in q concept ls)) (sym (known_start q))
    ∙ run_known q concept ls (start_of q ∷ []) [] h

-- ---- other numbers of concepts

module _ (q : Question) (old new : ℕ → Option Concept) (f : ℕ → ℕ) where
  one_number : (c : ℕ) → All (λ d. new (f d) ≡ old d) (c ∷ []) → new (f c) ≡ old c
  one_number c h = All-head (λ d. new (f d) ≡ old d) c [] h

  pub children_renumbered : (k : Known) (line : Line) → Reads old new f line
      → children_of q new k (renumbered f line) ≡ children_of q old k line
  children_renumbered k start_line h = refl
  children_renumbered k (and_line x c) h =
      ap (λ (o : Option Concept). at_concept k x o (and_children k x)) (one_number c h)
  children_renumbered k (or_line x c) h =
      ap (λ (o : Option Concept). at_concept k x o (or_children k x)) (one_number c h)
  children_renumbered k (all_line x y c) h =
      ap (λ (o : Option Concept). at_concept k x o (all_children q.theory k x y)) (one_number c h)
  children_renumbered k (carry_line x y t c) h =
      ap (λ (o : Option Concept). at_concept k x o (carry_children q.theory k x y t)) (one_number c h)
  children_renumbered k (row_line x a p positions) h = refl
  children_renumbered k (range_line x y a) h = refl
  children_renumbered k (some_line x y c) h =
      ap (λ (o : Option Concept). at_concept k x o (some_children k x y)) (one_number c h)
  children_renumbered k (least_line x y c) h =
      ap (λ (o : Option Concept). at_concept k x o (least_children k x y)) (one_number c h)
  children_renumbered k (choose_line y c) h = ap (choose_children k y) (one_number c h)
  children_renumbered k (pair_line y z) h = refl
  children_renumbered k (bottom_line x) h = refl
  children_renumbered k (clash_line x c) h =
      ap (λ (o : Option Concept). at_concept k x o (clash_children k x)) (one_number c h)
  children_renumbered k (most_line x c ys) h =
      ap (λ (o : Option Concept). at_concept k x o (most_children q.theory k x ys)) (one_number c h)
  children_renumbered k (fact_line a p) h = refl
  children_renumbered k (differ_line y z) h = refl

  after_renumbered : (lines : List Line) (ks : List Known) (r s : Option (List Known)) → r ≡ s
      → ((now : List Known) → open_after_all q new now (map (renumbered f) lines) ≡ open_after_all q old now lines)
      → option_and_then (λ (left : List Known). open_after_all q new left (map (renumbered f) lines))
      (option_map (λ (kids : List Known). kids ++ ks) r)
      ≡ option_and_then (λ (left : List Known). open_after_all q old left lines)
      (option_map (λ (kids : List Known). kids ++ ks) s)
  after_renumbered lines ks None None e on = refl
  after_renumbered lines ks None (Some s) e on = cc
  after_renumbered lines ks (Some r) None e on = cc
  after_renumbered lines ks (Some r) (Some s) e on =
      on (r ++ ks) ∙ ap (λ (xs : List Known). open_after_all q old (xs ++ ks) lines) (some_eq r s e)

  pub run_renumbered : (lines : List Line) → All (Reads old new f) lines → (ks : List Known)
      → open_after_all q new ks (map (renumbered f) lines) ≡ open_after_all q old ks lines
  run_renumbered [] h ks = refl
  run_renumbered (line ∷ lines) h [] = refl
  run_renumbered (line ∷ lines) h (k ∷ ks) =
      after_renumbered lines ks (children_of q new k (renumbered f line)) (children_of q old k line)
      (children_renumbered k line (All-head (Reads old new f) line lines h))
      (run_renumbered lines (All-tail (Reads old new f) line lines h))

-- ---- a refutation

-- lines that close the branch of `start` are a refutation, over the shapes by whose numbers they are renumbered
pub refutes : (q : Question) → q.at < q.first
    → (concept : ℕ → Option Concept) (shapes : List Shape) (f : ℕ → ℕ) (ls : List NotedLine)
    → All (Reads concept (concept_at shapes) f) (map (λ l. l.line) ls)
    → leaves (noted_children q concept) (start_of q ∷ []) ls ≡ Some []
    → IsRefutation q shapes (start_line ∷ map (renumbered f) (map (λ l. l.line) ls))
refutes q lt concept shapes f ls reads h =
    let lines = lines_in q concept ls in
    run_refutes q shapes (start_line ∷ map (renumbered f) lines)
    (start_opens q lt (concept_at shapes) (map (renumbered f) lines)
    ∙ run_renumbered q concept (concept_at shapes) f lines reads (started q ∷ [])
    ∙ started_runs q concept ls h)
