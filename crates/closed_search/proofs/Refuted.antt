-- What is made of lines that close everything.
use Rattle.std.proofs.Common.{◌≡◌, ℕ, ◌&&◌, ◌||◌, ◌<◌, ◌^◌, arith, Bool, true, not, List, [], ◌∷◌, map, length, refl}
use Rattle.std.proofs.Common.{ap}
use Rattle.std.proofs.Common.{sym, ◌∙◌, subst}
use Rattle.std.specs.List.{list_any, list_all}
use Rattle.std.specs.FinSet as sets
use Rattle.std.specs.Cmp.{nat_cmp_total}
use Rattle.std.proofs.lemmas.Bool.{and_parts, and_from}
use Rattle.std.proofs.lemmas.List.Elements.{All-tail}
use Rattle.lane_sieve.specs.Sets.{NumberSet, IsPart}
use Rattle.axiom_sets.specs.Sets.{Limited, IsWithin, member_list}
use Rattle.shq_terms.specs.declared.axioms.Numbered.{Numbered}
use Rattle.shq_terms.specs.declared.axioms.Query.{Query}
use Rattle.shq_terms.specs.Listed.{Listed}
use Rattle.calculus_specs.specs.Shape.{Shape, IsTable}
use Rattle.calculus_specs.specs.Line.{Line}
use Rattle.calculus_specs.specs.Line.Line.{start_line, and_line, or_line, all_line, carry_line, row_line, range_line}
use Rattle.calculus_specs.specs.Line.Line.{some_line, least_line, choose_line, pair_line, bottom_line, clash_line}
use Rattle.calculus_specs.specs.Line.Line.{most_line, fact_line, differ_line}
use Rattle.calculus_specs.specs.Rules.{nothing_known}
use Rattle.calculus_specs.specs.Valid.{concept_at, IsRefutation}
use Rattle.calculus_specs.proofs.Stack.{refutation_runs, run_refutes}
use Rattle.refutation_truth.specs.Theory.{question_in}
use Rattle.search_trace.specs.RefutationLists.{RefutationLists, IsKept}
use Rattle.search_trace.specs.ReadBack.{has_nodes, is_small, IsWritable}
use Rattle.search_trace.specs.Written.{shape_is_listed, line_is_listed, names_are_listed}
use Rattle.tableau_specs.specs.Lines.{concept_in}
use Rattle.search_trace.specs.Noted.{NotedLine, start_of}
use Rattle.search_trace.specs.Renumbered.{renumbered, Reads}
use Rattle.search_trace.proofs.Plain.{refutes}
use Rattle.search_trace.proofs.Named.{same_run}
use Rattle.closed_search.specs.Finished.{IsNumbered}
use Rattle.search_trace.specs.Trace.{TraceLists, lines_in}
use Rattle.closed_search.specs.Refuted.{concept_is_listed, uses_names, CloseAll, IsWrittenRefutation}
use Rattle.refutation_truth.specs.Meeting.{is_role_number}
use Rattle.closed_search.specs.Named.{uses_axiom, names_axiom, NamesAxioms, NamesNoOther}
use Rattle.closed_search.proofs.SameTheory.{ask_the_same, have_same_parts}
use Rattle.closed_search.proofs.Listed.{have_parts, shapes_listed, lines_listed, concepts_listed}
use Rattle.closed_search.proofs.Nodes.{closing_has_nodes, have_nodes}

-- ---- the axioms of renumbered lines

same_axiom : (f : ℕ → ℕ) (k : ℕ) (l : Line) → uses_axiom k (renumbered f l) ≡ uses_axiom k l
same_axiom f k start_line = refl
same_axiom f k (and_line x c) = refl
same_axiom f k (or_line x c) = refl
same_axiom f k (all_line x y c) = refl
same_axiom f k (carry_line x y r c) = refl
same_axiom f k (row_line x a p is) = refl
same_axiom f k (range_line x y a) = refl
same_axiom f k (some_line x y c) = refl
same_axiom f k (least_line x y c) = refl
same_axiom f k (choose_line y c) = refl
same_axiom f k (pair_line y z) = refl
same_axiom f k (bottom_line x) = refl
same_axiom f k (clash_line x c) = refl
same_axiom f k (most_line x c ys) = refl
same_axiom f k (fact_line a p) = refl
same_axiom f k (differ_line y z) = refl

same_axioms : (f : ℕ → ℕ) (k : ℕ) (ls : List Line)
    → list_any (uses_axiom k) (map (renumbered f) ls) ≡ list_any (uses_axiom k) ls
same_axioms f k [] = refl
same_axioms f k (l ∷ ls) = λ i. same_axiom f k l i || same_axioms f k ls i

-- an axiom is named by the lines as they are numbered where the lines name it
same_named : (axioms : List Numbered) (set named : Limited) (table : List Shape) (lines : List Line)
    (r : RefutationLists) → IsNumbered table named lines r → (k : ℕ)
    → names_axiom axioms set.members lines k ≡ names_axiom axioms set.members r.lines k
same_named axioms set named table lines r is k =
    ap (λ (b : Bool). sets.contains set.members k && (is_role_number axioms k || b))
    (sym (ap (list_any (uses_axiom k)) is.lines_are ∙ same_axioms is.number' k lines))

-- the refutation names the axioms that its own lines use
pub numbered_names : (axioms : List Numbered) (set named : Limited) (table : List Shape) (lines : List Line)
    (r : RefutationLists)
    → NamesAxioms axioms set lines named → IsNumbered table named lines r
    → NamesAxioms axioms set r.lines r.axioms
numbered_names axioms set named table lines r h is =
    subst (NamesAxioms axioms set r.lines) (sym is.axioms_are)
    (record { limit = h.limit; members = λ k. h.members k ∙ same_named axioms set named table lines r is k })

pub no_others_named : (axioms : List Numbered) (set : Limited) (lines : List Line) (named : Limited)
    → NamesAxioms axioms set lines named → NamesNoOther axioms set lines named
no_others_named axioms set lines named h =
    record { limit = h.limit; no_other = λ k member. sym (h.members k) ∙ member }

-- also when some are taken out
pub fewer_named : (axioms : List Numbered) (set : Limited) (lines : List Line) (old idle new : Limited)
    → NamesAxioms axioms set lines old → new.limit ≡ old.limit → new.members ≡ sets.difference old.members idle.members
    → NamesNoOther axioms set lines new
fewer_named axioms set lines old idle new h limit is = record {
  limit = limit ∙ h.limit;
  no_other = λ k member.
      let left : (sets.contains old.members k && not (sets.contains idle.members k)) ≡ true =
      sym (sets.contains-difference nat_cmp_total old.members idle.members k)
      ∙ ap (λ (s : NumberSet). sets.contains s k) (sym is) ∙ member in
      sym (h.members k) ∙ (and_parts (sets.contains old.members k) (not (sets.contains idle.members k)) left).0;
}

-- the same of the lines as they are numbered
pub no_others_numbered : (axioms : List Numbered) (set named : Limited) (table : List Shape) (lines : List Line)
    (r : RefutationLists)
    → NamesNoOther axioms set lines named → IsNumbered table named lines r
    → NamesNoOther axioms set r.lines r.axioms
no_others_numbered axioms set named table lines r h is =
    subst (NamesNoOther axioms set r.lines) (sym is.axioms_are)
    (record {
      limit = h.limit;
      no_other = λ k member. sym (same_named axioms set named table lines r is k) ∙ h.no_other k member;
    })

pub named_are_part : (axioms : List Numbered) (set : Limited) (lines : List Line) (named : Limited)
    → NamesNoOther axioms set lines named → IsPart named.members set.members
named_are_part axioms set lines named h k member =
    (and_parts (sets.contains set.members k) (is_role_number axioms k || list_any (uses_axiom k) lines)
    (h.no_other k member)).0

-- ---- validity

pub closed_refutes : (o : Listed) (query : Query) (set : Limited) (table : List Shape) (named : Limited)
    (ls : List NotedLine) (r : RefutationLists)
    → set.limit ≡ length o.axioms
    → IsNumbered table named (start_line ∷ map (λ l. l.line) ls) r → NamesAxioms o.axioms set r.lines r.axioms
    → CloseAll o set table query ls
    → IsRefutation (question_in o (member_list r.axioms) query) r.shapes r.lines
closed_refutes o query set table named ls r limit is names close =
    let one = question_in o (member_list set) query in
    let other = question_in o (member_list r.axioms) query in
    let reads =
    All-tail (Reads (concept_in table) (concept_at r.shapes) is.number') start_line (map (λ l. l.line) ls) is.reads in
    let whole : IsRefutation one r.shapes r.lines =
    subst (IsRefutation one r.shapes) (sym is.lines_are)
    (refutes one close.at_first (concept_in table) r.shapes is.number' ls reads close.closes) in
    run_refutes other r.shapes r.lines
    (sym (same_run one other (concept_at r.shapes) (ask_the_same o query set r.lines r.axioms limit names) r.lines
    (have_same_parts o query set r.lines r.axioms limit names) (nothing_known ∷ []))
    ∙ refutation_runs one r.shapes r.lines whole)

-- ---- names

module _ (o : Listed) (named : Limited) (table : List Shape) (lines : List Line) (r : RefutationLists)
    (is : IsNumbered table named lines r) (used : list_all (uses_names o table) lines ≡ true) (is_table : IsTable table)
    (kept : IsKept r.shapes r.lines) where
  pub names_listed : names_are_listed o r ≡ true
  names_listed =
      and_from (list_all (shape_is_listed o) r.shapes) (list_all (line_is_listed o) r.lines)
      (shapes_listed o table r.shapes kept.are_shapes
      (is.kinds (concept_is_listed o table) (have_parts o table is_table) (concepts_listed o table lines used)))
      (ap (list_all (line_is_listed o)) is.lines_are ∙ lines_listed o table is.number' lines used)

  pub writable : named.limit ≡ length o.axioms → IsWithin r.axioms.limit r.axioms.members
      → r.axioms.limit < 2 ^ 32 → list_all is_small r.lines ≡ true → list_all has_nodes lines ≡ true → IsWritable o r
  writable limit within few small nodes =
      let same : r.axioms.limit ≡ length o.axioms = ap (λ (s : Limited). s.limit) is.axioms_are ∙ limit in
      record {
        kept = kept;
        limit = same;
        within = within;
        few_axioms = omega (arith, same, few);
        listed = names_listed;
        have_nodes = ap (list_all has_nodes) is.lines_are ∙ have_nodes is.number' lines nodes;
        are_small = small;
      }

pub written : (o : Listed) (set named : Limited) (table : List Shape) (lines : List Line) (r : RefutationLists)
    → IsNumbered table named lines r → set.limit ≡ length o.axioms → NamesAxioms o.axioms set lines named
    → (list_all has_nodes lines ≡ true → IsWritable o r)
    → (trace : TraceLists) → lines ≡ start_line ∷ lines_in trace → (query : Query)
    → CloseAll o set table query trace.lines → IsWrittenRefutation o query r
written o set named table lines r is limit names writes trace begins query close =
    let asked = question_in o (member_list set) query in
    let plain = subst (λ (ls : List Line). IsNumbered table named ls r) begins is in
    let nodes = closing_has_nodes asked (concept_in table) trace.lines (start_of asked ∷ []) [] close.closes in
    record {
      refutes =
          closed_refutes o query set table named trace.lines r limit plain
          (numbered_names o.axioms set named table lines r names is) close;
      writable = writes (ap (list_all has_nodes) begins ∙ nodes);
    }
