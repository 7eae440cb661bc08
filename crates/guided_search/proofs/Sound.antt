-- A closed tableau leaves no world in which its question is met.
use Rattle.std.proofs.Common.{◌≡◌, ℕ, suc, ◌+◌, ◌<◌, ◌≤◌, Bool, true, List, [], ◌∷◌, ◌++◌}
use Rattle.std.proofs.Common.{Some, refl, ap, ◌∙◌, sym, subst, arith}
use Rattle.std.specs.Prelude.{slice_get}
use Rattle.std.specs.List.{range_with_len}
use Rattle.std.proofs.lemmas.Bool.{lt-ltb}
use Rattle.std.proofs.lemmas.List.{map-append}
use Rattle.std.proofs.lemmas.List.Elements.{All-nil, All-cons, All-append, All-contains}
use Rattle.role_box.specs.Concept.{Concept}
use Rattle.role_box.specs.Shape.{Shape}
use Rattle.role_box.specs.Shape.Shape.{some_of as some_shape, at_least as least_shape}
use Rattle.role_box.specs.Tree.{tree_of}
use Rattle.role_box.specs.TheoryRows.{Row, IsChoice}
use Rattle.role_box.specs.Fact.{Fact}
use Rattle.role_box.specs.Fact.TheVariants.{Has}
use Rattle.role_box.specs.State.{node_count_from, fresh_facts}
use Rattle.role_box.specs.Line.{Line}
use Rattle.role_box.specs.Line.Line.{start_line}
use Rattle.role_box.specs.Rules.{Question, Known, knows, nothing_known, started, when, with_facts, with_nodes}
use Rattle.calculus_specs.specs.Reading.{read_fact, read_facts}
use Rattle.tableau_specs.specs.declared.Branch.{Branch}
use Rattle.tableau_specs.specs.declared.Choice.{Choice}
use Rattle.tableau_specs.specs.declared.Item.{Item}
use Rattle.tableau_specs.specs.declared.Item.TheVariants.{Fact as Says, Mark}
use Rattle.tableau_specs.specs.Items.{facts_of, says}
use Rattle.tableau_specs.specs.Clash.{IsClash}
use Rattle.tableau_specs.specs.Steps.{SearchContext, below_of, Adds, Generates, IsAlternative, IsLegal}
use Rattle.tableau_specs.specs.Steps.IsLegal.{add, give, generate, choose, back}
use Rattle.tableau_specs.specs.Steps.Generates.{by_some, by_least}
use Rattle.tableau_specs.specs.Steps.IsAlternative.{of_union, of_filler, of_complement, of_joining, of_parting}
use Rattle.tableau_specs.specs.Reached.{start, context_of, IsReached}
use Rattle.tableau_specs.specs.Lines.{known_by, known_with, children_in, concept_in, line_of_clash, line_of_add}
use Rattle.tableau_specs.specs.Lines.{facts_of_add, line_of_give, line_of_branch, children_of_branch}
use Rattle.tableau_specs.specs.LineLaws.{IsOver, RangesAreFirst}
use Rattle.tableau_specs.proofs.AddLines.{in_range_below, add_is_line, give_is_line}
use Rattle.tableau_specs.proofs.BranchLines.{branch_is_line}
use Rattle.tableau_specs.proofs.ClashLines.{clash_is_line}
use Rattle.tableau_specs.proofs.GenerateLines.{count-append, count-fresh, fresh-read}
use Rattle.tableau_specs.proofs.KnownFacts.{known_in, reads, holds}
use Rattle.tableau_specs.proofs.Listed.{listed, reached_listed}
use Rattle.tableau_specs.proofs.TreeShaped.{first_le}
use Rattle.search_laws.proofs.Grown.{facts_of-append, facts_of-says}
use Rattle.refutation_truth.proofs.Models.{is_on}
use Rattle.all_worlds.specs.Worlds.{World, AreMany, IsSuccessor, IsIn}
use Rattle.all_worlds.proofs.Lists.{all_split, all_mapped}
use Rattle.all_worlds.proofs.Models.{IsTrueAt, has_place, Model}
use Rattle.all_worlds.proofs.Fresh.{with_new}
use Rattle.all_worlds.proofs.Lines.{MeetsQuestion, NoneHasModel, OneHasModelIf, blank, line_one}
use Rattle.guided_search.specs.ClosedTableau.{ClosedTableau, HasClosedTableau}
use Rattle.guided_search.specs.ClosedTableau.ClosedTableau.{by_clash, by_step, by_choice}
use Rattle.guided_search.proofs.Places.{range-append}
use Rattle.guided_search.proofs.Closing.{mark, one_more, reaches}

-- no step that puts facts makes a mark
no_mark : (trail : List Item) (c : Choice) (more : List Item) (new : List (Fact ℕ))
    → ¬ (trail ++ Mark c ∷ more ≡ trail ++ says new)
no_mark [] c more [] e = cc
no_mark [] c more (f ∷ fs) e = cc
no_mark (i ∷ is) c more new e = (let rest : is ++ Mark c ∷ more ≡ is ++ says new = cc in no_mark is c more new rest)

-- where each of the branches has no model, none has one
none_of : {d : Type 0} (w : World d) (named : ℕ) (ks : List Known)
    → ((n : ℕ) (child : Known) → slice_get ks n ≡ Some child → ¬ Model w named child) → NoneHasModel w named ks
none_of w named [] each = tt
none_of w named (k ∷ ks) each = (each 0 k refl, none_of w named ks (λ n. each (suc n)))

-- the fact of an alternative leads to no node
alternative_adds_none : (table : List Shape) (first : ℕ) (b : Branch) (n : ℕ) (f : Fact ℕ) → IsAlternative table b n f
    → node_count_from first (f ∷ []) ≡ first
alternative_adds_none table first b n f (of_union x c k e parts sh at) = refl
alternative_adds_none table first b n f (of_filler y e) = refl
alternative_adds_none table first b n f (of_complement y e g is) = refl
alternative_adds_none table first b n f (of_joining y z) = refl
alternative_adds_none table first b n f (of_parting y z) = refl

module _ {d : Type 0} (w : World d) (named : ℕ) (q : Question) (table : List Shape) (rows : List Row) (v : d)
    (t : MeetsQuestion w named q v) (ranges : RangesAreFirst q.theory) where
  abbrev context : SearchContext
  context = context_of q table rows

  abbrev Reached : ℕ → List Item → Type 0
  Reached k trail = IsReached q table rows k trail

  abbrev known_of : List (Fact ℕ) → Known
  known_of fs = known_by q.first table fs

  -- the world is a model of what the facts make known
  abbrev ModelOf : List (Fact ℕ) → Type 0
  ModelOf fs = Model w named (known_of fs)

  abbrev read : Fact ℕ → Fact Concept
  read f = read_fact (tree_of table) f

  is_over : (k : ℕ) (trail : List Item) → Reached k trail → IsOver context (facts_of trail)
  is_over k trail r = record { is_table = r.is_table; listed = reached_listed q table rows k trail r }

  -- not each child of a line is without a model
  one_child : (fs : List (Fact ℕ)) → ModelOf fs → (line : Line) (ks : List Known)
      → children_in context q fs line ≡ Some ks → ¬ NoneHasModel w named ks
  one_child fs m line ks e =
      subst (OneHasModelIf w named) e (line_one w named q (concept_in table) v t (known_of fs) m line)

  no_clash : (fs : List (Fact ℕ)) → IsOver context fs → ModelOf fs → ¬ IsClash q.first (below_of context) table fs
  no_clash fs over m clash =
      one_child fs m (line_of_clash q.first (below_of context) table fs clash) [] (clash_is_line context q fs over clash)
      tt

  -- ---- one fact more

  -- a fact that leads to no node is known beside the others
  same_known : (fs : List (Fact ℕ)) (f : Fact ℕ) → node_count_from q.first (f ∷ []) ≡ q.first
      → known_with q.first table fs (read f) ≡ known_of (fs ++ f ∷ [])
  same_known fs f none =
      let count : node_count_from q.first fs ≡ node_count_from q.first (fs ++ f ∷ []) =
      omega (arith, count-append q.first fs (f ∷ []), none, first_le q.first fs) in
      let nodes = ap (range_with_len 0) count in
      let facts : read_facts (tree_of table) fs ++ read f ∷ [] ≡ read_facts (tree_of table) (fs ++ f ∷ []) =
      sym (map-append (read_fact (tree_of table)) fs (f ∷ [])) in
      λ i. record { nodes = nodes i; facts = facts i }

  added : (fs : List (Fact ℕ)) → IsOver context fs → IsChoice q.theory table rows → (x e : ℕ) → Adds context fs x e
      → ModelOf fs → ¬ ¬ ModelOf (fs ++ Has x e ∷ [])
  added fs over choice x e adds m none =
      let line = add_is_line context q fs over choice ranges x e adds in
      let known : Known = known_of fs in
      let own : List (Fact ℕ) = facts_of_add context fs x e adds in
      let new : List (Fact Concept) = read_facts (tree_of table) own in
      let f : Fact Concept = Has x (tree_of table e) in
      let On : Fact Concept → Type 0 = λ g. is_on known.nodes g ≡ true in
      one_child fs m (line_of_add context fs x e adds) (with_facts known new ∷ []) line.child (
        (λ child.
            let True : Fact Concept → Type 0 = IsTrueAt w child.place in
            let true_of = all_split True known.facts new child.are_true in
            let is_on_of = all_split On known.facts new child.are_on in
            let holds_it : True f =
            All-contains (λ g. True (read g)) own (Has x e) (all_mapped True read own true_of.1) line.is_added in
            let on_it : On f =
            All-contains (λ g. On (read g)) own (Has x e) (all_mapped On read own is_on_of.1) line.is_added in
            let more : Model w named (known_with q.first table fs f) =
            record {
              place = child.place;
              are_true = All-append True known.facts (f ∷ []) true_of.0 (All-cons True f [] holds_it (All-nil True));
              are_on = All-append On known.facts (f ∷ []) is_on_of.0 (All-cons On f [] on_it (All-nil On));
              stands = child.stands;
              known = child.known;
            } in
            none (subst (Model w named) (same_known fs (Has x e) refl) more)),
        tt,
      )

  -- ---- new nodes

  with_fresh : (fs : List (Fact ℕ)) (x s e n : ℕ)
      → with_nodes (known_of fs) x s (tree_of table e) (node_count_from q.first fs) n
      ≡ known_of (fs ++ fresh_facts x s e (node_count_from q.first fs) n)
  with_fresh fs x s e n =
      let y : ℕ = node_count_from q.first fs in
      let count = count-fresh q.first fs x s e n in
      let nodes : range_with_len 0 y ++ range_with_len y n
      ≡ range_with_len 0 (node_count_from q.first (fs ++ fresh_facts x s e y n)) =
      ap (λ (b : ℕ). range_with_len 0 y ++ range_with_len b n) (omega arith) ∙ sym (range-append 0 y n)
      ∙ ap (range_with_len 0) (sym count) in
      let facts : read_facts (tree_of table) fs ++ fresh_facts x s (tree_of table e) y n
      ≡ read_facts (tree_of table) (fs ++ fresh_facts x s e y n) =
      ap (λ (l : List (Fact Concept)). read_facts (tree_of table) fs ++ l) (sym (fresh-read (tree_of table) x s e y n))
      ∙ sym (map-append (read_fact (tree_of table)) fs (fresh_facts x s e y n)) in
      λ i. record { nodes = nodes i; facts = facts i }

  fresh_model : (fs : List (Fact ℕ)) (m : ModelOf fs) (x s e n : ℕ) → x < node_count_from q.first fs → (ys : List d)
      → AreMany (IsSuccessor w s (m.place x) (IsIn w (tree_of table e))) n ys
      → ModelOf (fs ++ fresh_facts x s e (node_count_from q.first fs) n)
  fresh_model fs m x s e n lt ys many =
      let y : ℕ = node_count_from q.first fs in
      let known : knows (known_of fs) x ≡ true = known_in x 0 y (omega arith) (omega arith) in
      let fresh : (z : ℕ) → knows (known_of fs) z ≡ true → y ≤ z → z < y + n → ⊥ =
      λ z is le less. let below = in_range_below z 0 y is in omega (arith, below, le) in
      subst (Model w named) (with_fresh fs x s e n)
      (with_new w named (known_of fs) m x s (tree_of table e) y n known fresh ys many)

  made : (fs : List (Fact ℕ)) → IsOver context fs → (new : List (Fact ℕ)) → Generates context fs new → ModelOf fs
      → ¬ ¬ ModelOf (fs ++ new)
  made fs over new (by_some x c s e fit h sh empty) m none =
      let lt = listed table c (λ is. let clash = sym sh ∙ is in cc) in
      let is = reads context q fs over c (some_shape s e) sh (λ same. cc) in
      let inside =
      subst (λ (g : Concept). IsIn w g (m.place x)) is
      (has_place w m.place (known_of fs).facts m.are_true x (tree_of table c) (holds context q fs over x c lt h)) in
      let Successor : d → Type 0 = IsSuccessor w s (m.place x) (IsIn w (tree_of table e)) in
      inside
      (λ u edge in_it.
      none
      (fresh_model fs m x s e 1 fit.is_node (u ∷ [])
      (record {
        count = refl;
        distinct = λ i j g before within. absurd (omega arith);
        each = All-cons Successor u [] (edge, in_it) (All-nil Successor);
      })))
  made fs over new (by_least x c n s e fit h sh empty) m none =
      let lt = listed table c (λ is. let clash = sym sh ∙ is in cc) in
      let is = reads context q fs over c (least_shape n s e) sh (λ same. cc) in
      let inside =
      subst (λ (g : Concept). IsIn w g (m.place x)) is
      (has_place w m.place (known_of fs).facts m.are_true x (tree_of table c) (holds context q fs over x c lt h)) in
      inside (λ ys many. none (fresh_model fs m x s e n fit.is_node ys many))

  -- ---- a closed tableau

  -- from what is known with the fact of an alternative to the facts
  known_to_facts : (fs : List (Fact ℕ)) (b : Branch) (n : ℕ) (f : Fact ℕ) → IsAlternative table b n f
      → Model w named (known_with q.first table fs (read f)) → ModelOf (fs ++ f ∷ [])
  known_to_facts fs b n f alternative m =
      subst (Model w named) (same_known fs f (alternative_adds_none table q.first b n f alternative)) m

  -- a legal step that puts facts leaves the world a model
  kept : (k : ℕ) (trail : List Item) → Reached k trail → (new : List (Fact ℕ)) (longer : List Item)
      → longer ≡ trail ++ says new → IsLegal context trail longer
      → ModelOf (facts_of trail) → ¬ ¬ ModelOf (facts_of longer)
  kept k trail r new longer e (add x c nc adds out) m none =
      added (facts_of trail) (is_over k trail r) r.is_choice x c adds m
      (λ more. none (subst ModelOf (sym (facts_of-append trail (Says (Has x c) ∷ []))) more))
  kept k trail r new longer e (give f nc given out) m none =
      one_child (facts_of trail) m (line_of_give context f given) (known_of (facts_of trail ++ f ∷ []) ∷ [])
      (give_is_line context q (facts_of trail) (omega (arith, r.at_first)) f given)
      (λ more. none (subst ModelOf (sym (facts_of-append trail (Says f ∷ []))) more), tt)
  kept k trail r new longer e (generate fs nc makes) m none =
      made (facts_of trail) (is_over k trail r) fs makes m
      (λ more.
      none
      (subst ModelOf
      (sym (facts_of-append trail (says fs)
      ∙ ap (λ (gs : List (Fact ℕ)). facts_of trail ++ gs) (facts_of-says fs))) more))
  kept k trail r new longer e (choose c f nc may one alternative) m none = no_mark trail c (Says f ∷ []) new e
  kept k trail r new longer e (back place c f clash at alternative) m none =
      no_clash (facts_of trail) (is_over k trail r) m clash

  -- of a trail from which there is a closed tableau the world is no model
  no_model : (trail : List Item) → ClosedTableau context trail → (k : ℕ) → Reached k trail → ¬ ModelOf (facts_of trail)
  no_model trail (by_clash old clash) k r m = no_clash (facts_of trail) (is_over k trail r) m clash
  no_model trail (by_step old new legal closed) k r m =
      let longer : List Item = trail ++ says new in
      kept k trail r new longer refl legal m
      (no_model longer closed (suc k) (one_more q table rows k trail longer r legal))
  no_model trail (by_choice old line b clear may numbered each) k r m =
      let fs = facts_of trail in
      let its_line = branch_is_line context q fs (is_over k trail r) b may in
      one_child fs m (line_of_branch b) (children_of_branch q.first table fs b) its_line.children
      (none_of w named (children_of_branch q.first table fs b)
      (λ n child at inside.
      let it = its_line.alternatives.only numbered n child at in
      let reached =
      reaches q table rows k trail r line b clear may numbered n (λ j g le. each j g) it.0 it.1 in
      no_model (trail ++ Mark (mark line b (n + 1)) ∷ Says it.0 ∷ []) (each (n + 1) it.0 it.1) reached.steps
      reached.reached
      (subst ModelOf (sym (facts_of-append trail (Mark (mark line b (n + 1)) ∷ Says it.0 ∷ [])))
      (known_to_facts fs b (n + 1) it.0 it.1 (subst (Model w named) it.2 inside)))))

  -- where a search begins, it is not so that the world is no model
  begins_met : (trail : List Item) → Reached 0 trail → ¬ ¬ ModelOf (facts_of trail)
  begins_met trail r none =
      let first : List Item = start q.at r.sub_number r.not_sup_number in
      let same : known_of (facts_of first) ≡ started q =
      (λ i. record {
        nodes = range_with_len 0 q.first;
        facts = Has q.at (r.sub_reads i) ∷ Has q.at (r.not_sup_reads i) ∷ [];
      }) in
      let begins = ap (λ (b : Bool). when b (Some (started q ∷ []))) (lt-ltb q.at q.first r.at_first) in
      subst (OneHasModelIf w named) begins
      (line_one w named q (concept_in table) v t nothing_known (blank w named q (concept_in table) v t) start_line) (
        (λ m.
            none (subst (λ (is : List Item). ModelOf (facts_of is)) (sym r.follows) (subst (Model w named) (sym same) m))),
        tt,
      )

  pub not_met : (trail : List Item) → Reached 0 trail → ¬ ClosedTableau context trail
  not_met trail r closed = begins_met trail r (no_model trail closed 0 r)

-- what has a closed tableau is met in no world
pub met_nowhere : {d : Type 0} (w : World d) (named : ℕ) (q : Question) → RangesAreFirst q.theory → HasClosedTableau q
    → (v : d) → ¬ MeetsQuestion w named q v
met_nowhere w named q ranges h v t = not_met w named q h.table h.rows v t ranges h.trail h.begun h.tableau
