-- Lines of too many successors.
use Rattle.std.proofs.Common.{◌≡◌, ℕ, zero, suc, ◌+◌, ◌<◌, ◌&&◌, eqb, Bool, true, List, [], ◌∷◌, ◌++◌, map, take, drop}
use Rattle.std.proofs.Common.{length, get_or, refl, ap, ◌∙◌, sym, subst, arith, eq-eqb}
use Rattle.std.specs.List.{list_all, All}
use Rattle.std.proofs.lemmas.Bool.{and_parts, and_from}
use Rattle.std.proofs.lemmas.List.{length-take-le, map-append, drop_more, append_assoc}
use Rattle.std.proofs.lemmas.List.Elements.{All-head, All-tail, All-take, All-push}
use Rattle.std.proofs.lemmas.List.Folds.{list_all-append}
use Rattle.lane_sieve.specs.Sets.{NumberSet}
use Rattle.calculus_specs.specs.Shape.{IsTable}
use Rattle.calculus_specs.specs.Shape.Shape.{at_most}
use Rattle.calculus_specs.specs.Tree.{tree_of}
use Rattle.calculus_specs.specs.declared.facts.Fact.{Fact}
use Rattle.calculus_specs.specs.declared.facts.Fact.TheVariants.{Has, Edge, Apart}
use Rattle.calculus_specs.specs.State.{has, has_edge, is_successor, are_apart, all_apart, is_so}
use Rattle.calculus_specs.specs.Line.Line.{most_line}
use Rattle.tableau_specs.specs.Clash.{filled_successors}
use Rattle.tableau_specs.specs.Lines.{asked_in}
use Rattle.tableau_specs.specs.Steps.{SearchContext, below_of}
use Rattle.tableau_specs.proofs.PlainClash.{successor_has_edge}
use Rattle.tableau_specs.specs.Near.{IsOverrun}
use Rattle.search_trace.specs.Premises.{Premise, is_node, has_concept, has_edge_below, is_apart, holds, filler_premises}
use Rattle.search_trace.specs.Premises.{apart_premises}
use Rattle.search_trace.specs.Noted.{within}
use Rattle.search_trace.specs.Trail.{MarkedFact, trail_within}
use Rattle.search_trace.specs.Grounded.{AreGrounded}
use Rattle.search_trace.proofs.ByShape.{rules_by_shape}
use Rattle.step_finders.specs.Choosing.{IsRoleTo}
use Rattle.step_finders.proofs.Edges.{any_at}
use Rattle.step_finders.proofs.Members.{member_filled}
use Rattle.step_lines.specs.Grounds.{IsFilledEnd, AreMany, IsLink, AreLinks, link_facts, apart_facts}
use Rattle.step_lines.specs.Kinds.{ServesClash}
use Rattle.step_lines.proofs.ConceptLines.{one_numbered, one_of_kind}
use Rattle.step_lines.proofs.Follows.{all_cons, all_first, all_rest, not_zero, is_listed, concept_follows, edge_follows}
use Rattle.step_lines.proofs.Follows.{apart_follows, node_of_has, end_of_edge}

-- ---- as many as are one too many

all_take : (p : ℕ → Bool) (n : ℕ) (ys : List ℕ) → list_all p ys ≡ true → list_all p (take n ys) ≡ true
all_take p zero ys h = refl
all_take p (suc n) [] h = refl
all_take p (suc n) (y ∷ ys) h = all_cons p y (take n ys) (all_first p y ys h) (all_take p n ys (all_rest p y ys h))

apart_take : (fs : List (Fact ℕ)) (n : ℕ) (ys : List ℕ) → all_apart fs ys ≡ true → all_apart fs (take n ys) ≡ true
apart_take fs zero ys h = refl
apart_take fs (suc n) [] h = refl
apart_take fs (suc n) (y ∷ ys) h =
    let t = and_parts (list_all (are_apart fs y) ys) (all_apart fs ys) h in
    and_from (list_all (are_apart fs y) (take n ys)) (all_apart fs (take n ys)) (all_take (are_apart fs y) n ys t.0)
    (apart_take fs n ys t.1)

module _ (w : SearchContext) (fs : List (Fact ℕ)) (x c n s e : ℕ)
    (o : IsOverrun w.first (below_of w) w.table fs x c n s e) where
  abbrev counted : List ℕ
  counted = filled_successors w.first (below_of w) fs x s e

  filled_ends : All (IsFilledEnd w fs x s e) counted
  filled_ends k d lt =
      let y = get_or counted k d in
      let t =
      and_parts (is_successor fs (λ r. below_of w r s) x y) (has fs y e)
      (sym (member_filled w.first (below_of w) fs x s e y) ∙ any_at (eqb y) counted k d lt (eq-eqb y y refl)) in
      record { next = t.0; holds = t.1 }

  pub too_many : (ys : List ℕ) → ys ≡ take (n + 1) (filled_successors w.first (below_of w) fs x s e)
      → AreMany w fs x n s e ys
  too_many ys at =
      subst (AreMany w fs x n s e) (sym at) (record {
        first = refl;
        count = length-take-le (n + 1) counted (omega (arith, o.more));
        each = All-take (IsFilledEnd w fs x s e) (n + 1) counted filled_ends;
        apart = apart_take fs (n + 1) counted o.every;
      })

-- ---- links

pub link_of : (w : SearchContext) (fs : List (Fact ℕ)) (x s e y q : ℕ) → IsFilledEnd w fs x s e y
    → IsRoleTo w fs x s y q → IsLink w fs x s e (q, y)
link_of w fs x s e y q end to = record { next = to.next; role_below = to.role_below; holds = end.holds }

-- one link more
pub link_more : (w : SearchContext) (fs : List (Fact ℕ)) (x s e : ℕ) (ends : List ℕ) (i q : ℕ)
    (links new : List (ℕ × ℕ))
    → All (IsLink w fs x s e) links × (map (λ (l : ℕ × ℕ). l.1) links ++ drop i ends ≡ ends)
    → i < length ends → IsLink w fs x s e (q, get_or ends i 0) → new ≡ links ++ (q, get_or ends i 0) ∷ []
    → All (IsLink w fs x s e) new × (map (λ (l : ℕ × ℕ). l.1) new ++ drop (i + 1) ends ≡ ends)
link_more w fs x s e ends i q links new h lt link at =
    let y = get_or ends i 0 in
    let seconds : List (ℕ × ℕ) → List ℕ = map (λ (l : ℕ × ℕ). l.1) in (
      subst (All (IsLink w fs x s e)) (sym at) (All-push (IsLink w fs x s e) links (q, y) h.0 link),
      ap (λ (ls : List (ℕ × ℕ)). seconds ls ++ drop (i + 1) ends) at
          ∙ ap (λ (ys : List ℕ). ys ++ drop (i + 1) ends) (map-append (λ (l : ℕ × ℕ). l.1) links ((q, y) ∷ []))
          ∙ append_assoc (seconds links) (y ∷ []) (drop (i + 1) ends)
          ∙ ap (λ (ys : List ℕ). seconds links ++ ys) (sym (drop_more ends i 0 lt)) ∙ h.1,
    )

-- ---- what the line asks

module _ (w : SearchContext) (fs : List (Fact ℕ)) (good : IsTable w.table) where
  abbrev asks : NumberSet → List MarkedFact → Premise → Bool
  asks u ms = holds w.theory (trail_within w.first w.table u ms)

  links_so : (x s e : ℕ) (links : List (ℕ × ℕ)) → All (IsLink w fs x s e) links
      → list_all (is_so fs) (link_facts x e links) ≡ true
  links_so x s e [] all = refl
  links_so x s e (l ∷ ls) all =
      let h = All-head (IsLink w fs x s e) l ls all in
      all_cons (is_so fs) (Edge l.0 x l.1) (Has l.1 e ∷ link_facts x e ls)
      (successor_has_edge fs (λ q. eqb q l.0) x l.1 h.next)
      (all_cons (is_so fs) (Has l.1 e) (link_facts x e ls) h.holds
      (links_so x s e ls (All-tail (IsLink w fs x s e) l ls all)))

  apart_one_so : (xs : List (Fact ℕ)) (y : ℕ) (ys : List ℕ)
      → list_all (is_so xs) (map (Apart y) ys) ≡ list_all (are_apart xs y) ys
  apart_one_so xs y [] = refl
  apart_one_so xs y (z ∷ zs) = ap (λ (b : Bool). are_apart xs y z && b) (apart_one_so xs y zs)

  apart_so : (xs : List (Fact ℕ)) (ys : List ℕ) → list_all (is_so xs) (apart_facts ys) ≡ all_apart xs ys
  apart_so xs [] = refl
  apart_so xs (y ∷ ys) =
      list_all-append (is_so xs) (map (Apart y) ys) (apart_facts ys)
      ∙ ap (λ (b : Bool). b && list_all (is_so xs) (apart_facts ys)) (apart_one_so xs y ys)
      ∙ ap (λ (b : Bool). list_all (are_apart xs y) ys && b) (apart_so xs ys)

  module _ (u : NumberSet) (ms : List MarkedFact) (grounded : AreGrounded w.first ms) where
    links_follow : (x s e : ℕ) (links : List (ℕ × ℕ)) → All (IsLink w fs x s e) links
        → list_all (is_so (within u ms)) (link_facts x e links) ≡ true
        → list_all (asks u ms) (filler_premises x s (tree_of w.table e) (map (λ l. l.1) links)) ≡ true
    links_follow x s e [] all h = refl
    links_follow x s e (l ∷ ls) all h =
        let so : Fact ℕ → Bool = is_so (within u ms) in
        let link = All-head (IsLink w fs x s e) l ls all in
        let on : has_edge (within u ms) (λ q. eqb q l.0) x l.1 ≡ true =
        all_first so (Edge l.0 x l.1) (Has l.1 e ∷ link_facts x e ls) h in
        let rest = all_rest so (Edge l.0 x l.1) (Has l.1 e ∷ link_facts x e ls) h in
        let later = filler_premises x s (tree_of w.table e) (map (λ (k : ℕ × ℕ). k.1) ls) in
        all_cons (asks u ms) (is_node l.1) (has_edge_below s x l.1 ∷ has_concept l.1 (tree_of w.table e) ∷ later)
        (end_of_edge w.first u ms grounded l.0 x l.1 on)
        (all_cons (asks u ms) (has_edge_below s x l.1) (has_concept l.1 (tree_of w.table e) ∷ later)
        (edge_follows w good u ms l.0 s x l.1 link.role_below on)
        (all_cons (asks u ms) (has_concept l.1 (tree_of w.table e)) later
        (concept_follows w good u ms l.1 e (all_first so (Has l.1 e) (link_facts x e ls) rest))
        (links_follow x s e ls (All-tail (IsLink w fs x s e) l ls all)
        (all_rest so (Has l.1 e) (link_facts x e ls) rest))))

    apart_one_follows : (y : ℕ) (ys : List ℕ) → list_all (are_apart (within u ms) y) ys ≡ true
        → list_all (asks u ms) (map (is_apart y) ys) ≡ true
    apart_one_follows y [] h = refl
    apart_one_follows y (z ∷ zs) h =
        all_cons (asks u ms) (is_apart y z) (map (is_apart y) zs)
        (apart_follows w good u ms y z (all_first (are_apart (within u ms) y) z zs h))
        (apart_one_follows y zs (all_rest (are_apart (within u ms) y) z zs h))

    aparts_follow : (ys : List ℕ) → all_apart (within u ms) ys ≡ true → list_all (asks u ms) (apart_premises ys) ≡ true
    aparts_follow [] h = refl
    aparts_follow (y ∷ ys) h =
        let t = and_parts (list_all (are_apart (within u ms) y) ys) (all_apart (within u ms) ys) h in
        list_all-append (asks u ms) (map (is_apart y) ys) (apart_premises ys)
        ∙ and_from (list_all (asks u ms) (map (is_apart y) ys)) (list_all (asks u ms) (apart_premises ys))
        (apart_one_follows y ys t.0) (aparts_follow ys t.1)

  -- the grounds, part by part
  split : (xs : List (Fact ℕ)) (x e : ℕ) (links : List (ℕ × ℕ)) (ys : List ℕ)
      → list_all (is_so xs) (link_facts x e links ++ apart_facts ys)
      ≡ (list_all (is_so xs) (link_facts x e links) && all_apart xs ys)
  split xs x e links ys =
      list_all-append (is_so xs) (link_facts x e links) (apart_facts ys)
      ∙ ap (λ (b : Bool). list_all (is_so xs) (link_facts x e links) && b) (apart_so xs ys)

  module _ (x c n s e : ℕ) (o : IsOverrun w.first (below_of w) w.table fs x c n s e) (ys : List ℕ)
      (many : AreMany w fs x n s e ys) (links : List (ℕ × ℕ)) (are : AreLinks w fs x s e ys links) where
    pub most_serves : (gs : List (Fact ℕ)) → gs ≡ Has x c ∷ (link_facts x e links ++ apart_facts ys) → (nodes : List ℕ)
        → nodes ≡ ys → ServesClash w fs (most_line x c nodes) gs
    most_serves gs eq nodes same_nodes =
        let lt = is_listed w.table c (at_most n s e) o.shape (λ k. cc) in
        let rest : List (Fact ℕ) = link_facts x e links ++ apart_facts ys in
        let asked : List Premise = filler_premises x s (tree_of w.table e) ys ++ apart_premises ys in
        let all_so : (xs : List (Fact ℕ)) → list_all (is_so xs) (link_facts x e links) ≡ true → all_apart xs ys ≡ true
        → list_all (is_so xs) rest ≡ true =
        λ xs a b. split xs x e links ys ∙ and_from (list_all (is_so xs) (link_facts x e links)) (all_apart xs ys) a b in
        subst (λ (zs : List ℕ). ServesClash w fs (most_line x c zs) gs) (sym same_nodes)
        (subst (ServesClash w fs (most_line x c ys)) (sym eq) (record {
          serves = record {
            are_so = all_cons (is_so fs) (Has x c) rest o.holds (all_so fs (links_so x s e links are.each) many.apart);
            holds_by = λ q number u ms same grounded hold.
                let at : has (within u ms) x c ≡ true = all_first (is_so (within u ms)) (Has x c) rest hold in
                let t =
                and_parts (list_all (is_so (within u ms)) (link_facts x e links)) (all_apart (within u ms) ys)
                (sym (split (within u ms) x e links ys) ∙ all_rest (is_so (within u ms)) (Has x c) rest hold) in
                let fillers : list_all (asks u ms) (filler_premises x s (tree_of w.table e) ys) ≡ true =
                subst (λ (zs : List ℕ). list_all (asks u ms) (filler_premises x s (tree_of w.table e) zs) ≡ true)
                are.ends (links_follow u ms grounded x s e links are.each t.0) in
                record {
                  rule = record { premises = is_node x ∷ has_concept x (tree_of w.table c) ∷ asked; children = [] };
                  holds = record {
                    is_rule = (rules_by_shape (asked_in w q) w.table good).by_most x c n s e ys lt o.shape many.count;
                    premises =
                        all_cons (asks u ms) (is_node x) (has_concept x (tree_of w.table c) ∷ asked)
                        (node_of_has w.first u ms grounded x c
                        (not_zero w.table good c (at_most n s e) o.shape (λ k. cc)) at)
                        (all_cons (asks u ms) (has_concept x (tree_of w.table c)) asked
                        (concept_follows w good u ms x c at)
                        (list_all-append (asks u ms) (filler_premises x s (tree_of w.table e) ys) (apart_premises ys)
                        ∙ and_from (list_all (asks u ms) (filler_premises x s (tree_of w.table e) ys))
                        (list_all (asks u ms) (apart_premises ys)) fillers (aparts_follow u ms grounded ys t.1)));
                    are_next = refl;
                  };
                  children_are = refl;
                };
            knows = λ u ms grounded hold. refl;
            of_kind = λ p k kept kinds. one_of_kind w fs good (most_line x c ys) c refl p (kinds.concepts x c o.holds);
            numbered = one_numbered w fs good (most_line x c ys) c refl lt;
            has_part = tt;
          };
          clash = refl;
        }))
