-- Facts that are put with marks by which their nodes are known.
use Rattle.std.proofs.Common.{◌≡◌, ℕ, zero, suc, ◌+◌, ◌<◌, ◌≤◌, ◌&&◌, ◌||◌, eqb, cond, Bool, true, List, [], ◌∷◌, ◌++◌}
use Rattle.std.proofs.Common.{map, refl, ap, ◌∙◌, sym, arith, inl, inr, eq-eqb}
use Rattle.std.specs.List.{list_any, list_all}
use Rattle.std.specs.FinSet as sets
use Rattle.std.proofs.lemmas.Cmp.{nat_cmp_total}
use Rattle.std.proofs.lemmas.Bool.{and_from, or_left, or_right, cases_Bool, le-ltb}
use Rattle.std.proofs.lemmas.List.Folds.{list_any-append}
use Rattle.lane_sieve.specs.Sets.{NumberSet}
use Rattle.calculus_specs.specs.declared.facts.Fact.{Fact}
use Rattle.calculus_specs.specs.declared.facts.Fact.TheVariants.{Has, Edge, Apart}
use Rattle.calculus_specs.specs.State.{new_nodes, apart_from, pairwise_apart, fresh_facts}
use Rattle.search_trace.specs.Noted.{Marked, marked, is_within}
use Rattle.search_trace.specs.Trail.{MarkedFact, nodes_of, ends_of}
use Rattle.search_trace.specs.Grounded.{named, is_known_within, is_grounded}
use Rattle.search_trace.proofs.Among.{any_within}
use Rattle.search_trace.proofs.Trail.{wider_part, nodes-append}
use Rattle.search_trace.proofs.Grounded.{grounded_more}
use Rattle.step_lines.specs.Serving.{FactsStayGrounded, NewNodesStayGrounded}
use Rattle.step_lines.proofs.Follows.{all_cons, all_first, all_rest}

part_itself : (s : NumberSet) → sets.is_subset s s ≡ true
part_itself s = sets.contains-is_subset nat_cmp_total s s (λ q is. is)

pub all_implies : {A : Type 0} → (p q : A → Bool) → ((a : A) → p a ≡ true → q a ≡ true) → (xs : List A)
    → list_all p xs ≡ true → list_all q xs ≡ true
all_implies p q imp [] h = refl
all_implies p q imp (x ∷ xs) h =
    all_cons q x xs (imp x (all_first p x xs h)) (all_implies p q imp xs (all_rest p x xs h))

pub wider : (first : ℕ) (u v : NumberSet) → sets.is_subset u v ≡ true → (ms : List MarkedFact) (x : ℕ)
    → is_known_within first u ms x ≡ true → is_known_within first v ms x ≡ true
wider first u v part ms x h = (wider_part first [] u v part ms).nodes (λ y. eqb y x) h

-- whether the node rests on marks in u, and is z
abbrev is_there : NumberSet → ℕ → Marked ℕ → Bool
is_there u z m = is_within u m && eqb m.item z

-- a node is known by what is put before or behind
known_in : (first : ℕ) (u : NumberSet) (ms ns : List MarkedFact) (z : ℕ)
    → is_known_within first u (ms ++ ns) z
    ≡ (list_any (is_there u z) (nodes_of first ms) || list_any (is_there u z) (ends_of first ns))
known_in first u ms ns z =
    any_within u (λ y. eqb y z) (nodes_of first (ms ++ ns)) ∙ ap (list_any (is_there u z)) (nodes-append first ms ns)
    ∙ list_any-append (is_there u z) (nodes_of first ms) (ends_of first ns)

stays_known : (first : ℕ) (u : NumberSet) (ms ns : List MarkedFact) (z : ℕ) → is_known_within first u ms z ≡ true
    → is_known_within first u (ms ++ ns) z ≡ true
stays_known first u ms ns z h =
    known_in first u ms ns z
    ∙ or_left (list_any (is_there u z) (nodes_of first ms)) (list_any (is_there u z) (ends_of first ns))
    (sym (any_within u (λ y. eqb y z) (nodes_of first ms)) ∙ h)

gets_known : (first : ℕ) (u : NumberSet) (ms ns : List MarkedFact) (z : ℕ)
    → list_any (is_there u z) (ends_of first ns) ≡ true → is_known_within first u (ms ++ ns) z ≡ true
gets_known first u ms ns z h =
    known_in first u ms ns z
    ∙ or_right (list_any (is_there u z) (nodes_of first ms)) (list_any (is_there u z) (ends_of first ns)) h

-- ---- one fact

pub facts_stay : FactsStayGrounded
facts_stay first u v ms f grounded part known =
    let ns : List MarkedFact = marked v f ∷ [] in
    grounded_more first ms ns grounded
    (all_cons (is_grounded first (ms ++ ns)) (marked v f) []
    (all_implies (is_known_within first u ms) (is_known_within first v (ms ++ ns))
    (λ z h. stays_known first v ms ns z (wider first u v part ms z h)) (named f) known)
    refl)

-- ---- new nodes

module _ (u : NumberSet) (known : ℕ → Bool) where
  abbrev speaks : Fact ℕ → Bool
  speaks f = list_all known (named f)

  all_marked : (first : ℕ) (ms : List MarkedFact) → ((z : ℕ) → known z ≡ is_known_within first u ms z)
      → (fs : List (Fact ℕ)) → list_all speaks fs ≡ true → list_all (is_grounded first ms) (map (marked u) fs) ≡ true
  all_marked first ms same [] h = refl
  all_marked first ms same (f ∷ fs) h =
      all_cons (is_grounded first ms) (marked u f) (map (marked u) fs)
      (all_implies known (is_known_within first u ms) (λ z k. sym (same z) ∙ k) (named f) (all_first speaks f fs h))
      (all_marked first ms same fs (all_rest speaks f fs h))

  apart_speak : (y z n : ℕ) → known y ≡ true → ((v : ℕ) → z ≤ v → v < z + n → known v ≡ true) → (rest : List (Fact ℕ))
      → list_all speaks rest ≡ true → list_all speaks (apart_from y z n ++ rest) ≡ true
  apart_speak y z zero ky kz rest h = h
  apart_speak y z (suc n) ky kz rest h =
      all_cons speaks (Apart y z) (apart_from y (z + 1) n ++ rest)
      (all_cons known y (z ∷ []) ky (all_cons known z [] (kz z (omega arith) (omega arith)) refl))
      (apart_speak y (z + 1) n ky (λ v from before. kz v (omega (arith, from)) (omega (arith, before))) rest h)

  pairs_speak : (first n : ℕ) → ((v : ℕ) → first ≤ v → v < first + n → known v ≡ true)
      → list_all speaks (pairwise_apart first n) ≡ true
  pairs_speak first zero k = refl
  pairs_speak first (suc n) k =
      apart_speak first (first + 1) n (k first (omega arith) (omega arith))
      (λ v from before. k v (omega (arith, from)) (omega (arith, before))) (pairwise_apart (first + 1) n)
      (pairs_speak (first + 1) n (λ v from before. k v (omega (arith, from)) (omega (arith, before))))

  nodes_speak : (x s e first n : ℕ) → known x ≡ true → ((v : ℕ) → first ≤ v → v < first + n → known v ≡ true)
      → (rest : List (Fact ℕ)) → list_all speaks rest ≡ true
      → list_all speaks (new_nodes x s e first n ++ rest) ≡ true
  nodes_speak x s e first zero kx k rest h = h
  nodes_speak x s e first (suc n) kx k rest h =
      let here : known first ≡ true = k first (omega arith) (omega arith) in
      all_cons speaks (Edge s x first) (Has first e ∷ new_nodes x s e (first + 1) n ++ rest)
      (all_cons known x (first ∷ []) kx (all_cons known first [] here refl))
      (all_cons speaks (Has first e) (new_nodes x s e (first + 1) n ++ rest) (all_cons known first [] here refl)
      (nodes_speak x s e (first + 1) n kx (λ v from before. k v (omega (arith, from)) (omega (arith, before))) rest h))

  fresh_speak : (x s e first n : ℕ) → known x ≡ true → ((v : ℕ) → first ≤ v → v < first + n → known v ≡ true)
      → list_all speaks (fresh_facts x s e first n) ≡ true
  fresh_speak x s e first n kx k = nodes_speak x s e first n kx k (pairwise_apart first n) (pairs_speak first n k)

-- each new node is the end of an edge
not_first : (z a : ℕ) → a ≤ z → ¬ (a ≡ z) → a + 1 ≤ z
not_first z a le ne = grind (arith)

ends_there : (first : ℕ) (u : NumberSet) (x s e from n : ℕ) (rest : List (Fact ℕ)) (z : ℕ) → first ≤ from → from ≤ z
    → z < from + n
    → list_any (is_there u z) (ends_of first (map (marked u) (new_nodes x s e from n ++ rest))) ≡ true
ends_there first u x s e from zero rest z le after before = absurd (omega (arith, after, before))
ends_there first u x s e from (suc n) rest z le after before =
    let later : List (Marked ℕ) = ends_of first (map (marked u) (new_nodes x s e (from + 1) n ++ rest)) in
    ap (λ (t : Bool). list_any (is_there u z) (cond t [] (marked u from ∷ []) ++ later)) (le-ltb from first le)
    ∙ (elim (cases_Bool (eqb from z)) [
      | inl here ↦
          or_left (is_there u z (marked u from)) (list_any (is_there u z) later)
          (and_from (sets.is_subset u u) (eqb from z) (part_itself u) here)
      | inr miss ↦
          or_right (is_there u z (marked u from)) (list_any (is_there u z) later)
          (ends_there first u x s e (from + 1) n rest z (omega (arith, le))
          (not_first z from after (λ k. (let l = eq-eqb from z k in cc))) (omega (arith, before)))
    ])

pub new_nodes_stay : NewNodesStayGrounded
new_nodes_stay first u ms x s e from n le grounded known =
    let ns : List MarkedFact = map (marked u) (fresh_facts x s e from n) in
    grounded_more first ms ns grounded
    (all_marked u (is_known_within first u (ms ++ ns)) first (ms ++ ns) (λ z. refl) (fresh_facts x s e from n)
    (fresh_speak u (is_known_within first u (ms ++ ns)) x s e from n (stays_known first u ms ns x known)
    (λ z after before. gets_known first u ms ns z
    (ends_there first u x s e from n (pairwise_apart from n) z le after before))))
