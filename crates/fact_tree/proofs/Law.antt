-- What is kept of facts that speak of nodes: as many nodes as there are, and links to their representatives.
use Rattle.std.proofs.Common.{◌≡◌, ℕ, zero, suc, ◌+◌, ◌<◌, ◌≤◌, min, max, Bool, true, false, List, [], ◌∷◌, ◌++◌}
use Rattle.std.proofs.Common.{length, get_or, refl, ap, sym, subst, ◌∙◌, arith, inl, inr}
use Rattle.std.specs.Prelude.{◌==◌, ◌&&◌, ◌||◌, nat_lt, if◌then◌else◌}
use Rattle.std.specs.List.{list_all}
use Rattle.std.proofs.lemmas.Bool.{and_parts, and_from, cases_eq, cases_lt, eq-eqb, ne_eqb, eqb-true, lt-ltb, or_cases}
use Rattle.std.proofs.lemmas.List.{length-set, length-append}
use Rattle.calculus_specs.specs.declared.facts.Fact.{Fact}
use Rattle.calculus_specs.specs.declared.facts.Fact.TheVariants.{Has, Edge, Apart, Same}
use Rattle.calculus_specs.specs.Joins.{rep_after, rep}
use Rattle.calculus_specs.specs.State.{node_count_from}
use Rattle.calculus_specs.proofs.Joined.{by_last, rep-snoc}
use Rattle.calculus_specs.specs.Listed.{AreJoined}
use Rattle.fact_tree.specs.Facts.{TreeFacts}
use Rattle.fact_tree.specs.Kept.{Kept, new_lists, having, leading, parted, absorbing, lists_at, grown, made, linked}
use Rattle.fact_tree.specs.Kept.{at_of, high_of, after, empty, kept_of}
use Rattle.fact_tree.specs.Entries.{IsLinked, IsFit, AreFit, IsPlace, AreOrdered, is_in}
use Rattle.fact_tree.specs.Told.{IsAlone}
use Rattle.fact_tree.proofs.Linked.{kept_of-snoc, count_after, node_count-snoc, fit_before, fit_last, grown_linked}
use Rattle.fact_tree.proofs.Linked.{after_linked, member_links, high_stays}

-- ---- how many nodes there are

abbrev pub count_in : TreeFacts → ℕ
count_in t = node_count_from t.first t.facts

-- first nodes are nodes
pub first_within : (first : ℕ) (fs : List (Fact ℕ)) → first ≤ node_count_from first fs
first_within first [] = omega arith
first_within first (Has y c ∷ fs) = first_within first fs
first_within first (Edge r y z ∷ fs) = omega (arith, first_within first fs)
first_within first (Apart y z ∷ fs) = first_within first fs
first_within first (Same y z ∷ fs) = first_within first fs

made_count : (k : Kept) (origin : ℕ × ℕ) (to : ℕ) → to ≤ length k.nodes
    → length (made origin to k).nodes ≡ max (to + 1) (length k.nodes)
made_count k origin to le = elim (cases_eq to (length k.nodes)) [
  | inl same ↦
      ap (λ (b : Bool). length (if b then grown origin k else k).nodes) (eq-eqb to (length k.nodes) same)
      ∙ length-append k.nodes (new_lists (length k.nodes) origin ∷ [])
      ∙ (let e : length k.nodes + length (new_lists (length k.nodes) origin ∷ []) ≡ max (to + 1) (length k.nodes) =
      omega (arith, same) in
      e)
  | inr other ↦
      ap (λ (b : Bool). length (if b then grown origin k else k).nodes) (ne_eqb to (length k.nodes) other)
      ∙ (let e : length k.nodes ≡ max (to + 1) (length k.nodes) = omega (arith, le, other) in e)
]

pub joined_count : (k : Kept) (at high : ℕ) → length (if at == high then k else linked high at k).nodes ≡ length k.nodes
joined_count k at high = by (at == high)
  where
    by : (b : Bool) → length (if b then k else linked high at k).nodes ≡ length k.nodes
    by true = refl
    by false = length-set k.nodes at (absorbing (lists_at k high) (lists_at k at))

after_count : (m : ℕ → ℕ) (k : Kept) (f : Fact ℕ) → IsFit (length k.nodes) f
    → length (after m f k).nodes ≡ count_after f (length k.nodes)
after_count m k (Has y c) fit = length-set k.nodes (m y) (having c (lists_at k (m y)))
after_count m k (Edge r y z) fit =
    length-set (made (r, y) z k).nodes (m y) (leading r z (lists_at (made (r, y) z k) (m y)))
    ∙ made_count k (r, y) z fit.1
after_count m k (Apart y z) fit = length-set k.nodes (m y) (parted z (lists_at k (m y)))
after_count m k (Same y z) fit = joined_count k (min (m y) (m z)) (max (m y) (m z))

-- the first nodes alone
pub empty_count : (n : ℕ) → length (empty n).nodes ≡ n
empty_count zero = refl
empty_count (suc n) =
    length-append (empty n).nodes (new_lists (length (empty n).nodes) (0, 0) ∷ [])
    ∙ (let e : length (empty n).nodes + 1 ≡ suc n = omega (arith, empty_count n) in e)

pub count_is : (first : ℕ) (fs : List (Fact ℕ)) → AreFit first fs
    → length (kept_of first fs).nodes ≡ node_count_from first fs
count_is first =
    by_last {X = Fact ℕ} (λ fs. AreFit first fs → length (kept_of first fs).nodes ≡ node_count_from first fs)
    (λ fit. empty_count first)
    (λ fs f ih fit.
    let before = ih (fit_before first fs (f ∷ []) fit) in
    let here : IsFit (length (kept_of first fs).nodes) f =
    subst (λ (n : ℕ). IsFit n f) (sym before) (fit_last first fs f fit) in
    ap (λ (k : Kept). length k.nodes) (kept_of-snoc first fs f) ∙ after_count (rep fs) (kept_of first fs) f here
    ∙ ap (count_after f) before ∙ sym (node_count-snoc first fs f))

-- ---- links

pub empty_linked : (n : ℕ) → IsLinked (λ x. x) (empty n)
empty_linked zero = record {
  equal = refl;
  leads = record { each = λ x d lt. absurd (omega (arith, lt)) };
  below = λ x. omega arith;
  twice = λ x. refl;
  beyond = λ x le. refl;
  members = λ r x lt own. absurd (omega (arith, lt));
  heads = λ r d lt. absurd (omega (arith, lt));
}
empty_linked (suc n) = grown_linked (λ x. x) (empty n) (0, 0) (empty_linked n)

pub kept_linked : (first : ℕ) (fs : List (Fact ℕ)) → AreFit first fs → IsLinked (rep fs) (kept_of first fs)
kept_linked first = by_last {X = Fact ℕ} (λ fs. AreFit first fs → IsLinked (rep fs) (kept_of first fs))
    (λ fit. empty_linked first)
    (λ fs f ih fit.
    let earlier = fit_before first fs (f ∷ []) fit in
    let here : IsFit (length (kept_of first fs).nodes) f =
    subst (λ (n : ℕ). IsFit n f) (sym (count_is first fs earlier)) (fit_last first fs f fit) in
    let all : rep (fs ++ f ∷ []) ≡ rep_after (rep fs) f = λ i x. rep-snoc fs f x i in
    subst (λ (k : Kept). IsLinked (rep (fs ++ f ∷ [])) k) (sym (kept_of-snoc first fs f))
    (subst (λ (m : ℕ → ℕ). IsLinked m (after (rep fs) f (kept_of first fs))) (sym all)
    (after_linked (rep fs) (kept_of first fs) f (ih earlier) here)))

pub links_count : (first : ℕ) (fs : List (Fact ℕ)) → AreFit first fs
    → length (kept_of first fs).links ≡ node_count_from first fs
links_count first fs fit = (kept_linked first fs fit).equal ∙ count_is first fs fit

-- what a link is read as
pub root_is : (first : ℕ) (fs : List (Fact ℕ)) (k : Kept) (x at : ℕ) → AreFit first fs → k ≡ kept_of first fs
    → (x < length k.links → at ≡ get_or k.links x 0) → (length k.links ≤ x → at ≡ x) → at ≡ rep fs x
root_is first fs k x at fit is linked beyond =
    let links = kept_linked first fs fit in
    let same = ap (λ (j : Kept). length j.links) is in
    elim (cases_lt x (length k.links)) [
      | inl lt ↦ linked lt ∙ ap (λ (j : Kept). get_or j.links x 0) is ∙ links.leads.each x 0 (omega (arith, lt, same))
      | inr ge ↦ beyond ge ∙ sym (links.beyond x (omega (arith, ge, same, links.equal)))
    ]

-- ---- nodes that are alone

-- the members of a representative are the nodes that are one with it
pub members_are : (first : ℕ) (fs : List (Fact ℕ)) (x : ℕ) → AreFit first fs → x < node_count_from first fs
    → AreJoined fs (node_count_from first fs) x (lists_at (kept_of first fs) (rep fs x)).members
members_are first fs x fit lt y =
    let links = kept_linked first fs fit in
    links.members (rep fs x) y (omega (arith, lt, links.below x, count_is first fs fit)) (links.twice x)
    ∙ ap (λ (n : ℕ). nat_lt y n && rep fs y == rep fs x) (count_is first fs fit)

-- the members of a representative are all that are one with it
own_member : (first : ℕ) (fs : List (Fact ℕ)) (x y : ℕ) → AreFit first fs → x < node_count_from first fs
    → y < length (kept_of first fs).nodes → rep fs y ≡ rep fs x
    → is_in y (lists_at (kept_of first fs) (rep fs x)).members ≡ true
own_member first fs x y fit lt before same =
    let links = kept_linked first fs fit in
    let r = rep fs x in
    let within : r < length (kept_of first fs).nodes = omega (arith, lt, links.below x, count_is first fs fit) in
    links.members r y within (links.twice x)
    ∙ (λ i. lt-ltb y (length (kept_of first fs).nodes) before i && eq-eqb (rep fs y) r same i)

-- a representative that is its only member
pub alone_is : (first : ℕ) (fs : List (Fact ℕ)) (x : ℕ) → AreFit first fs → x < node_count_from first fs
    → list_all (λ v. v == rep fs x) (lists_at (kept_of first fs) (rep fs x)).members ≡ true → IsAlone fs x
alone_is first fs x fit lt own y same =
    let r = rep fs x in
    elim (cases_lt y (length (kept_of first fs).nodes)) [
      | inl before ↦
          only_one (lists_at (kept_of first fs) r).members y r own (own_member first fs x y fit lt before same)
      | inr behind ↦ sym ((kept_linked first fs fit).beyond y behind) ∙ same
    ]
  where
    only_one : (ms : List ℕ) (y r : ℕ) → list_all (λ v. v == r) ms ≡ true → is_in y ms ≡ true → y ≡ r
    only_one [] y r own there = cc
    only_one (v ∷ ms) y r own there =
        let parts = and_parts (v == r) (list_all (λ u. u == r) ms) own in
        elim (or_cases (v == y) (is_in y ms) there) [
          | inl e ↦ sym (eqb-true v y e) ∙ eqb-true v r parts.0
          | inr more ↦ only_one ms y r parts.1 more
        ]

-- and the other way round
pub alone_has_no_other : (first : ℕ) (fs : List (Fact ℕ)) (x : ℕ) → AreFit first fs → x < node_count_from first fs
    → IsAlone fs x → list_all (λ v. v == rep fs x) (lists_at (kept_of first fs) (rep fs x)).members ≡ true
alone_has_no_other first fs x fit lt alone =
    each (lists_at (kept_of first fs) (rep fs x)).members (λ y there. alone y (one_with y there))
  where
    r : ℕ
    r = rep fs x

    one_with : (y : ℕ) → is_in y (lists_at (kept_of first fs) r).members ≡ true → rep fs y ≡ r
    one_with y there =
        let links = kept_linked first fs fit in
        let within : r < length (kept_of first fs).nodes = omega (arith, lt, links.below x, count_is first fs fit) in
        let parts =
        and_parts (nat_lt y (length (kept_of first fs).nodes)) (rep fs y == r)
        (sym (links.members r y within (links.twice x)) ∙ there) in
        eqb-true (rep fs y) r parts.1

    each : (ms : List ℕ) → ((y : ℕ) → is_in y ms ≡ true → y ≡ r) → list_all (λ v. v == r) ms ≡ true
    each [] h = refl
    each (v ∷ ms) h =
        and_from (v == r) (list_all (λ u. u == r) ms)
        (eq-eqb v r (h v (ap (λ (b : Bool). b || is_in v ms) (eq-eqb v v refl))))
        (each ms (λ y there. h y (by_rest (v == y) (is_in y ms) there)))
      where
        by_rest : (a b : Bool) → b ≡ true → (a || b) ≡ true
        by_rest true b there = refl
        by_rest false b there = there

-- a number that is no node's is its own representative, and no other's
pub beyond_is_alone : (first : ℕ) (fs : List (Fact ℕ)) (x : ℕ) → AreFit first fs → node_count_from first fs ≤ x
    → IsAlone fs x
beyond_is_alone first fs x fit ge y same =
    let links = kept_linked first fs fit in
    let own : rep fs x ≡ x = links.beyond x (omega (arith, ge, count_is first fs fit)) in
    elim (cases_lt y (length (kept_of first fs).nodes)) [
      | inl before ↦ absurd (omega (arith, ge, count_is first fs fit, before, links.below y, same, own))
      | inr behind ↦ sym (links.beyond y behind) ∙ same
    ]

-- ---- the nodes of a fact

place_by : (m : ℕ → ℕ) (k : Kept) (at high : ℕ) → IsLinked m k → at < length k.nodes → high < length k.nodes
    → m high ≡ high → IsPlace at high k
place_by m k at high h lt high-in own = record {
  node_exists = lt;
  high_exists = high-in;
  equal = h.equal;
  head = h.heads high 0 high-in;
  own = λ x there. member_links m k high x h high-in own there;
}

place_at : (m : ℕ → ℕ) (k : Kept) (y : ℕ) → IsLinked m k → y < length k.nodes → IsPlace (m y) (m y) k
place_at m k y h lt =
    let within : m y < length k.nodes = omega (arith, h.below y, lt) in
    place_by m k (m y) (m y) h within within (h.twice y)

place_two : (m : ℕ → ℕ) (k : Kept) (y z : ℕ) → IsLinked m k → y < length k.nodes → z < length k.nodes
    → IsPlace (min (m y) (m z)) (max (m y) (m z)) k
place_two m k y z h ly lz =
    place_by m k (min (m y) (m z)) (max (m y) (m z)) h (omega (arith, h.below y, ly))
    (omega (arith, h.below y, h.below z, ly, lz)) (high_stays m k y z h ly lz)

pub place_of : (m : ℕ → ℕ) (k : Kept) (f : Fact ℕ) → IsLinked m k → IsFit (length k.nodes) f
    → IsPlace (at_of m f) (high_of m f) k
place_of m k (Has y c) h fit = place_at m k y h fit
place_of m k (Edge r y z) h fit = place_at m k y h fit.0
place_of m k (Apart y z) h fit = place_at m k y h fit.0
place_of m k (Same y z) h fit = place_two m k y z h fit.0 fit.1

pub ordered_of : (m : ℕ → ℕ) (f : Fact ℕ) → AreOrdered (at_of m f) (high_of m f) f
ordered_of m (Has y c) = tt
ordered_of m (Edge r y z) = tt
ordered_of m (Apart y z) = tt
ordered_of m (Same y z) = omega arith
