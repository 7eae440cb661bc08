-- What a tree reads off its lists is what the definitions say of its facts.
use Rattle.std.proofs.Common.{◌≡◌, ℕ, zero, suc, ◌<◌, ◌≤◌, ◌≢◌, min, max, Bool, true, false, List, [], ◌∷◌, ◌++◌}
use Rattle.std.proofs.Common.{length, refl, ap, sym, subst, ◌∙◌, arith, inl, inr, Option, Some, None}
use Rattle.std.specs.Prelude.{◌==◌, ◌&&◌, ◌||◌, if◌then◌else◌}
use Rattle.std.specs.List.{list_any}
use Rattle.std.proofs.lemmas.Bool.{cases_Bool, cases_eq, eq-eqb, ne_eqb, and_right}
use Rattle.std.proofs.lemmas.List.{length-append}
use Rattle.std.proofs.Math.Bool.{or-false, or_assoc}
use Rattle.calculus_specs.specs.declared.facts.Fact.{Fact}
use Rattle.calculus_specs.specs.declared.facts.Fact.TheVariants.{Has, Edge, Apart, Same}
use Rattle.calculus_specs.specs.Joins.{rep_after, rep}
use Rattle.calculus_specs.specs.State.{node_count_from, has, has_edge, are_apart, gives_concept, gives_edge}
use Rattle.calculus_specs.specs.State.{gives_apart}
use Rattle.calculus_specs.proofs.Joined.{by_last, rep-snoc}
use Rattle.fact_tree.specs.Kept.{Lists, Kept, new_lists, having, leading, parted, with_concept, with_concepts, lists_at}
use Rattle.fact_tree.specs.Kept.{changed_at, grown, made, linked, after, empty, kept_of}
use Rattle.fact_tree.specs.Entries.{IsLinked, IsFit, AreFit}
use Rattle.calculus_specs.specs.Listed.{IsLabel, AreEdges}
use Rattle.fact_tree.specs.Told.{AreAparts, gives_first}
use Rattle.fact_tree.proofs.Linked.{kept_of-snoc, count_after, node_count-snoc, fit_before, fit_last, merged_one}
use Rattle.fact_tree.proofs.Linked.{low_stays, high_stays}
use Rattle.fact_tree.proofs.Law.{empty_count, count_is, empty_linked, kept_linked}
use Rattle.fact_tree.proofs.Content.{any-append, any-snoc, any_or, any_same, gives_by, gives, Told, told_on, told_skip}
use Rattle.fact_tree.proofs.Content.{told_put, told_grown, told_linked}

-- ---- what each fact gives

abbrev pub concept_of : Fact ℕ → Option (ℕ × ℕ)
concept_of (Has y c) = Some (y, c)
concept_of (Edge r y z) = None
concept_of (Apart y z) = None
concept_of (Same y z) = None

abbrev pub edge_of : Fact ℕ → Option (ℕ × (ℕ × ℕ))
edge_of (Has y c) = None
edge_of (Edge r y z) = Some (y, (r, z))
edge_of (Apart y z) = None
edge_of (Same y z) = None

abbrev pub apart_of : Fact ℕ → Option (ℕ × ℕ)
apart_of (Has y c) = None
apart_of (Edge r y z) = None
apart_of (Apart y z) = Some (y, z)
apart_of (Same y z) = None

pub record AllTold (m : ℕ → ℕ) (fs : List (Fact ℕ)) (k : Kept) : Type 0 where
  pub concepts : Told (λ n. n.concepts) concept_of (0 ∷ []) m fs k
  pub edges : Told (λ n. n.edges) edge_of [] m fs k
  pub aparts : Told (λ n. n.aparts) apart_of [] m fs k

-- ---- concepts that are put once

or_back : (a b : Bool) → ((a || b) || a) ≡ (a || b)
or_back true b = refl
or_back false true = refl
or_back false false = refl

any_has : (q : ℕ → Bool) (c : ℕ) (cs : List ℕ) → list_any (λ d. d == c) cs ≡ true
    → (list_any q cs || q c) ≡ list_any q cs
any_has q c [] h = cc
any_has q c (d ∷ ds) h = elim (cases_eq d c) [
  | inl e ↦ ap (λ (n : ℕ). (q d || list_any q ds) || q n) (sym e) ∙ or_back (q d) (list_any q ds)
  | inr other ↦
      let rest : list_any (λ v. v == c) ds ≡ true =
      sym (ap (λ (b : Bool). b || list_any (λ v. v == c) ds) (ne_eqb d c other)) ∙ h in
      or_assoc (q d) (list_any q ds) (q c) ∙ ap (λ (b : Bool). q d || b) (any_has q c ds rest)
]

any_with : (q : ℕ → Bool) (cs : List ℕ) (c : ℕ) → list_any q (with_concept cs c) ≡ (list_any q cs || q c)
any_with q cs c = elim (cases_Bool (list_any (λ d. d == c) cs)) [
  | inl there ↦ ap (λ (b : Bool). list_any q (if b then cs else cs ++ c ∷ [])) there ∙ sym (any_has q c cs there)
  | inr new ↦ ap (λ (b : Bool). list_any q (if b then cs else cs ++ c ∷ [])) new ∙ any-snoc q cs c
]

any_with_all : (q : ℕ → Bool) (cs ds : List ℕ) → list_any q (with_concepts cs ds) ≡ (list_any q cs || list_any q ds)
any_with_all q cs [] = sym (or-false (list_any q cs))
any_with_all q cs (d ∷ ds) =
    any_with_all q (with_concept cs d) ds ∙ ap (λ (b : Bool). b || list_any q ds) (any_with q cs d)
    ∙ or_assoc (list_any q cs) (q d) (list_any q ds)

-- ---- nothing first is said of a node that is not there

abbrev PicksFit : {P : Type 0} → (Fact ℕ → Option (ℕ × P)) → Type 0
PicksFit {P} pick = (m : ℕ → ℕ) → ((x : ℕ) → m x ≤ x) → (n : ℕ) (f : Fact ℕ) → IsFit n f → (q : P → Bool) (x : ℕ)
    → n ≤ x → gives_by q m x (pick f) ≡ false

not_here : (m : ℕ → ℕ) (y n x : ℕ) (b : Bool) → m y ≤ y → y < n → n ≤ x → (m y == x && b) ≡ false
not_here m y n x b below lt le =
    ap (λ (t : Bool). t && b) (ne_eqb (m y) x (λ e. absurd (omega (arith, e, below, lt, le))))

concept_fits : PicksFit concept_of
concept_fits m below n (Has y c) fit q x le = not_here m y n x (q c) (below y) fit le
concept_fits m below n (Edge r y z) fit q x le = refl
concept_fits m below n (Apart y z) fit q x le = refl
concept_fits m below n (Same y z) fit q x le = refl

edge_fits : PicksFit edge_of
edge_fits m below n (Has y c) fit q x le = refl
edge_fits m below n (Edge r y z) fit q x le = not_here m y n x (q (r, z)) (below y) fit.0 le
edge_fits m below n (Apart y z) fit q x le = refl
edge_fits m below n (Same y z) fit q x le = refl

apart_fits : PicksFit apart_of
apart_fits m below n (Has y c) fit q x le = refl
apart_fits m below n (Edge r y z) fit q x le = refl
apart_fits m below n (Apart y z) fit q x le = not_here m y n x (q z) (below y) fit.0 le
apart_fits m below n (Same y z) fit q x le = refl

count_grows : (f : Fact ℕ) (n : ℕ) → n ≤ count_after f n
count_grows (Has y c) n = omega arith
count_grows (Edge r y z) n = omega arith
count_grows (Apart y z) n = omega arith
count_grows (Same y z) n = omega arith

nothing : (first : ℕ) {P : Type 0} (get : Lists → List P) (pick : Fact ℕ → Option (ℕ × P)) (base : List P)
    → PicksFit pick → (m : ℕ → ℕ) → ((x : ℕ) → m x ≤ x) → (fs : List (Fact ℕ)) → AreFit first fs → (x : ℕ)
    → node_count_from first fs ≤ x
    → (q : P → Bool) → list_any (gives get pick base q m x) fs ≡ false
nothing first {P} get pick base picks m below =
    by_last {X = Fact ℕ}
    (λ fs. AreFit first fs → (x : ℕ) → node_count_from first fs ≤ x → (q : P → Bool)
    → list_any (gives get pick base q m x) fs ≡ false)
    (λ fit x le q. refl)
    (λ fs f ih fit x le q.
    let before : node_count_from first fs ≤ x =
    omega (arith, le, node_count-snoc first fs f, count_grows f (node_count_from first fs)) in
    any-snoc (gives get pick base q m x) fs f
    ∙ (λ i. ih (fit_before first fs (f ∷ []) fit) x before q i
    || picks m below (node_count_from first fs) f (fit_last first fs f fit) q x before i))

-- ---- one fact more

grown_told : (first : ℕ) (m : ℕ → ℕ) (fs : List (Fact ℕ)) (k : Kept) (origin : ℕ × ℕ) → IsLinked m k → AreFit first fs
    → node_count_from first fs ≡ length k.nodes → AllTold m fs k → AllTold m fs (grown origin k)
grown_told first m fs k origin ok fit count h =
    let le : node_count_from first fs ≤ length k.nodes = omega (arith, count) in
    record {
      concepts =
          told_grown (λ n. n.concepts) concept_of (0 ∷ []) m fs k origin refl
          (nothing first (λ n. n.concepts) concept_of (0 ∷ []) concept_fits m ok.below fs fit (length k.nodes) le)
          h.concepts;
      edges =
          told_grown (λ n. n.edges) edge_of [] m fs k origin refl
          (nothing first (λ n. n.edges) edge_of [] edge_fits m ok.below fs fit (length k.nodes) le) h.edges;
      aparts =
          told_grown (λ n. n.aparts) apart_of [] m fs k origin refl
          (nothing first (λ n. n.aparts) apart_of [] apart_fits m ok.below fs fit (length k.nodes) le) h.aparts;
    }

made_told : (first : ℕ) (m : ℕ → ℕ) (fs : List (Fact ℕ)) (k : Kept) (origin : ℕ × ℕ) (to : ℕ) → IsLinked m k
    → AreFit first fs → node_count_from first fs ≡ length k.nodes → AllTold m fs k → AllTold m fs (made origin to k)
made_told first m fs k origin to ok fit count h = by (to == length k.nodes)
  where
    by : (b : Bool) → AllTold m fs (if b then grown origin k else k)
    by true = grown_told first m fs k origin ok fit count h
    by false = h

made_longer : (k : Kept) (origin : ℕ × ℕ) (to : ℕ) → length k.nodes ≤ length (made origin to k).nodes
made_longer k origin to = by (to == length k.nodes)
  where
    by : (b : Bool) → length k.nodes ≤ length (if b then grown origin k else k).nodes
    by true = omega (arith, length-append k.nodes (new_lists (length k.nodes) origin ∷ []))
    by false = omega arith

has_told : (m : ℕ → ℕ) (fs : List (Fact ℕ)) (k : Kept) (y c : ℕ) → m y < length k.nodes → AllTold m fs k
    → AllTold m (fs ++ Has y c ∷ []) (changed_at (m y) (having c) k)
has_told m fs k y c lt h = record {
  concepts =
      told_put (λ n. n.concepts) concept_of (0 ∷ []) m fs (Has y c) k y c (having c) refl lt
      (λ q n. any_with q n.concepts c) h.concepts;
  edges =
      told_on (λ n. n.edges) edge_of [] m fs (Has y c) (changed_at (m y) (having c) k) refl
      (told_skip (λ n. n.edges) edge_of [] m fs k (m y) (having c) lt (λ n. refl) h.edges);
  aparts =
      told_on (λ n. n.aparts) apart_of [] m fs (Has y c) (changed_at (m y) (having c) k) refl
      (told_skip (λ n. n.aparts) apart_of [] m fs k (m y) (having c) lt (λ n. refl) h.aparts);
}

edge_told : (m : ℕ → ℕ) (fs : List (Fact ℕ)) (k : Kept) (r y z : ℕ) → m y < length k.nodes → AllTold m fs k
    → AllTold m (fs ++ Edge r y z ∷ []) (changed_at (m y) (leading r z) k)
edge_told m fs k r y z lt h = record {
  concepts =
      told_on (λ n. n.concepts) concept_of (0 ∷ []) m fs (Edge r y z) (changed_at (m y) (leading r z) k) refl
      (told_skip (λ n. n.concepts) concept_of (0 ∷ []) m fs k (m y) (leading r z) lt (λ n. refl) h.concepts);
  edges =
      told_put (λ n. n.edges) edge_of [] m fs (Edge r y z) k y (r, z) (leading r z) refl lt
      (λ q n. any-snoc q n.edges (r, z)) h.edges;
  aparts =
      told_on (λ n. n.aparts) apart_of [] m fs (Edge r y z) (changed_at (m y) (leading r z) k) refl
      (told_skip (λ n. n.aparts) apart_of [] m fs k (m y) (leading r z) lt (λ n. refl) h.aparts);
}

apart_told : (m : ℕ → ℕ) (fs : List (Fact ℕ)) (k : Kept) (y z : ℕ) → m y < length k.nodes → AllTold m fs k
    → AllTold m (fs ++ Apart y z ∷ []) (changed_at (m y) (parted z) k)
apart_told m fs k y z lt h = record {
  concepts =
      told_on (λ n. n.concepts) concept_of (0 ∷ []) m fs (Apart y z) (changed_at (m y) (parted z) k) refl
      (told_skip (λ n. n.concepts) concept_of (0 ∷ []) m fs k (m y) (parted z) lt (λ n. refl) h.concepts);
  edges =
      told_on (λ n. n.edges) edge_of [] m fs (Apart y z) (changed_at (m y) (parted z) k) refl
      (told_skip (λ n. n.edges) edge_of [] m fs k (m y) (parted z) lt (λ n. refl) h.edges);
  aparts =
      told_put (λ n. n.aparts) apart_of [] m fs (Apart y z) k y z (parted z) refl lt (λ q n. any-snoc q n.aparts z)
      h.aparts;
}

linked_told : (m : ℕ → ℕ) (fs : List (Fact ℕ)) (k : Kept) (y z : ℕ) → IsLinked m k → m y ≢ m z → y < length k.nodes
    → z < length k.nodes → AllTold m fs k
    → AllTold (rep_after {C = ℕ} m (Same y z)) (fs ++ Same y z ∷ []) (linked (max (m y) (m z)) (min (m y) (m z)) k)
linked_told m fs k y z ok differ ly lz h =
    let next : ℕ → ℕ = rep_after {C = ℕ} m (Same y z) in
    let k' = linked (max (m y) (m z)) (min (m y) (m z)) k in
    let low = low_stays m k y z ok ly lz in
    let high = high_stays m k y z ok ly lz in
    record {
      concepts =
          told_on (λ n. n.concepts) concept_of (0 ∷ []) next fs (Same y z) k' refl
          (told_linked (λ n. n.concepts) concept_of (0 ∷ []) m fs k y z ok differ ly lz
          (λ q a b. any_with_all q a.concepts b.concepts) h.concepts low high);
      edges =
          told_on (λ n. n.edges) edge_of [] next fs (Same y z) k' refl
          (told_linked (λ n. n.edges) edge_of [] m fs k y z ok differ ly lz (λ q a b. any-append q a.edges b.edges)
          h.edges low high);
      aparts =
          told_on (λ n. n.aparts) apart_of [] next fs (Same y z) k' refl
          (told_linked (λ n. n.aparts) apart_of [] m fs k y z ok differ ly lz (λ q a b. any-append q a.aparts b.aparts)
          h.aparts low high);
    }

same_told : (m : ℕ → ℕ) (fs : List (Fact ℕ)) (k : Kept) (y z : ℕ) → IsLinked m k → y < length k.nodes
    → z < length k.nodes → AllTold m fs k
    → AllTold (rep_after {C = ℕ} m (Same y z)) (fs ++ Same y z ∷ []) (after m (Same y z) k)
same_told m fs k y z ok ly lz h = elim (cases_eq (m y) (m z)) [
  | inl same ↦
      let none : rep_after {C = ℕ} m (Same y z) ≡ m = λ i x. merged_one (m y) (m z) (m x) same i in
      let all : after m (Same y z) k ≡ k =
      ap (λ (b : Bool). if b then k else linked (max (m y) (m z)) (min (m y) (m z)) k)
      (eq-eqb (min (m y) (m z)) (max (m y) (m z)) (omega (arith, same))) in
      subst (λ (j : Kept). AllTold (rep_after {C = ℕ} m (Same y z)) (fs ++ Same y z ∷ []) j) (sym all)
      (subst (λ (p : ℕ → ℕ). AllTold p (fs ++ Same y z ∷ []) k) (sym none)
      (record {
        concepts = told_on (λ n. n.concepts) concept_of (0 ∷ []) m fs (Same y z) k refl h.concepts;
        edges = told_on (λ n. n.edges) edge_of [] m fs (Same y z) k refl h.edges;
        aparts = told_on (λ n. n.aparts) apart_of [] m fs (Same y z) k refl h.aparts;
      }))
  | inr differ ↦
      let all : after m (Same y z) k ≡ linked (max (m y) (m z)) (min (m y) (m z)) k =
      ap (λ (b : Bool). if b then k else linked (max (m y) (m z)) (min (m y) (m z)) k)
      (ne_eqb (min (m y) (m z)) (max (m y) (m z)) (λ e. absurd (omega (arith, e, differ)))) in
      subst (λ (j : Kept). AllTold (rep_after {C = ℕ} m (Same y z)) (fs ++ Same y z ∷ []) j) (sym all)
      (linked_told m fs k y z ok differ ly lz h)
]

after_told : (first : ℕ) (m : ℕ → ℕ) (fs : List (Fact ℕ)) (f : Fact ℕ) (k : Kept) → IsLinked m k → AreFit first fs
    → node_count_from first fs ≡ length k.nodes → IsFit (length k.nodes) f → AllTold m fs k
    → AllTold (rep_after m f) (fs ++ f ∷ []) (after m f k)
after_told first m fs (Has y c) k ok fits count fit h = has_told m fs k y c (omega (arith, ok.below y, fit)) h
after_told first m fs (Edge r y z) k ok fits count fit h =
    edge_told m fs (made (r, y) z k) r y z (omega (arith, ok.below y, fit.0, made_longer k (r, y) z))
    (made_told first m fs k (r, y) z ok fits count h)
after_told first m fs (Apart y z) k ok fits count fit h = apart_told m fs k y z (omega (arith, ok.below y, fit.0)) h
after_told first m fs (Same y z) k ok fits count fit h = same_told m fs k y z ok fit.0 fit.1 h

-- nothing is told of the first nodes alone
empty_told : (n : ℕ) → AllTold (λ x. x) [] (empty n)
empty_told zero = record {
  concepts = λ q x lt own. absurd (omega (arith, lt));
  edges = λ q x lt own. absurd (omega (arith, lt));
  aparts = λ q x lt own. absurd (omega (arith, lt));
}
empty_told (suc n) =
    grown_told n (λ x. x) [] (empty n) (0, 0) (empty_linked n) (record { each = λ p d lt. absurd (omega (arith, lt)) })
    (sym (empty_count n)) (empty_told n)

pub kept_told : (first : ℕ) (fs : List (Fact ℕ)) → AreFit first fs → AllTold (rep fs) fs (kept_of first fs)
kept_told first = by_last {X = Fact ℕ} (λ fs. AreFit first fs → AllTold (rep fs) fs (kept_of first fs))
    (λ fit. empty_told first)
    (λ fs f ih fit.
    let before = fit_before first fs (f ∷ []) fit in
    let here : IsFit (length (kept_of first fs).nodes) f =
    subst (λ (n : ℕ). IsFit n f) (sym (count_is first fs before)) (fit_last first fs f fit) in
    let all : rep (fs ++ f ∷ []) ≡ rep_after (rep fs) f = λ i x. rep-snoc fs f x i in
    subst (λ (k : Kept). AllTold (rep (fs ++ f ∷ [])) (fs ++ f ∷ []) k) (sym (kept_of-snoc first fs f))
    (subst (λ (m : ℕ → ℕ). AllTold m (fs ++ f ∷ []) (after (rep fs) f (kept_of first fs))) (sym all)
    (after_told first (rep fs) fs f (kept_of first fs) (kept_linked first fs before) before
    (sym (count_is first fs before)) here (ih before))))

-- ---- the definitions

same_both_ways : (a b : ℕ) → (a == b) ≡ (b == a)
same_both_ways a b = elim (cases_eq a b) [
  | inl e ↦ eq-eqb a b e ∙ sym (eq-eqb b a (sym e))
  | inr other ↦ ne_eqb a b other ∙ sym (ne_eqb b a (λ e. other (sym e)))
]

concept_gives : (m : ℕ → ℕ) (at : ℕ) (kind : ℕ → Bool) (f : Fact ℕ)
    → gives (λ n. n.concepts) concept_of (0 ∷ []) kind m at f ≡ gives_concept kind m at f
concept_gives m at kind (Has y c) = refl
concept_gives m at kind (Edge r y z) = refl
concept_gives m at kind (Apart y z) = refl
concept_gives m at kind (Same y z) = refl

pub label_is : (first : ℕ) (fs : List (Fact ℕ)) (x : ℕ) → AreFit first fs → x < node_count_from first fs
    → IsLabel fs x (lists_at (kept_of first fs) (rep fs x)).concepts
label_is first fs x fit lt c =
    let links = kept_linked first fs fit in
    (kept_told first fs fit).concepts (λ d. d == c) (rep fs x) (omega (arith, lt, links.below x, count_is first fs fit))
    (links.twice x)
    ∙ (λ i. (or-false (0 == c) ∙ same_both_ways 0 c) i
    || any_same (gives (λ n. n.concepts) concept_of (0 ∷ []) (λ d. d == c) (rep fs) (rep fs x))
    (gives_concept (λ d. d == c) (rep fs) (rep fs x)) (concept_gives (rep fs) (rep fs x) (λ d. d == c)) fs i)

and_swap : (a b c : Bool) → (a && (b && c)) ≡ ((b && a) && c)
and_swap true true c = refl
and_swap true false c = refl
and_swap false true c = refl
and_swap false false c = refl

edge_gives : (m : ℕ → ℕ) (roles : ℕ → Bool) (at to : ℕ) (f : Fact ℕ)
    → gives (λ n. n.edges) edge_of [] (λ p. roles p.0 && m p.1 == to) m at f ≡ gives_edge roles m at to f
edge_gives m roles at to (Has y c) = refl
edge_gives m roles at to (Edge r y z) = and_swap (m y == at) (roles r) (m z == to)
edge_gives m roles at to (Apart y z) = refl
edge_gives m roles at to (Same y z) = refl

none_pass : {X : Type 0} (p : X → Bool) → ((x : X) → p x ≡ false) → (xs : List X) → list_any p xs ≡ false
none_pass p h [] = refl
none_pass p h (x ∷ xs) = λ i. h x i || none_pass p h xs i

pub edges_are : (first : ℕ) (fs : List (Fact ℕ)) (x : ℕ) → AreFit first fs → x < node_count_from first fs
    → AreEdges fs x (lists_at (kept_of first fs) (rep fs x)).edges
edges_are first fs x fit lt roles y =
    let links = kept_linked first fs fit in
    let edges = (lists_at (kept_of first fs) (rep fs x)).edges in
    elim (cases_eq (rep fs y) y) [
      | inl own ↦
          (kept_told first fs fit).edges (λ p. roles p.0 && rep fs p.1 == y) (rep fs x)
          (omega (arith, lt, links.below x, count_is first fs fit)) (links.twice x)
          ∙ any_same (gives (λ n. n.edges) edge_of [] (λ p. roles p.0 && rep fs p.1 == y) (rep fs) (rep fs x))
          (gives_edge roles (rep fs) (rep fs x) y) (edge_gives (rep fs) roles (rep fs x) y) fs
          ∙ ap (λ (n : ℕ). list_any (gives_edge roles (rep fs) (rep fs x) n) fs) (sym own)
          ∙ sym (ap (λ (b : Bool). b && has_edge fs roles x y) (eq-eqb (rep fs y) y own))
      | inr other ↦
          none_pass (λ p. roles p.0 && rep fs p.1 == y)
          (λ p. and_right (roles p.0) (rep fs p.1 == y)
          (ne_eqb (rep fs p.1) y (λ e. other (ap (rep fs) (sym e) ∙ links.twice p.1 ∙ e))))
          edges
          ∙ sym (ap (λ (b : Bool). b && has_edge fs roles x y) (ne_eqb (rep fs y) y other))
    ]

apart_gives : (m : ℕ → ℕ) (at to : ℕ) (f : Fact ℕ)
    → gives (λ n. n.aparts) apart_of [] (λ z. m z == to) m at f ≡ gives_first m at to f
apart_gives m at to (Has y c) = refl
apart_gives m at to (Edge r y z) = refl
apart_gives m at to (Apart y z) = refl
apart_gives m at to (Same y z) = refl

pub aparts_are : (first : ℕ) (fs : List (Fact ℕ)) (x : ℕ) → AreFit first fs → x < node_count_from first fs
    → AreAparts fs x (lists_at (kept_of first fs) (rep fs x)).aparts
aparts_are first fs x fit lt b =
    let links = kept_linked first fs fit in
    (kept_told first fs fit).aparts (λ z. rep fs z == b) (rep fs x)
    (omega (arith, lt, links.below x, count_is first fs fit)) (links.twice x)
    ∙ any_same (gives (λ n. n.aparts) apart_of [] (λ z. rep fs z == b) (rep fs) (rep fs x))
    (gives_first (rep fs) (rep fs x) b) (apart_gives (rep fs) (rep fs x) b) fs

either : (m : ℕ → ℕ) (a b : ℕ) (f : Fact ℕ) → gives_apart m a b f ≡ (gives_first m a b f || gives_first m b a f)
either m a b (Has y c) = refl
either m a b (Edge r y z) = refl
either m a b (Apart y z) = refl
either m a b (Same y z) = refl

pub apart_is_either : (fs : List (Fact ℕ)) (x y : ℕ)
    → are_apart fs x y
    ≡ (list_any (gives_first (rep fs) (rep fs x) (rep fs y)) fs
    || list_any (gives_first (rep fs) (rep fs y) (rep fs x)) fs)
apart_is_either fs x y =
    any_or (gives_apart (rep fs) (rep fs x) (rep fs y)) (gives_first (rep fs) (rep fs x) (rep fs y))
    (gives_first (rep fs) (rep fs y) (rep fs x)) (either (rep fs) (rep fs x) (rep fs y)) fs

-- ---- nodes that are not there

concept_nothing : (first : ℕ) (fs : List (Fact ℕ)) (x : ℕ) (kind : ℕ → Bool) → AreFit first fs
    → node_count_from first fs ≤ x → list_any (gives_concept kind (rep fs) (rep fs x)) fs ≡ false
concept_nothing first fs x kind fit le =
    let links = kept_linked first fs fit in
    let own : rep fs x ≡ x = links.beyond x (omega (arith, le, count_is first fs fit)) in
    sym (any_same (gives (λ n. n.concepts) concept_of (0 ∷ []) kind (rep fs) (rep fs x))
    (gives_concept kind (rep fs) (rep fs x)) (concept_gives (rep fs) (rep fs x) kind) fs)
    ∙ nothing first (λ n. n.concepts) concept_of (0 ∷ []) concept_fits (rep fs) links.below fs fit (rep fs x)
    (omega (arith, le, own)) kind

pub label_beyond : (first : ℕ) (fs : List (Fact ℕ)) (x : ℕ) → AreFit first fs → node_count_from first fs ≤ x
    → IsLabel fs x (0 ∷ [])
label_beyond first fs x fit le c =
    or-false (0 == c) ∙ same_both_ways 0 c ∙ sym (or-false (c == 0))
    ∙ ap (λ (b : Bool). c == 0 || b) (sym (concept_nothing first fs x (λ d. d == c) fit le))

pub has_beyond : (first : ℕ) (fs : List (Fact ℕ)) (x c : ℕ) → AreFit first fs → node_count_from first fs ≤ x
    → (c == 0) ≡ has fs x c
has_beyond first fs x c fit le =
    sym (or-false (c == 0)) ∙ ap (λ (b : Bool). c == 0 || b) (sym (concept_nothing first fs x (λ d. d == c) fit le))

edge_nothing : (first : ℕ) (fs : List (Fact ℕ)) (x y : ℕ) (roles : ℕ → Bool) → AreFit first fs
    → node_count_from first fs ≤ x → has_edge fs roles x y ≡ false
edge_nothing first fs x y roles fit le =
    let links = kept_linked first fs fit in
    let own : rep fs x ≡ x = links.beyond x (omega (arith, le, count_is first fs fit)) in
    sym (any_same (gives (λ n. n.edges) edge_of [] (λ p. roles p.0 && rep fs p.1 == rep fs y) (rep fs) (rep fs x))
    (gives_edge roles (rep fs) (rep fs x) (rep fs y)) (edge_gives (rep fs) roles (rep fs x) (rep fs y)) fs)
    ∙ nothing first (λ n. n.edges) edge_of [] edge_fits (rep fs) links.below fs fit (rep fs x) (omega (arith, le, own))
    (λ p. roles p.0 && rep fs p.1 == rep fs y)

pub edges_beyond : (first : ℕ) (fs : List (Fact ℕ)) (x : ℕ) → AreFit first fs → node_count_from first fs ≤ x
    → AreEdges fs x []
edges_beyond first fs x fit le roles y =
    sym (and_right (rep fs y == y) (has_edge fs roles x y) (edge_nothing first fs x y roles fit le))
