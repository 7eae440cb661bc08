-- The places of some of the entries.
use Rattle.std.proofs.Common.{◌≡◌, ℕ, zero, suc, ◌+◌, ◌-◌, ◌<◌, ◌≤◌, Bool, true, false, List, [], ◌∷◌, ◌++◌, length}
use Rattle.std.proofs.Common.{take, drop, get_or, append_assoc, cond, Some, refl, ap, sym, subst, ◌∙◌, arith}
use Rattle.std.specs.Prelude.{filter, count_by, slice_get, if◌then◌else◌}
use Rattle.std.specs.List.{list_any}
use Rattle.std.proofs.lemmas.List.{take-append-drop, length-append, append-nil}
use Rattle.std.proofs.lemmas.List.Sums.{length-filter}
use Rattle.std.proofs.Math.Seq.{take-append_seam, get_or-append_seam}
use Rattle.calculus_specs.specs.declared.facts.Fact.{Fact}
use Rattle.calculus_specs.specs.declared.facts.Fact.TheVariants.{Has, Edge, Apart, Same}
use Rattle.axiom_sets.specs.NumberSets.{NumberSet}
use Rattle.completion_tree.specs.declared.tree.Entry.{Entry}
use Rattle.completion_tree.specs.declared.tree.Entry.TheVariants.{Fact as Grounded, Mark}
use Rattle.completion_tree.specs.Trail.{facts_in, is_fact, is_same, places}
use Rattle.completion_tree.specs.Marks.{facts_within, is_join, passes, marks_at, AreWithin, IsGroundedBy}
use Rattle.fact_tree.proofs.Growing.{take_whole}
use Rattle.completion_tree.proofs.Resting.{found}

-- ---- lists of places

pub places-append : (p : Entry → Bool) (n : ℕ) (es more : List Entry)
    → places p n (es ++ more) ≡ places p n es ++ places p (n + length es) more
places-append p n [] more = ap (λ (k : ℕ). places p k more) (let e : n ≡ n + 0 = omega arith in e)
places-append p n (e ∷ es) more =
    let next : places p (n + 1) (es ++ more) ≡ places p (n + 1) es ++ places p (n + length (e ∷ es)) more =
    places-append p (n + 1) es more
    ∙ ap (λ (k : ℕ). places p (n + 1) es ++ places p k more)
    (let s : n + 1 + length es ≡ n + suc (length es) = omega arith in s) in
    elim (p e) as
    (λ b. (if b then n ∷ places p (n + 1) (es ++ more) else places p (n + 1) (es ++ more))
    ≡ (if b then n ∷ places p (n + 1) es else places p (n + 1) es) ++ places p (n + length (e ∷ es)) more) [
      | true ↦ ap (λ (us : List ℕ). n ∷ us) next
      | false ↦ next
    ]

places-filtered : (p : Entry → Bool) (n : ℕ) (es : List Entry) → length (places p n es) ≡ length (filter p es)
places-filtered p n [] = refl
places-filtered p n (e ∷ es) = elim (p e) as
    (λ b. length (if b then n ∷ places p (n + 1) es else places p (n + 1) es)
    ≡ length (cond b (e ∷ filter p es) (filter p es))) [
      | true ↦ ap suc (places-filtered p (n + 1) es)
      | false ↦ places-filtered p (n + 1) es
    ]

pub places-length : (p : Entry → Bool) (n : ℕ) (es : List Entry) → length (places p n es) ≡ count_by p es
places-length p n es = places-filtered p n es ∙ length-filter p es

-- one entry more
pub places-snoc : (p : Entry → Bool) (es now : List Entry) (e : Entry) (old new : List ℕ) (n : ℕ) → old ≡ places p 0 es
    → n ≡ length es → now ≡ es ++ e ∷ [] → new ≡ (if p e then old ++ n ∷ [] else old) → new ≡ places p 0 now
places-snoc p es now e old new n before at put is =
    is ∙ (λ i. if p e then before i ++ at i ∷ [] else before i) ∙ one (p e) ∙ sym (places-append p 0 es (e ∷ []))
    ∙ ap (places p 0) (sym put)
  where
    one : (b : Bool)
        → (if b then places p 0 es ++ length es ∷ [] else places p 0 es)
        ≡ places p 0 es ++ (if b then (0 + length es) ∷ [] else [])
    one true = ap (λ (k : ℕ). places p 0 es ++ k ∷ []) (let s : length es ≡ 0 + length es = omega arith in s)
    one false = sym (append-nil (places p 0 es))

-- the places of the first entries are the first places
pub places-take : (p : Entry → Bool) (n : ℕ) (es : List Entry)
    → take (length (places p 0 es) - count_by p (drop n es)) (places p 0 es) ≡ places p 0 (take n es)
places-take p n es =
    let first = take n es in
    let rest = drop n es in
    let all : places p 0 es ≡ places p 0 first ++ places p (0 + length first) rest =
    ap (places p 0) (sym (take-append-drop n es)) ∙ places-append p 0 first rest in
    let len : length (places p 0 es) - count_by p rest ≡ length (places p 0 first) = omega (
      arith,
      ap length all,
      length-append (places p 0 first) (places p (0 + length first) rest),
      places-length p (0 + length first) rest,
    ) in
    (λ i. take (len i) (all i)) ∙ take-append_seam (places p 0 first) (places p (0 + length first) rest)

-- what stands at a place
read_at : (p : Entry → Bool) (us es : List Entry) (j : ℕ) (d : Entry) → j < length (places p (length us) es)
    → get_or (us ++ es) (get_or (places p (length us) es) j 0) d ≡ get_or (filter p es) j d
read_at p us [] j d lt = absurd (omega (arith, lt))
read_at p us (e ∷ es) j d lt = by (λ i less. read_at p (us ++ e ∷ []) es i d less) (p e) j lt
  where
    whole : (us ++ e ∷ []) ++ es ≡ us ++ e ∷ es
    whole = append_assoc us (e ∷ []) es

    len : length (us ++ e ∷ []) ≡ length us + 1
    len = length-append us (e ∷ [])

    later : ((i : ℕ) → i < length (places p (length (us ++ e ∷ [])) es)
        → get_or ((us ++ e ∷ []) ++ es) (get_or (places p (length (us ++ e ∷ [])) es) i 0) d ≡ get_or (filter p es) i d)
        → (i : ℕ) → i < length (places p (length us + 1) es)
        → get_or (us ++ e ∷ es) (get_or (places p (length us + 1) es) i 0) d ≡ get_or (filter p es) i d
    later ih i less =
        (λ k. get_or (sym whole k) (get_or (places p (sym len k) es) i 0) d)
        ∙ ih i (omega (arith, less, ap (λ (n : ℕ). length (places p n es)) len))

    by : ((i : ℕ) → i < length (places p (length (us ++ e ∷ [])) es)
        → get_or ((us ++ e ∷ []) ++ es) (get_or (places p (length (us ++ e ∷ [])) es) i 0) d ≡ get_or (filter p es) i d)
        → (b : Bool) (i : ℕ)
        → i < length (if b then length us ∷ places p (length us + 1) es else places p (length us + 1) es)
        → get_or (us ++ e ∷ es)
        (get_or (if b then length us ∷ places p (length us + 1) es else places p (length us + 1) es) i 0) d
        ≡ get_or (cond b (e ∷ filter p es) (filter p es)) i d
    by ih true zero less = get_or-append_seam us e es d
    by ih true (suc i) less = later ih i (omega (arith, less))
    by ih false i less = later ih i less

pub read : (p : Entry → Bool) (es : List Entry) (j : ℕ) (d : Entry) → j < length (places p 0 es)
    → get_or es (get_or (places p 0 es) j 0) d ≡ get_or (filter p es) j d
read p es j d lt = read_at p [] es j d lt

places_below : (p : Entry → Bool) (n : ℕ) (es : List Entry) (j d : ℕ) → j < length (places p n es)
    → get_or (places p n es) j d < n + length es
places_below p n [] j d lt = absurd (omega (arith, lt))
places_below p n (e ∷ es) j d lt = by (λ i less. places_below p (n + 1) es i d less) (p e) j lt
  where
    by : ((i : ℕ) → i < length (places p (n + 1) es) → get_or (places p (n + 1) es) i d < n + 1 + length es)
        → (b : Bool) (i : ℕ) → i < length (if b then n ∷ places p (n + 1) es else places p (n + 1) es)
        → get_or (if b then n ∷ places p (n + 1) es else places p (n + 1) es) i d < n + length (e ∷ es)
    by ih true zero less = omega arith
    by ih true (suc i) less = omega (arith, ih i (omega (arith, less)))
    by ih false i less = omega (arith, ih i less)

pub place_below : (p : Entry → Bool) (es : List Entry) (j d : ℕ) → j < length (places p 0 es)
    → get_or (places p 0 es) j d < length es
place_below p es j d lt = omega (arith, places_below p 0 es j d lt)

-- ---- facts

facts-filtered : (es : List Entry) → length (filter is_fact es) ≡ length (facts_in es)
facts-filtered [] = refl
facts-filtered (Grounded f by ∷ es) = ap suc (facts-filtered es)
facts-filtered (Mark c ∷ es) = facts-filtered es

pub facts-count : (es : List Entry) → count_by is_fact es ≡ length (facts_in es)
facts-count es = sym (length-filter is_fact es) ∙ facts-filtered es

fact_at : (q : Fact ℕ → Bool) (es : List Entry) (i : ℕ) (d : Entry) (f : Fact ℕ) → i < length (facts_in es)
    → passes q (get_or (filter is_fact es) i d) ≡ q (get_or (facts_in es) i f)
fact_at q [] i d f lt = absurd (omega (arith, lt))
fact_at q (Grounded g by ∷ es) zero d f lt = refl
fact_at q (Grounded g by ∷ es) (suc i) d f lt = fact_at q es i d f (omega (arith, lt))
fact_at q (Mark c ∷ es) i d f lt = fact_at q es i d f lt

-- the entry at the place of a fact says what the fact says
pub grounded_by : (es : List Entry) (i : ℕ) (e : Entry) → i < length (facts_in es)
    → e ≡ get_or es (get_or (places is_fact 0 es) i 0) e → IsGroundedBy es i (marks_at e)
grounded_by es i e lt at q pass =
    let len : i < length (places is_fact 0 es) = omega (arith, lt, places-length is_fact 0 es, facts-count es) in
    let place = get_or (places is_fact 0 es) i 0 in
    let here : passes q (get_or es place e) ≡ true =
    ap (passes q) (read is_fact es i e len) ∙ fact_at q es i e (Has 0 0) lt ∙ pass in
    ap (λ (d : Entry). list_any q (facts_within (marks_at d) es)) at
    ∙ found q es place e (place_below is_fact es i 0 len) here

-- ---- joins

pub joins_within : (m : ℕ → ℕ) (a b : ℕ) (u : NumberSet) (es : List Entry)
    → AreWithin (is_join m a b) u (filter is_same es) → AreWithin (is_join m a b) u es
joins_within m a b u [] are = are
joins_within m a b u (Grounded (Same y z) by ∷ es) are = (are.0, joins_within m a b u es are.1)
joins_within m a b u (Grounded (Has y c) by ∷ es) are = ((λ h. cc), joins_within m a b u es are)
joins_within m a b u (Grounded (Edge r y z) by ∷ es) are = ((λ h. cc), joins_within m a b u es are)
joins_within m a b u (Grounded (Apart y z) by ∷ es) are = ((λ h. cc), joins_within m a b u es are)
joins_within m a b u (Mark c ∷ es) are = joins_within m a b u es are

-- ---- some of the entries are taken out

pub fewer : (p : Entry → Bool) (es : List Entry) (old : List ℕ) (n k : ℕ) → old ≡ places p 0 es
    → k ≡ count_by p (drop n es) → k ≤ length old
fewer p es old n k is count =
    let first = take n es in
    let rest = drop n es in
    let all : places p 0 es ≡ places p 0 first ++ places p (0 + length first) rest =
    ap (places p 0) (sym (take-append-drop n es)) ∙ places-append p 0 first rest in
    omega (
      arith,
      count,
      ap length is,
      ap length all,
      length-append (places p 0 first) (places p (0 + length first) rest),
      places-length p (0 + length first) rest,
    )

pub places_cut : (p : Entry → Bool) (es now : List Entry) (old new : List ℕ) (n k len : ℕ) → old ≡ places p 0 es
    → k ≡ count_by p (drop n es) → len ≡ length old → new ≡ take (len - k) old → now ≡ take n es → new ≡ places p 0 now
places_cut p es now old new n k len is count at cut put =
    cut ∙ (λ i. take ((at ∙ ap length is) i - count i) (is i)) ∙ places-take p n es ∙ ap (places p 0) (sym put)

-- ---- the loop over the joins

read_some : (es : List Entry) (k : ℕ) (e : Entry) → slice_get es k ≡ Some e → get_or es k e ≡ e
read_some [] k e is = cc
read_some (d ∷ es) zero e is = cc
read_some (d ∷ es) (suc k) e is = read_some es k e is

pub read_entry : (p : Entry → Bool) (es : List Entry) (i place : ℕ) (e : Entry) → i < length (places p 0 es)
    → place ≡ get_or (places p 0 es) i 0 → slice_get es place ≡ Some e → e ≡ get_or (filter p es) i e
read_entry p es i place e lt at is = sym (read_some es place e is) ∙ ap (λ (k : ℕ). get_or es k e) at ∙ read p es i e lt

pub filtered_below : (p : Entry → Bool) (es : List Entry) (i : ℕ) → i < length (places p 0 es)
    → i < length (filter p es)
filtered_below p es i lt = omega (arith, lt, places-filtered p 0 es)

pub joins_done : (m : ℕ → ℕ) (a b : ℕ) (u : NumberSet) (es : List Entry) (i : ℕ) → length (places is_same 0 es) ≤ i
    → AreWithin (is_join m a b) u (take i (filter is_same es)) → AreWithin (is_join m a b) u es
joins_done m a b u es i le are =
    joins_within m a b u es
    (subst (AreWithin (is_join m a b) u)
    (take_whole i (filter is_same es) (omega (arith, le, places-filtered is_same 0 es))) are)
