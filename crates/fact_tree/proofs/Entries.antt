-- One entry more, and one less.
use Rattle.std.proofs.Common.{◌≡◌, ℕ, suc, ◌+◌, ◌<◌, ◌≤◌, List, [], ◌∷◌, ◌++◌, length, take, drop, get_or, refl, ap}
use Rattle.std.proofs.Common.{sym, subst, ◌∙◌, arith, inl, inr, take-take}
use Rattle.std.proofs.lemmas.Bool.{cases_lt}
use Rattle.std.proofs.lemmas.List.{length-append, map-append, take-append-drop, take-map, length-take-le, get_or-take}
use Rattle.std.proofs.lemmas.List.{take-append-le}
use Rattle.std.proofs.Math.Seq.{take-append_seam, get_or-append_seam, take-length}
use Rattle.std.proofs.Math.ListN.{get_or-append}
use Rattle.calculus_specs.specs.declared.facts.Fact.{Fact}
use Rattle.calculus_specs.specs.Joins.{rep}
use Rattle.calculus_specs.specs.State.{node_count_from}
use Rattle.fact_tree.specs.declared.tree.Entry.{Entry}
use Rattle.fact_tree.specs.declared.store.Lengths.{Lengths}
use Rattle.fact_tree.specs.Kept.{Kept, kept_of, at_of, high_of, after}
use Rattle.fact_tree.specs.Entries.{Undoes, lengths_of, facts_of, AreEntries, AreFit, IsFit}
use Rattle.fact_tree.proofs.Linked.{kept_of-snoc, fit_before, fit_more}
use Rattle.fact_tree.proofs.Law.{kept_linked, count_is, place_of}
use Rattle.fact_tree.proofs.Undone.{after_back}

-- ---- the first entries

pub first_fit : (first : ℕ) (m : ℕ) (fs : List (Fact ℕ)) → AreFit first fs → AreFit first (take m fs)
first_fit first m fs fit =
    fit_before first (take m fs) (drop m fs) (subst (AreFit first) (sym (take-append-drop m fs)) fit)

pub first_entries : (first : ℕ) (m : ℕ) (es : List Entry) → m ≤ length es → AreEntries first es
    → AreEntries first (take m es)
first_entries first m es le are = record {
  each = λ p d lt.
      let within : p < m = omega (arith, lt, length-take-le m es le) in
      let here :
      Undoes (get_or (take m es) p d).lengths (kept_of first (facts_of (take (p + 1) es)))
      (kept_of first (facts_of (take p es))) =
      subst (λ (e : Entry). Undoes e.lengths (kept_of first (facts_of (take (p + 1) es)))
      (kept_of first (facts_of (take p es))))
      (sym (get_or-take m es p d within)) (are.each p d (omega (arith, within, le))) in
      subst (λ (us : List Entry). Undoes (get_or (take m es) p d).lengths (kept_of first (facts_of us))
      (kept_of first (facts_of (take p (take m es)))))
      (sym (take-take (p + 1) m es (omega (arith, within))))
      (subst (λ (us : List Entry). Undoes (get_or (take m es) p d).lengths (kept_of first (facts_of (take (p + 1) es)))
      (kept_of first (facts_of us)))
      (sym (take-take p m es (omega (arith, within)))) here);
}

-- the last entry leads back to what the entries before it say
pub last_back : (first : ℕ) (es : List Entry) (last : ℕ) (d : Entry) → last + 1 ≡ length es → AreEntries first es
    → Undoes (get_or es last d).lengths (kept_of first (facts_of es)) (kept_of first (facts_of (take last es)))
last_back first es last d at are =
    subst (λ (us : List Entry). Undoes (get_or es last d).lengths (kept_of first (facts_of us))
    (kept_of first (facts_of (take last es))))
    (ap (λ (n : ℕ). take n es) at ∙ take-length es) (are.each last d (omega (arith, at)))

pub facts-take : (m : ℕ) (es : List Entry) → take m (facts_of es) ≡ facts_of (take m es)
facts-take m es = take-map (λ (x : Entry). x.fact) m es

pub facts-length : (es : List Entry) → length (facts_of es) ≡ length es
facts-length [] = refl
facts-length (e ∷ es) = ap suc (facts-length es)

-- ---- one entry more

facts-snoc : (es : List Entry) (e : Entry) → facts_of (es ++ e ∷ []) ≡ facts_of es ++ e.fact ∷ []
facts-snoc es e = map-append (λ (x : Entry). x.fact) es (e ∷ [])

pub fit_after : (first : ℕ) (es : List Entry) (e : Entry) → AreFit first (facts_of es)
    → IsFit (node_count_from first (facts_of es)) e.fact → AreFit first (facts_of (es ++ e ∷ []))
fit_after first es e fit is = subst (AreFit first) (sym (facts-snoc es e)) (fit_more first (facts_of es) e.fact fit is)

pub kept_more : (first : ℕ) (es : List Entry) (e : Entry)
    → kept_of first (facts_of (es ++ e ∷ [])) ≡ after (rep (facts_of es)) e.fact (kept_of first (facts_of es))
kept_more first es e = ap (kept_of first) (facts-snoc es e) ∙ kept_of-snoc first (facts_of es) e.fact

entry_back : (first : ℕ) (es : List Entry) (e : Entry) → AreFit first (facts_of es)
    → IsFit (node_count_from first (facts_of es)) e.fact
    → e.lengths ≡ lengths_of (at_of (rep (facts_of es)) e.fact) (kept_of first (facts_of es))
    → Undoes e.lengths (kept_of first (facts_of (es ++ e ∷ []))) (kept_of first (facts_of es))
entry_back first es e fit is lengths =
    let fs = facts_of es in
    let k = kept_of first fs in
    let here : IsFit (length k.nodes) e.fact = subst (λ (n : ℕ). IsFit n e.fact) (sym (count_is first fs fit)) is in
    let back : Undoes (lengths_of (at_of (rep fs) e.fact) k) (after (rep fs) e.fact k) k =
    after_back k (at_of (rep fs) e.fact) (high_of (rep fs) e.fact) e.fact
    (place_of (rep fs) k e.fact (kept_linked first fs fit) here) in
    subst (λ (u : Lengths). Undoes u (kept_of first (facts_of (es ++ e ∷ []))) k) (sym lengths)
    (subst (λ (later : Kept). Undoes (lengths_of (at_of (rep fs) e.fact) k) later k) (sym (kept_more first es e)) back)

pub entries_more : (first : ℕ) (es : List Entry) (e : Entry) → AreEntries first es → AreFit first (facts_of es)
    → IsFit (node_count_from first (facts_of es)) e.fact
    → e.lengths ≡ lengths_of (at_of (rep (facts_of es)) e.fact) (kept_of first (facts_of es))
    → AreEntries first (es ++ e ∷ [])
entries_more first es e are fit is lengths = record {
  each = λ p d lt. elim (cases_lt p (length es)) [
    | inl before ↦
        subst (λ (x : Entry). Undoes x.lengths (kept_of first (facts_of (take (p + 1) (es ++ e ∷ []))))
        (kept_of first (facts_of (take p (es ++ e ∷ [])))))
        (sym (get_or-append es (e ∷ []) d p before))
        (subst (λ (us : List Entry). Undoes (get_or es p d).lengths (kept_of first (facts_of us))
        (kept_of first (facts_of (take p (es ++ e ∷ [])))))
        (sym (take-append-le (p + 1) es (e ∷ []) (omega (arith, before))))
        (subst (λ (us : List Entry). Undoes (get_or es p d).lengths (kept_of first (facts_of (take (p + 1) es)))
        (kept_of first (facts_of us)))
        (sym (take-append-le p es (e ∷ []) (omega (arith, before)))) (are.each p d before)))
    | inr behind ↦
        let at : length es ≡ p = omega (arith, behind, lt, length-append es (e ∷ [])) in
        let all : take (length es + 1) (es ++ e ∷ []) ≡ es ++ e ∷ [] =
        ap (λ (n : ℕ). take n (es ++ e ∷ [])) (sym (length-append es (e ∷ []))) ∙ take-length (es ++ e ∷ []) in
        subst (λ (n : ℕ). Undoes (get_or (es ++ e ∷ []) n d).lengths
        (kept_of first (facts_of (take (n + 1) (es ++ e ∷ [])))) (kept_of first (facts_of (take n (es ++ e ∷ [])))))
        at
        (subst (λ (x : Entry). Undoes x.lengths (kept_of first (facts_of (take (length es + 1) (es ++ e ∷ []))))
        (kept_of first (facts_of (take (length es) (es ++ e ∷ [])))))
        (sym (get_or-append_seam es e [] d))
        (subst (λ (us : List Entry). Undoes e.lengths (kept_of first (facts_of us))
        (kept_of first (facts_of (take (length es) (es ++ e ∷ [])))))
        (sym all)
        (subst
        (λ (us : List Entry). Undoes e.lengths (kept_of first (facts_of (es ++ e ∷ []))) (kept_of first (facts_of us)))
        (sym (take-append_seam es (e ∷ []))) (entry_back first es e fit is lengths))))
  ];
}
