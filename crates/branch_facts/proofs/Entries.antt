-- Each entry tells how much was kept before it.
use Rattle.std.proofs.Common.{◌≡◌, ℕ, ◌<◌, ◌≤◌, List, [], ◌∷◌, ◌++◌, length, take, drop, get_or, ap, sym, ◌∙◌, inl, inr}
use Rattle.std.proofs.Common.{arith, length-append, take-take}
use Rattle.std.proofs.lemmas.List.{take-append-drop, take-append-le, get_or-take, map-append, length-take-le}
use Rattle.std.proofs.Math.Seq.{take-append_seam, get_or-append_seam}
use Rattle.std.proofs.Math.ListN.{get_or-append}
use Rattle.std.proofs.lemmas.Bool.{cases_lt}
use Rattle.branch_facts.specs.declared.branch_facts.Entry.{Entry}
use Rattle.branch_facts.specs.Seen.{Index, index_after, index_of, entry_facts, AreEntries}
use Rattle.branch_facts.proofs.Grown.{index_of-snoc, cut_back}

pub none_entered : AreEntries []
none_entered = record { seen_before = λ p d lt. absurd (omega arith); links_before = λ p d lt. absurd (omega arith) }

abbrev kept_seen : List Entry → ℕ
kept_seen es = length (index_of (entry_facts es)).seen

abbrev kept_links : List Entry → ℕ
kept_links es = length (index_of (entry_facts es)).links

-- ---- the first entries

pub first_entries : (m : ℕ) (es : List Entry) → m ≤ length es → AreEntries es → AreEntries (take m es)
first_entries m es le are = record {
  seen_before = λ p d lt.
      let within : p < m = omega (arith, length-take-le m es le) in
      ap (λ (e : Entry). e.seen) (get_or-take m es p d within) ∙ are.seen_before p d (omega arith)
      ∙ ap kept_seen (sym (take-take p m es (omega arith)));
  links_before = λ p d lt.
      let within : p < m = omega (arith, length-take-le m es le) in
      ap (λ (e : Entry). e.links) (get_or-take m es p d within) ∙ are.links_before p d (omega arith)
      ∙ ap kept_links (sym (take-take p m es (omega arith)));
}

-- an index that is cut to what an entry tells is that of the entries before it
pub cut_at_entry : (m : ℕ) (es : List Entry) (i : Index) (e : Entry) → m < length es → AreEntries es
    → i ≡ index_of (entry_facts es) → get_or es m e ≡ e
    → record { seen = take e.seen i.seen; links = take e.links i.links } ≡ index_of (entry_facts (take m es))
cut_at_entry m es i e lt are is at =
    let s : e.seen ≡ kept_seen (take m es) = ap (λ (x : Entry). x.seen) (sym at) ∙ are.seen_before m e lt in
    let l : e.links ≡ kept_links (take m es) = ap (λ (x : Entry). x.links) (sym at) ∙ are.links_before m e lt in
    let parts : entry_facts (take m es) ++ entry_facts (drop m es) ≡ entry_facts es =
    sym (map-append (λ (x : Entry). x.fact) (take m es) (drop m es)) ∙ ap entry_facts (take-append-drop m es) in
    let whole : i ≡ index_of (entry_facts (take m es) ++ entry_facts (drop m es)) = is ∙ ap index_of (sym parts) in
    (λ k. record { seen = take (s k) (whole k).seen; links = take (l k) (whole k).links })
    ∙ cut_back (entry_facts (take m es)) (entry_facts (drop m es))

-- ---- one entry more

pub entry_more : (es : List Entry) (i : Index) (e : Entry) → AreEntries es → i ≡ index_of (entry_facts es)
    → e.seen ≡ length i.seen → e.links ≡ length i.links → AreEntries (es ++ e ∷ [])
entry_more es i e are is seen links = record {
  seen_before = λ p d lt. elim (cases_lt p (length es)) [
    | inl before ↦
        ap (λ (x : Entry). x.seen) (get_or-append es (e ∷ []) d p before) ∙ are.seen_before p d before
        ∙ ap kept_seen (sym (take-append-le p es (e ∷ []) (omega arith)))
    | inr last ↦
        let at : p ≡ length es = omega (arith, length-append es (e ∷ [])) in
        ap (λ n. (get_or (es ++ e ∷ []) n d).seen) at ∙ ap (λ (x : Entry). x.seen) (get_or-append_seam es e [] d) ∙ seen
        ∙ ap (λ (j : Index). length j.seen) is
        ∙ ap kept_seen (sym (take-append_seam es (e ∷ []))) ∙ ap (λ n. kept_seen (take n (es ++ e ∷ []))) (sym at)
  ];
  links_before = λ p d lt. elim (cases_lt p (length es)) [
    | inl before ↦
        ap (λ (x : Entry). x.links) (get_or-append es (e ∷ []) d p before) ∙ are.links_before p d before
        ∙ ap kept_links (sym (take-append-le p es (e ∷ []) (omega arith)))
    | inr last ↦
        let at : p ≡ length es = omega (arith, length-append es (e ∷ [])) in
        ap (λ n. (get_or (es ++ e ∷ []) n d).links) at ∙ ap (λ (x : Entry). x.links) (get_or-append_seam es e [] d)
        ∙ links ∙ ap (λ (j : Index). length j.links) is
        ∙ ap kept_links (sym (take-append_seam es (e ∷ []))) ∙ ap (λ n. kept_links (take n (es ++ e ∷ []))) (sym at)
  ];
}

pub index_more : (es : List Entry) (i j : Index) (e : Entry) → i ≡ index_of (entry_facts es) → j ≡ index_after i e.fact
    → j ≡ index_of (entry_facts (es ++ e ∷ []))
index_more es i j e is by =
    by ∙ ap (λ k. index_after k e.fact) is ∙ sym (index_of-snoc (entry_facts es) e.fact)
    ∙ ap index_of (sym (map-append (λ (x : Entry). x.fact) es (e ∷ [])))
