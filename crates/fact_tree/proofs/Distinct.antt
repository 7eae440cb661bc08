-- The lists of concepts have each once.
use Rattle.std.proofs.Common.{◌≡◌, ℕ, zero, suc, ◌<◌, min, max, Bool, true, false, List, [], ◌∷◌, ◌++◌, length, ap, sym}
use Rattle.std.proofs.Common.{subst, ◌∙◌, arith, inl, inr, get_or-set_same, get_or-set_other}
use Rattle.std.specs.Prelude.{◌==◌, if◌then◌else◌}
use Rattle.std.specs.List.{list_any, IsDistinct}
use Rattle.std.specs.Cmp.{nat_eq_equiv}
use Rattle.std.proofs.lemmas.Bool.{cases_Bool, cases_eq, cases_lt}
use Rattle.std.proofs.lemmas.List.{length-set, length-append}
use Rattle.std.proofs.lemmas.Map.Keys.{IsDistinct-push}
use Rattle.std.proofs.Math.Seq.{get_or-append_seam}
use Rattle.std.proofs.Math.ListN.{get_or-append}
use Rattle.calculus_specs.specs.declared.facts.Fact.{Fact}
use Rattle.calculus_specs.specs.declared.facts.Fact.TheVariants.{Has, Edge, Apart, Same}
use Rattle.calculus_specs.specs.Joins.{rep}
use Rattle.calculus_specs.proofs.Joined.{by_last}
use Rattle.calculus_specs.proofs.State.{eqb-comm}
use Rattle.fact_tree.specs.Kept.{Lists, Kept, new_lists, bare, having, leading, parted, absorbing, with_concept}
use Rattle.fact_tree.specs.Kept.{with_concepts, lists_at, changed_at, grown, made, linked, after, empty, kept_of}
use Rattle.calculus_specs.specs.Listed.{IsOnce}
use Rattle.fact_tree.proofs.Linked.{kept_of-snoc}
use Rattle.fact_tree.proofs.Content.{any_same}

abbrev AreOnce : Kept → Type 0
AreOnce k = (x : ℕ) → x < length k.nodes → IsOnce (lists_at k x).concepts

once_with : (cs : List ℕ) (c : ℕ) → IsOnce cs → IsOnce (with_concept cs c)
once_with cs c h = elim (cases_Bool (list_any (λ d. d == c) cs)) [
  | inl there ↦ subst (λ (b : Bool). IsOnce (if b then cs else cs ++ c ∷ [])) (sym there) h
  | inr new ↦
      subst (λ (b : Bool). IsOnce (if b then cs else cs ++ c ∷ [])) (sym new)
      (IsDistinct-push nat_eq_equiv cs c h (any_same (λ d. c == d) (λ d. d == c) (λ d. eqb-comm c d) cs ∙ new))
]

once_with_all : (cs ds : List ℕ) → IsOnce cs → IsOnce (with_concepts cs ds)
once_with_all cs [] h = h
once_with_all cs (d ∷ ds) h = once_with_all (with_concept cs d) ds (once_with cs d h)

changed_once : (k : Kept) (at : ℕ) (change : Lists → Lists)
    → ((n : Lists) → IsOnce n.concepts → IsOnce (change n).concepts) → AreOnce k → AreOnce (changed_at at change k)
changed_once k at change keeps h x lt =
    let inside : x < length k.nodes = omega (arith, lt, length-set k.nodes at (change (lists_at k at))) in
    elim (cases_eq x at) [
      | inl e ↦
          let here : lists_at (changed_at at change k) x ≡ change (lists_at k x) =
          ap (lists_at (changed_at at change k)) e
          ∙ get_or-set_same k.nodes at (change (lists_at k at)) bare (omega (arith, inside, e))
          ∙ ap (λ (n : ℕ). change (lists_at k n)) (sym e) in
          subst (λ (n : Lists). IsOnce n.concepts) (sym here) (keeps (lists_at k x) (h x inside))
      | inr other ↦
          subst (λ (n : Lists). IsOnce n.concepts)
          (sym (get_or-set_other k.nodes at x (change (lists_at k at)) bare other)) (h x inside)
    ]

pub top_once : IsOnce (0 ∷ [])
unfolding IsDistinct
top_once = (tt, tt)

grown_once : (k : Kept) (origin : ℕ × ℕ) → AreOnce k → AreOnce (grown origin k)
grown_once k origin h x lt = elim (cases_lt x (length k.nodes)) [
  | inl before ↦
      subst (λ (n : Lists). IsOnce n.concepts)
      (sym (get_or-append k.nodes (new_lists (length k.nodes) origin ∷ []) bare x before)) (h x before)
  | inr behind ↦
      let at : length k.nodes ≡ x =
      omega (arith, behind, lt, length-append k.nodes (new_lists (length k.nodes) origin ∷ [])) in
      subst (λ (n : ℕ). IsOnce (lists_at (grown origin k) n).concepts) at
      (subst (λ (n : Lists). IsOnce n.concepts)
      (sym (get_or-append_seam k.nodes (new_lists (length k.nodes) origin) [] bare)) top_once)
]

made_once : (k : Kept) (origin : ℕ × ℕ) (to : ℕ) → AreOnce k → AreOnce (made origin to k)
made_once k origin to h = by (to == length k.nodes)
  where
    by : (b : Bool) → AreOnce (if b then grown origin k else k)
    by true = grown_once k origin h
    by false = h

joined_once : (k : Kept) (at high : ℕ) → AreOnce k → AreOnce (if at == high then k else linked high at k)
joined_once k at high h = by (at == high)
  where
    by : (b : Bool) → AreOnce (if b then k else linked high at k)
    by true = h
    by false =
        changed_once k at (absorbing (lists_at k high))
        (λ n once. once_with_all n.concepts (lists_at k high).concepts once) h

after_once : (m : ℕ → ℕ) (f : Fact ℕ) (k : Kept) → AreOnce k → AreOnce (after m f k)
after_once m (Has y c) k h = changed_once k (m y) (having c) (λ n once. once_with n.concepts c once) h
after_once m (Edge r y z) k h =
    changed_once (made (r, y) z k) (m y) (leading r z) (λ n once. once) (made_once k (r, y) z h)
after_once m (Apart y z) k h = changed_once k (m y) (parted z) (λ n once. once) h
after_once m (Same y z) k h = joined_once k (min (m y) (m z)) (max (m y) (m z)) h

empty_once : (n : ℕ) → AreOnce (empty n)
empty_once zero x lt = absurd (omega (arith, lt))
empty_once (suc n) x lt = grown_once (empty n) (0, 0) (empty_once n) x lt

pub kept_once : (first : ℕ) (fs : List (Fact ℕ)) → AreOnce (kept_of first fs)
kept_once first = by_last {X = Fact ℕ} (λ fs. AreOnce (kept_of first fs)) (empty_once first)
    (λ fs f ih. subst AreOnce (sym (kept_of-snoc first fs f)) (after_once (rep fs) f (kept_of first fs) ih))
