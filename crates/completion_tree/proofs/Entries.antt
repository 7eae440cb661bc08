-- Lists of entries and the facts in them.
use Rattle.std.proofs.Common.{◌≡◌, ℕ, zero, suc, ◌+◌, ◌-◌, ◌<◌, ◌≤◌, List, [], ◌∷◌, ◌++◌, length, take, drop, get_or}
use Rattle.std.proofs.Common.{append_assoc, Some, refl, ap, sym, ◌∙◌, arith}
use Rattle.std.specs.Prelude.{slice_get}
use Rattle.std.proofs.lemmas.List.{take-append-drop, take-append-le, length-append, length-drop, length-take, take_more}
use Rattle.std.proofs.lemmas.List.{get_or-drop}
use Rattle.std.proofs.Math.Seq.{take-append_seam, drop-append_seam, take-length}
use Rattle.calculus_specs.specs.declared.facts.Fact.{Fact}
use Rattle.completion_tree.specs.declared.tree.By.{By}
use Rattle.completion_tree.specs.declared.tree.Entry.{Entry}
use Rattle.completion_tree.specs.declared.tree.Entry.TheVariants.{Fact as Grounded, Mark}
use Rattle.completion_tree.specs.Trail.{facts_in, grounded}

pub facts_in-append : (es more : List Entry) → facts_in (es ++ more) ≡ facts_in es ++ facts_in more
facts_in-append [] more = refl
facts_in-append (Grounded f by ∷ es) more = ap (λ (fs : List (Fact ℕ)). f ∷ fs) (facts_in-append es more)
facts_in-append (Mark c ∷ es) more = facts_in-append es more

pub facts_in-grounded : (by : By) (fs : List (Fact ℕ)) → facts_in (grounded by fs) ≡ fs
facts_in-grounded by [] = refl
facts_in-grounded by (f ∷ fs) = ap (λ (gs : List (Fact ℕ)). f ∷ gs) (facts_in-grounded by fs)

-- the facts of the first entries are the first facts
pub facts_in-take : (n : ℕ) (es : List Entry)
    → take (length (facts_in (take n es))) (facts_in es) ≡ facts_in (take n es)
facts_in-take n es =
    let first = facts_in (take n es) in
    let rest = facts_in (drop n es) in
    let all : facts_in es ≡ first ++ rest =
    ap facts_in (sym (take-append-drop n es)) ∙ facts_in-append (take n es) (drop n es) in
    ap (take (length first)) all ∙ take-append_seam first rest

pub length-facts_in-take : (n : ℕ) (es : List Entry) → length (facts_in (take n es)) ≤ length (facts_in es)
length-facts_in-take n es =
    let all : facts_in es ≡ facts_in (take n es) ++ facts_in (drop n es) =
    ap facts_in (sym (take-append-drop n es)) ∙ facts_in-append (take n es) (drop n es) in
    omega (arith, ap length all, length-append (facts_in (take n es)) (facts_in (drop n es)))

-- one fact more of those from a place on
pub more_taken : (fs : List (Fact ℕ)) (from place : ℕ) (f : Fact ℕ) → from ≤ place → place < length fs
    → slice_get fs place ≡ Some f
    → take (place + 1 - from) (drop from fs) ≡ take (place - from) (drop from fs) ++ f ∷ []
more_taken fs from place f le lt is =
    let i = place - from in
    let next : place + 1 - from ≡ i + 1 = omega (arith, le) in
    let at : from + i ≡ place = omega (arith, le) in
    let here : get_or (drop from fs) i f ≡ f =
    get_or-drop from fs i f ∙ ap (λ (n : ℕ). get_or fs n f) at ∙ read fs place f is in
    ap (λ (n : ℕ). take n (drop from fs)) next
    ∙ take_more (drop from fs) i f (omega (arith, lt, le, length-drop from fs))
    ∙ ap (λ (g : Fact ℕ). take i (drop from fs) ++ g ∷ []) here
  where
    read : (gs : List (Fact ℕ)) (k : ℕ) (g : Fact ℕ) → slice_get gs k ≡ Some g → get_or gs k g ≡ g
    read [] k g e = cc
    read (h ∷ gs) zero g e = cc
    read (h ∷ gs) (suc k) g e = read gs k g e

pub grounded-append : (by : By) (fs gs : List (Fact ℕ)) → grounded by (fs ++ gs) ≡ grounded by fs ++ grounded by gs
grounded-append by [] gs = refl
grounded-append by (f ∷ fs) gs = ap (λ (es : List Entry). Grounded f by ∷ es) (grounded-append by fs gs)

pub more_grounded : (old es now : List Entry) (by by' : By) (part fs : List (Fact ℕ)) (f : Fact ℕ)
    → es ≡ old ++ grounded by part → now ≡ es ++ Grounded f by' ∷ [] → by' ≡ by → fs ≡ part ++ f ∷ []
    → now ≡ old ++ grounded by fs
more_grounded old es now by by' part fs f is put same more =
    put ∙ (λ i. is i ++ Grounded f (same i) ∷ []) ∙ append_assoc old (grounded by part) (Grounded f by ∷ [])
    ∙ ap (λ (us : List Entry). old ++ us) (sym (grounded-append by part (f ∷ [])) ∙ ap (grounded by) (sym more))

-- where entries follow the facts that were put
pub rest-followed : (fs new part : List (Fact ℕ)) (len : ℕ) → len ≡ length fs → new ≡ fs ++ part → drop len new ≡ part
rest-followed fs new part len at made = (λ i. drop (at i) (made i)) ∙ drop-append_seam fs part

pub facts-followed : (es now : List Entry) (by : By) (fs new part : List (Fact ℕ)) (len : ℕ) → fs ≡ facts_in es
    → len ≡ length fs → new ≡ fs ++ part → now ≡ es ++ grounded by (drop len new)
    → new ≡ facts_in now
facts-followed es now by fs new part len before at made put =
    let whole : now ≡ es ++ grounded by part =
    put ∙ ap (λ (gs : List (Fact ℕ)). es ++ grounded by gs) (rest-followed fs new part len at made) in
    made ∙ (λ i. before i ++ sym (facts_in-grounded by part) i) ∙ sym (facts_in-append es (grounded by part))
    ∙ ap facts_in (sym whole)

-- one entry more keeps the first ones
pub first_stay : (old es now : List Entry) (e : Entry) → take (length old) es ≡ old → now ≡ es ++ e ∷ []
    → take (length old) now ≡ old
first_stay old es now e h put =
    ap (take (length old)) put
    ∙ take-append-le (length old) es (e ∷ []) (omega (arith, ap length (sym h), length-take (length old) es)) ∙ h

pub take-rest : (n : ℕ) (es : List Entry) → take (length es - n) (drop n es) ≡ drop n es
take-rest n es = ap (λ (k : ℕ). take k (drop n es)) (sym (length-drop n es)) ∙ take-length (drop n es)
