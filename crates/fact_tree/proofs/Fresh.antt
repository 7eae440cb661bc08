-- The facts of new nodes, one after another.
use Rattle.std.proofs.Common.{◌≡◌, ℕ, suc, ◌+◌, ◌-◌, ◌<◌, max, List, [], ◌∷◌, ◌++◌, length, take, take-take, ap, sym}
use Rattle.std.proofs.Common.{◌∙◌, arith, append_assoc}
use Rattle.std.proofs.lemmas.List.{length-append}
use Rattle.std.proofs.Math.Seq.{take-append_seam}
use Rattle.calculus_specs.specs.declared.facts.Fact.{Fact}
use Rattle.calculus_specs.specs.declared.facts.Fact.TheVariants.{Has, Edge, Apart}
use Rattle.calculus_specs.specs.State.{new_nodes, apart_from, pairwise_apart}
use Rattle.fact_tree.specs.Facts.{TreeFacts}
use Rattle.fact_tree.specs.Told.{Continues}
use Rattle.fact_tree.proofs.Linked.{node_count-snoc}
use Rattle.fact_tree.proofs.Law.{count_in}
use Rattle.fact_tree.proofs.Growing.{longer_still}

-- the same first nodes, with more facts
abbrev pub with_more : TreeFacts → List (Fact ℕ) → TreeFacts
with_more t fs = record t { facts = t.facts ++ fs }

pub count_edge : (t now : TreeFacts) (r y z : ℕ) → z ≡ count_in t → now ≡ with_more t (Edge r y z ∷ [])
    → count_in now ≡ z + 1
count_edge t now r y z new is =
    ap count_in is ∙ node_count-snoc t.first t.facts (Edge r y z)
    ∙ (let e : max (z + 1) (count_in t) ≡ z + 1 = omega (arith, new) in e)

pub count_has : (t now : TreeFacts) (y c n : ℕ) → count_in t ≡ n → now ≡ with_more t (Has y c ∷ []) → count_in now ≡ n
count_has t now y c n count is = ap count_in is ∙ node_count-snoc t.first t.facts (Has y c) ∙ count

pub count_apart : (t now : TreeFacts) (y z : ℕ) → now ≡ with_more t (Apart y z ∷ []) → count_in now ≡ count_in t
count_apart t now y z is = ap count_in is ∙ node_count-snoc t.first t.facts (Apart y z)

-- what comes after a part
pub moved_on : (t now all : TreeFacts) (part rest more : List (Fact ℕ)) → with_more t more ≡ all → more ≡ part ++ rest
    → now ≡ with_more t part → with_more now rest ≡ all
moved_on t now all part rest more h split is =
    ap (λ (u : TreeFacts). with_more u rest) is
    ∙ ap (λ (us : List (Fact ℕ)). record t { facts = us })
    (append_assoc t.facts part rest ∙ ap (λ (us : List (Fact ℕ)). t.facts ++ us) (sym split))
    ∙ h

pub begins_on : (old t now : TreeFacts) (part : List (Fact ℕ)) → Continues old t → now ≡ with_more t part
    → Continues old now
begins_on old t now part h is = record {
  first = ap (λ (u : TreeFacts). u.first) is ∙ h.first;
  begins = ap (λ (u : TreeFacts). take (length old.facts) u.facts) is ∙ longer_still old.facts t.facts part h.begins;
}

-- what continues a longer list continues the shorter
pub begins_before : (old t now : TreeFacts) (part : List (Fact ℕ)) → t ≡ with_more old part → Continues t now
    → Continues old now
begins_before old t now part is h = record {
  first = h.first ∙ ap (λ (u : TreeFacts). u.first) is;
  begins = sym (take-take (length old.facts) (length t.facts) now.facts
      (omega (arith, ap (λ (u : TreeFacts). length u.facts) is, length-append old.facts part)))
      ∙ ap (take (length old.facts)) (h.begins ∙ ap (λ (u : TreeFacts). u.facts) is) ∙ take-append_seam old.facts part;
}

less_one : (n i : ℕ) → i < n → n - i ≡ suc (n - (i + 1))
less_one n i lt = omega (arith, lt)

pub nodes_step : (x s e first n i : ℕ) → i < n
    → new_nodes x s e (first + i) (n - i)
    ≡ (Edge s x (first + i) ∷ Has (first + i) e ∷ []) ++ new_nodes x s e (first + (i + 1)) (n - (i + 1))
nodes_step x s e first n i lt =
    ap (new_nodes x s e (first + i)) (less_one n i lt)
    ∙ ap (λ (a : ℕ). Edge s x (first + i) ∷ Has (first + i) e ∷ new_nodes x s e a (n - (i + 1)))
    (let a : first + i + 1 ≡ first + (i + 1) = omega arith in a)

pub apart_step : (y first n i : ℕ) → i < n
    → apart_from {C = ℕ} y (first + i) (n - i)
    ≡ (Apart y (first + i) ∷ []) ++ apart_from y (first + (i + 1)) (n - (i + 1))
apart_step y first n i lt =
    ap (apart_from y (first + i)) (less_one n i lt)
    ∙ ap (λ (a : ℕ). Apart y (first + i) ∷ apart_from y a (n - (i + 1)))
    (let a : first + i + 1 ≡ first + (i + 1) = omega arith in a)

pub pairwise_step : (first n i m : ℕ) → i < n → m ≡ n - (i + 1)
    → pairwise_apart {C = ℕ} (first + i) (n - i)
    ≡ apart_from (first + i) (first + i + 1) m ++ pairwise_apart (first + (i + 1)) (n - (i + 1))
pairwise_step first n i m lt is =
    ap (pairwise_apart (first + i)) (less_one n i lt)
    ∙ ap (λ (a : ℕ). apart_from (first + i) (first + i + 1) (n - (i + 1)) ++ pairwise_apart a (n - (i + 1)))
    (let a : first + i + 1 ≡ first + (i + 1) = omega arith in a)
    ∙ ap (λ (k : ℕ). apart_from (first + i) (first + i + 1) k ++ pairwise_apart (first + (i + 1)) (n - (i + 1)))
    (sym is)
