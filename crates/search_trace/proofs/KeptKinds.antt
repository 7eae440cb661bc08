-- Kinds of lines that going back keeps.
use Rattle.std.proofs.Common.{◌≡◌, ℕ, zero, suc, not, eqb, Bool, true, false, cond, List, [], ◌∷◌, ◌++◌, take, drop}
use Rattle.std.proofs.Common.{map, refl, sym, subst, inl, inr}
use Rattle.std.specs.List.{list_all}
use Rattle.std.specs.FinSet as sets
use Rattle.std.proofs.lemmas.Bool.{cases_Bool, and_parts, and_from, eqb-true, eqb-false}
use Rattle.refutation_tree.specs.NumberSets.{NumberSet}
use Rattle.calculus_specs.specs.Line.{Line}
use Rattle.search_trace.specs.Noted.{NotedLine, rests_on, strip}
use Rattle.search_trace.specs.declared.opens.OpenBranching.{OpenBranching}
use Rattle.search_trace.specs.Trace.{TraceLists, lines_in, whole_marks, without, GoneBack, gone_back, turned_back}
use Rattle.search_trace.proofs.Going.{back_whole, back_turns, back_out}

module _ (p : Line → Bool) where
  abbrev kind : List NotedLine → Bool
  kind ls = list_all p (map (λ l. l.line) ls)

  kind_take : (n : ℕ) (ls : List NotedLine) → kind ls ≡ true → kind (take n ls) ≡ true
  kind_take zero ls h = refl
  kind_take (suc n) [] h = refl
  kind_take (suc n) (l ∷ ls) h =
      let both = and_parts (p l.line) (kind ls) h in
      and_from (p l.line) (kind (take n ls)) both.0 (kind_take n ls both.1)

  kind_drop : (n : ℕ) (ls : List NotedLine) → kind ls ≡ true → kind (drop n ls) ≡ true
  kind_drop zero ls h = h
  kind_drop (suc n) [] h = refl
  kind_drop (suc n) (l ∷ ls) h = kind_drop n ls (and_parts (p l.line) (kind ls) h).1

  kind_strip : (m : ℕ) (ls : List NotedLine) → kind ls ≡ true → kind (strip m ls) ≡ true
  kind_strip m [] h = refl
  kind_strip m (l ∷ ls) h =
      let both = and_parts (p l.line) (kind ls) h in
      elim (not (rests_on m l)) as (λ (b : Bool). kind (cond b (l ∷ strip m ls) (strip m ls)) ≡ true) [
        | true ↦ and_from (p l.line) (kind (strip m ls)) both.0 (kind_strip m ls both.1)
        | false ↦ kind_strip m ls both.1
      ]

  kind_append : (ks ls : List NotedLine) → kind ks ≡ true → kind ls ≡ true → kind (ks ++ ls) ≡ true
  kind_append [] ls h g = g
  kind_append (k ∷ ks) ls h g =
      let both = and_parts (p k.line) (kind ks) h in
      and_from (p k.line) (kind (ks ++ ls)) both.0 (kind_append ks ls both.1 g)

  kind_without : (o : OpenBranching) (ls : List NotedLine) → kind ls ≡ true → kind (without o ls) ≡ true
  kind_without o ls h =
      kind_append (take o.at ls) (strip o.mark (drop o.child ls)) (kind_take o.at ls h)
      (kind_strip o.mark (drop o.child ls) (kind_drop o.child ls h))

  kind_back : (os : List OpenBranching) (ls : List NotedLine) (u : NumberSet) → kind ls ≡ true
      → kind (gone_back ls os u).lines ≡ true
  kind_back [] ls u h = h
  kind_back (o ∷ os) ls u h =
      let P : GoneBack → Type 0 = λ g. kind g.lines ≡ true in
      elim (cases_Bool (sets.contains u o.mark)) [
        | inl has ↦ elim (cases_Bool (eqb o.left 0)) [
          | inl none ↦
              subst P (sym (back_whole ls o os u has (eqb-true o.left 0 none))) (kind_back os ls (whole_marks o u) h)
          | inr some ↦ subst P (sym (back_turns ls o os u has (eqb-false o.left 0 some))) h
        ]
        | inr has_not ↦ subst P (sym (back_out ls o os u has_not)) (kind_back os (without o ls) u (kind_without o ls h))
      ]

pub kinds_kept : (p : Line → Bool) (t : TraceLists) (u : NumberSet) → list_all p (lines_in t) ≡ true
    → list_all p (lines_in (turned_back t u)) ≡ true
kinds_kept p t u h = kind_back p t.opens t.lines u h
