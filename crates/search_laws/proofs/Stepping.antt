-- One step, and the end.
use Rattle.std.proofs.Common.{◌≡◌, ℕ, zero, suc, ◌+◌, ◌<◌, true, false, List, [], ◌∷◌, ◌++◌, length, take, Some}
use Rattle.std.proofs.Common.{refl, ap, ◌∙◌, sym, subst, arith, Bool, inl, inr}
use Rattle.std.specs.List.{list_any, slice_get, All}
use Rattle.std.proofs.lemmas.List.Elements.{All-get_or}
use Rattle.std.proofs.lemmas.Bool.{or_right, cases_Bool}
use Rattle.std.proofs.lemmas.Option.{slice_get_within, get_or_from_slice_get}
use Rattle.calculus_specs.specs.Shape.{Shape, shape_of, IsTable}
use Rattle.calculus_specs.specs.Shape.Shape.{not_name, intersection, union, all_of}
use Rattle.calculus_specs.specs.Rows.{Row, IsChoice}
use Rattle.calculus_specs.specs.Rules.{Question}
use Rattle.calculus_specs.specs.declared.facts.Fact.{Fact}
use Rattle.calculus_specs.specs.declared.facts.Fact.TheVariants.{Has}
use Rattle.calculus_specs.specs.State.{has}
use Rattle.calculus_specs.proofs.Joined.{any-snoc}
use Rattle.tableau_specs.specs.declared.Branch.{Branch}
use Rattle.tableau_specs.specs.declared.Branch.TheVariants.{Or, Choose, Pair}
use Rattle.tableau_specs.specs.declared.Choice.{Choice}
use Rattle.tableau_specs.specs.declared.Item.{Item}
use Rattle.tableau_specs.specs.declared.Item.TheVariants.{Fact as Says, Mark}
use Rattle.tableau_specs.specs.Items.{facts_of, says}
use Rattle.tableau_specs.specs.Steps.{SearchContext, Adds, IsCarried, MayBranch, IsAlternative, IsLegal, IsSaturated}
use Rattle.tableau_specs.specs.Steps.{next_choice}
use Rattle.tableau_specs.specs.Steps.Adds.{by_and, by_all, by_carry, by_row}
use Rattle.tableau_specs.specs.Steps.MayBranch.{on_union, on_filler, on_pair}
use Rattle.tableau_specs.specs.Steps.IsAlternative.{of_union, of_filler, of_complement, of_joining, of_parting}
use Rattle.tableau_specs.specs.Steps.IsLegal.{add, give, generate, choose, back}
use Rattle.tableau_specs.specs.Reached.{start, FactsHaveNumbers}
use Rattle.tableau_specs.proofs.Built.{facts_of-snoc}
use Rattle.tableau_specs.proofs.Listed.{listed, branch_listed, BranchListed, ItemListed}
use Rattle.search_laws.specs.Runs.{puts_at, makes_node}
use Rattle.search_laws.proofs.BeforeNodes.{generate_makes_node}
use Rattle.search_laws.proofs.FullerSteps.{last_puts_at}
use Rattle.search_laws.proofs.Turned.{old_facts, new_facts}
use Rattle.search_laws.proofs.TurnedBlocks.{HaveBesides}
use Rattle.search_laws.proofs.LongerShapes.{alternative_up, shape_up, shape_down}
use Rattle.search_laws.proofs.ReuseSetting.{short, long, IsSetting, held_listed, down, up, out_up, same_use}
use Rattle.search_laws.proofs.ReuseSetting.{plain_down, clash_up, carried_down, adds_up}
use Rattle.search_laws.proofs.ReuseSetting.{generates_up, generates_down, may_up, may_down, so_same, so_up}
use Rattle.search_laws.proofs.LongerGiven.{given_up, given_down}

-- where no fact passes, the last one does not
last_passes_not : (p : Fact ℕ → Bool) (is : List Item) (f : Fact ℕ)
    → list_any p (facts_of (is ++ Says f ∷ [])) ≡ false → p f ≡ false
last_passes_not p is f none = elim (cases_Bool (p f)) [
  | inr out ↦ out
  | inl hit ↦
      (let k =
      ap (list_any p) (facts_of-snoc is f) ∙ any-snoc p (facts_of is) f
      ∙ or_right (list_any p (facts_of is)) (p f) hit in
      cc)
]

module _ (q : Question) (table more : List Shape) (rows : List Row) (good : IsTable table) (n a : ℕ)
    (shape_n : shape_of (table ++ more) n ≡ not_name a) (home sub : ℕ) where
  abbrev old_context : SearchContext
  old_context = short q table more rows

  abbrev new_context : SearchContext
  new_context = long q table more rows

  -- the other run's trail, once this one's is the start and the rest
  pub record IsTurned (rest : List Item) (new : List Item) : Type 0 where
    pub further : List Item
    pub splits : new ≡ start home sub 0 ++ further
    pub is_legal : IsLegal new_context (start q.at sub n ++ rest) (start q.at sub n ++ further)

  module _ (rest : List Item) (set : IsSetting q table more home sub n a (facts_of rest)) where
    turned_back : (place : ℕ) (c : Choice) (f : Fact ℕ)
        → IsLegal old_context (start home sub 0 ++ rest)
        (take place (start home sub 0 ++ rest) ++ Mark (next_choice old_context c) ∷ Says f ∷ [])
        → slice_get (start home sub 0 ++ rest) place ≡ Some (Mark c)
        → (slice_get (start q.at sub n ++ rest) place ≡ Some (Mark c)
        → IsLegal new_context (start q.at sub n ++ rest)
        (take place (start q.at sub n ++ rest) ++ Mark (next_choice new_context c) ∷ Says f ∷ []))
        → IsTurned rest (take place (start home sub 0 ++ rest) ++ Mark (next_choice old_context c) ∷ Says f ∷ [])
    turned_back zero c f h read legal = absurd (cc)
    turned_back (suc zero) c f h read legal = absurd (cc)
    turned_back (suc (suc place)) c f h read legal = record {
      further = take place rest ++ Mark (next_choice old_context c) ∷ Says f ∷ [];
      splits = refl;
      is_legal = legal read;
    }

    pub turned : (new : List Item) → All (ItemListed (length table)) (start home sub 0 ++ rest)
        → IsChoice q.theory table rows → list_any (puts_at q.at n) (facts_of new) ≡ false
        → (makes_node q.first (start home sub 0 ++ rest) new ≡ true
        → HaveBesides q.first q.at n (old_facts home q.at sub n (facts_of rest)))
        → IsLegal old_context (start home sub 0 ++ rest) new → IsTurned rest new
    turned new' items fits never besides (add x d nc adds out) = record {
      further = rest ++ Says (Has x d) ∷ [];
      splits = refl;
      is_legal =
          add x d (λ k. nc (plain_down q table more rows good n a shape_n home sub (facts_of rest) set k))
          (adds_up q table more rows good n a shape_n home sub (facts_of rest) set x d adds)
          (out_up q table more rows good n a shape_n home sub (facts_of rest) set x d
          (λ root. (let there : list_any (puts_at q.at n) (facts_of ((start home sub 0 ++ rest) ++ Says (Has x d) ∷ []))
          ≡ true =
          ap (λ (y : ℕ). list_any (puts_at y n) (facts_of ((start home sub 0 ++ rest) ++ Says (Has x d) ∷ [])))
          (sym (set.alone x root.0))
          ∙ ap (λ (c : ℕ). list_any (puts_at x c) (facts_of ((start home sub 0 ++ rest) ++ Says (Has x d) ∷ [])))
          root.1
          ∙ last_puts_at (start home sub 0 ++ rest) x d in
          cc))
          out);
    }
    turned new' items fits never besides (give f nc is_given out) = record {
      further = rest ++ Says f ∷ [];
      splits = refl;
      is_legal =
          give f (λ k. nc (plain_down q table more rows good n a shape_n home sub (facts_of rest) set k))
          (given_up q table more rows f is_given)
          (so_same q table more rows good n a shape_n home sub (facts_of rest) set f
          (last_passes_not (puts_at q.at n) (start home sub 0 ++ rest) f never)
          ∙ out);
    }
    turned new' items fits never besides (generate fs nc makes) = record {
      further = rest ++ says fs;
      splits = refl;
      is_legal =
          generate fs (λ k. nc (plain_down q table more rows good n a shape_n home sub (facts_of rest) set k))
          (generates_up q table more rows good n a shape_n home sub (facts_of rest) set
          (besides (generate_makes_node old_context (start home sub 0 ++ rest) fs makes)) fs makes);
    }
    turned new' items fits never besides (choose c f nc may one alt) = record {
      further = rest ++ Mark c ∷ Says f ∷ [];
      splits = refl;
      is_legal =
          choose c f (λ k. nc (plain_down q table more rows good n a shape_n home sub (facts_of rest) set k))
          (may_up q table more rows good n a shape_n home sub (facts_of rest) set c.branch may) one
          (alternative_up table more c.branch 1 f
          (branch_listed q table rows good fits (old_facts home q.at sub n (facts_of rest)) c.branch may) alt);
    }
    turned new' items fits never besides (back place c f clash read alt) =
        let is : List Item = start home sub 0 ++ rest in
        let about : BranchListed (length table) c.branch =
        (let g =
        All-get_or (ItemListed (length table)) is place (Mark c) (slice_get_within is place (Mark c) read) items in
        rw (get_or_from_slice_get is place (Mark c) (Mark c) read) at g) in
        turned_back place c f (back place c f clash read alt) read
        (λ again. back place c f (clash_up q table more rows good n a shape_n home sub (facts_of rest) set clash) again
        (alternative_up table more c.branch (c.alternative + 1) f about alt))

    -- ---- the end

    module _ (longer : IsTable (table ++ more)) (have : FactsHaveNumbers q table)
        (besides : HaveBesides q.first q.at n (old_facts home q.at sub n (facts_of rest)))
        (sat : IsSaturated old_context (start home sub 0 ++ rest)) where
      same_number : (c d s e : ℕ) → shape_of (table ++ more) c ≡ all_of s e → shape_of (table ++ more) d ≡ all_of s e
          → c ≡ d
      same_number c d s e h g =
          longer.are_distinct c d (listed (table ++ more) c (λ k. (let l = sym h ∙ k in cc)))
          (listed (table ++ more) d (λ k. (let l = sym g ∙ k in cc))) (h ∙ sym g)

      added : (x d : ℕ) → Adds new_context (new_facts home q.at sub n (facts_of rest)) x d
          → has (new_facts home q.at sub n (facts_of rest)) x d ≡ true
      added x d (by_and x' c d' parts lt h sh m) =
          let t =
          down q table more rows good n a shape_n home sub (facts_of rest) set x c (intersection parts) (λ k. cc) sh h
          in
          up q table more rows good n a shape_n home sub (facts_of rest) set x d
          (sat.no_add x d (by_and x c d parts lt t.0 t.1 m))
      added x d (by_all x' y c s e lt mt h sh leads) =
          let t =
          down q table more rows good n a shape_n home sub (facts_of rest) set x' c (all_of s d) (λ k. cc) sh h in
          up q table more rows good n a shape_n home sub (facts_of rest) set x d
          (sat.no_add x d (by_all x' x c s d lt mt t.0 t.1 leads))
      added x d (by_carry x' y c s t e d' carried sh) =
          let k =
          sat.no_carry x' x c s t e
          (carried_down q table more rows good n a shape_n home sub (facts_of rest) set x' x c s t e carried) in
          let is =
          same_number k.0 d t e (shape_up table more k.0 (all_of t e) (λ l. cc) k.1) sh in
          up q table more rows good n a shape_n home sub (facts_of rest) set x d
          (subst (λ (c : ℕ). has (old_facts home q.at sub n (facts_of rest)) x c ≡ true) is k.2)
      added x d (by_row x' row lt m used) =
          up q table more rows good n a shape_n home sub (facts_of rest) set x d
          (sat.no_add x d
          (by_row x row lt m
          (sym (same_use q table more rows good n a shape_n home sub (facts_of rest) set x row) ∙ used)))

      carried : (x y c s t e : ℕ) → IsCarried new_context (new_facts home q.at sub n (facts_of rest)) x y c s t e
          → (d : ℕ) × (shape_of (table ++ more) d ≡ all_of t e)
          × (has (new_facts home q.at sub n (facts_of rest)) y d ≡ true)
      carried x y c s t e h =
          let k =
          sat.no_carry x y c s t e
          (carried_down q table more rows good n a shape_n home sub (facts_of rest) set x y c s t e h) in (
            k.0,
            shape_up table more k.0 (all_of t e) (λ l. cc) k.1,
            up q table more rows good n a shape_n home sub (facts_of rest) set y k.0 k.2,
          )

      -- the first alternative of a branching is one over the shorter table
      abbrev UnionListed : Branch → Type 0
      UnionListed (Or x c) = c < length table
      UnionListed (Choose y e) = Unit {0}
      UnionListed (Pair y z) = Unit {0}

      union_listed : (b : Branch) → MayBranch old_context (old_facts home q.at sub n (facts_of rest)) b → UnionListed b
      union_listed b (on_union x c parts lt h sh none) =
          held_listed q table more rows good n a shape_n home sub (facts_of rest) set x c h
      union_listed b (on_filler x c m s e y lt h sh next none out) = tt
      union_listed b (on_pair x c m s e y z lt h sh many cy cz ne apart) = tt

      first_down : (b : Branch) (k : ℕ) (f : Fact ℕ) → UnionListed b → k ≡ 1 → IsAlternative (table ++ more) b k f
          → IsAlternative table b k f
      first_down b k f lt one (of_union x c k' d parts sh read) =
          of_union x c k' d parts (shape_down table more c (union parts) lt sh) read
      first_down b k f lt one (of_filler y e) = of_filler y e
      first_down b k f lt one (of_complement y e d neg) = absurd (omega (arith, one))
      first_down b k f lt one (of_joining y z) = of_joining y z
      first_down b k f lt one (of_parting y z) = absurd (omega (arith, one))

      no_choice : (b : Branch) (f : Fact ℕ) → MayBranch new_context (new_facts home q.at sub n (facts_of rest)) b
          → ¬ IsAlternative (table ++ more) b 1 f
      no_choice b f may alt =
          let before = may_down q table more rows good n a shape_n home sub (facts_of rest) set b may in
          sat.no_choose b f before (first_down b 1 f (union_listed b before) refl alt)

      pub saturated : IsSaturated new_context (start q.at sub n ++ rest)
      saturated = record {
        no_clash = λ k. sat.no_clash (plain_down q table more rows good n a shape_n home sub (facts_of rest) set k);
        no_add = added;
        no_give = λ f g.
            so_up q table more rows good n a shape_n home sub (facts_of rest) set f
            (sat.no_give f (given_down q table more rows longer have f g));
        no_carry = carried;
        no_generate =
            λ fs makes. sat.no_generate fs
            (generates_down q table more rows good n a shape_n home sub (facts_of rest) set besides fs makes);
        no_choose = no_choice;
      }
