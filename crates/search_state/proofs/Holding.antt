-- Facts that hold by those which rest on few marks hold by more.
use Rattle.std.proofs.Common.{◌≡◌, ℕ, zero, suc, ◌+◌, ◌<◌, ◌&&◌, eqb, true, List, [], ◌∷◌, length, get_or, take, refl}
use Rattle.std.proofs.Common.{ap, ◌∙◌, sym, subst, arith, inl, inr, eq-eqb}
use Rattle.std.specs.List.{list_all}
use Rattle.std.specs.FinSet as sets
use Rattle.std.proofs.lemmas.Cmp.{nat_cmp_total}
use Rattle.std.proofs.lemmas.Bool.{and_parts, and_from, or_cases, or_left, or_right, eqb-true}
use Rattle.std.proofs.lemmas.List.{take_more}
use Rattle.std.proofs.lemmas.List.Folds.{list_all-append}
use Rattle.lane_sieve.specs.Sets.{NumberSet}
use Rattle.calculus_specs.specs.declared.facts.Fact.{Fact}
use Rattle.calculus_specs.specs.declared.facts.Fact.TheVariants.{Has, Edge, Apart, Same}
use Rattle.calculus_specs.specs.Joins.{rep, IsJoined}
use Rattle.calculus_specs.specs.Joins.IsJoined.{itself, by_fact}
use Rattle.calculus_specs.specs.State.{is_given, is_so}
use Rattle.calculus_specs.proofs.Joined.{rep-joined, joined-rep, joined_on, joined_back}
use Rattle.calculus_specs.specs.Line.{Line}
use Rattle.tableau_specs.specs.Steps.{SearchContext}
use Rattle.search_trace.specs.Among.{IsAmong}
use Rattle.search_trace.specs.Noted.{Marked, is_within, within}
use Rattle.search_trace.specs.Premises.{Added}
use Rattle.search_trace.specs.Trail.{MarkedFact}
use Rattle.search_trace.specs.Grounded.{named, AreGrounded}
use Rattle.search_trace.proofs.Among.{any_implies, any_within, given_stays, edge_stays, apart_stays}
use Rattle.step_agenda.specs.Entry.{Entry}
use Rattle.step_agenda.specs.Trail.{facts_in}
use Rattle.absorption.specs.ClosureLaws.{IsClosedFor}
use Rattle.absorption.proofs.Lacking.{lack_nothing}
use Rattle.step_finders.specs.declared.choosing.Choosing.{Choosing}
use Rattle.step_finders.specs.declared.make.NewNodes.{NewNodes}
use Rattle.step_finders.specs.declared.state.Given.{Given}
use Rattle.step_finders.specs.Choosing.{branch_of, IsChoosable}
use Rattle.step_lines.specs.Serving.{Serves, HoldWithin}
use Rattle.step_lines.specs.Kinds.{ServesAddition, ServesGiven, ServesNewNodes, ServesChoice, ServesClash}
use Rattle.search_state.specs.Marked.{marked_in}
use Rattle.search_state.specs.Resting.{IsResting, RestsAddition, RestsGiven, RestsNewNodes, RestsChoice, RestsClash}
use Rattle.search_state.proofs.Entries.{items-marked}

-- ---- more marks

pub part_on : (s u v : NumberSet) → sets.is_subset s u ≡ true → sets.is_subset u v ≡ true → sets.is_subset s v ≡ true
part_on s u v h more =
    sets.contains-is_subset nat_cmp_total s v
    (λ k one. sets.is_subset-contains nat_cmp_total u v more k (sets.is_subset-contains nat_cmp_total s u h k one))

pub part_itself : (s : NumberSet) → sets.is_subset s s ≡ true
part_itself s = sets.contains-is_subset nat_cmp_total s s (λ k h. h)

pub part_left : (s t : NumberSet) → sets.is_subset s (sets.union s t) ≡ true
part_left s t =
    sets.contains-is_subset nat_cmp_total s (sets.union s t)
    (λ k h. sets.contains-union nat_cmp_total s t k ∙ or_left (sets.contains s k) (sets.contains t k) h)

pub part_right : (s t : NumberSet) → sets.is_subset t (sets.union s t) ≡ true
part_right s t =
    sets.contains-is_subset nat_cmp_total t (sets.union s t)
    (λ k h. sets.contains-union nat_cmp_total s t k ∙ or_right (sets.contains s k) (sets.contains t k) h)

within_more : {A : Type 0} → (u v : NumberSet) (ms : List (Marked A)) → sets.is_subset u v ≡ true
    → IsAmong (within u ms) (within v ms)
within_more u v ms more p any =
    any_within v p ms
    ∙ any_implies (λ m. is_within u m && p m.item) (λ m. is_within v m && p m.item)
    (λ m h.
    let b = and_parts (is_within u m) (p m.item) h in
    and_from (is_within v m) (p m.item) (part_on m.marks u v b.0 more) b.1)
    ms (sym (any_within u p ms) ∙ any)

module _ (fs gs : List (Fact ℕ)) (more : IsAmong fs gs) where
  joined_more : (x y : ℕ) → IsJoined fs x y → IsJoined gs x y
  joined_more x x' (itself y) = itself y
  joined_more x x' (by_fact a b c any h) = by_fact a b c (more _ any) (joined_more a b h)

  one_more : (x y : ℕ) → eqb (rep fs x) (rep fs y) ≡ true → eqb (rep gs x) (rep gs y) ≡ true
  one_more x y h =
      let e : rep fs x ≡ rep fs y = eqb-true (rep fs x) (rep fs y) h in
      let to-y : IsJoined fs x (rep fs y) = subst (IsJoined fs x) e (joined-rep fs x) in
      let joined : IsJoined fs x y = joined_on fs x (rep fs y) y to-y (joined_back fs y (rep fs y) (joined-rep fs y)) in
      eq-eqb (rep gs x) (rep gs y) (rep-joined gs x y (joined_more x y joined))

  pub so_more : (f : Fact ℕ) → is_so fs f ≡ true → is_so gs f ≡ true
  so_more (Has x c) h = elim (or_cases (eqb c 0) (is_given (λ d. eqb d c) fs x) h) [
    | inl top ↦ or_left (eqb c 0) (is_given (λ d. eqb d c) gs x) top
    | inr given ↦ or_right (eqb c 0) (is_given (λ d. eqb d c) gs x) (given_stays fs gs more (λ d. eqb d c) x given)
  ]
  so_more (Edge r x y) h = edge_stays fs gs more (λ s. eqb s r) x y h
  so_more (Apart x y) h = apart_stays fs gs more x y h
  so_more (Same x y) h = one_more x y h

pub holds_more : (u v : NumberSet) (ms : List MarkedFact) (f : Fact ℕ) → sets.is_subset u v ≡ true
    → is_so (within u ms) f ≡ true → is_so (within v ms) f ≡ true
holds_more u v ms f more h = so_more (within u ms) (within v ms) (within_more u v ms more) f h

pub all_hold_more : (u v : NumberSet) (ms : List MarkedFact) (fs : List (Fact ℕ)) → sets.is_subset u v ≡ true
    → HoldWithin u ms fs → HoldWithin v ms fs
all_hold_more u v ms [] more h = refl
all_hold_more u v ms (f ∷ fs) more h =
    let b = and_parts (is_so (within u ms) f) (list_all (is_so (within u ms)) fs) h in
    and_from (is_so (within v ms) f) (list_all (is_so (within v ms)) fs) (holds_more u v ms f more b.0)
    (all_hold_more u v ms fs more b.1)

pub hold_next : (u v : NumberSet) (ms : List MarkedFact) (fs : List (Fact ℕ)) (i : ℕ) (d : Fact ℕ) → i < length fs
    → sets.is_subset u v ≡ true → HoldWithin u ms (take i fs)
    → is_so (within v ms) (get_or fs i d) ≡ true → HoldWithin v ms (take (i + 1) fs)
hold_next u v ms fs i d lt more before here =
    ap (list_all (is_so (within v ms))) (take_more fs i d lt)
    ∙ list_all-append (is_so (within v ms)) (take i fs) (get_or fs i d ∷ [])
    ∙ and_from (list_all (is_so (within v ms)) (take i fs)) (is_so (within v ms) (get_or fs i d) && true)
    (all_hold_more u v ms (take i fs) more before) (and_from (is_so (within v ms) (get_or fs i d)) true here refl)

pub so_at : (fs gs : List (Fact ℕ)) (i : ℕ) (d : Fact ℕ) → i < length gs → list_all (is_so fs) gs ≡ true
    → is_so fs (get_or gs i d) ≡ true
so_at fs [] i d lt h = absurd (omega (arith, lt))
so_at fs (g ∷ gs) zero d lt h = (and_parts (is_so fs g) (list_all (is_so fs) gs) h).0
so_at fs (g ∷ gs) (suc i) d lt h =
    so_at fs gs i d (omega (arith, lt)) (and_parts (is_so fs g) (list_all (is_so fs) gs) h).1

-- ---- lines

module _ (w : SearchContext) (es : List Entry) (line : Line) (grounds : List (Fact ℕ)) (u : NumberSet)
    (grounded : AreGrounded w.first (marked_in es)) (hold : HoldWithin u (marked_in es) grounds) where
  resting : (children : List Added) (nodes : List ℕ) → Serves w (facts_in es) line grounds children nodes
      → IsResting w es line u children nodes
  resting children nodes s = record {
    holds = λ q number. s.holds_by q number u (marked_in es) (items-marked es) grounded hold;
    knows = s.knows u (marked_in es) grounded hold;
    of_kind = s.of_kind;
    numbered = s.numbered;
    has_part = s.has_part;
  }

  pub addition_rests : (x d : ℕ) → ServesAddition w (facts_in es) x d line grounds → RestsAddition w es x d line u
  addition_rests x d s =
      record { child = s.child; resting = resting (s.child ∷ []) (x ∷ []) s.serves; puts = s.puts; single = s.single }

  pub given_rests : (g : Given) → u ≡ sets.empty → ServesGiven w (facts_in es) g line grounds
      → RestsGiven w es g.fact line u
  given_rests g none s = record {
    child = s.child;
    resting = resting (s.child ∷ []) (named g.fact) s.serves;
    puts = s.puts;
    single = s.single;
    on_nothing = none;
  }

  pub new_nodes_rest : (m : NewNodes) → ServesNewNodes w (facts_in es) m line grounds → RestsNewNodes w es m line u
  new_nodes_rest m s = record {
    child = s.child;
    resting = resting (s.child ∷ []) (m.parent ∷ []) s.serves;
    puts = s.puts;
    single = s.single;
  }

  pub choice_rests : (c : Choosing) → IsClosedFor w → IsChoosable w (facts_in es) c
      → ServesChoice w (facts_in es) (branch_of c) line grounds → RestsChoice w es (branch_of c) line u
  choice_rests c closed is s = record {
    children = s.children;
    resting = resting s.children _ s.serves;
    alternatives = record {
      each = s.alternatives;
      count = s.count;
      numbered = (lack_nothing w (facts_in es) closed).1 (branch_of c) is.may;
    };
    branching = s.branching;
  }

  pub clash_rests : ServesClash w (facts_in es) line grounds → RestsClash w es line u
  clash_rests s = record { resting = resting [] [] s.serves }
