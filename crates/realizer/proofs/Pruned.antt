-- Rows of classes and sets of individuals, while a counter-model takes out of them, and what is open then.
use Rattle.std.proofs.Common.{◌≡◌, ℕ, ◌+◌, ◌<◌, ◌≤◌, ◌&&◌, ◌||◌, not, Bool, true, false, List, length, get_or, set}
use Rattle.std.proofs.Common.{refl, sym, ap, subst, ◌∙◌, arith, inl, inr, eqb, eq-eqb}
use Rattle.std.specs.Prelude.{nat_lt, Option, Some, None}
use Rattle.std.specs.FinSet as sets
use Rattle.std.specs.Cmp.{nat_cmp_total}
use Rattle.std.proofs.lemmas.Bool.{cases_eq, cases_lt, lt-ltb, le-ltb, ne_eqb, and_parts, true≢false}
use Rattle.std.proofs.lemmas.List.{length-set, get_or-set_same, get_or-set_other, get_or_default}
use Rattle.axiom_sets.specs.Sets.{Limited}
use Rattle.lane_sieve.specs.Sets.{NumberSet}
use Rattle.shq_terms.specs.Concept.{Concept, name}
use Rattle.shq_meaning.specs.Truth.{Interpretation, holds}
use Rattle.subsumption.specs.Matrices.{no_row, row_in}
use Rattle.subsumption.specs.Progress.{IsOneOf}
use Rattle.subsumption.specs.ClassSets.{has_class, HoldsClasses}
use Rattle.subsumption.proofs.Members.{taken_out}
use Rattle.realizer.specs.TypeRows.{AreTypeRows, typed_by}
use Rattle.realizer.specs.Candidates.{has_individual, stays_possible, ArePruned}
use Rattle.realizer.specs.Asked.{is_open, IsOpenClass}

-- ---- rows

-- the rows of the individuals from one of them to another have what stays possible; the others are as they were
pub record ArePrunedTo (i : Interpretation) (classes from to : ℕ) (old new : List Limited) : Type 0 where
  pub are_rows : AreTypeRows classes (length old) new
  pub done : (a x : ℕ) → from ≤ a → a < to → a < length old → x < classes
      → typed_by new a x ≡ (typed_by old a x && holds i (name x) (i.individual a))
  pub before : (a : ℕ) → a < from → a < length old → row_in new a ≡ row_in old a
  pub behind : (a : ℕ) → to ≤ a → a < length old → row_in new a ≡ row_in old a

pub prunes_none : (i : Interpretation) (classes from individuals : ℕ) (rows : List Limited)
    → AreTypeRows classes individuals rows → ArePrunedTo i classes from from rows rows
prunes_none i classes from individuals rows h = record {
  are_rows = subst (λ (n : ℕ). AreTypeRows classes n rows) (sym h.long) h;
  done = λ a x low high la lx. absurd (omega (arith, low, high));
  before = λ a lt la. refl;
  behind = λ a ge la. refl;
}

row_set_there : (rows : List Limited) (a : ℕ) (s : Limited) → a < length rows → row_in (set rows a s) a ≡ s
row_set_there rows a s lt = get_or-set_same rows a s no_row lt

row_set_elsewhere : (rows : List Limited) (a b : ℕ) (s : Limited) → ¬ (b ≡ a) → row_in (set rows a s) b ≡ row_in rows b
row_set_elsewhere rows a b s ne = get_or-set_other rows a b s no_row ne

-- one row more
pub prunes_next : (i : Interpretation) (classes from to : ℕ) (old new : List Limited) (s d : Limited)
    → ArePrunedTo i classes from to old new → from ≤ to → to < length old
    → HoldsClasses classes (λ x. has_class (get_or new to d) x && holds i (name x) (i.individual to)) s
    → ArePrunedTo i classes from (to + 1) old (set new to s)
prunes_next i classes from to old new s d h low lt held = record {
  are_rows = record {
    long = length-set new to s ∙ h.are_rows.long;
    each = λ a la. elim (cases_eq a to) [
      | inl e ↦ subst (λ (r : Limited). HoldsClasses classes (has_class r) r) (sym (at_place a e)) (itself s held)
      | inr ne ↦
          subst (λ (r : Limited). HoldsClasses classes (has_class r) r) (sym (row_set_elsewhere new to a s ne))
          (h.are_rows.each a la)
    ];
  };
  done = λ a x from_low high la lx. elim (cases_eq a to) [
    | inl e ↦ ap (λ (r : Limited). has_class r x) (at_place a e) ∙ held.inside x lx ∙ same_row a x e la
    | inr ne ↦
        ap (λ (r : Limited). has_class r x) (row_set_elsewhere new to a s ne)
        ∙ h.done a x from_low (omega (arith, high, ne)) la lx
  ];
  before = λ a less la. row_set_elsewhere new to a s (λ e. omega (arith, less, low, e)) ∙ h.before a less la;
  behind = λ a ge la. row_set_elsewhere new to a s (λ e. omega (arith, ge, e)) ∙ h.behind a (omega (arith, ge)) la;
}
  where
    place : to < length new
    place = omega (arith, lt, h.are_rows.long)

    at_place : (a : ℕ) → a ≡ to → row_in (set new to s) a ≡ s
    at_place a e = ap (row_in (set new to s)) e ∙ row_set_there new to s place

    itself : (r : Limited) {test : ℕ → Bool} → HoldsClasses classes test r → HoldsClasses classes (has_class r) r
    itself r k = record { limit = k.limit; inside = λ x lx. refl; outside = k.outside }

    row_is : get_or new to d ≡ row_in old to
    row_is = get_or_default new to d no_row place ∙ h.behind to (omega arith) lt

    same_row : (a x : ℕ) → a ≡ to → a < length old
        → (has_class (get_or new to d) x && holds i (name x) (i.individual to)) ≡
        (typed_by old a x && holds i (name x) (i.individual a))
    same_row a x e la =
        ap (λ (r : Limited). has_class r x && holds i (name x) (i.individual to)) row_is
        ∙ ap (λ (b : ℕ). typed_by old b x && holds i (name x) (i.individual b)) (sym e)

-- where all are done
pub pruned_all : (i : Interpretation) (classes from to individuals : ℕ) (old new : List Limited)
    → ArePrunedTo i classes from to old new → length old ≡ individuals → individuals ≤ to
    → ArePruned i classes from old new
pruned_all i classes from to individuals old new h long end = record {
  are_rows = h.are_rows;
  classes_are = λ a x la lx. elim (cases_lt a from) [
    | inl lt ↦
        ap (λ (r : Limited). has_class r x) (h.before a lt la)
        ∙ kept (typed_by old a x) (nat_lt a from) (holds i (name x) (i.individual a)) (lt-ltb a from lt)
    | inr ge ↦
        h.done a x ge (omega (arith, la, long, end)) la lx
        ∙ ap (λ (b : Bool). typed_by old a x && (b || holds i (name x) (i.individual a))) (sym (le-ltb a from ge))
  ];
}
  where
    kept : (t u v : Bool) → u ≡ true → t ≡ (t && (u || v))
    kept t false v h = absurd (cc h)
    kept true true v h = refl
    kept false true v h = refl

-- ---- individuals

-- the individuals from one of them to another stay where it is possible; the others are as they were
pub record AreKeptTo (i : Interpretation) (c : Concept) (from to : ℕ) (old new : Limited) : Type 0 where
  pub limit_is : new.limit ≡ old.limit
  pub done : (a : ℕ) → from ≤ a → a < to → has_individual new a ≡ (has_individual old a && holds i c (i.individual a))
  pub before : (a : ℕ) → a < from → has_individual new a ≡ has_individual old a
  pub behind : (a : ℕ) → to ≤ a → has_individual new a ≡ has_individual old a

pub keeps_none : (i : Interpretation) (c : Concept) (from : ℕ) (s : Limited) → AreKeptTo i c from from s s
keeps_none i c from s = record {
  limit_is = refl;
  done = λ a low high. absurd (omega (arith, low, high));
  before = λ a lt. refl;
  behind = λ a ge. refl;
}

and_true : (t v : Bool) → v ≡ true → t ≡ (t && v)
and_true t false h = absurd (cc h)
and_true true true h = refl
and_true false true h = refl

and_false : (t v : Bool) → v ≡ false → false ≡ (t && v)
and_false t true h = absurd (cc h)
and_false true false h = refl
and_false false false h = refl

module _ (i : Interpretation) (c : Concept) (from to : ℕ) (old new : Limited) (h : AreKeptTo i c from to old new)
    (low : from ≤ to) where
  -- one that is in the class expression stays
  pub keeps_next : holds i c (i.individual to) ≡ true → AreKeptTo i c from (to + 1) old new
  keeps_next held = record {
    limit_is = h.limit_is;
    done = λ a from_low high. elim (cases_lt a to) [
      | inl lt ↦ h.done a from_low lt
      | inr ge ↦
          let e : a ≡ to = omega (arith, high, ge) in
          h.behind a ge
          ∙ and_true (has_individual old a) (holds i c (i.individual a))
          (ap (λ (b : ℕ). holds i c (i.individual b)) e ∙ held)
    ];
    before = h.before;
    behind = λ a ge. h.behind a (omega (arith, ge));
  }

  -- and one that is not is taken out
  pub takes_next : (s : Limited) → holds i c (i.individual to) ≡ false → s.limit ≡ new.limit
      → s.members ≡ sets.remove new.members (to + 1) → AreKeptTo i c from (to + 1) old s
  takes_next s out limit members = record {
    limit_is = limit ∙ h.limit_is;
    done = λ a from_low high. elim (cases_eq a to) [
      | inl e ↦
          left a ∙ ap (λ (b : Bool). not b && has_individual new a) (eq-eqb a to e)
          ∙ and_false (has_individual old a) (holds i c (i.individual a))
          (ap (λ (b : ℕ). holds i c (i.individual b)) e ∙ out)
      | inr ne ↦ elsewhere a ne ∙ h.done a from_low (omega (arith, high, ne))
    ];
    before = λ a lt. elsewhere a (λ e. omega (arith, lt, low, e)) ∙ h.before a lt;
    behind = λ a ge. elsewhere a (λ e. omega (arith, ge, e)) ∙ h.behind a (omega (arith, ge));
  }
    where
      left : (a : ℕ) → has_individual s a ≡ (not (eqb a to) && has_individual new a)
      left a = ap (λ (m : NumberSet). sets.contains m (a + 1)) members ∙ taken_out new.members to a

      elsewhere : (a : ℕ) → ¬ (a ≡ to) → has_individual s a ≡ has_individual new a
      elsewhere a ne = left a ∙ ap (λ (b : Bool). not b && has_individual new a) (ne_eqb a to ne)

pub kept_all : (i : Interpretation) (c : Concept) (from to : ℕ) (old new : Limited) → AreKeptTo i c from to old new
    → (a : ℕ) → a < to → has_individual new a ≡ (has_individual old a && stays_possible i c from a)
kept_all i c from to old new h a lt = elim (cases_lt a from) [
  | inl less ↦
      h.before a less
      ∙ and_true (has_individual old a) (stays_possible i c from a)
      (ap (λ (b : Bool). b || holds i c (i.individual a)) (lt-ltb a from less))
  | inr ge ↦
      h.done a ge lt
      ∙ ap (λ (b : Bool). has_individual old a && (b || holds i c (i.individual a))) (sym (le-ltb a from ge))
]

-- ---- what is open

-- what is left of a row without the types that are known is open, and where nothing is left no class is
pub found_open : (count a individuals : ℕ) (rows : List Limited) (types left : Limited)
    → AreTypeRows count individuals rows → a < individuals
    → left.members ≡ sets.difference (row_in rows a).members types.members
    → (r : Option ℕ) → IsOneOf (count + 2) left r → IsOpenClass count rows a types r
found_open count a individuals rows types left h la is None none = λ x lx. sym (open_is x) ∙ none x (omega (arith, lx))
  where
    open_is : (x : ℕ) → sets.contains left.members (x + 1) ≡ is_open rows a types x
    open_is x =
        ap (λ (m : NumberSet). sets.contains m (x + 1)) is
        ∙ sets.contains-difference nat_cmp_total (row_in rows a).members types.members (x + 1)
found_open count a individuals rows types left h la is (Some y) some = (listed, open_now)
  where
    open_now : is_open rows a types y ≡ true
    open_now =
        sym (ap (λ (m : NumberSet). sets.contains m (y + 1)) is
        ∙ sets.contains-difference nat_cmp_total (row_in rows a).members types.members (y + 1))
        ∙ some.1

    listed : y < count
    listed = elim (cases_lt y count) [
      | inl lt ↦ lt
      | inr ge ↦
          absurd (true≢false
          (sym (and_parts (typed_by rows a y) (not (has_class types y)) open_now).0 ∙ (h.each a la).outside y ge))
    ]
