-- Worked answers: what a log shows, and what it does not.
use Rattle.std.specs.Prelude.{◌≡◌, ◌⊎◌, ℕ, Bool, true, false, List, [], ◌∷◌, refl}
use Rattle.std.proofs.Common.{lit<, sym, ◌∙◌, arith, inl, inr}
use Rattle.std.specs.FinSet as set
use Rattle.std.specs.Ordering.{nat_cmp}
use Rattle.std.specs.Cmp.{nat_cmp_total}
use Rattle.pinpointing_specs.specs.NumberSets.{NumberSet}
use Rattle.pinpointing_specs.specs.Sets.{IsWithin}
use Rattle.pinpointing_specs.specs.Smallest.{rest}
use Rattle.shq_terms.specs.Concept.{Concept, top, bottom, name}
use Rattle.shq_terms.specs.Listed.{Listed}
use Rattle.shq_terms.specs.declared.axioms.On.TheVariants.{Any}
use Rattle.shq_terms.specs.declared.axioms.Query.{Query}
use Rattle.pinpointing_specs.specs.LocalModule.{of_axioms, FollowsFrom, IsJustification}
use Rattle.run_log.specs.declared.entry.Entry.{Entry}
use Rattle.run_log.specs.declared.entry.Entry.TheVariants.{Test}
use Rattle.run_log.specs.declared.entry.TestEnd.TheVariants.{Yes, No}
use Rattle.run_log.specs.HonestLog.{IsClass, IsChain}
use Rattle.run_log.specs.HonestLog.IsStep.{in_top, of_bottom}
use Rattle.run_log.specs.HonestLog.IsChain.{none, onward}
use Rattle.run_log.specs.Shown.{IsRuledOut, ShowsClasses, ShowsPinpointing}
use Rattle.run_log.specs.LogExamples.{no_axioms, is_top_or, stays, none_leaves_zero}

-- no classes and no axioms
abbrev empty : Listed
empty = record { axioms = []; classes = []; roles = []; individuals = [] }

abbrev consistent : Query
consistent = record { sub = top; sup = bottom; on = Any }

-- ---- classes

-- whether owl:Thing is included in owl:Nothing is all that there is to ask
abbrev one_no : List Entry
one_no = Test no_axioms consistent 0 No ∷ []

shown_each : (x y : Concept) → IsClass empty x → IsClass empty y → ¬ (x ≡ y)
    → IsChain one_no x y ⊎ IsRuledOut one_no x y
shown_each bottom y cx cy differ = inl (onward bottom y y (of_bottom y) (none y))
shown_each x top cx cy differ = inl (onward x top top (in_top x) (none top))
shown_each top bottom cx cy differ = inr (record {
  tested = no_axioms;
  query = consistent;
  of_all = refl;
  steps = 0;
  is_no = (0, lit< tt, refl);
  lower = none top;
  upper = none bottom;
})
shown_each (name a) y cx cy differ = absurd (omega (arith, cx))
shown_each x (name a) cx cy differ = absurd (omega (arith, cy))
shown_each top y cx cy differ = absurd cy
shown_each x y cx cy differ = absurd cx

pub shows_classes : ShowsClasses empty one_no
shows_classes = shown_each

nothing_is_ruled_out : (x y : Concept) → ¬ IsRuledOut [] x y
nothing_is_ruled_out x y r = omega (arith, r.is_no.1)

pub shows_no_classes : ¬ ShowsClasses empty []
shows_no_classes h = elim (h top bottom tt tt top_is_not_bottom) [
  | inl chain ↦
      (let k : is_top_or 0 bottom ≡ true = stays (is_top_or 0) [] none_leaves_zero top bottom chain refl in cc)
  | inr out ↦ nothing_is_ruled_out top bottom out
]
  where
    top_is_not_bottom : ¬ (top ≡ bottom)
    top_is_not_bottom h = cc

-- ---- justifications and repairs

-- what follows from no axioms has the empty set as its one justification, and no repairs
abbrev trivial : Query
trivial = record { sub = bottom; sup = top; on = Any }

trivial_follows : (s : NumberSet) → FollowsFrom empty.axioms trivial s
trivial_follows s i some placed meets x lt = refl

abbrev one_yes : List Entry
one_yes = Test no_axioms trivial 0 (Yes no_axioms) ∷ []

no_member : (j : NumberSet) (k : ℕ) → IsWithin 0 j → (b : Bool) → set.contains j k ≡ b → b ≡ false
no_member j k within true h = let m = within k h in absurd (omega (arith, m.0, m.1))
no_member j k within false h = refl

is_empty : (j : NumberSet) → IsWithin 0 j → set.empty ≡ j
is_empty j within =
    set.same_set nat_cmp_total set.nat_cmp-IsAntisymmetric set.empty j
    (λ k. set.contains-empty nat_cmp k ∙ sym (no_member j k within (set.contains j k) refl))

pub shows_pinpointing : ShowsPinpointing empty trivial one_yes
shows_pinpointing = record {
  justifications =
      λ j is. record {
        tested = no_axioms;
        steps = 0;
        enough = no_axioms;
        is_yes = (0, lit< tt, refl);
        is_set = is_empty j is.within;
      };
  repairs = λ m r local is. absurd (is.ends (trivial_follows (rest (of_axioms empty.axioms r))));
}

empty_is_justification : IsJustification empty.axioms trivial set.empty
empty_is_justification = record {
  within = λ k h. (let m : false ≡ true = sym (set.contains-empty nat_cmp k) ∙ h in cc);
  yes_set = trivial_follows set.empty;
  needed = λ k h. (let m : false ≡ true = sym (set.contains-empty nat_cmp k) ∙ h in cc);
}

pub shows_no_pinpointing : ¬ ShowsPinpointing empty trivial []
shows_no_pinpointing h = let k = h.justifications set.empty empty_is_justification in omega (arith, k.is_yes.1)
