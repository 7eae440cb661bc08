-- How many lines a text has at least.
use Rattle.std.proofs.Common.{◌≡◌, ℕ, ◌+◌, ◌^◌, ◌<◌, ◌≤◌, List, [], ◌∷◌, ◌++◌, length, map, refl, ◌∙◌, arith, get_or}
use Rattle.std.specs.Prelude.{nat_eq, codes, decimal, cond, count_by}
use Rattle.std.specs.List.{All, slice_split, flat_map}
use Rattle.std.specs.Str.Lines.{strip_carriage_return}
use Rattle.std.proofs.lemmas.List.{length-map}
use Rattle.std.proofs.lemmas.List.Splits.{length-slice_split}
use Rattle.std.proofs.lemmas.List.Sums.{sum_by-append}
use Rattle.axiom_sets.specs.Sets.{Limited, member_list, IsWithin}
use Rattle.certificate_lines.specs.Lines.{lines}
use Rattle.certificate_lines.specs.Written.{fed, line_of}
use Rattle.shq_terms.specs.Listed.{Listed}
use Rattle.refutation_tree.specs.Written.{refutation_text}
use Rattle.finite_model.specs.Written.{model_text}
use Rattle.audit_file.specs.AuditLists.{AuditLists}
use Rattle.audit_file.specs.Fitting.{IsOfAxioms}
use Rattle.audit_file.specs.Written.{set_text, count_text, justification_text, repair_text, justifications_text}
use Rattle.audit_file.specs.Written.{repairs_text, audit_text, IsSetOf, WhatIsWrittenIsRead}
use Rattle.audit_file.specs.declared.entries.Justification.{Justification}
use Rattle.audit_file.specs.declared.entries.Repair.{Repair}
use Rattle.audit_file.proofs.TextBack.{audits_back}

-- how many line feeds
abbrev feeds : List ℕ → ℕ
feeds t = count_by (λ b. nat_eq b 10) t

lines_count : (t : List ℕ) → length (lines t) ≡ feeds t + 1
lines_count t =
    length-map (slice_split (λ b. nat_eq b 10) t) strip_carriage_return ∙ length-slice_split (λ b. nat_eq b 10) t

feeds_both : (a b : List ℕ) → feeds (a ++ b) ≡ feeds a + feeds b
feeds_both a b = sum_by-append (λ c. cond (nat_eq c 10) 1 0) a b

feeds_fed : (l : List ℕ) → 1 ≤ feeds (fed l)
feeds_fed l = let e = feeds_both l (10 ∷ []) in let one : feeds (10 ∷ []) ≡ 1 = refl in omega (arith, e, one)

-- as many as there are items, if each has one
each_feeds : {X : Type 0} (f : X → List ℕ) → ((x : X) → 1 ≤ feeds (f x)) → (xs : List X)
    → length xs ≤ feeds (flat_map f xs)
each_feeds f one [] = omega arith
each_feeds f one (x ∷ xs) =
    let e = feeds_both (f x) (flat_map f xs) in
    let first = one x in let more = each_feeds f one xs in omega (arith, e, first, more)

set_feeds : (s : Limited) (t : List ℕ) → 1 ≤ feeds (set_text s ++ t)
set_feeds s t =
    let e = feeds_both (set_text s) t in
    let first : 1 ≤ feeds (set_text s) = feeds_fed (line_of (codes "set") (map decimal (member_list s))) in
    omega (arith, e, first)

module _ (o : Listed) (a : AuditLists) where
  abbrev js : List ℕ
  js = justifications_text o a.justifications

  abbrev rs : List ℕ
  rs = repairs_text o a.repairs

  js_feeds : length a.justifications ≤ feeds js
  js_feeds =
      let e =
      feeds_both (count_text (codes "justifications") (length a.justifications))
      (flat_map (justification_text o) a.justifications) in
      let more =
      each_feeds (justification_text o) (λ (j : Justification). set_feeds j.set (refutation_text o j.refutation))
      a.justifications in
      omega (arith, e, more)

  rs_feeds : length a.repairs ≤ feeds rs
  rs_feeds =
      let e = feeds_both (count_text (codes "repairs") (length a.repairs)) (flat_map (repair_text o) a.repairs) in
      let more = each_feeds (repair_text o) (λ (r : Repair). set_feeds r.set (model_text o r.model)) a.repairs in
      omega (arith, e, more)

  whole_feeds : feeds js + feeds rs ≤ feeds (audit_text o a)
  whole_feeds =
      let first = feeds_both (fed (codes "audit") ++ js ++ rs) (fed (codes "end audit")) in
      let second = feeds_both (fed (codes "audit") ++ js) rs in
      let third = feeds_both (fed (codes "audit")) js in
      omega (arith, first, second, third)

  pub few : length (lines (audit_text o a)) < 2 ^ 32 → (length a.justifications < 2 ^ 32) × (length a.repairs < 2 ^ 32)
  few h =
      let all = lines_count (audit_text o a) in
      (omega (arith, h, all, whole_feeds, js_feeds), omega (arith, h, all, whole_feeds, rs_feeds))

of_both : {X : Type 0} (P Q R : X → Type 0) → ((x : X) → P x → Q x → R x) → (xs : List X) → All P xs → All Q xs
    → All R xs
of_both P Q R f xs p q k d lt = f (get_or xs k d) (p k d lt) (q k d lt)

pub written_is_read : WhatIsWrittenIsRead
written_is_read o a classes roles individuals axioms over refutations kept short =
    let small = few o a short in
    audits_back o a classes roles individuals (record {
      ordered = kept.ordered;
      few_axioms = axioms;
      few_justifications = small.0;
      few_repairs = small.1;
      justified =
          of_both (λ (j : Justification). IsOfAxioms o j.set)
          (λ (j : Justification). IsWithin j.set.limit j.set.members) (λ (j : Justification). IsSetOf o j.set)
          (λ j limit within. record { limit = limit; within = within }) a.justifications over.justified kept.justified;
      refutations = refutations;
      repaired =
          of_both (λ (r : Repair). IsOfAxioms o r.set) (λ (r : Repair). IsWithin r.set.limit r.set.members)
          (λ (r : Repair). IsSetOf o r.set) (λ r limit within. record { limit = limit; within = within }) a.repairs
          over.repaired kept.repaired;
      models = kept.models;
    })
