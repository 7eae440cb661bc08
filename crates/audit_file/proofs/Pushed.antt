-- One text more of a list of texts, and what is known of the whole.
use Rattle.std.proofs.Common.{◌≡◌, ℕ, ◌+◌, ◌<◌, Bool, true, List, ◌∷◌, ◌++◌, length, drop, take, get_or, ap, sym, ◌∙◌}
use Rattle.std.proofs.Common.{subst, append_assoc}
use Rattle.std.specs.List.{All, list_all, flat_map}
use Rattle.std.proofs.lemmas.Bool.{and_parts}
use Rattle.std.proofs.lemmas.List.{drop_more}
use Rattle.std.proofs.lemmas.List.Elements.{All-more}
use Rattle.axiom_sets.specs.Sets.{IsWithin}
use Rattle.pinpointing_specs.specs.Order.{IsAscending}
use Rattle.shq_terms.specs.Listed.{Listed}
use Rattle.finite_model.specs.ReadBack.{IsKept}
use Rattle.audit_file.specs.AuditLists.{AuditLists, justified_sets, repaired_sets}
use Rattle.audit_file.specs.Written.{IsKeptAudit}
use Rattle.audit_file.specs.declared.entries.Justification.{Justification}
use Rattle.audit_file.specs.declared.entries.Repair.{Repair}

-- what is known of the lists is known of the audit
pub kept_audit : (o : Listed) (a : AuditLists) (js : List Justification) (rs : List Repair) → js ≡ a.justifications
    → rs ≡ a.repairs → IsAscending (justified_sets a.justifications) → IsAscending (repaired_sets a.repairs)
    → All (λ (j : Justification). IsWithin j.set.limit j.set.members) js
    → All (λ (r : Repair). IsWithin r.set.limit r.set.members) rs → All (λ (r : Repair). IsKept o r.model) rs
    → IsKeptAudit o a
kept_audit o a js rs e f up_js up_rs justified repaired models = record {
  ordered = record { justifications = up_js; repairs = up_rs };
  justified = subst (All (λ (j : Justification). IsWithin j.set.limit j.set.members)) e justified;
  repaired = subst (All (λ (r : Repair). IsWithin r.set.limit r.set.members)) f repaired;
  models = subst (All (λ (r : Repair). IsKept o r.model)) f models;
}

module _ {X : Type 0} (xs : List X) (i : ℕ) (x : X) (lt : i < length xs) (is : x ≡ get_or xs i x) where
  next : drop i xs ≡ x ∷ drop (i + 1) xs
  next = drop_more xs i x lt ∙ ap (λ y. y ∷ drop (i + 1) xs) (sym is)

  pub text_more : (f : X → List ℕ) (old now new : List ℕ) → now ++ flat_map f (drop i xs) ≡ old ++ flat_map f xs
      → new ≡ now ++ f x → new ++ flat_map f (drop (i + 1) xs) ≡ old ++ flat_map f xs
  text_more f old now new so_far put =
      ap (λ t. t ++ flat_map f (drop (i + 1) xs)) put ∙ append_assoc now (f x) (flat_map f (drop (i + 1) xs))
      ∙ ap (λ ys. now ++ flat_map f ys) (sym next) ∙ so_far

  pub all_more : (p : X → Bool) → list_all p (drop i xs) ≡ true → list_all p (drop (i + 1) xs) ≡ true
  all_more p h = (and_parts (p x) (list_all p (drop (i + 1) xs)) (sym (ap (list_all p) next) ∙ h)).1

  pub fact_more : (P : X → Type 0) → All P (take i xs) → P x → All P (take (i + 1) xs)
  fact_more P before here = All-more P xs i x lt before (subst P is here)
