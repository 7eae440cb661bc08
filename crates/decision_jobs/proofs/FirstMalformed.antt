-- The first malformed line of a certificate is that of the text after its verdict, or its first.
use Rattle.std.proofs.Common.{◌≡◌, ◌⊎◌, inl, inr, ℕ, suc, ◌+◌, ◌-◌, ◌<◌, ◌≤◌, Bool, true, false, List, [], ◌∷◌, ◌++◌}
use Rattle.std.proofs.Common.{length, take, drop, Option, Some, None, option_map, Result, Ok, Err, refl, ap, sym, ◌∙◌}
use Rattle.std.proofs.Common.{subst, append_assoc, arith}
use Rattle.std.specs.Prelude.{codes, min, ◌^◌, if◌then◌else◌}
use Rattle.std.specs.Option.{option_and_then}
use Rattle.std.specs.List.{prefix_len}
use Rattle.std.specs.Result.{result_ok}
use Rattle.std.proofs.Math.Nat.{min-eq_left}
use Rattle.std.proofs.lemmas.List.{length-drop, take-append-drop, take-take}
use Rattle.certificate_lines.specs.Lines.{lines, is_blank}
use Rattle.certificate_lines.specs.Malformed.{clamped_line, BeginsText, StopsAfter, IsFirstMalformed, TellsMalformed}
use Rattle.certificate_lines.specs.Body.{after_line, malformed_after_line}
use Rattle.certificate_lines.proofs.FirstMalformed.{line_tells, made_tells}
use Rattle.shq_terms.specs.Listed.{Listed}
use Rattle.finite_model.specs.ModelText.{model_of}
use Rattle.finite_model.specs.Malformed.{malformed_model_line}
use Rattle.finite_model.proofs.FirstLine.{model_tells}
use Rattle.refutation_tree.specs.RefutationText.{refutation_of}
use Rattle.refutation_tree.specs.Malformed.{malformed_refutation_line}
use Rattle.refutation_tree.proofs.FirstLine.{refutation_tells}
use Rattle.decision_jobs.specs.Certificates.{certificate_lines, is_model_verdict, is_refutation_verdict, or_no_line}
use Rattle.decision_jobs.specs.Certificates.{model_after, refutation_after, certificate_in, certificate}
use Rattle.decision_jobs.specs.Malformed.{certificate_read}
use Rattle.decision_jobs.proofs.Blanks.{few_lines}
use Rattle.decision_jobs.specs.declared.certificate.Certificate.{Certificate}
use Rattle.decision_jobs.specs.declared.certificate.Certificate.TheVariants.{Model, Refutation}

-- ---- a verdict, and the text after it

-- whether a model follows, or a refutation, by two tests of the line
abbrev kind : Bool → Bool → Option Bool
kind m r = if m then Some true else if r then Some false else None

abbrev verdict_in : List ℕ → Option Bool
verdict_in l = kind (is_model_verdict l) (is_refutation_verdict l)

abbrev text_after : Listed → Bool → List (List ℕ) → Option Certificate
text_after o true ls = option_map Model (model_of o ls)
text_after o false ls = option_map Refutation (refutation_of o ls)

abbrev malformed_after : Listed → Bool → List (List ℕ) → Option ℕ
malformed_after o true ls = malformed_model_line o ls
malformed_after o false ls = malformed_refutation_line o ls

some_certificate : (o : Listed) → BeginsText (after_line verdict_in (text_after o)) []
some_certificate o = (
  codes "satisfiable" ∷ codes "model 1" ∷ codes "end" ∷ [],
  Model (record { size = 1; members = []; links = []; individuals = [] }),
  refl,
)

after_tells : (o : Listed) (k : Bool) → TellsMalformed 2 (text_after o k) (malformed_after o k)
after_tells o true = made_tells Model (model_of o) 2 (malformed_model_line o) (model_tells o)
after_tells o false = made_tells Refutation (refutation_of o) 2 (malformed_refutation_line o) (refutation_tells o)

certificate_tells : (o : Listed)
    → TellsMalformed 1 (after_line verdict_in (text_after o)) (malformed_after_line 1 verdict_in (malformed_after o))
certificate_tells o = line_tells verdict_in (text_after o) (malformed_after o) 1 (some_certificate o) (after_tells o)

-- ---- the same as one result

module _ {K : Type 0} (made : K → Certificate) where
  abbrev given : Option ℕ → Option K → Result Certificate ℕ
  given malformed read =
      elim read [ None ↦ Err (or_no_line (option_map clamped_line malformed)) | Some k ↦ Ok (made k) ]

  read_made : (malformed : Option ℕ) (r : Option K) → result_ok (given malformed r) ≡ option_map made r
  read_made malformed None = refl
  read_made malformed (Some k) = refl

  number_given : (reading : List (List ℕ) → Option K) (malformed : List (List ℕ) → Option ℕ)
      → TellsMalformed 2 reading malformed → (ls : List (List ℕ)) (n : ℕ) → length ls ≤ 4294967293
      → given (malformed ls) (reading ls) ≡ Err n → malformed ls ≡ Some n
  number_given reading malformed tells ls n few is = by (malformed ls) refl
    where
      by : (m : Option ℕ) → malformed ls ≡ m → malformed ls ≡ Some n
      by None none =
          let text = tells.unless ls none in
          let found : ◌≡◌ {A = Result Certificate ℕ} (Ok (made text.0)) (Err n) =
          sym (ap (given (malformed ls)) text.1) ∙ is in
          absurd (cc found)
      by (Some m) some =
          let first = tells.is_first ls m some in
          let within = first.2.within in
          let same : min m (2 ^ 32 - 1) ≡ m = min-eq_left (omega (arith, first.1, within, few)) in
          let number : ◌≡◌ {A = Result Certificate ℕ} (Err (min m (2 ^ 32 - 1))) (Err n) =
          sym (ap (given (malformed ls)) first.2.no_text ∙ ap (λ (k : Option ℕ). given k None) some) ∙ is in
          let counted : min m (2 ^ 32 - 1) ≡ n = cc number in
          some ∙ ap Some (sym same ∙ counted)

module _ (o : Listed) (ls : List (List ℕ)) where
  abbrev picked : Bool → Bool → Result Certificate ℕ
  picked m r = if m then model_after o ls else if r then refutation_after o ls else Err 1

  picked_read : (m r : Bool) → result_ok (picked m r) ≡ option_and_then (λ k. text_after o k ls) (kind m r)
  picked_read true r = read_made Model _ (model_of o ls)
  picked_read false true = read_made Refutation _ (refutation_of o ls)
  picked_read false false = refl

  picked_number : (n : ℕ) (m r : Bool) → length ls ≤ 4294967293 → picked m r ≡ Err n
      → elim (kind m r) [ None ↦ Some 1 | Some k ↦ malformed_after o k ls ] ≡ Some n
  picked_number n true r few is = number_given Model (model_of o) (malformed_model_line o) (model_tells o) ls n few is
  picked_number n false true few is =
      number_given Refutation (refutation_of o) (malformed_refutation_line o) (refutation_tells o) ls n few is
  picked_number n false false few is = let one : 1 ≡ n = cc is in ap Some one

same_read : (o : Listed) (ls : List (List ℕ)) → after_line verdict_in (text_after o) ls ≡ certificate_read o ls
same_read o [] = refl
same_read o (l ∷ ls) = sym (picked_read o ls (is_model_verdict l) (is_refutation_verdict l))

same_number : (o : Listed) (ls : List (List ℕ)) (n : ℕ) → length ls ≤ 4294967294 → certificate_in o ls ≡ Err n
    → malformed_after_line 1 verdict_in (malformed_after o) ls ≡ Some n
same_number o [] n few is = let one : 1 ≡ n = cc is in ap Some one
same_number o (l ∷ ls) n few is =
    picked_number o ls n (is_model_verdict l) (is_refutation_verdict l) (omega (arith, few)) is

pub malformed_is_first : (o : Listed) (text : List ℕ) (n : ℕ) → length text ≤ 4294967293 → certificate o text ≡ Err n
    → IsFirstMalformed 1 (certificate_read o) (certificate_lines text) n
malformed_is_first o text n short is =
    let ls = certificate_lines text in
    let few : length ls ≤ 4294967294 =
    omega (arith, short, few_lines text, length-drop (prefix_len is_blank (lines text)) (lines text)) in
    let same : after_line verdict_in (text_after o) ≡ certificate_read o = λ i l. same_read o l i in
    subst (λ (reading : List (List ℕ) → Option Certificate). IsFirstMalformed 1 reading ls n) same
    ((certificate_tells o).is_first ls n (same_number o ls n few is))

-- ---- one line is the first

front_of : (j k : ℕ) (lines : List (List ℕ)) → suc j ≤ k
    → take k lines ≡ take (suc j) lines ++ drop (suc j) (take k lines)
front_of j k lines less =
    sym (take-append-drop (suc j) (take k lines))
    ∙ ap (λ l. l ++ drop (suc j) (take k lines)) (take-take (suc j) k lines less)

-- no text that stops after some lines begins with more of them
stops_once : {K : Type 0} (reading : List (List ℕ) → Option K) (lines : List (List ℕ)) (j k : ℕ) → j < k
    → StopsAfter reading lines j → StopsAfter reading lines k → ⊥
stops_once reading lines j k less first second =
    let begins = second.begins in
    let front = front_of j k lines (omega (arith, less)) in
    let more = drop (suc j) (take k lines) in
    let whole : take k lines ++ begins.0 ≡ take (suc j) lines ++ (more ++ begins.0) =
    ap (λ l. l ++ begins.0) front ∙ append_assoc (take (suc j) lines) more begins.0 in
    let within = second.within in
    first.stops (omega (arith, less, within)) (more ++ begins.0, begins.1, ap reading (sym whole) ∙ begins.2)

pub first_is_one : {K : Type 0} (first : ℕ) (reading : List (List ℕ) → Option K) (lines : List (List ℕ)) (m n : ℕ)
    → IsFirstMalformed first reading lines m → IsFirstMalformed first reading lines n → m ≡ n
first_is_one first reading lines m n (j, is, a) (k, are, b) =
    elim (order j k) [
      | inl less ↦ absurd (stops_once reading lines j k less a b)
      | inr (inl more) ↦ absurd (stops_once reading lines k j more b a)
      | inr (inr same) ↦ is ∙ ap (λ i. first + i) same ∙ sym are
    ]
  where
    order : (j k : ℕ) → (j < k) ⊎ ((k < j) ⊎ (j ≡ k))
    order j k = grind arith

-- a text that has a malformed line is no certificate
pub malformed_is_none : (o : Listed) (text : List ℕ) (n : ℕ) (c : Certificate)
    → IsFirstMalformed 1 (certificate_read o) (certificate_lines text) n → certificate o text ≡ Ok c → ⊥
malformed_is_none o text n c (k, is, stops) found =
    let clash : None ≡ Some c = sym stops.no_text ∙ ap result_ok found in absurd (cc clash)
