-- What is known of an audit that was read.
use Rattle.std.proofs.Common.{◌≡◌, ℕ, zero, suc, ◌+◌, ◌^◌, ◌<◌, ◌≤◌, List, [], ◌∷◌, length, Result, Ok, Err, Option}
use Rattle.std.proofs.Common.{Some, None, true, refl, ap, sym, ◌∙◌, subst, arith}
use Rattle.std.specs.Prelude.{codes, option_map, nat_le, ◌&&◌}
use Rattle.std.specs.Result.{result_map_both}
use Rattle.std.specs.List.{All}
use Rattle.std.specs.Str.{bytes_eq}
use Rattle.std.proofs.lemmas.Bool.{and_parts, leb-true}
use Rattle.std.proofs.lemmas.List.{length-take, length-drop}
use Rattle.std.proofs.lemmas.List.Elements.{All-push}
use Rattle.axiom_sets.specs.Sets.{Limited}
use Rattle.certificate_lines.specs.Lines.{words}
use Rattle.shq_terms.specs.Listed.{Listed}
use Rattle.finite_model.specs.ModelText.{elements_from, model_of}
use Rattle.finite_model.specs.Malformed.{malformed_model_line}
use Rattle.refutation_tree.specs.RefutationLists.{RefutationLists}
use Rattle.refutation_tree.specs.RefutationText.{axiom_set, refutation_body, begun, axioms_in, axioms_from, head_in}
use Rattle.refutation_tree.specs.RefutationText.{refutation_of}
use Rattle.refutation_tree.specs.Malformed.{malformed_refutation_line}
use Rattle.refutation_tree.proofs.Writable.{and_then_some, when_some, read_is_writable}
use Rattle.refutation_tree.proofs.Lengths.{body_adds}
use Rattle.audit_file.specs.AuditLists.{AuditLists, last_justified, last_repaired, follows, with_justification}
use Rattle.audit_file.specs.AuditLists.{with_repair, empty_audit}
use Rattle.audit_file.specs.AuditText.{Ahead, Reads, read_on, line_from, line_read, block_len, block, behind_block}
use Rattle.audit_file.specs.AuditText.{line_of_block, block_read, times, fixed, count_in, numbers_set, set_line}
use Rattle.audit_file.specs.AuditText.{later_set, set_in, refutation_read, model_read, justification_read, repair_read}
use Rattle.audit_file.specs.AuditText.{counted_read, justifications_read, repairs_read, end_read, closed, audit_read}
use Rattle.audit_file.specs.AuditText.{audit_in}
use Rattle.audit_file.specs.Following.{can_follow}
use Rattle.audit_file.specs.Fitting.{IsFitting, IsOfAxioms, Fits}
use Rattle.audit_file.specs.declared.entries.Justification.{Justification}
use Rattle.audit_file.specs.declared.entries.Repair.{Repair}

-- ---- from a whole reading to its parts

pub on_ok : {A B : Type 0} (r : Reads A) (f : A → Ahead → Result B ℕ) (y : B) → read_on r f ≡ Ok y
    → (p : A × Ahead) × (r ≡ Ok p) × (f p.0 p.1 ≡ Ok y)
on_ok (Ok p) f y h = (p, refl, h)
on_ok (Err n) f y h = cc

-- the line that was read
pub record ReadsLine {A : Type 0} (says : List ℕ → Option A) (at : Ahead) (a : A) (next : Ahead) : Type 0 where
  pub line : List ℕ
  pub front : at.lines ≡ line ∷ next.lines
  pub later : next.number ≡ at.number + 1
  pub is : says line ≡ Some a

pub line_ok : {A : Type 0} (says : List ℕ → Option A) (at : Ahead) (a : A) (next : Ahead)
    → line_read says at ≡ Ok (a, next) → ReadsLine says at a next
line_ok {A = A} says at a next h = by at.lines refl h
  where
    by : (ls : List (List ℕ)) → at.lines ≡ ls → line_from says at.number ls ≡ Ok (a, next) → ReadsLine says at a next
    by [] is g = cc
    by (l ∷ ls) is g = told (says l) refl g
      where
        told : (r : Option A) → says l ≡ r
            → ◌≡◌ {A = Result (A × Ahead) ℕ}
            (elim r [ None ↦ Err at.number | Some b ↦ Ok (b, record { number = at.number + 1; lines = ls }) ])
            (Ok (a, next))
            → ReadsLine says at a next
        told None of k = cc
        told (Some b) of k =
            let same : ◌≡◌ {A = A × Ahead} (b, record { number = at.number + 1; lines = ls }) (a, next) = cc k in
            record {
              line = l;
              front = is ∙ ap (λ p. l ∷ p.1.lines) same;
              later = ap (λ p. p.1.number) (sym same);
              is = of ∙ ap (λ p. Some p.0) same;
            }

-- the block that was read
pub block_of : {K : Type 0} (stands_for : List (List ℕ) → Option K) (malformed : List (List ℕ) → Option ℕ) (at : Ahead)
    (k : K) (next : Ahead)
    → block_read stands_for malformed at ≡ Ok (k, next)
    → (stands_for (block at.lines) ≡ Some k) × (next ≡ behind_block at)
block_of {K = K} stands_for malformed at k next h = by (stands_for (block at.lines)) refl h
  where
    by : (r : Option K) → stands_for (block at.lines) ≡ r
        → ◌≡◌ {A = Result (K × Ahead) ℕ}
        (elim r
        [ None ↦ Err (line_of_block at.number (malformed (block at.lines))) | Some j ↦ Ok (j, behind_block at) ])
        (Ok (k, next))
        → (stands_for (block at.lines) ≡ Some k) × (next ≡ behind_block at)
    by None is g = cc
    by (Some j) is g =
        let same : ◌≡◌ {A = K × Ahead} (j, behind_block at) (k, next) = cc g in
        (is ∙ ap (λ p. Some p.0) same, ap (λ p. p.1) (sym same))

-- what each of them keeps, all keep
pub times_keeps : {A : Type 0} (step : ℕ → A → Ahead → Reads A) (P : A → Ahead → Type 0)
    → ((k : ℕ) (a : A) (at : Ahead) (b : A) (next : Ahead) → step k a at ≡ Ok (b, next) → P a at → P b next)
    → (n : ℕ) (a : A) (at : Ahead) (b : A) (next : Ahead) → times step n a at ≡ Ok (b, next) → P a at → P b next
times_keeps {A = A} step P keeps zero a at b next h p =
    let same : ◌≡◌ {A = A × Ahead} (a, at) (b, next) = cc h in subst (λ x. P x.0 x.1) same p
times_keeps {A = A} step P keeps (suc n) a at b next h p =
    let first = on_ok (step n a at) (times step n) (b, next) h in
    times_keeps step P keeps n first.0.0 first.0.1 b next first.2 (keeps n a at first.0.0 first.0.1 first.1 p)

mapped : (r : Result (Unit {0}) ℕ) (a b : AuditLists) → result_map_both (λ u. a) (λ n. n) r ≡ Ok b → a ≡ b
mapped (Ok u) a b h = cc h
mapped (Err n) a b h = cc

-- ---- sets

numbers_limit : (count : ℕ) (r : Option (List ℕ)) (s : Limited) → option_map (axiom_set count) r ≡ Some s
    → s.limit ≡ count
numbers_limit count None s h = cc
numbers_limit count (Some ns) s h = let same : axiom_set count ns ≡ s = cc h in ap (λ (x : Limited). x.limit) (sym same)

line_limit : (count : ℕ) (ws : List (List ℕ)) (s : Limited) → set_line count ws ≡ Some s → s.limit ≡ count
line_limit count [] s h = cc
line_limit count (k ∷ ws) s h =
    numbers_limit count (elements_from 1 (count + 1) ws) s
    (when_some (bytes_eq k (codes "set")) (numbers_set count ws) s h).1

-- the set of a line, which comes after the one before it, and after which so many more can come
pub record IsSetRead (count : ℕ) (before : Option Limited) (more : ℕ) (l : List ℕ) (s : Limited) : Type 0 where
  pub says : set_line count (words l) ≡ Some s
  pub limit : s.limit ≡ count
  pub after : follows before s ≡ true
  pub room : more ≤ can_follow count (Some s)

pub set_read : (count : ℕ) (before : Option Limited) (more : ℕ) (l : List ℕ) (s : Limited)
    → set_in count before more l ≡ Some s → IsSetRead count before more l s
set_read count before more l s h =
    let t = and_then_some (later_set count before more) (set_line count (words l)) s h in
    let passes =
    when_some (follows before t.0 && nat_le more (can_follow count (Some t.0))) (Some t.0) s t.2 in
    let same : t.0 ≡ s = cc passes.1 in
    let parts = and_parts (follows before t.0) (nat_le more (can_follow count (Some t.0))) passes.0 in
    subst (IsSetRead count before more l) same
    (record {
      says = t.1;
      limit = line_limit count (words l) t.0 t.1;
      after = parts.0;
      room = leb-true more (can_follow count (Some t.0)) parts.1;
    })

-- ---- refutations

axioms_add : (o : Listed) (ls : List (List ℕ)) (k : RefutationLists) → axioms_from o ls ≡ Some k
    → length k.lines ≤ length ls
axioms_add o [] k h = cc
axioms_add o (l ∷ ls) k h =
    let a = and_then_some (λ b. refutation_body o (begun b) ls) (axioms_in o l) k h in
    let more = body_adds o (begun a.0) k ls a.2 in
    omega (arith, more)

refutation_adds : (o : Listed) (ls : List (List ℕ)) (k : RefutationLists) → refutation_of o ls ≡ Some k
    → length k.lines ≤ length ls
refutation_adds o [] k h = cc
refutation_adds o (l ∷ ls) k h =
    let head = and_then_some (λ u. axioms_from o ls) (head_in l) k h in
    let more = axioms_add o ls k head.2 in
    omega (arith, more)

-- ---- the whole

module _ (o : Listed) (few : length o.axioms < 2 ^ 32) (most : ℕ) where
  -- what was read fits, and no more lines are ahead than there were
  record Going (a : AuditLists) (at : Ahead) : Type 0 where
    fits : Fits o most a
    short : length at.lines ≤ most

  shorter : (at next : Ahead) (l : List ℕ) → at.lines ≡ l ∷ next.lines → length at.lines ≤ most
      → length next.lines ≤ most
  shorter at next l front short =
      let e : length at.lines ≡ suc (length next.lines) = ap length front in omega (arith, e, short)

  behind : (at : Ahead) → length at.lines ≤ most → length (behind_block at).lines ≤ most
  behind at short = omega (arith, short, length-drop (block_len at.lines) at.lines)

  one_justification : (more : ℕ) (a : AuditLists) (at : Ahead) (b : AuditLists) (next : Ahead)
      → justification_read o more a at ≡ Ok (b, next) → Going a at → Going b next
  one_justification more a at b next h going =
      let set =
      on_ok (line_read (set_in (length o.axioms) (last_justified a) more) at)
      (λ s from. read_on (refutation_read o from) (λ r after. Ok (with_justification s r a, after))) (b, next) h in
      let line = line_ok (set_in (length o.axioms) (last_justified a) more) at set.0.0 set.0.1 set.1 in
      let short = shorter at set.0.1 line.line line.front going.short in
      let read =
      on_ok (refutation_read o set.0.1) (λ r after. Ok (with_justification set.0.0 r a, after)) (b, next) set.2 in
      let of = block_of (refutation_of o) (malformed_refutation_line o) set.0.1 read.0.0 read.0.1 read.1 in
      let same : ◌≡◌ {A = AuditLists × Ahead} (with_justification set.0.0 read.0.0 a, read.0.1) (b, next) = cc read.2 in
      let long = refutation_adds o (block set.0.1.lines) read.0.0 of.0 in
      let fitting : IsFitting o most read.0.0 = record {
        writable = read_is_writable o (block set.0.1.lines) read.0.0 few of.0;
        lines =
            omega (arith, long, going.short, ap length line.front, length-take (block_len set.0.1.lines) set.0.1.lines);
      } in
      let j : Justification = record { set = set.0.0; refutation = read.0.0 } in
      subst (λ p. Going p.0 p.1) same
      (record {
        fits = record {
          justified =
              All-push (λ (x : Justification). IsOfAxioms o x.set) a.justifications j going.fits.justified
              (set_read (length o.axioms) (last_justified a) more line.line set.0.0 line.is).limit;
          refutations =
              All-push (λ (x : Justification). IsFitting o most x.refutation) a.justifications j going.fits.refutations
              fitting;
          repaired = going.fits.repaired;
        };
        short = subst (λ (n : Ahead). length n.lines ≤ most) (sym of.1) (behind set.0.1 short);
      })

  one_repair : (more : ℕ) (a : AuditLists) (at : Ahead) (b : AuditLists) (next : Ahead)
      → repair_read o more a at ≡ Ok (b, next) → Going a at → Going b next
  one_repair more a at b next h going =
      let set =
      on_ok (line_read (set_in (length o.axioms) (last_repaired a) more) at)
      (λ s from. read_on (model_read o from) (λ m after. Ok (with_repair s m a, after))) (b, next) h in
      let line = line_ok (set_in (length o.axioms) (last_repaired a) more) at set.0.0 set.0.1 set.1 in
      let short = shorter at set.0.1 line.line line.front going.short in
      let read = on_ok (model_read o set.0.1) (λ m after. Ok (with_repair set.0.0 m a, after)) (b, next) set.2 in
      let of = block_of (model_of o) (malformed_model_line o) set.0.1 read.0.0 read.0.1 read.1 in
      let same : ◌≡◌ {A = AuditLists × Ahead} (with_repair set.0.0 read.0.0 a, read.0.1) (b, next) = cc read.2 in
      let r : Repair = record { set = set.0.0; model = read.0.0 } in
      subst (λ p. Going p.0 p.1) same
      (record {
        fits = record {
          justified = going.fits.justified;
          refutations = going.fits.refutations;
          repaired =
              All-push (λ (x : Repair). IsOfAxioms o x.set) a.repairs r going.fits.repaired
              (set_read (length o.axioms) (last_repaired a) more line.line set.0.0 line.is).limit;
        };
        short = subst (λ (n : Ahead). length n.lines ≤ most) (sym of.1) (behind set.0.1 short);
      })

  counted : (keyword : List ℕ) (top : ℕ) (step : ℕ → AuditLists → Ahead → Reads AuditLists)
      → ((k : ℕ) (a : AuditLists) (at : Ahead) (b : AuditLists) (next : Ahead) → step k a at ≡ Ok (b, next)
      → Going a at → Going b next)
      → (a : AuditLists) (at : Ahead) (b : AuditLists) (next : Ahead)
      → counted_read keyword top step a at ≡ Ok (b, next) → Going a at → Going b next
  counted keyword top step keeps a at b next h going =
      let count = on_ok (line_read (count_in keyword top) at) (λ n from. times step n a from) (b, next) h in
      let line = line_ok (count_in keyword top) at count.0.0 count.0.1 count.1 in
      times_keeps step Going keeps count.0.0 a count.0.1 b next count.2
      (record { fits = going.fits; short = shorter at count.0.1 line.line line.front going.short })

  whole_fits : (a : AuditLists) (at : Ahead) (b : AuditLists) → audit_read o a at ≡ Ok b → Going a at → Fits o most b
  whole_fits a at b h going =
      let begins =
      on_ok (line_read (fixed (codes "audit")) at)
      (λ u first. read_on (justifications_read o a first) (λ c second. read_on (repairs_read o c second) closed)) b h in
      let line = line_ok (fixed (codes "audit")) at begins.0.0 begins.0.1 begins.1 in
      let js =
      on_ok (justifications_read o a begins.0.1) (λ c second. read_on (repairs_read o c second) closed) b begins.2 in
      let rs = on_ok (repairs_read o js.0.0 js.0.1) closed b js.2 in
      let after =
      counted (codes "justifications") (can_follow (length o.axioms) (last_justified a)) (justification_read o)
      one_justification a begins.0.1 js.0.0 js.0.1 js.1
      (record { fits = going.fits; short = shorter at begins.0.1 line.line line.front going.short }) in
      let last =
      counted (codes "repairs") (can_follow (length o.axioms) (last_repaired js.0.0)) (repair_read o) one_repair js.0.0
      js.0.1 rs.0.0 rs.0.1 rs.1 after in
      subst (Fits o most) (mapped (end_read rs.0.1) rs.0.0 b rs.2) last.fits

none : {A : Type 0} (P : A → Type 0) → All P []
none P k d lt = absurd (omega (arith, lt))

pub audit_fits : (o : Listed) → length o.axioms < 2 ^ 32 → (ls : List (List ℕ)) (a : AuditLists) → audit_in o ls ≡ Ok a
    → Fits o (length ls) a
audit_fits o few ls a h = whole_fits o few (length ls) empty_audit (record { number = 1; lines = ls }) a h (record {
  fits = record {
    justified = none (λ (j : Justification). IsOfAxioms o j.set);
    refutations = none (λ (j : Justification). IsFitting o (length ls) j.refutation);
    repaired = none (λ (r : Repair). IsOfAxioms o r.set);
  };
  short = omega arith;
})
