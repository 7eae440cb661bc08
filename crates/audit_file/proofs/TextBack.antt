-- The text of an audit is read back whole.
use Rattle.std.proofs.Common.{◌≡◌, ℕ, suc, ◌+◌, ◌-◌, ◌^◌, ◌<◌, ◌≤◌, true, List, [], ◌∷◌, ◌++◌, length, map, drop}
use Rattle.std.proofs.Common.{get_or, Result, Ok, Err, Option, Some, None, refl, ap, sym, ◌∙◌, subst, arith}
use Rattle.std.proofs.Common.{append_assoc, inl, inr}
use Rattle.std.specs.Prelude.{codes, decimal, slice_get, option_map, option_and_then, if◌then◌else◌, nat_le}
use Rattle.std.specs.List.{All, list_all, flat_map}
use Rattle.std.specs.Str.{bytes_eq}
use Rattle.std.specs.Ordering.{is_lt}
use Rattle.std.specs.declared.cmp.Ordering.TheVariants.{Less}
use Rattle.std.proofs.lemmas.Bool.{and_from, cases_eq, le-leb}
use Rattle.std.proofs.lemmas.List.{append-nil, length-append, get_or-map, get_or_append_left, length-map}
use Rattle.std.proofs.lemmas.List.{nil_from_length}
use Rattle.std.proofs.lemmas.Option.{slice_get-get_or}
use Rattle.std.proofs.Math.Seq.{get_or-append_seam}
use Rattle.axiom_sets.specs.Sets.{Limited, IsWithin, member_list, list_cmp}
use Rattle.pinpointing_specs.specs.Order.{IsAscending}
use Rattle.certificate_lines.specs.Lines.{lines, number_in}
use Rattle.certificate_lines.specs.Names.{is_word_byte, AreNames}
use Rattle.certificate_lines.specs.Written.{fed, line_of, is_line}
use Rattle.certificate_lines.proofs.Plain.{plain_words, plain_line, plain_decimal}
use Rattle.certificate_lines.proofs.ReadBack.{number_read}
use Rattle.shq_terms.specs.Listed.{Listed}
use Rattle.finite_model.specs.ModelLists.{ModelLists}
use Rattle.finite_model.specs.ModelText.{model_of}
use Rattle.finite_model.specs.Malformed.{malformed_model_line}
use Rattle.finite_model.specs.Written.{model_text}
use Rattle.finite_model.specs.ReadBack.{IsKept}
use Rattle.finite_model.proofs.Numerals.{elements_read}
use Rattle.finite_model.proofs.TextLines.{class_rows, role_rows, individual_rows, size_row, model_text_same}
use Rattle.finite_model.proofs.TextBack.{model_read_back}
use Rattle.refutation_tree.specs.RefutationLists.{RefutationLists}
use Rattle.refutation_tree.specs.RefutationText.{axiom_set, refutation_of}
use Rattle.refutation_tree.specs.Malformed.{malformed_refutation_line}
use Rattle.refutation_tree.specs.Written.{concept_lines, rule_text, axioms_text, refutation_text}
use Rattle.refutation_tree.specs.ReadBack.{IsWritable}
use Rattle.refutation_tree.proofs.FieldsBack.{numbers_plain}
use Rattle.refutation_tree.proofs.AxiomsBack.{members_again, members_small}
use Rattle.refutation_tree.proofs.TextBack.{refutation_read_back}
use Rattle.audit_file.specs.AuditLists.{AuditLists, justified_sets, repaired_sets, last_justified, last_repaired}
use Rattle.audit_file.specs.AuditLists.{follows, with_justification, with_repair, empty_audit}
use Rattle.audit_file.specs.AuditText.{Ahead, Reads, read_on, line_from, line_read, block_len, block_read, times, fixed}
use Rattle.audit_file.specs.Following.{can_follow}
use Rattle.audit_file.specs.AuditText.{up_to, count_line, count_in, numbers_set, set_line, later_set, set_in}
use Rattle.audit_file.specs.AuditText.{refutation_read}
use Rattle.audit_file.specs.AuditText.{model_read, justification_read, repair_read, justifications_read, repairs_read}
use Rattle.audit_file.specs.AuditText.{closed, audit_in}
use Rattle.audit_file.specs.Written.{set_text, count_text, justification_text, repair_text, justifications_text}
use Rattle.audit_file.specs.Written.{repairs_text, audit_text, IsSetOf, IsWritableAudit, AuditsAreReadBack}
use Rattle.audit_file.specs.declared.entries.Justification.{Justification}
use Rattle.audit_file.specs.declared.entries.Repair.{Repair}
use Rattle.audit_file.proofs.Times.{block_ok}
use Rattle.audit_file.proofs.ListedSets.{list_ascends}
use Rattle.audit_file.proofs.Room.{room_behind, room_of_all, rest_ascends}
use Rattle.audit_file.proofs.Cut.{EndsThere, refutation_ends, model_ends, end_row, rows_long, rows_read, drop_rows}
use Rattle.audit_file.proofs.Joined.{EndsWithEnd, ends_with_end, fed_first}

abbrev at_text : ℕ → List ℕ → Ahead
at_text n t = record { number = n; lines = lines t }

-- the reading of a text in front of another one, up to that one
abbrev ReadsFront : {A : Type 0} → (Ahead → Reads A) → List ℕ → A → Type 0
ReadsFront {A = A} reading text a = (n : ℕ) (t : List ℕ)
    → (m : ℕ) × ◌≡◌ {A = Result (A × Ahead) ℕ} (reading (at_text n (text ++ t))) (Ok (a, at_text m t))

-- ---- a line

line_front : {A : Type 0} (says : List ℕ → Option A) (l : List ℕ) (a : A) → is_line l ≡ true → says l ≡ Some a
    → ReadsFront (line_read says) (fed l) a
line_front {A = A} says l a plain is n t = (
  n + 1,
  ap (line_from says n) (fed_first l t plain)
      ∙ ap (λ (r : Option A). elim r [ None ↦ Err n | Some b ↦ Ok (b, record { number = n + 1; lines = lines t }) ]) is,
)

count_plain : (keyword : List ℕ) (n : ℕ) → list_all is_word_byte keyword ≡ true → n < 2 ^ 32
    → list_all (list_all is_word_byte) (keyword ∷ decimal n ∷ []) ≡ true
count_plain keyword n plain small =
    and_from (list_all is_word_byte keyword) (list_all (list_all is_word_byte) (decimal n ∷ [])) plain
    (and_from (list_all is_word_byte (decimal n)) true (plain_decimal n small) refl)

pub count_back : (keyword : List ℕ) (most n : ℕ) → list_all is_word_byte keyword ≡ true
    → bytes_eq keyword keyword ≡ true → n < 2 ^ 32 → n ≤ most
    → count_in keyword most (line_of keyword (decimal n ∷ [])) ≡ Some n
count_back keyword most n plain same small room =
    ap (count_line keyword most) (plain_words keyword (decimal n ∷ []) (count_plain keyword n plain small))
    ∙ ap (λ b. if b then option_and_then (up_to most) (number_in (decimal n)) else None) same
    ∙ ap (option_and_then (up_to most)) (number_read n small)
    ∙ ap (λ b. if b then Some n else None) (le-leb n most room)

count_front : (keyword : List ℕ) (most n : ℕ) → list_all is_word_byte keyword ≡ true
    → bytes_eq keyword keyword ≡ true → n < 2 ^ 32 → n ≤ most
    → ReadsFront (line_read (count_in keyword most)) (count_text keyword n) n
count_front keyword most n plain same small room =
    line_front (count_in keyword most) (line_of keyword (decimal n ∷ [])) n
    (plain_line keyword (decimal n ∷ []) (count_plain keyword n plain small))
    (count_back keyword most n plain same small room)

-- ---- a set

module _ (s : Limited) (within : IsWithin s.limit s.members) (few : s.limit + 1 < 2 ^ 32) where
  abbrev numbers : List ℕ
  numbers = member_list s

  set_plain : list_all (list_all is_word_byte) (codes "set" ∷ map decimal numbers) ≡ true
  set_plain =
      and_from (list_all is_word_byte (codes "set")) (list_all (list_all is_word_byte) (map decimal numbers)) refl
      (numbers_plain numbers (members_small s within (omega (arith, few))))

  numbers_back : numbers_set s.limit (map decimal numbers) ≡ Some s
  numbers_back =
      ap (option_map (axiom_set s.limit)) (elements_read 1 (s.limit + 1) numbers few (list_ascends s within))
      ∙ ap Some (members_again s within)

  abbrev pub set_row : List ℕ
  set_row = line_of (codes "set") (map decimal numbers)

  pub set_back : (count : ℕ) (before : Option Limited) (more : ℕ) → s.limit ≡ count → follows before s ≡ true
      → more ≤ can_follow count (Some s) → set_in count before more set_row ≡ Some s
  set_back count before more limit after room =
      ap (λ ws. option_and_then (later_set count before more) (set_line count ws))
      (plain_words (codes "set") (map decimal numbers) set_plain)
      ∙ ap (λ n. option_and_then (later_set count before more) (numbers_set n (map decimal numbers))) (sym limit)
      ∙ ap (option_and_then (later_set count before more)) numbers_back
      ∙ ap (λ b. if b then Some s else None)
      (and_from (follows before s) (nat_le more (can_follow count (Some s))) after
      (le-leb more (can_follow count (Some s)) room))

  pub set_front : (count : ℕ) (before : Option Limited) (more : ℕ) → s.limit ≡ count → follows before s ≡ true
      → more ≤ can_follow count (Some s) → ReadsFront (line_read (set_in count before more)) (set_text s) s
  set_front count before more limit after room =
      line_front (set_in count before more) set_row s
      (plain_line (codes "set") (map decimal numbers) set_plain) (set_back count before more limit after room)

-- ---- a block

module _ {K : Type 0} (reading : List (List ℕ) → Option K) (malformed : List (List ℕ) → Option ℕ)
    (ends : EndsThere reading) (text : List ℕ) (ending : EndsWithEnd text) (k : K)
    (is : reading (lines text) ≡ Some k) where
  whole : reading (ending.rows ++ end_row ∷ [] ∷ []) ≡ Some k
  whole = ap reading (sym (ap lines (sym (append-nil text)) ∙ ending.are [])) ∙ is

  block_front : ReadsFront (block_read reading malformed) text k
  block_front n t =
      let rows = ending.rows in
      let ls = rows ++ end_row ∷ lines t in
      let long = rows_long reading ends rows ([] ∷ []) k whole (lines t) in (
        n + block_len ls,
        ap (λ x. block_read reading malformed (record { number = n; lines = x })) (ending.are t)
            ∙ block_ok reading malformed (record { number = n; lines = ls }) k
            (rows_read reading ends rows ([] ∷ []) k whole (lines t))
            ∙ (λ i. Ok
            (k, record { number = n + block_len ls; lines = (ap (λ m. drop m ls) long ∙ drop_rows rows (lines t)) i })),
      )

module _ (o : Listed) (classes : AreNames o.classes) (roles : AreNames o.roles)
    (individuals : AreNames o.individuals) where
  refutation_front : (k : RefutationLists) → IsWritable o k → ReadsFront (refutation_read o) (refutation_text o k) k
  refutation_front k can =
      block_front (refutation_of o) (malformed_refutation_line o) (refutation_ends o) (refutation_text o k)
      (ends_with_end (codes "refutation")
      (axioms_text k.axioms ∷ concept_lines o 1 k.shapes ++ map (rule_text o) k.lines))
      k
      (refutation_read_back o k classes roles can)

  model_front : (k : ModelLists) → IsKept o k → ReadsFront (model_read o) (model_text o k) k
  model_front k kept =
      block_front (model_of o) (malformed_model_line o) (model_ends o) (model_text o k)
      (subst EndsWithEnd (sym (model_text_same o k))
      (ends_with_end (size_row k.size)
      (class_rows 0 o.classes k.members ++ role_rows 0 o.roles k.links
      ++ individual_rows 0 o.individuals k.individuals)))
      k (model_read_back o k classes roles individuals kept)

-- ---- one after another

both : {A B : Type 0} (first : Ahead → Reads A) (second : A → Ahead → Reads B) (x y : List ℕ) (a : A) (b : B)
    → ReadsFront first x a → ReadsFront (second a) y b → ReadsFront (λ at. read_on (first at) second) (x ++ y) b
both {A = A} {B = B} first second x y a b front behind n t =
    let p = front n (y ++ t) in
    let q = behind p.0 t in (
      q.0,
      ap (λ u. read_on (first (at_text n u)) second) (append_assoc x y t) ∙ ap (λ (r : Reads A). read_on r second) p.1
          ∙ q.1,
    )

nothing_more : {A : Type 0} (a b : A) → a ≡ b → ReadsFront (λ at. Ok (a, at)) [] b
nothing_more a b e n t = (n, λ i. Ok (e i, at_text n t))

at_end : {A : Type 0} (reading : Ahead → Reads A) (x : List ℕ) (a : A) → ReadsFront reading (x ++ []) a
    → ReadsFront reading x a
at_end {A = A} reading x a h = subst (λ (u : List ℕ). ReadsFront {A = A} reading u a) (append-nil x) h

-- ---- the order of sets

is_lt_less : (s t : Limited) → list_cmp s t ≡ Less → is_lt (list_cmp s t) ≡ true
is_lt_less s t h = ap is_lt h

module _ {X : Type 0} (set_of : X → Limited) (front : List X) (x : X) (rest : List X)
    (up : IsAscending (map set_of (front ++ x ∷ rest))) where
  abbrev all : List X
  all = front ++ x ∷ rest

  long : length all ≡ length front + suc (length rest)
  long = length-append front (x ∷ rest)

  comes_after : (k : ℕ) → k < length front → list_cmp (set_of (get_or front k x)) (set_of x) ≡ Less
  comes_after k lt =
      let d = set_of x in
      let left : get_or (map set_of all) k d ≡ set_of (get_or front k x) =
      get_or-map set_of all k x d (omega (arith, lt, long)) ∙ ap set_of (get_or_append_left front (x ∷ rest) x k lt) in
      let right : get_or (map set_of all) (length front) d ≡ set_of x =
      get_or-map set_of all (length front) x d (omega (arith, long)) ∙ ap set_of (get_or-append_seam front x rest x) in
      (λ i. list_cmp (sym left i) (sym right i)) ∙ up k (length front) d lt (omega (arith, long, length-map all set_of))

  pub last_before : follows (option_map set_of (slice_get front (length front - 1))) (set_of x) ≡ true
  last_before = elim (cases_eq (length front) 0) [
    | inl none ↦
        ap (λ (xs : List X). follows (option_map set_of (slice_get xs (length xs - 1))) (set_of x))
        (nil_from_length front none)
    | inr some ↦
        let last : length front - 1 < length front = omega (arith, some) in
        ap (λ (r : Option X). follows (option_map set_of r) (set_of x))
        (slice_get-get_or front (length front - 1) x last)
        ∙ is_lt_less (set_of (get_or front (length front - 1) x)) (set_of x) (comes_after (length front - 1) last)
  ]

-- ---- the lists

first_all : {X : Type 0} (P : X → Type 0) (x : X) (xs : List X) → All P (x ∷ xs) → P x
first_all P x xs all = all 0 x (omega arith)

rest_all : {X : Type 0} (P : X → Type 0) (x : X) (xs : List X) → All P (x ∷ xs) → All P xs
rest_all P x xs all k d lt = all (suc k) d (omega (arith, lt))

module _ (o : Listed) (classes : AreNames o.classes) (roles : AreNames o.roles) (individuals : AreNames o.individuals)
    (few : length o.axioms + 1 < 2 ^ 32) where
  set_small : (s : Limited) → IsSetOf o s → s.limit + 1 < 2 ^ 32
  set_small s is = omega (arith, few, is.limit)

  one_justification : (a : AuditLists) (j : Justification) (more : ℕ) → IsSetOf o j.set → IsWritable o j.refutation
      → follows (last_justified a) j.set ≡ true → more ≤ can_follow (length o.axioms) (Some j.set)
      → ReadsFront (justification_read o more a) (justification_text o j) (with_justification j.set j.refutation a)
  one_justification a j more of can after room =
      both (line_read (set_in (length o.axioms) (last_justified a) more))
      (λ s from. read_on (refutation_read o from) (λ r next. Ok (with_justification s r a, next))) (set_text j.set)
      (refutation_text o j.refutation) j.set (with_justification j.set j.refutation a)
      (set_front j.set of.within (set_small j.set of) (length o.axioms) (last_justified a) more of.limit after
      room)
      (at_end (λ from. read_on (refutation_read o from) (λ r next. Ok (with_justification j.set r a, next)))
      (refutation_text o j.refutation) (with_justification j.set j.refutation a)
      (both (refutation_read o) (λ r next. Ok (with_justification j.set r a, next)) (refutation_text o j.refutation) []
      j.refutation (with_justification j.set j.refutation a)
      (refutation_front o classes roles individuals j.refutation can)
      (nothing_more (with_justification j.set j.refutation a) (with_justification j.set j.refutation a) refl)))

  one_repair : (a : AuditLists) (r : Repair) (more : ℕ) → IsSetOf o r.set → IsKept o r.model
      → follows (last_repaired a) r.set ≡ true → more ≤ can_follow (length o.axioms) (Some r.set)
      → ReadsFront (repair_read o more a) (repair_text o r) (with_repair r.set r.model a)
  one_repair a r more of kept after room =
      both (line_read (set_in (length o.axioms) (last_repaired a) more))
      (λ s from. read_on (model_read o from) (λ m next. Ok (with_repair s m a, next))) (set_text r.set)
      (model_text o r.model) r.set (with_repair r.set r.model a)
      (set_front r.set of.within (set_small r.set of) (length o.axioms) (last_repaired a) more of.limit after
      room)
      (at_end (λ from. read_on (model_read o from) (λ m next. Ok (with_repair r.set m a, next))) (model_text o r.model)
      (with_repair r.set r.model a)
      (both (model_read o) (λ m next. Ok (with_repair r.set m a, next)) (model_text o r.model) [] r.model
      (with_repair r.set r.model a) (model_front o classes roles individuals r.model kept)
      (nothing_more (with_repair r.set r.model a) (with_repair r.set r.model a) refl)))

  abbrev justified : List Justification → List Repair → AuditLists
  justified js rs = record { justifications = js; repairs = rs }

  justifications_front : (js front : List Justification) (rs : List Repair) → IsAscending (justified_sets (front ++ js))
      → IsAscending (justified_sets js) → All (λ (j : Justification). IsSetOf o j.set) js
      → All (λ (j : Justification). IsWritable o j.refutation) js
      → ReadsFront (times (justification_read o) (length js) (justified front rs)) (flat_map (justification_text o) js)
      (justified (front ++ js) rs)
  justifications_front [] front rs up own of can =
      nothing_more (justified front rs) (justified (front ++ []) rs)
      (ap (λ (x : List Justification). justified x rs) (sym (append-nil front)))
  justifications_front (j ∷ js) front rs up own of can =
      let shift : (front ++ j ∷ []) ++ js ≡ front ++ j ∷ js = append_assoc front (j ∷ []) js in
      let later =
      justifications_front js (front ++ j ∷ []) rs
      (subst (λ (x : List Justification). IsAscending (justified_sets x)) (sym shift) up)
      (rest_ascends j.set (justified_sets js) own)
      (rest_all (λ (x : Justification). IsSetOf o x.set) j js of)
      (rest_all (λ (x : Justification). IsWritable o x.refutation) j js can) in
      both (justification_read o (length js) (justified front rs)) (times (justification_read o) (length js))
      (justification_text o j) (flat_map (justification_text o) js) (justified (front ++ j ∷ []) rs)
      (justified (front ++ j ∷ js) rs)
      (one_justification (justified front rs) j (length js) (first_all (λ (x : Justification). IsSetOf o x.set) j js of)
      (first_all (λ (x : Justification). IsWritable o x.refutation) j js can)
      (last_before (λ (x : Justification). x.set) front j js up)
      (room_behind (λ (x : Justification). x.set) o j js own of))
      (subst (λ (x : List Justification). ReadsFront
      (times (justification_read o) (length js) (justified (front ++ j ∷ []) rs)) (flat_map (justification_text o) js)
      (justified x rs))
      shift later)

  repairs_front : (rs front : List Repair) (js : List Justification) → IsAscending (repaired_sets (front ++ rs))
      → IsAscending (repaired_sets rs) → All (λ (r : Repair). IsSetOf o r.set) rs → All (λ (r : Repair). IsKept o r.model) rs
      → ReadsFront (times (repair_read o) (length rs) (justified js front)) (flat_map (repair_text o) rs)
      (justified js (front ++ rs))
  repairs_front [] front js up own of kept =
      nothing_more (justified js front) (justified js (front ++ []))
      (ap (λ (x : List Repair). justified js x) (sym (append-nil front)))
  repairs_front (r ∷ rs) front js up own of kept =
      let shift : (front ++ r ∷ []) ++ rs ≡ front ++ r ∷ rs = append_assoc front (r ∷ []) rs in
      let later =
      repairs_front rs (front ++ r ∷ []) js (subst (λ (x : List Repair). IsAscending (repaired_sets x)) (sym shift) up)
      (rest_ascends r.set (repaired_sets rs) own)
      (rest_all (λ (x : Repair). IsSetOf o x.set) r rs of) (rest_all (λ (x : Repair). IsKept o x.model) r rs kept) in
      both (repair_read o (length rs) (justified js front)) (times (repair_read o) (length rs)) (repair_text o r)
      (flat_map (repair_text o) rs) (justified js (front ++ r ∷ [])) (justified js (front ++ r ∷ rs))
      (one_repair (justified js front) r (length rs) (first_all (λ (x : Repair). IsSetOf o x.set) r rs of)
      (first_all (λ (x : Repair). IsKept o x.model) r rs kept) (last_before (λ (x : Repair). x.set) front r rs up)
      (room_behind (λ (x : Repair). x.set) o r rs own of))
      (subst (λ (x : List Repair). ReadsFront (times (repair_read o) (length rs) (justified js (front ++ r ∷ [])))
      (flat_map (repair_text o) rs) (justified js x))
      shift later)

  -- ---- the whole

  module _ (a : AuditLists) (can : IsWritableAudit o a) where
    justifications_back : ReadsFront (justifications_read o empty_audit) (justifications_text o a.justifications)
        (justified a.justifications [])
    justifications_back =
        both (line_read (count_in (codes "justifications") (can_follow (length o.axioms) None)))
        (λ n from. times (justification_read o) n empty_audit from)
        (count_text (codes "justifications") (length a.justifications))
        (flat_map (justification_text o) a.justifications) (length a.justifications) (justified a.justifications [])
        (count_front (codes "justifications") (can_follow (length o.axioms) None) (length a.justifications) refl refl
        can.few_justifications
        (room_of_all (λ (x : Justification). x.set) o a.justifications can.ordered.justifications can.justified))
        (justifications_front a.justifications [] [] can.ordered.justifications can.ordered.justifications can.justified
        can.refutations)

    repairs_back : ReadsFront (repairs_read o (justified a.justifications [])) (repairs_text o a.repairs) a
    repairs_back =
        both (line_read (count_in (codes "repairs") (can_follow (length o.axioms) None)))
        (λ n from. times (repair_read o) n (justified a.justifications []) from)
        (count_text (codes "repairs") (length a.repairs)) (flat_map (repair_text o) a.repairs) (length a.repairs) a
        (count_front (codes "repairs") (can_follow (length o.axioms) None) (length a.repairs) refl refl can.few_repairs
        (room_of_all (λ (x : Repair). x.set) o a.repairs can.ordered.repairs can.repaired))
        (repairs_front a.repairs [] a.justifications can.ordered.repairs can.ordered.repairs can.repaired can.models)

    abbrev last : List ℕ
    last = fed (codes "end audit")

    lasts : (n : ℕ) → closed a (at_text n last) ≡ Ok a
    lasts n = refl

    pub audit_read_back : audit_in o (lines (audit_text o a)) ≡ Ok a
    audit_read_back =
        let js = justifications_text o a.justifications in
        let rs = repairs_text o a.repairs in
        let assoc : fed (codes "audit") ++ js ++ rs ++ last ≡ fed (codes "audit") ++ (js ++ (rs ++ last)) =
        append_assoc (fed (codes "audit") ++ js) rs last ∙ append_assoc (fed (codes "audit")) js (rs ++ last) in
        let head = line_front (fixed (codes "audit")) (codes "audit") tt refl refl 1 (js ++ (rs ++ last)) in
        let first = justifications_back head.0 (rs ++ last) in
        let second = repairs_back first.0 last in
        ap (λ t. audit_in o (lines t)) assoc
        ∙ ap (λ (r : Reads (Unit {0})). read_on r
        (λ u from. read_on (justifications_read o empty_audit from) (λ b next. read_on (repairs_read o b next) closed)))
        head.1
        ∙ ap (λ (r : Reads AuditLists). read_on r (λ b next. read_on (repairs_read o b next) closed)) first.1
        ∙ ap (λ (r : Reads AuditLists). read_on r closed) second.1
        ∙ lasts second.0

pub audits_back : AuditsAreReadBack
audits_back o a classes roles individuals can = audit_read_back o classes roles individuals can.few_axioms a can
