-- Readings one after another.
use Rattle.std.proofs.Common.{◌≡◌, ℕ, suc, ◌+◌, ◌-◌, ◌≤◌, ◌<◌, List, Result, Ok, Err, Option, Some, None, ap, sym, ◌∙◌}
use Rattle.std.proofs.Common.{subst, arith, inl, inr}
use Rattle.std.specs.Prelude.{option_map, ◌^◌, OnOk, IfOk}
use Rattle.std.specs.Result.{result_map_both}
use Rattle.std.proofs.lemmas.Bool.{cases_lt}
use Rattle.std.proofs.Math.Nat.{min-eq_left, min_comm}
use Rattle.certificate_lines.specs.Malformed.{clamped_line, IsFaultOf, IsFaultOfLine}
use Rattle.certificate_lines.specs.declared.fault.LineFault.{LineFault}
use Rattle.certificate_lines.specs.declared.fault.LineFault.TheVariants.{Malformed, NoMemory}
use Rattle.audit_file.specs.AuditText.{Ahead, Reads, read_on, times, block, behind_block, line_of_block, block_read}
use Rattle.audit_file.specs.AuditText.{line_read, count_in, counted_read, told, IsShifted, IsFaultBy}
use Rattle.axiom_sets.specs.Sets.{Limited}
use Rattle.audit_file.specs.AuditLists.{AuditLists}
use Rattle.audit_file.specs.Following.{can_follow}

-- a fault stays one when another reading would have followed
pub fault_before : {A B : Type 0} (r : Reads A) (f : A → Ahead → Result B ℕ) (e : LineFault) → IsFaultBy r e
    → IsFaultBy (read_on r f) e
fault_before (Ok p) f NoMemory h = tt
fault_before (Err n) f NoMemory h = tt
fault_before (Ok p) f (Malformed m) h = let clash : ◌≡◌ {A = Option ℕ} None (Some m) = h in absurd (cc clash)
fault_before (Err n) f (Malformed m) h = h

-- and a fault of what follows is one of the whole
pub fault_after : {A B : Type 0} (r : Reads A) (f : A → Ahead → Result B ℕ) (a : A) (at : Ahead) (e : LineFault)
    → r ≡ Ok (a, at) → IsFaultBy (f a at) e → IsFaultBy (read_on r f) e
fault_after r f a at e is h = subst (λ (x : Result _ ℕ). IsFaultBy x e) (sym (ap (λ (x : Reads _). read_on x f) is)) h

pub times_step : {A : Type 0} (step : ℕ → A → Ahead → Reads A) (m n : ℕ) (a : A) (at : Ahead) (b : A) (next : Ahead)
    → m ≡ suc n → step n a at ≡ Ok (b, next) → times step m a at ≡ times step n b next
times_step step m n a at b next e is = ap (λ k. times step k a at) e ∙ ap (λ (r : Reads _). read_on r (times step n)) is

pub times_end : {A : Type 0} (step : ℕ → A → Ahead → Reads A) (m : ℕ) (a : A) (at : Ahead) → m ≡ 0
    → times step m a at ≡ Ok (a, at)
times_end step m a at e = ap (λ k. times step k a at) e

pub times_fault : {A : Type 0} (step : ℕ → A → Ahead → Reads A) (m n : ℕ) (a : A) (at : Ahead) (e : LineFault)
    → m ≡ suc n → IsFaultBy (step n a at) e → IsFaultBy (times step m a at) e
times_fault step m n a at e is h =
    subst (λ k. IsFaultBy (times step k a at) e) (sym is) (fault_before (step n a at) (times step n) e h)

-- how many can follow is told of the count of axioms and the set before
pub count_of : (keyword : List ℕ) (n m : ℕ) (b d : Option Limited) (at first : Ahead) (c : ℕ) → n ≡ m → b ≡ d
    → line_read (count_in keyword (can_follow n b)) at ≡ Ok (c, first)
    → line_read (count_in keyword (can_follow m d)) at ≡ Ok (c, first)
count_of keyword n m b d at first c same before is =
    subst (λ (e : Option Limited). line_read (count_in keyword (can_follow m e)) at ≡ Ok (c, first)) before
    (subst (λ (k : ℕ). line_read (count_in keyword (can_follow k b)) at ≡ Ok (c, first)) same is)

-- a fault of the one that comes next
pub counted_fault : (keyword : List ℕ) (most : ℕ) (step : ℕ → AuditLists → Ahead → Reads AuditLists) (a : AuditLists)
    (at first : Ahead) (n k : ℕ) (b : AuditLists) (next : Ahead) (e : LineFault)
    → line_read (count_in keyword most) at ≡ Ok (n, first)
    → times step (n - k) b next ≡ times step n a first → k < n → IsFaultBy (step (n - (k + 1)) b next) e
    → IsFaultBy (counted_read keyword most step a at) e
counted_fault keyword most step a at first n k b next e counts same less h =
    let more : n - k ≡ suc (n - (k + 1)) = omega (arith, less) in
    let here : IsFaultBy (times step n a first) e =
    subst (λ (r : Reads AuditLists). IsFaultBy r e) same (times_fault step (n - k) (n - (k + 1)) b next e more h) in
    fault_after (line_read (count_in keyword most) at) (λ m from. times step m a from) n first e counts here

-- ---- what becomes of a whole reading

pub whole_ok : (r : Result AuditLists ℕ) (a : AuditLists) (end : Result (Unit {0}) LineFault)
    (out : Result AuditLists LineFault)
    → out ≡ result_map_both (λ u. a) (λ e. e) end → OnOk end (r ≡ Ok a) → IfOk out (λ b. r ≡ Ok b)
whole_ok r a (Ok u) out is h = subst (λ (x : Result AuditLists LineFault). IfOk x (λ b. r ≡ Ok b)) (sym is) h
whole_ok r a (Err e) out is h = subst (λ (x : Result AuditLists LineFault). IfOk x (λ b. r ≡ Ok b)) (sym is) tt

-- ---- a fault of a block

clamp_low : (n : ℕ) → n ≤ 2 ^ 32 - 1 → clamped_line n ≡ n
clamp_low n le = min-eq_left le

clamp_high : (n : ℕ) → 2 ^ 32 - 1 ≤ n → clamped_line n ≡ 2 ^ 32 - 1
clamp_high n le = min_comm n (2 ^ 32 - 1) ∙ min-eq_left le

clamp_twice : (first p : ℕ) → 2 ≤ first → clamped_line (first + clamped_line p - 2) ≡ clamped_line (first + p - 2)
clamp_twice first p low = elim (cases_lt p (2 ^ 32 - 1)) [
  | inl less ↦ ap (λ n. clamped_line (first + n - 2)) (clamp_low p (omega (arith, less)))
  | inr more ↦
      let high : clamped_line p ≡ 2 ^ 32 - 1 = clamp_high p more in
      clamp_high (first + clamped_line p - 2) (omega (arith, high, low))
      ∙ sym (clamp_high (first + p - 2) (omega (arith, more, low)))
]

module _ {K : Type 0} (stands_for : List (List ℕ) → Option K) (malformed : List (List ℕ) → Option ℕ) (at : Ahead) where
  read_as : (r : Option K) → stands_for (block at.lines) ≡ r
      → block_read stands_for malformed at
      ≡ elim r [ None ↦ Err (line_of_block at.number (malformed (block at.lines))) | Some k ↦ Ok (k, behind_block at) ]
  read_as r is =
      ap (λ (s : Option K). elim s
      [ None ↦ Err (line_of_block at.number (malformed (block at.lines))) | Some k ↦ Ok (k, behind_block at) ])
      is

  pub block_ok : (k : K) → stands_for (block at.lines) ≡ Some k
      → block_read stands_for malformed at ≡ Ok (k, behind_block at)
  block_ok k is = read_as (Some k) is

  pub block_none : stands_for (block at.lines) ≡ None
      → block_read stands_for malformed at ≡ Err (line_of_block at.number (malformed (block at.lines)))
  block_none is = read_as None is

  shifted : (m : Option ℕ) (n line : ℕ) → 2 ≤ at.number → option_map clamped_line m ≡ Some n
      → line ≡ clamped_line (at.number + n - 2) → clamped_line (line_of_block at.number m) ≡ line
  shifted None n line low is line_is = let clash : ◌≡◌ {A = Option ℕ} None (Some n) = is in absurd (cc clash)
  shifted (Some p) n line low is line_is =
      let same : clamped_line p ≡ n = cc is in
      sym (clamp_twice at.number p low) ∙ ap (λ k. clamped_line (at.number + k - 2)) same ∙ sym line_is

  pub block_fault : (e f : LineFault) → 2 ≤ at.number → IsFaultOf (stands_for (block at.lines)) e
      → IsFaultOfLine (malformed (block at.lines)) e → IsShifted at.number e f
      → IsFaultBy (block_read stands_for malformed at) f
  block_fault NoMemory NoMemory low none line is = tt
  block_fault NoMemory (Malformed m) low none line is = absurd is
  block_fault (Malformed n) NoMemory low none line is = absurd is
  block_fault (Malformed n) (Malformed m) low none line is =
      ap told (read_as None none) ∙ ap Some (shifted (malformed (block at.lines)) n m low line is)

-- what reading a counted list of lines cites
pub ruleset counted_lines = (times_step, times_end, counted_fault, fault_before, fault_after)
