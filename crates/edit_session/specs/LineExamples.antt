-- Worked lines of scripts.
use Rattle.std.specs.Prelude.{◌≡◌, ℕ, Bool, true, false, not, ◌&&◌, List, [], ◌∷◌, codes, if◌then◌else◌, refl}
use Rattle.std.proofs.Common.{ap, sym, subst, ◌∙◌, eq-eqb}
use Rattle.std.specs.FinSet as set
use Rattle.std.specs.Fmt.{digits}
use Rattle.std.specs.Str.{is_utf8}
use Rattle.lane_sieve.specs.Sets.{NumberSet}
use Rattle.lane_sieve.proofs.Bits.{contains_remove}
use Rattle.axiom_sets.specs.Sets.{Limited}
use Rattle.shq_oracle.specs.TestEnd.TheVariants.{Yes, No}
use Rattle.edit_session.specs.Sessions.{State}
use Rattle.edit_session.specs.ScriptLines.{adds, removes, asks, other, request, split_request, script_lines}
use Rattle.edit_session.specs.Said.{bad_line, numbered_line, no_line, IsRemoved, IsRemovedOrNot}
use Rattle.edit_session.specs.Places.{IsOver}

-- ---- what lines ask for

-- a line that is text is read by its first word, and no other line is one of a script
pub text_is_split : (l : List ℕ) → is_utf8 l ≡ true → request l ≡ split_request l
text_is_split l is = ap (λ (b : Bool). if b then split_request l else other) is

pub no_text_is_bad : (l : List ℕ) → is_utf8 l ≡ false → request l ≡ other
no_text_is_bad l is = ap (λ (b : Bool). if b then split_request l else other) is

pub removes_two : split_request (codes "remove 2") ≡ removes 2
removes_two = refl

pub removes_none_by_leading_zero : split_request (codes "remove 02") ≡ other
removes_none_by_leading_zero = refl

pub removes_none_by_two_blanks : split_request (codes "remove  2") ≡ other
removes_none_by_two_blanks = refl

pub removes_none_by_more : split_request (codes "remove 2 ") ≡ other
removes_none_by_more = refl

pub removes_none_without_number : split_request (codes "remove") ≡ other
removes_none_without_number = refl

pub adds_text : split_request (codes "add SubClassOf(:B :C)") ≡ adds (codes "SubClassOf(:B :C)")
adds_text = refl

pub adds_no_text : split_request (codes "add ") ≡ adds []
adds_no_text = refl

pub adds_nothing_without_blank : split_request (codes "add") ≡ other
adds_nothing_without_blank = refl

pub asks_text : split_request (codes "ask SubClassOf(:A :C)") ≡ asks (codes "SubClassOf(:A :C)")
asks_text = refl

pub asks_nothing_behind_blank : split_request (codes " ask SubClassOf(:A :C)") ≡ other
asks_nothing_behind_blank = refl

pub words_are_whole : split_request (codes "asks SubClassOf(:A :C)") ≡ other
words_are_whole = refl

pub blank_lines_are_dropped : script_lines (codes "remove 1" ∷ [] ∷ codes "  " ∷ codes "remove 2" ∷ [])
    ≡ codes "remove 1" ∷ codes "remove 2" ∷ []
blank_lines_are_dropped = refl

-- ---- what is printed

abbrev numbers : ℕ → List ℕ → Limited
numbers n ks = record { limit = n; members = set.from_list ks }

pub says_bad_line : bad_line ≡ codes "bad line\n"
says_bad_line = refl

pub says_axiom : numbered_line (codes "axiom") 3 ≡ codes "axiom 3\n"
unfolding digits
says_axiom = refl

pub says_removed : numbered_line (codes "removed") 12 ≡ codes "removed 12\n"
unfolding digits
says_removed = refl

pub says_no : no_line ≡ codes "no\n"
says_no = refl

-- ---- removals

-- no number is live that was removed
not_live : (live : NumberSet) (k : ℕ) → set.contains (set.remove live k) k ≡ false
not_live live k = contains_remove live k k ∙ ap (λ (b : Bool). not b && set.contains live k) (eq-eqb k k refl)

module _ (s : State) (k : ℕ) where
  abbrev pub without : State
  without = record s { live = set.remove s.live k }

  -- a live axiom is removed
  pub removes_live : set.contains s.live k ≡ true → IsRemovedOrNot s k without (numbered_line (codes "removed") k)
  removes_live there =
      subst (λ (b : Bool). IsRemoved b s k without (numbered_line (codes "removed") k)) (sym there) (refl, refl)

  -- and then it is live no more
  pub removes_none_twice : IsRemovedOrNot without k without bad_line
  removes_none_twice =
      subst (λ (b : Bool). IsRemoved b without k without bad_line) (sym (not_live s.live k)) (refl, refl)

  -- a yes that rests on it answers no more
  pub yes_is_over : (u : Limited) → set.contains u.members k ≡ true → IsOver (set.remove s.live k) (Yes u)
  yes_is_over u there part = let clash : false ≡ true = sym (not_live s.live k) ∙ part k there in cc

-- a no answers still
pub no_is_not_over : (live : NumberSet) → ¬ IsOver live No
no_is_not_over live over = over
