-- Items one after another, groups, and the faults on the way.
use Rattle.std.proofs.Common.{◌≡◌, ℕ, zero, suc, ◌+◌, ◌-◌, ◌<◌, ◌≤◌, max, Bool, true, false, cond, List, [], ◌∷◌, ◌++◌}
use Rattle.std.proofs.Common.{map, drop, length, get_or, Option, Some, None, Ok, Err, refl, ap, sym, ◌∙◌, subst}
use Rattle.std.proofs.Common.{append_assoc, append-nil, arith, nat_lt, nat_eq, ◌&&◌}
use Rattle.std.proofs.lemmas.Grind.{common_steps}
use Rattle.std.proofs.lemmas.List.{drop-drop}
use Rattle.std.proofs.lemmas.Bool.{and_parts}
use Rattle.ofn_tree.specs.declared.token.Token.{Token}
use Rattle.ofn_tree.specs.declared.token.Kind.{Kind}
use Rattle.ofn_tree.specs.declared.token.Kind.TheVariants.{OpenBracket, CloseBracket, Equals, Iri, String, Tag, Carets}
use Rattle.ofn_tree.specs.declared.token.Kind.TheVariants.{Name}
use Rattle.ofn_tree.specs.declared.fault.TextFault.{TextFault}
use Rattle.ofn_tree.specs.declared.fault.TextFault.TheVariants.{Unbalanced, TooDeep}
use Rattle.ofn_tree.specs.Token.{PlainToken, plain_token, tokens_from, is_open, is_close, is_name, is_string, is_tag}
use Rattle.ofn_tree.specs.Token.{is_carets, is_datatype}
use Rattle.ofn_tree.specs.Items.{Item, group_item, items_of, Mark, opening, closing, mark_of, mark_at, is_head}
use Rattle.ofn_tree.specs.Items.{begins_with_open, begins_with_datatype, begins_with_type, literal_rest, rest_behind}
use Rattle.ofn_tree.specs.Items.{marks_from, marks, written, written_all, nesting, nesting_all}
use Rattle.ofn_tree.specs.Parsed.{begins_with_close, begins_with_head, IsItems, IsGroup}
use Rattle.ofn_tree.specs.Faults.{TellsFault, fault_or, bracket_fault}

written_all-append : (is : List Item) (i : Item)
    → written_all (items_of (is ++ i ∷ [])) ≡ written_all (items_of is) ++ written i
written_all-append [] i = append-nil (written i)
written_all-append (j ∷ is) i =
    ap (λ (l : List Mark). written j ++ l) (written_all-append is i)
    ∙ sym (append_assoc (written j) (written_all (items_of is)) (written i))

nesting_all-append : (is : List Item) (i : Item)
    → nesting_all (items_of (is ++ i ∷ [])) ≡ max (nesting_all (items_of is)) (nesting i)
nesting_all-append [] i = omega arith
nesting_all-append (j ∷ is) i = omega (arith, nesting_all-append is i)

pub IsItems-nil : (end depth : ℕ) (ts : List PlainToken) → depth ≤ 64 → IsItems end depth ts ts []
IsItems-nil end depth ts within = record { made = refl; nested = omega arith; same_fault = refl }

pub IsItems-append : (end depth : ℕ) (ts mid rest : List PlainToken) (old new : List Item) (i : Item)
    → IsItems end depth ts mid old → IsItems end depth mid rest (i ∷ []) → new ≡ old ++ i ∷ []
    → IsItems end depth ts rest new
IsItems-append end depth ts mid rest old new i before this pushed =
    let here : written i ++ marks rest ≡ marks mid =
    ap (λ (l : List Mark). l ++ marks rest) (sym (append-nil (written i))) ∙ this.made in
    let joined : IsItems end depth ts rest (old ++ i ∷ []) = record {
      made =
          ap (λ (l : List Mark). l ++ marks rest) (written_all-append old i)
          ∙ append_assoc (written_all (items_of old)) (written i) (marks rest)
          ∙ ap (λ (l : List Mark). written_all (items_of old) ++ l) here ∙ before.made;
      nested = omega (arith, nesting_all-append old i, before.nested, this.nested);
      same_fault = before.same_fault ∙ this.same_fault;
    } in
    subst (IsItems end depth ts rest) (sym pushed) joined

at_place : {A B : Type 0} (f : A → B) (xs : List A) (n : ℕ) (d : A) → n < length xs
    → drop n (map f xs) ≡ f (get_or xs n d) ∷ drop (n + 1) (map f xs)
at_place f [] n d inside = absurd (omega (arith, inside))
at_place f (x ∷ xs) zero d inside = refl
at_place f (x ∷ xs) (suc n) d inside =
    let shorter : n < length xs = omega (arith, inside) in
    let sum : suc n + 1 ≡ suc (n + 1) = omega arith in
    at_place f xs n d shorter ∙ ap (λ k. f (get_or xs n d) ∷ drop k (f x ∷ map f xs)) (sym sum)

-- the token at a place, and those after it
pub tokens-at : (tokens : List Token) (place : ℕ) (d : Token) → place < length tokens
    → tokens_from tokens place ≡ plain_token (get_or tokens place d) ∷ tokens_from tokens (place + 1)
tokens-at tokens place d inside = at_place plain_token tokens place d inside

-- what stands where there is no token
abbrev pub no_token : Token
no_token = record { kind = OpenBracket; text = record { ref_ptr = (0, 0); now = [] }; start = 0; line = 0 }

past : {A B : Type 0} (f : A → B) (xs : List A) (n : ℕ) → length xs ≤ n → drop n (map f xs) ≡ []
past f xs n outside = grind (arith, common_steps, outside)

pub tokens-past : (tokens : List Token) (place : ℕ) → length tokens ≤ place → tokens_from tokens place ≡ []
tokens-past tokens place outside = past plain_token tokens place outside

-- ---- kinds

close_not_open : (k : Kind) → is_close k ≡ true → is_open k ≡ false
close_not_open CloseBracket h = refl
close_not_open OpenBracket h = cc
close_not_open Equals h = cc
close_not_open Iri h = cc
close_not_open String h = cc
close_not_open Tag h = cc
close_not_open Carets h = cc
close_not_open Name h = cc

name_not_open : (k : Kind) → is_name k ≡ true → (is_open k ≡ false) × (is_close k ≡ false)
name_not_open Name h = (refl, refl)
name_not_open OpenBracket h = cc
name_not_open CloseBracket h = cc
name_not_open Equals h = cc
name_not_open Iri h = cc
name_not_open String h = cc
name_not_open Tag h = cc
name_not_open Carets h = cc

open_mark : (k : Kind) (w : List ℕ) (l : ℕ) → is_open k ≡ true → (is_name k ≡ false) × (mark_of k w l ≡ opening None l)
open_mark OpenBracket w l h = (refl, refl)
open_mark CloseBracket w l h = cc
open_mark Equals w l h = cc
open_mark Iri w l h = cc
open_mark String w l h = cc
open_mark Tag w l h = cc
open_mark Carets w l h = cc
open_mark Name w l h = cc

close_mark : (k : Kind) (w : List ℕ) (l : ℕ) → is_close k ≡ true → (is_name k ≡ false) × (mark_of k w l ≡ closing)
close_mark CloseBracket w l h = (refl, refl)
close_mark OpenBracket w l h = cc
close_mark Equals w l h = cc
close_mark Iri w l h = cc
close_mark String w l h = cc
close_mark Tag w l h = cc
close_mark Carets w l h = cc
close_mark Name w l h = cc

open_no_string : (k : Kind) → is_open k ≡ true → is_string k ≡ false
open_no_string OpenBracket h = refl
open_no_string CloseBracket h = cc
open_no_string Equals h = cc
open_no_string Iri h = cc
open_no_string String h = cc
open_no_string Tag h = cc
open_no_string Carets h = cc
open_no_string Name h = cc

close_no_string : (k : Kind) → is_close k ≡ true → is_string k ≡ false
close_no_string CloseBracket h = refl
close_no_string OpenBracket h = cc
close_no_string Equals h = cc
close_no_string Iri h = cc
close_no_string String h = cc
close_no_string Tag h = cc
close_no_string Carets h = cc
close_no_string Name h = cc

tag_no_bracket : (k : Kind) → is_tag k ≡ true → (is_open k ≡ false) × (is_close k ≡ false)
tag_no_bracket Tag h = (refl, refl)
tag_no_bracket OpenBracket h = cc
tag_no_bracket CloseBracket h = cc
tag_no_bracket Equals h = cc
tag_no_bracket Iri h = cc
tag_no_bracket String h = cc
tag_no_bracket Carets h = cc
tag_no_bracket Name h = cc

carets_no_bracket : (k : Kind) → is_carets k ≡ true → (is_open k ≡ false) × (is_close k ≡ false)
carets_no_bracket Carets h = (refl, refl)
carets_no_bracket OpenBracket h = cc
carets_no_bracket CloseBracket h = cc
carets_no_bracket Equals h = cc
carets_no_bracket Iri h = cc
carets_no_bracket String h = cc
carets_no_bracket Tag h = cc
carets_no_bracket Name h = cc

datatype_no_bracket : (k : Kind) → is_datatype k ≡ true → (is_open k ≡ false) × (is_close k ≡ false)
datatype_no_bracket Name h = (refl, refl)
datatype_no_bracket Iri h = (refl, refl)
datatype_no_bracket OpenBracket h = cc
datatype_no_bracket CloseBracket h = cc
datatype_no_bracket Equals h = cc
datatype_no_bracket String h = cc
datatype_no_bracket Tag h = cc
datatype_no_bracket Carets h = cc

-- ---- marks

marks-skip : (k : ℕ) (ts : List PlainToken) → marks_from k ts ≡ marks (drop k ts)
marks-skip zero ts = refl
marks-skip (suc k) [] = refl
marks-skip (suc k) (t ∷ ts) = marks-skip k ts

marks-unheaded : (t : PlainToken) (ts : List PlainToken) → is_head t ts ≡ false
    → marks (t ∷ ts) ≡ mark_of t.kind t.text t.line ∷ marks (drop (rest_behind (t ∷ ts)) ts)
marks-unheaded t ts e =
    ap (λ v. mark_at v t ∷ marks_from (cond v 1 (rest_behind (t ∷ ts))) ts) e
    ∙ ap (λ l. mark_of t.kind t.text t.line ∷ l) (marks-skip (rest_behind (t ∷ ts)) ts)

marks-bracket : (t : PlainToken) (ts : List PlainToken) → is_head t ts ≡ false → is_string t.kind ≡ false
    → marks (t ∷ ts) ≡ mark_of t.kind t.text t.line ∷ marks ts
marks-bracket t ts e no_string =
    marks-unheaded t ts e
    ∙ ap (λ v. mark_of t.kind t.text t.line ∷ marks (drop (cond v (literal_rest ts) 0) ts)) no_string

marks-headed : (t u : PlainToken) (ts : List PlainToken) → is_head t (u ∷ ts) ≡ true
    → marks (t ∷ u ∷ ts) ≡ opening (Some t.text) t.line ∷ marks ts
marks-headed t u ts e = ap (λ v. mark_at v t ∷ marks_from (cond v 1 (rest_behind (t ∷ u ∷ ts))) (u ∷ ts)) e

no_head : (t : PlainToken) (ts : List PlainToken) → is_name t.kind ≡ false → is_head t ts ≡ false
no_head t ts e = ap (λ v. v && begins_with_open ts) e

-- ---- faults

fault-open : (end depth : ℕ) (t : PlainToken) (ts : List PlainToken) (v : Bool) → is_open t.kind ≡ true
    → nat_lt depth 64 ≡ v
    → bracket_fault end depth (t ∷ ts)
    ≡ fault_or (cond v (Ok (depth + 1)) (Err (TooDeep t.line))) (λ e. bracket_fault end e ts)
fault-open end depth t ts v is lt =
    λ k. fault_or
    (cond (is k) (cond (lt k) (Ok (depth + 1)) (Err (TooDeep t.line)))
    (cond (is_close t.kind) (cond (nat_eq depth 0) (Err (Unbalanced t.line)) (Ok (depth - 1))) (Ok depth)))
    (λ e. bracket_fault end e ts)

fault-close : (end depth : ℕ) (t : PlainToken) (ts : List PlainToken) (v : Bool) → is_close t.kind ≡ true
    → nat_eq depth 0 ≡ v
    → bracket_fault end depth (t ∷ ts)
    ≡ fault_or (cond v (Err (Unbalanced t.line)) (Ok (depth - 1))) (λ e. bracket_fault end e ts)
fault-close end depth t ts v is eq =
    λ k. fault_or
    (cond (close_not_open t.kind is k) (cond (nat_lt depth 64) (Ok (depth + 1)) (Err (TooDeep t.line)))
    (cond (is k) (cond (eq k) (Err (Unbalanced t.line)) (Ok (depth - 1))) (Ok depth)))
    (λ e. bracket_fault end e ts)

fault-other : (end depth : ℕ) (t : PlainToken) (ts : List PlainToken) → is_open t.kind ≡ false → is_close t.kind ≡ false
    → bracket_fault end depth (t ∷ ts) ≡ bracket_fault end depth ts
fault-other end depth t ts no_open no_close =
    λ k. fault_or
    (cond (no_open k) (cond (nat_lt depth 64) (Ok (depth + 1)) (Err (TooDeep t.line)))
    (cond (no_close k) (cond (nat_eq depth 0) (Err (Unbalanced t.line)) (Ok (depth - 1))) (Ok depth)))
    (λ e. bracket_fault end e ts)

below : (m n : ℕ) → m < n → nat_lt m n ≡ true
below m n h = grind (arith, common_steps, h)

not_below : (m n : ℕ) → n ≤ m → nat_lt m n ≡ false
not_below m n h = grind (arith, common_steps, h)

not_zero : (n : ℕ) → nat_eq (n + 1) 0 ≡ false
not_zero n = grind (arith, common_steps)

-- ---- items

pub IsItems-unnamed : (end depth : ℕ) (t : PlainToken) (us rest : List PlainToken) (i : Item) → is_open t.kind ≡ true
    → IsGroup end depth None t.line (t ∷ us) rest i → IsItems end depth (t ∷ us) rest (i ∷ [])
IsItems-unnamed end depth t us rest i is g =
    let mark = open_mark t.kind t.text t.line is in
    record {
      made =
          ap (λ (l : List Mark). l ++ marks rest) (append-nil (written i)) ∙ g.made
          ∙ ap (λ m. m ∷ marks us) (sym mark.1)
          ∙ sym (marks-bracket t us (no_head t us mark.0) (open_no_string t.kind is));
      nested = omega (arith, g.nested);
      same_fault = g.same_fault;
    }

pub IsItems-named : (end depth : ℕ) (t : PlainToken) (us rest : List PlainToken) (i : Item) → is_name t.kind ≡ true
    → begins_with_open us ≡ true → IsGroup end depth (Some t.text) t.line us rest i
    → IsItems end depth (t ∷ us) rest (i ∷ [])
IsItems-named end depth t [] rest i is opens g = cc
IsItems-named end depth t (u ∷ us) rest i is opens g =
    let headed : is_head t (u ∷ us) ≡ true = λ k. is k && opens k in
    let others = name_not_open t.kind is in
    record {
      made =
          ap (λ (l : List Mark). l ++ marks rest) (append-nil (written i)) ∙ g.made ∙ sym (marks-headed t u us headed);
      nested = omega (arith, g.nested);
      same_fault = fault-other end depth t (u ∷ us) others.0 others.1 ∙ g.same_fault;
    }

typed-fault : (end depth : ℕ) (t : PlainToken) (ts : List PlainToken) → is_carets t.kind ≡ true
    → begins_with_datatype ts ≡ true → bracket_fault end depth (t ∷ ts) ≡ bracket_fault end depth (drop 1 ts)
typed-fault end depth t [] carets datatype = cc
typed-fault end depth t (u ∷ us) carets datatype =
    let first = carets_no_bracket t.kind carets in
    let second = datatype_no_bracket u.kind datatype in
    fault-other end depth t (u ∷ us) first.0 first.1 ∙ fault-other end depth u us second.0 second.1

literal-fault-at : (end depth : ℕ) (t : PlainToken) (ts : List PlainToken) (v w : Bool) → is_tag t.kind ≡ v
    → begins_with_type (t ∷ ts) ≡ w
    → bracket_fault end depth (t ∷ ts) ≡ bracket_fault end depth (drop (cond v 1 (cond w 2 0)) (t ∷ ts))
literal-fault-at end depth t ts true w tag type =
    let no_bracket = tag_no_bracket t.kind tag in fault-other end depth t ts no_bracket.0 no_bracket.1
literal-fault-at end depth t ts false true tag type =
    let both = and_parts (is_carets t.kind) (begins_with_datatype ts) type in
    typed-fault end depth t ts both.0 both.1
literal-fault-at end depth t ts false false tag type = refl

literal-fault : (end depth : ℕ) (ts : List PlainToken)
    → bracket_fault end depth ts ≡ bracket_fault end depth (drop (literal_rest ts) ts)
literal-fault end depth [] = refl
literal-fault end depth (t ∷ ts) = literal-fault-at end depth t ts (is_tag t.kind) (begins_with_type (t ∷ ts)) refl refl

rest-fault : (end depth : ℕ) (ts : List PlainToken) (v : Bool)
    → bracket_fault end depth ts ≡ bracket_fault end depth (drop (cond v (literal_rest ts) 0) ts)
rest-fault end depth ts true = literal-fault end depth ts
rest-fault end depth ts false = refl

pub IsItems-single : (end depth : ℕ) (t : PlainToken) (us : List PlainToken) (i : Item) → is_open t.kind ≡ false
    → is_close t.kind ≡ false → is_head t us ≡ false
    → written i ≡ mark_of t.kind t.text t.line ∷ [] → nesting i ≡ 0 → depth ≤ 64
    → IsItems end depth (t ∷ us) (drop (rest_behind (t ∷ us)) us) (i ∷ [])
IsItems-single end depth t us i no_open no_close unheaded made flat within = record {
  made =
      ap (λ (l : List Mark). l ++ marks (drop (rest_behind (t ∷ us)) us)) (append-nil (written i) ∙ made)
      ∙ sym (marks-unheaded t us unheaded);
  nested = omega (arith, flat, within);
  same_fault = fault-other end depth t us no_open no_close ∙ rest-fault end depth us (is_string t.kind);
}

-- ---- the same at a place

pub opens-at : (tokens : List Token) (place : ℕ) (d : Token) (v : Bool) → place < length tokens
    → begins_with_open (tokens_from tokens place) ≡ v → is_open (get_or tokens place d).kind ≡ v
opens-at tokens place d v inside h = ap begins_with_open (sym (tokens-at tokens place d inside)) ∙ h

pub closes-at : (tokens : List Token) (place : ℕ) (d : Token) (v : Bool) → place < length tokens
    → begins_with_close (tokens_from tokens place) ≡ v → is_close (get_or tokens place d).kind ≡ v
closes-at tokens place d v inside h = ap begins_with_close (sym (tokens-at tokens place d inside)) ∙ h

heads-at : (tokens : List Token) (place : ℕ) (d : Token) (v : Bool) → place < length tokens
    → begins_with_head (tokens_from tokens place) ≡ v
    → is_head (plain_token (get_or tokens place d)) (tokens_from tokens (place + 1)) ≡ v
heads-at tokens place d v inside h = ap begins_with_head (sym (tokens-at tokens place d inside)) ∙ h

pub unnamed-at : (end depth : ℕ) (tokens : List Token) (place : ℕ) (d : Token) (rest : List PlainToken) (i : Item)
    → place < length tokens → begins_with_open (tokens_from tokens place) ≡ true
    → IsGroup end depth None (get_or tokens place d).line (tokens_from tokens place) rest i
    → IsItems end depth (tokens_from tokens place) rest (i ∷ [])
unnamed-at end depth tokens place d rest i inside opens g =
    let here = tokens-at tokens place d inside in
    let t : PlainToken = plain_token (get_or tokens place d) in
    subst (λ l. IsItems end depth l rest (i ∷ [])) (sym here)
    (IsItems-unnamed end depth t (tokens_from tokens (place + 1)) rest i (opens-at tokens place d true inside opens)
    (subst (λ l. IsGroup end depth None t.line l rest i) here g))

pub named-at : (end depth : ℕ) (tokens : List Token) (place : ℕ) (d : Token) (rest : List PlainToken) (i : Item)
    → place < length tokens → begins_with_head (tokens_from tokens place) ≡ true
    → IsGroup end depth (Some (get_or tokens place d).text.now) (get_or tokens place d).line
    (tokens_from tokens (place + 1)) rest i
    → IsItems end depth (tokens_from tokens place) rest (i ∷ [])
named-at end depth tokens place d rest i inside heads g =
    let t : PlainToken = plain_token (get_or tokens place d) in
    let both =
    and_parts (is_name t.kind) (begins_with_open (tokens_from tokens (place + 1)))
    (heads-at tokens place d true inside heads) in
    subst (λ l. IsItems end depth l rest (i ∷ [])) (sym (tokens-at tokens place d inside))
    (IsItems-named end depth t (tokens_from tokens (place + 1)) rest i both.0 both.1 g)

pub head-fault : (end depth : ℕ) (tokens : List Token) (place : ℕ) (d : Token) → place < length tokens
    → begins_with_head (tokens_from tokens place) ≡ true
    → bracket_fault end depth (tokens_from tokens place) ≡ bracket_fault end depth (tokens_from tokens (place + 1))
head-fault end depth tokens place d inside heads =
    let t : PlainToken = plain_token (get_or tokens place d) in
    let both =
    and_parts (is_name t.kind) (begins_with_open (tokens_from tokens (place + 1)))
    (heads-at tokens place d true inside heads) in
    let others = name_not_open t.kind both.0 in
    ap (bracket_fault end depth) (tokens-at tokens place d inside)
    ∙ fault-other end depth t (tokens_from tokens (place + 1)) others.0 others.1

pub head-opens : (tokens : List Token) (place : ℕ) (d : Token) → place < length tokens
    → begins_with_head (tokens_from tokens place) ≡ true → begins_with_open (tokens_from tokens (place + 1)) ≡ true
head-opens tokens place d inside heads =
    (and_parts (is_name (get_or tokens place d).kind) (begins_with_open (tokens_from tokens (place + 1)))
    (heads-at tokens place d true inside heads)).1

pub single-at : (end depth : ℕ) (tokens : List Token) (place rest : ℕ) (d : Token) (i : Item) → place < length tokens
    → rest ≡ rest_behind (tokens_from tokens place)
    → begins_with_open (tokens_from tokens place) ≡ false → begins_with_close (tokens_from tokens place) ≡ false
    → begins_with_head (tokens_from tokens place) ≡ false
    → written i
    ≡ mark_of (get_or tokens place d).kind (get_or tokens place d).text.now (get_or tokens place d).line ∷ []
    → nesting i ≡ 0 → depth ≤ 64
    → IsItems end depth (tokens_from tokens place) (tokens_from tokens (place + 1 + rest)) (i ∷ [])
single-at end depth tokens place rest d i inside is no_open no_close no_name made flat within =
    let t : PlainToken = plain_token (get_or tokens place d) in
    let here = tokens-at tokens place d inside in
    let behind : drop (rest_behind (t ∷ tokens_from tokens (place + 1))) (tokens_from tokens (place + 1))
    ≡ tokens_from tokens (place + 1 + rest) =
    ap (λ n. drop n (tokens_from tokens (place + 1))) (sym (is ∙ ap rest_behind here))
    ∙ drop-drop rest (place + 1) (map plain_token tokens) in
    subst (λ l. IsItems end depth l (tokens_from tokens (place + 1 + rest)) (i ∷ [])) (sym here)
    (subst (λ l. IsItems end depth (t ∷ tokens_from tokens (place + 1)) l (i ∷ [])) behind
    (IsItems-single end depth t (tokens_from tokens (place + 1)) i (opens-at tokens place d false inside no_open)
    (closes-at tokens place d false inside no_close) (heads-at tokens place d false inside no_name) made flat within))

-- ---- literals at a place

pub datatype-at : (tokens : List Token) (place : ℕ) (d : Token) → place < length tokens
    → begins_with_datatype (tokens_from tokens place) ≡ is_datatype (get_or tokens place d).kind
datatype-at tokens place d inside = ap begins_with_datatype (tokens-at tokens place d inside)

pub type-at : (tokens : List Token) (place : ℕ) (d : Token) (v : Bool) → place < length tokens
    → is_carets (get_or tokens place d).kind ≡ v
    → begins_with_type (tokens_from tokens place) ≡ (v && begins_with_datatype (tokens_from tokens (place + 1)))
type-at tokens place d v inside carets =
    ap begins_with_type (tokens-at tokens place d inside)
    ∙ ap (λ w. w && begins_with_datatype (tokens_from tokens (place + 1))) carets

pub literal-at : (tokens : List Token) (place : ℕ) (d : Token) (v w : Bool) → place < length tokens
    → is_tag (get_or tokens place d).kind ≡ v → begins_with_type (tokens_from tokens place) ≡ w
    → literal_rest (tokens_from tokens place) ≡ cond v 1 (cond w 2 0)
literal-at tokens place d v w inside tag type =
    let here = tokens-at tokens place d inside in
    let same : begins_with_type (plain_token (get_or tokens place d) ∷ tokens_from tokens (place + 1)) ≡ w =
    ap begins_with_type (sym here) ∙ type in
    ap literal_rest here ∙ (λ k. cond (tag k) 1 (cond (same k) 2 0))

pub rest-at : (tokens : List Token) (place : ℕ) (d : Token) (v : Bool) → place < length tokens
    → is_string (get_or tokens place d).kind ≡ v
    → rest_behind (tokens_from tokens place) ≡ cond v (literal_rest (tokens_from tokens (place + 1))) 0
rest-at tokens place d v inside string =
    ap rest_behind (tokens-at tokens place d inside)
    ∙ ap (λ w. cond w (literal_rest (tokens_from tokens (place + 1))) 0) string

-- ---- groups

-- a bracket opens
pub enter : (end depth : ℕ) (ts : List PlainToken) → begins_with_open ts ≡ true → depth < 64
    → bracket_fault end depth ts ≡ bracket_fault end (depth + 1) (drop 1 ts)
enter end depth [] opens room = cc
enter end depth (t ∷ ts) opens room = fault-open end depth t ts true opens (below depth 64 room)

pub too_deep : (end depth : ℕ) (tokens : List Token) (place : ℕ) (d : Token) → place < length tokens
    → begins_with_open (tokens_from tokens place) ≡ true → 64 ≤ depth
    → bracket_fault end depth (tokens_from tokens place) ≡ Some (TooDeep (get_or tokens place d).line)
too_deep end depth tokens place d inside opens deep =
    let here = tokens-at tokens place d inside in
    let is : is_open (plain_token (get_or tokens place d)).kind ≡ true = ap begins_with_open (sym here) ∙ opens in
    ap (bracket_fault end depth) here
    ∙ fault-open end depth (plain_token (get_or tokens place d)) (tokens_from tokens (place + 1)) false is
    (not_below depth 64 deep)

-- no bracket is open where one closes
pub unopened : (end : ℕ) (tokens : List Token) (place : ℕ) (d : Token) → place < length tokens
    → begins_with_close (tokens_from tokens place) ≡ true
    → bracket_fault end 0 (tokens_from tokens place) ≡ Some (Unbalanced (get_or tokens place d).line)
unopened end tokens place d inside closes =
    let here = tokens-at tokens place d inside in
    let is : is_close (plain_token (get_or tokens place d)).kind ≡ true = ap begins_with_close (sym here) ∙ closes in
    ap (bracket_fault end 0) here
    ∙ fault-close end 0 (plain_token (get_or tokens place d)) (tokens_from tokens (place + 1)) true is refl

-- a bracket is open at the end
pub unclosed : (end depth : ℕ) (ts : List PlainToken) → ts ≡ []
    → bracket_fault end (depth + 1) ts ≡ Some (Unbalanced end)
unclosed end depth ts none =
    ap (bracket_fault end (depth + 1)) none ∙ ap (λ v. cond v None (Some (Unbalanced end))) (not_zero depth)

behind : (tokens : List Token) (place : ℕ) (d : Token) → place < length tokens
    → drop 1 (tokens_from tokens place) ≡ tokens_from tokens (place + 1)
behind tokens place d inside = ap (drop 1) (tokens-at tokens place d inside)

-- a bracket closes
leave : (end depth : ℕ) (ts : List PlainToken) → begins_with_close ts ≡ true
    → (bracket_fault end (depth + 1) ts ≡ bracket_fault end depth (drop 1 ts))
    × (marks ts ≡ closing ∷ marks (drop 1 ts))
leave end depth [] closes = cc
leave end depth (t ∷ ts) closes =
    let mark = close_mark t.kind t.text t.line closes in
    let less : (depth + 1) - 1 ≡ depth = omega arith in (
      fault-close end (depth + 1) t ts false closes (not_zero depth) ∙ ap (λ e. bracket_fault end e ts) less,
      marks-bracket t ts (no_head t ts mark.0) (close_no_string t.kind closes) ∙ ap (λ m. m ∷ marks ts) mark.1,
    )

pub enter-at : (end depth : ℕ) (tokens : List Token) (place : ℕ) → place < length tokens
    → begins_with_open (tokens_from tokens place) ≡ true → depth < 64
    → bracket_fault end depth (tokens_from tokens place)
    ≡ bracket_fault end (depth + 1) (tokens_from tokens (place + 1))
enter-at end depth tokens place inside opens room =
    enter end depth (tokens_from tokens place) opens room
    ∙ ap (bracket_fault end (depth + 1)) (behind tokens place no_token inside)

IsGroup-closed : (end depth : ℕ) (head : Option (List ℕ)) (line : ℕ) (ts mid : List PlainToken) (is : List Item)
    → begins_with_open ts ≡ true → depth < 64 → IsItems end (depth + 1) (drop 1 ts) mid is
    → begins_with_close mid ≡ true
    → IsGroup end depth head line ts (drop 1 mid) (group_item head (items_of is) line)
IsGroup-closed end depth head line ts mid is opens room inner closes =
    let out = leave end depth mid closes in
    record {
      made =
          ap (λ (l : List Mark). opening head line ∷ l)
          (append_assoc (written_all (items_of is)) (closing ∷ []) (marks (drop 1 mid))
          ∙ ap (λ (l : List Mark). written_all (items_of is) ++ l) (sym out.1) ∙ inner.made);
      nested = omega (arith, inner.nested);
      same_fault = enter end depth ts opens room ∙ inner.same_fault ∙ out.0;
    }

pub group-at : (end depth : ℕ) (head : Option (List ℕ)) (line : ℕ) (tokens : List Token) (place stop : ℕ)
    (is : List Item)
    → place < length tokens → stop < length tokens
    → begins_with_open (tokens_from tokens place) ≡ true → depth < 64
    → IsItems end (depth + 1) (tokens_from tokens (place + 1)) (tokens_from tokens stop) is
    → begins_with_close (tokens_from tokens stop) ≡ true
    → IsGroup end depth head line (tokens_from tokens place) (tokens_from tokens (stop + 1))
    (group_item head (items_of is) line)
group-at end depth head line tokens place stop is inside within opens room inner closes =
    subst (λ l. IsGroup end depth head line (tokens_from tokens place) l (group_item head (items_of is) line))
    (behind tokens stop no_token within)
    (IsGroup-closed end depth head line (tokens_from tokens place) (tokens_from tokens stop) is opens room
    (subst (λ l. IsItems end (depth + 1) l (tokens_from tokens stop) is) (sym (behind tokens place no_token inside))
    inner)
    closes)

-- a fault that stands after other tokens is theirs
pub TellsFault-before : (there here : Option TextFault) (fault : TextFault) → here ≡ there → TellsFault there fault
    → TellsFault here fault
TellsFault-before there here fault same h = subst (λ o. TellsFault o fault) (sym same) h

begins_inside : {A : Type 0} (f : A → PlainToken) (xs : List A) (n : ℕ) → begins_with_open (drop n (map f xs)) ≡ true
    → n < length xs
begins_inside f [] zero h = cc
begins_inside f [] (suc n) h = cc
begins_inside f (x ∷ xs) zero h = omega arith
begins_inside f (x ∷ xs) (suc n) h = omega (arith, begins_inside f xs n h)

-- a bracket that opens at a place is a token
pub opens-inside : (tokens : List Token) (place : ℕ) → begins_with_open (tokens_from tokens place) ≡ true
    → place < length tokens
opens-inside tokens place h = begins_inside plain_token tokens place h
