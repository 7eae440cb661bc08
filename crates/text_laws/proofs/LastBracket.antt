-- What is read of a document ends with the bracket that closes its group.
use Rattle.std.proofs.Common.{◌≡◌, ℕ, zero, suc, ◌+◌, ◌-◌, ◌≤◌, Bool, true, false, not, cond, ◌&&◌, ◌||◌, List, [], ◌∷◌}
use Rattle.std.proofs.Common.{◌++◌, length, take, drop, Option, Some, None, Result, Ok, Err, refl, ap, sym, ◌∙◌, subst}
use Rattle.std.proofs.Common.{arith, nat_eq, nat_lt, codes, bytes_eq, append_assoc}
use Rattle.std.specs.List.{list_all}
use Rattle.std.proofs.lemmas.Bool.{and_parts}
use Rattle.std.proofs.lemmas.Grind.{common_steps}
use Rattle.ofn_tree.specs.declared.token.Kind.{Kind}
use Rattle.ofn_tree.specs.declared.token.Kind.TheVariants.{OpenBracket, CloseBracket, Equals, Iri, String, Tag, Carets}
use Rattle.ofn_tree.specs.declared.token.Kind.TheVariants.{Name}
use Rattle.ofn_tree.specs.declared.fault.TextFault.{TextFault}
use Rattle.ofn_tree.specs.declared.fault.TextFault.TheVariants.{Unbalanced, TooDeep}
use Rattle.ofn_tree.specs.Token.{PlainToken}
use Rattle.ofn_tree.specs.Lexemes.{Piece, whole, faulty, pieces}
use Rattle.ofn_tree.specs.Items.{Item, name_item, iri_item, literal_item, sign_item, group_item, Items, no_items, item}
use Rattle.ofn_tree.specs.Items.{items_of, Mark, opening, closing, single, literal_rest, marks_from, marks, written}
use Rattle.ofn_tree.specs.Items.{written_all, IsTree}
use Rattle.ofn_tree.specs.Document.{Met, DocumentTokens, nothing_met, is_last, is_document_name, behind_name, met_after}
use Rattle.ofn_tree.specs.Document.{document_front, document, reading, with_token}
use Rattle.ofn_tree.specs.Faults.{fault_or, bracket_fault}
use Rattle.ofn_tree.proofs.Slices.{read_ok}
use Rattle.text_laws.proofs.TextsBehind.{EndsAs, less, less_ok, ok_more, same_number}

-- ---- a token that closes the document's group

-- one of the tokens does
abbrev last_in : Met → List PlainToken → Bool
last_in m [] = false
last_in m (t ∷ ts) = is_last m t || last_in (met_after t.kind t.text m) ts

or_right : (a b : Bool) → b ≡ true → (a || b) ≡ true
or_right true b h = refl
or_right false b h = h

read_to_last : (end : ℕ) (m : Met) (ps : List Piece) (r : DocumentTokens) → document_front end m ps ≡ Ok r
    → last_in m r.tokens ≡ true → EndsAs m ps r
read_to_last end m [] r is last =
    let whole_is : ◌≡◌ {A = DocumentTokens} (record { tokens = []; place_behind = end }) r = cc is in
    let clash : false ≡ true = ap (λ (d : DocumentTokens). last_in m d.tokens) whole_is ∙ last in
    absurd (cc clash)
read_to_last end m (faulty fault ∷ ps) r is last =
    let clash : ◌≡◌ {A = Result DocumentTokens TextFault} (Err fault) (Ok r) = is in absurd (cc clash)
read_to_last end m (whole t behind ∷ ps) r is last =
    by (read_to_last end (met_after t.kind t.text m) ps) (is_last m t) refl is
  where
    by : ((d : DocumentTokens) → document_front end (met_after t.kind t.text m) ps ≡ Ok d
        → last_in (met_after t.kind t.text m) d.tokens ≡ true → EndsAs (met_after t.kind t.text m) ps d)
        → (v : Bool) → is_last m t ≡ v
        → cond v (Ok (record { tokens = t ∷ []; place_behind = behind }))
        (with_token t (document_front end (met_after t.kind t.text m) ps))
        ≡ Ok r
        → EndsAs m (whole t behind ∷ ps) r
    by rest true here read =
        λ stop. ap
        (λ v. cond v (Ok (record { tokens = t ∷ []; place_behind = behind }))
        (with_token t (document_front stop (met_after t.kind t.text m) ps)))
        here
        ∙ read
    by rest false here read =
        let n : Met = met_after t.kind t.text m in
        let others : document_front end n ps ≡ Ok (less r) = less_ok t (document_front end n ps) r read in
        let all : Ok (record { tokens = t ∷ drop 1 r.tokens; place_behind = r.place_behind }) ≡ Ok r =
        ok_more t (document_front end n ps) r read in
        let made : ◌≡◌ {A = DocumentTokens} (record { tokens = t ∷ drop 1 r.tokens; place_behind = r.place_behind }) r =
        cc all in
        let there : (is_last m t || last_in n (drop 1 r.tokens)) ≡ true =
        ap (λ (d : DocumentTokens). last_in m d.tokens) made ∙ last in
        let later : last_in n (drop 1 r.tokens) ≡ true =
        ap (λ v. v || last_in n (drop 1 r.tokens)) (sym here) ∙ there in
        let ends = rest (less r) others later in
        λ stop.
        ap
        (λ v. cond v (Ok (record { tokens = t ∷ []; place_behind = behind })) (with_token t (document_front stop n ps)))
        here
        ∙ ap (with_token t) (ends stop)
        ∙ all

-- ---- inside the document's group

above_zero : (n : ℕ) → 1 ≤ n → nat_eq n 0 ≡ false
above_zero n h = grind (arith, common_steps, h)

more_than_one : (n : ℕ) → 1 ≤ n → nat_eq n 1 ≡ false → 1 ≤ n - 1
more_than_one n some other = grind (arith, common_steps, some, other)

-- a bracket that opens is no fault
opened : (end line d : ℕ) (ts : List PlainToken) (v : Bool)
    → fault_or (cond v (Ok (d + 1)) (Err (TooDeep line))) (λ e. bracket_fault end e ts) ≡ None
    → bracket_fault end (d + 1) ts ≡ None
opened end line d ts true balanced = balanced
opened end line d ts false balanced = absurd (cc balanced)

-- and one that closes
closed : (end line d : ℕ) (ts : List PlainToken) (v : Bool)
    → fault_or (cond v (Err (Unbalanced line)) (Ok (d - 1))) (λ e. bracket_fault end e ts) ≡ None
    → bracket_fault end (d - 1) ts ≡ None
closed end line d ts false balanced = balanced
closed end line d ts true balanced = absurd (cc balanced)

module _ (end : ℕ) (ts : List PlainToken) where
  abbrev ClosesInside : Type 0
  ClosesInside = (m : Met) → m.document ≡ true → 1 ≤ m.depth → bracket_fault end m.depth ts ≡ None → last_in m ts ≡ true

module _ (end : ℕ) (text : List ℕ) (start line : ℕ) (ts : List PlainToken) (rest : ClosesInside end ts) where
  abbrev of_kind : Kind → PlainToken
  of_kind k = record { kind = k; text = text; start = start; line = line }

  inside_at : (k : Kind) → ClosesInside end (of_kind k ∷ ts)
  inside_at OpenBracket m document some balanced =
      let kept : cond (nat_eq m.depth 0) (is_document_name m.latest) m.document ≡ true =
      ap (λ v. cond v (is_document_name m.latest) m.document) (above_zero m.depth some) ∙ document in
      rest (met_after OpenBracket text m) kept (omega arith) (opened end line m.depth ts (nat_lt m.depth 64) balanced)
  inside_at CloseBracket m document some balanced = by (nat_eq m.depth 1) refl
    where
      by : (v : Bool) → nat_eq m.depth 1 ≡ v
          → (((true && nat_eq m.depth 1) && m.document) || last_in (met_after CloseBracket text m) ts) ≡ true
      by true one = (λ i. ((true && one i) && document i) || last_in (met_after CloseBracket text m) ts)
      by false other =
          or_right ((true && nat_eq m.depth 1) && m.document) (last_in (met_after CloseBracket text m) ts)
          (rest (met_after CloseBracket text m) document (more_than_one m.depth some other)
          (closed end line m.depth ts (nat_eq m.depth 0) balanced))
  inside_at Equals m document some balanced = rest (met_after Equals text m) document some balanced
  inside_at Iri m document some balanced = rest (met_after Iri text m) document some balanced
  inside_at String m document some balanced = rest (met_after String text m) document some balanced
  inside_at Tag m document some balanced = rest (met_after Tag text m) document some balanced
  inside_at Carets m document some balanced = rest (met_after Carets text m) document some balanced
  inside_at Name m document some balanced = rest (met_after Name text m) document some balanced

-- where the brackets balance, the bracket of the group is closed
closes_inside : (end : ℕ) (ts : List PlainToken) → ClosesInside end ts
closes_inside end [] m document some balanced =
    absurd (cc (ap (λ v. cond v None (Some (Unbalanced end))) (sym (above_zero m.depth some)) ∙ balanced))
closes_inside end (t ∷ ts) m document some balanced =
    inside_at end t.text t.start t.line ts (closes_inside end ts) t.kind m document some balanced

-- ---- marks

-- the item is a group
abbrev pub is_any_group : Item → Bool
is_any_group (group_item head is line) = true
is_any_group _ = false

abbrev is_ontology : Option (List ℕ) → Bool
is_ontology None = false
is_ontology (Some w) = bytes_eq w (codes "Ontology")

-- A group whose name is `Ontology` opens where no bracket is open, and only groups stand there before it.
abbrev opens_document : ℕ → List Mark → Bool
opens_document d [] = false
opens_document d (opening head line ∷ ms) = (nat_eq d 0 && is_ontology head) || opens_document (d + 1) ms
opens_document d (closing ∷ ms) = opens_document (d - 1) ms
opens_document d (single i ∷ ms) = not (nat_eq d 0) && opens_document d ms

abbrev GoesOn : ℕ → List Mark → List Mark → Type 0
GoesOn d written_first ms = opens_document d ms ≡ true → opens_document d (written_first ++ ms) ≡ true

closes_again : (d : ℕ) (ms : List Mark) → opens_document d ms ≡ true → opens_document (d + 1) (closing ∷ ms) ≡ true
closes_again d ms h = let same : d ≡ d + 1 - 1 = omega arith in subst (λ e. opens_document e ms ≡ true) same h

-- a group, whose items are gone over
over_group : (d : ℕ) (head : Option (List ℕ)) (is : Items) (line : ℕ) (ms : List Mark)
    → ((ns : List Mark) → GoesOn (d + 1) (written_all is) ns) → GoesOn d (written (group_item head is line)) ms
over_group d head is line ms inner h =
    or_right (nat_eq d 0 && is_ontology head) (opens_document (d + 1) ((written_all is ++ closing ∷ []) ++ ms))
    (subst (λ l. opens_document (d + 1) l ≡ true) (sym (append_assoc (written_all is) (closing ∷ []) ms))
    (inner (closing ∷ ms) (closes_again d ms h)))

-- a single item inside a group
over_single : (d : ℕ) (i : Item) (ms : List Mark) → 1 ≤ d → GoesOn d (single i ∷ []) ms
over_single d i ms some h = ap (λ v. not v && opens_document d ms) (above_zero d some) ∙ h

mutual
  over_item : (d : ℕ) (i : Item) (ms : List Mark) → 1 ≤ d → GoesOn d (written i) ms
  over_item d (name_item w line) ms some h = over_single d (name_item w line) ms some h
  over_item d (iri_item w line) ms some h = over_single d (iri_item w line) ms some h
  over_item d (literal_item line) ms some h = over_single d (literal_item line) ms some h
  over_item d (sign_item kind line) ms some h = over_single d (sign_item kind line) ms some h
  over_item d (group_item head is line) ms some h =
      over_group d head is line ms (λ ns. over_items (d + 1) is ns (omega arith)) h

  over_items : (d : ℕ) (is : Items) (ms : List Mark) → 1 ≤ d → GoesOn d (written_all is) ms
  over_items d no_items ms some h = h
  over_items d (item i is) ms some h =
      subst (λ l. opens_document d l ≡ true) (sym (append_assoc (written i) (written_all is) ms))
      (over_item d i (written_all is ++ ms) some (over_items d is ms some h))

over_outer : (i : Item) (ms : List Mark) → is_any_group i ≡ true → GoesOn 0 (written i) ms
over_outer (group_item head is line) ms group h =
    over_group 0 head is line ms (λ ns. over_items (0 + 1) is ns (omega arith)) h
over_outer (name_item w line) ms group h = absurd (cc group)
over_outer (iri_item w line) ms group h = absurd (cc group)
over_outer (literal_item line) ms group h = absurd (cc group)
over_outer (sign_item kind line) ms group h = absurd (cc group)

marks_open : (n line : ℕ) (name : List ℕ) (inner : Items) (is rest : List Item)
    → list_all is_any_group (take n is) ≡ true → drop n is ≡ group_item (Some name) inner line ∷ rest
    → bytes_eq name (codes "Ontology") ≡ true → opens_document 0 (written_all (items_of is)) ≡ true
marks_open zero line name inner is rest groups here named =
    let made : opens_document 0 (written_all (items_of (group_item (Some name) inner line ∷ rest))) ≡ true =
    ap (λ v. (true && v) || opens_document 1 ((written_all inner ++ closing ∷ []) ++ written_all (items_of rest)))
    named in
    ap (λ (l : List Item). opens_document 0 (written_all (items_of l))) here ∙ made
marks_open (suc n) line name inner [] rest groups here named =
    let clash : [] ≡ group_item (Some name) inner line ∷ rest = here in absurd (cc clash)
marks_open (suc n) line name inner (i ∷ is) rest groups here named =
    let parts = and_parts (is_any_group i) (list_all is_any_group (take n is)) groups in
    over_outer i (written_all (items_of is)) parts.0 (marks_open n line name inner is rest parts.1 here named)

-- ---- the tokens of these marks

or_parts : (a b c : Bool) → (a ≡ true → c ≡ true) → (b ≡ true → c ≡ true) → (a || b) ≡ true → c ≡ true
or_parts true b c first second h = first refl
or_parts false b c first second h = second h

zero_of : (n : ℕ) → nat_eq n 0 ≡ true → n ≡ 0
zero_of n h = same_number n 0 h

-- where no bracket is open nothing is known to stand before a name that makes it part of a literal
abbrev IsPlainOutside : Met → Type 0
IsPlainOutside m = m.depth ≡ 0 → m.latest ≡ nothing_met.latest

module _ (end : ℕ) (ts : List PlainToken) where
  abbrev FindsLast : Type 0
  FindsLast = (m : Met) → IsPlainOutside m → opens_document m.depth (marks ts) ≡ true
      → bracket_fault end m.depth ts ≡ None → last_in m ts ≡ true

-- a token that stands for an item and leaves the brackets as they are
passed : (end : ℕ) (ts : List PlainToken) (m n : Met) (i : Item) (ms : List Mark) → FindsLast end ts → m.depth ≡ n.depth
    → ms ≡ marks ts → (not (nat_eq m.depth 0) && opens_document m.depth ms) ≡ true
    → bracket_fault end m.depth ts ≡ None → last_in n ts ≡ true
passed end ts m n i ms rest same are h balanced =
    let parts = and_parts (not (nat_eq m.depth 0)) (opens_document m.depth ms) h in
    let inside : n.depth ≡ 0 → ⊥ = λ none.
    let outside : nat_eq m.depth 0 ≡ true = ap (λ d. nat_eq d 0) (same ∙ none) in
    let clash : false ≡ true = ap not (sym outside) ∙ parts.0 in
    cc clash in
    rest n (λ none. absurd (inside none)) ((λ k. opens_document (sym same k) (sym are k)) ∙ parts.1)
    ((λ k. bracket_fault end (sym same k) ts) ∙ balanced)

-- tokens behind a place, in which the bracket is found
module _ (end : ℕ) (ts : List PlainToken) where
  abbrev FindsLater : Type 0
  FindsLater = (us : List PlainToken) → length us ≤ length ts → FindsLast end us

abbrev token_of_kind : Kind → PlainToken → PlainToken
token_of_kind k t = record { kind = k; text = t.text; start = t.start; line = t.line }

-- a string of n tokens stands before these, whose literal may go on in them
module _ (end : ℕ) (m : Met) (i : Item) where
  abbrev AfterString : List PlainToken → Type 0
  AfterString ts = (n : Met) → m.depth ≡ n.depth
      → (not (nat_eq m.depth 0) && opens_document m.depth (marks_from (literal_rest ts) ts)) ≡ true
      → bracket_fault end m.depth ts ≡ None → last_in n ts ≡ true

  alone : (ts : List PlainToken) → FindsLater end ts → (n : Met) → m.depth ≡ n.depth
      → (not (nat_eq m.depth 0) && opens_document m.depth (marks ts)) ≡ true → bracket_fault end m.depth ts ≡ None
      → last_in n ts ≡ true
  alone ts rest n same h balanced = passed end ts m n i (marks ts) (rest ts (omega arith)) same refl h balanced

  -- the carets after it, and what stands after them
  after_carets : (k : Kind) (u w : PlainToken) (ws : List PlainToken)
      → FindsLater end (token_of_kind Carets u ∷ (token_of_kind k w ∷ ws))
      → AfterString (token_of_kind Carets u ∷ (token_of_kind k w ∷ ws))
  after_carets Name u w ws rest n same h balanced =
      passed end ws m (met_after Name w.text (met_after Carets u.text n)) i (marks ws) (rest ws (omega arith)) same refl
      h balanced
  after_carets Iri u w ws rest n same h balanced =
      passed end ws m (met_after Iri w.text (met_after Carets u.text n)) i (marks ws) (rest ws (omega arith)) same refl
      h balanced
  after_carets k u w ws rest n same h balanced =
      alone (token_of_kind Carets u ∷ (token_of_kind k w ∷ ws)) rest n same h balanced

  after_string_at : (k : Kind) (u : PlainToken) (us : List PlainToken) → FindsLater end (token_of_kind k u ∷ us)
      → AfterString (token_of_kind k u ∷ us)
  after_string_at Tag u us rest n same h balanced =
      passed end us m (met_after Tag u.text n) i (marks us) (rest us (omega arith)) same refl h balanced
  after_string_at Carets u [] rest n same h balanced = alone (token_of_kind Carets u ∷ []) rest n same h balanced
  after_string_at Carets u (w ∷ ws) rest n same h balanced = after_carets w.kind u w ws rest n same h balanced
  after_string_at k u us rest n same h balanced = alone (token_of_kind k u ∷ us) rest n same h balanced

  after_string : (ts : List PlainToken) → FindsLater end ts → AfterString ts
  after_string [] rest n same h balanced = alone [] rest n same h balanced
  after_string (u ∷ us) rest n same h balanced = after_string_at u.kind u us rest n same h balanced

module _ (end : ℕ) (t : PlainToken) where
  -- a name, which is that of a group or an item
  at_name : (k : Kind) (u : PlainToken) (us : List PlainToken) → FindsLater end (token_of_kind k u ∷ us)
      → FindsLast end (token_of_kind Name t ∷ (token_of_kind k u ∷ us))
  at_name OpenBracket u us rest m plain h balanced =
      or_parts (nat_eq m.depth 0 && bytes_eq t.text (codes "Ontology")) (opens_document (m.depth + 1) (marks us))
      (last_in entered us)
      (λ is.
      let parts = and_parts (nat_eq m.depth 0) (bytes_eq t.text (codes "Ontology")) is in
      let known : entered.document ≡ true =
      ap (λ v. cond v (is_document_name (behind_name t.text m.latest)) m.document) parts.0
      ∙ ap (λ l. is_document_name (behind_name t.text l)) (plain (zero_of m.depth parts.0))
      ∙ ap (λ v. is_document_name (cond v (behind_name (codes "Ontology") nothing_met.latest) nothing_met.latest))
      parts.1 in
      closes_inside end us entered known (omega arith) inside)
      (λ others. rest us (omega arith) entered (λ none. absurd (omega (arith, none))) others inside)
      h
    where
      entered : Met
      entered = met_after OpenBracket u.text (met_after Name t.text m)

      inside : bracket_fault end (m.depth + 1) us ≡ None
      inside = opened end u.line m.depth us (nat_lt m.depth 64) balanced
  at_name k u us rest m plain h balanced =
      alone end m (name_item t.text t.line) (token_of_kind k u ∷ us) rest (met_after Name t.text m) refl h balanced

  at_token : (k : Kind) (ts : List PlainToken) → FindsLater end ts → FindsLast end (token_of_kind k t ∷ ts)
  at_token Name [] rest m plain h balanced =
      alone end m (name_item t.text t.line) [] rest (met_after Name t.text m) refl h balanced
  at_token Name (u ∷ us) rest m plain h balanced = at_name u.kind u us rest m plain h balanced
  at_token String ts rest m plain h balanced =
      after_string end m (literal_item t.line) ts rest (met_after String t.text m) refl h balanced
  at_token OpenBracket ts rest m plain h balanced =
      or_parts (nat_eq m.depth 0 && false) (opens_document (m.depth + 1) (marks ts))
      (last_in (met_after OpenBracket t.text m) ts)
      (λ never. absurd (cc ((and_parts (nat_eq m.depth 0) false never).1)))
      (λ others. rest ts (omega arith) (met_after OpenBracket t.text m) (λ none. absurd (omega (arith, none))) others
      (opened end t.line m.depth ts (nat_lt m.depth 64) balanced))
      h
  at_token CloseBracket ts rest m plain h balanced =
      or_right (is_last m (token_of_kind CloseBracket t)) (last_in (met_after CloseBracket t.text m) ts)
      (rest ts (omega arith) (met_after CloseBracket t.text m) (λ none. refl) h
      (closed end t.line m.depth ts (nat_eq m.depth 0) balanced))
  at_token k ts rest m plain h balanced =
      alone end m (literal_item t.line) ts rest (met_after k t.text m) refl h balanced

finds_last : (n end : ℕ) (ts : List PlainToken) → length ts ≤ n → FindsLast end ts
finds_last n end [] few m plain h balanced = absurd (cc h)
finds_last zero end (t ∷ ts) few m plain h balanced = absurd (omega (arith, few))
finds_last (suc n) end (t ∷ ts) few m plain h balanced =
    at_token end t t.kind ts (λ us shorter. finds_last n end us (omega (arith, few, shorter))) m plain h balanced

-- a text whose items are groups up to one with the name `Ontology` is read up to the bracket of that group
pub opens_closes : (end line n : ℕ) (text name : List ℕ) (r : DocumentTokens) (is rest : List Item) (inner : Items)
    → reading text ≡ Some r → IsTree r.tokens is → bracket_fault end 0 r.tokens ≡ None
    → list_all is_any_group (take n is) ≡ true → drop n is ≡ group_item (Some name) inner line ∷ rest
    → bytes_eq name (codes "Ontology") ≡ true → EndsAs nothing_met (pieces text) r
opens_closes end line n text name r is rest inner read tree balanced groups made named =
    let opens : opens_document 0 (marks r.tokens) ≡ true =
    ap (opens_document 0) (sym tree.made) ∙ marks_open n line name inner is rest groups made named in
    let last : last_in nothing_met r.tokens ≡ true =
    finds_last (length r.tokens) end r.tokens (omega arith) nothing_met (λ none. refl) opens balanced in
    read_to_last (length text) nothing_met (pieces text) r (read_ok (document text) r read) last
