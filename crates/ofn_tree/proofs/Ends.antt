-- The tokens of a reading end with the first bracket that closes the document's group.
use Rattle.std.proofs.Common.{◌≡◌, ℕ, ◌+◌, ◌≤◌, Bool, true, false, cond, ◌&&◌, List, [], ◌∷◌, ◌++◌, length, Some}
use Rattle.std.proofs.Common.{Result, Ok, Err, refl, ap, sym, ◌∙◌, subst, ◌⊎◌, inl, inr, arith, append_assoc}
use Rattle.std.proofs.Common.{append-nil, nat_eq, codes, bytes_eq}
use Rattle.std.proofs.lemmas.Grind.{common_steps}
use Rattle.std.proofs.lemmas.Slice.Eq.{bytes_eq-Decides}
use Rattle.std.proofs.lemmas.Bool.{and_parts}
use Rattle.ofn_tree.specs.declared.token.Kind.{Kind}
use Rattle.ofn_tree.specs.declared.token.Kind.TheVariants.{OpenBracket, CloseBracket, Equals, Iri, String, Tag, Carets}
use Rattle.ofn_tree.specs.declared.token.Kind.TheVariants.{Name}
use Rattle.ofn_tree.specs.Token.{PlainToken, is_close}
use Rattle.ofn_tree.specs.Lexemes.{Piece, whole, faulty, pieces}
use Rattle.ofn_tree.specs.declared.fault.TextFault.{TextFault}
use Rattle.ofn_tree.specs.declared.lexer.Latest.{Latest}
use Rattle.ofn_tree.specs.declared.lexer.Latest.TheVariants.{DocumentName, QuotedString, TypedString, Other}
use Rattle.ofn_tree.specs.Document.{Met, DocumentTokens, nothing_met, is_last, is_document_name, behind_name}
use Rattle.ofn_tree.specs.Document.{behind_carets, latest_after, depth_after, met_after, document_front, with_token}
use Rattle.ofn_tree.specs.Document.{document, reading}
use Rattle.ofn_tree.proofs.Slices.{read_ok}
use Rattle.ofn_tree.specs.Group.{open_behind, StaysOpen, EndsWithCarets, IsInsideDocument, EndsDocument}
use Rattle.ofn_tree.specs.Group.{EndsDocumentOrInput, EndsAtFirstDocument}

zero_of : (n : ℕ) → nat_eq n 0 ≡ true → n ≡ 0
zero_of n h = grind (arith, common_steps, h)

some_of : (n : ℕ) → nat_eq n 0 ≡ false → 1 ≤ n
some_of n h = grind (arith, common_steps, h)

one_of : (n : ℕ) → nat_eq n 1 ≡ true → n ≡ 1
one_of n h = grind (arith, common_steps, h)

above_zero : (n : ℕ) → 1 ≤ n → nat_eq n 0 ≡ false
above_zero n h = grind (arith, common_steps, h)

close_of : (k : Kind) → is_close k ≡ true → k ≡ CloseBracket
close_of CloseBracket h = refl
close_of OpenBracket h = cc
close_of Equals h = cc
close_of Iri h = cc
close_of String h = cc
close_of Tag h = cc
close_of Carets h = cc
close_of Name h = cc

-- ---- what is met after tokens

abbrev met_over : Met → List PlainToken → Met
met_over m [] = m
met_over m (t ∷ ts) = met_over (met_after t.kind t.text m) ts

met_over-append : (m : Met) (ts us : List PlainToken) → met_over m (ts ++ us) ≡ met_over (met_over m ts) us
met_over-append m [] us = refl
met_over-append m (t ∷ ts) us = met_over-append (met_after t.kind t.text m) ts us

over-depth : (m : Met) (ts : List PlainToken) → (met_over m ts).depth ≡ open_behind m.depth ts
over-depth m [] = refl
over-depth m (t ∷ ts) = over-depth (met_after t.kind t.text m) ts

open_behind-append : (d : ℕ) (ts us : List PlainToken) → open_behind d (ts ++ us) ≡ open_behind (open_behind d ts) us
open_behind-append d [] us = refl
open_behind-append d (t ∷ ts) us = open_behind-append (depth_after t.kind d) ts us

StaysOpen-append : (d : ℕ) (ts : List PlainToken) (t : PlainToken) → StaysOpen d ts
    → 1 ≤ depth_after t.kind (open_behind d ts) → StaysOpen d (ts ++ t ∷ [])
StaysOpen-append d [] t stays more = (stays, more)
StaysOpen-append d (u ∷ ts) t stays more = (stays.0, StaysOpen-append (depth_after u.kind d) ts t stays.1 more)

-- ---- what is met tells where the tokens end

record NamesDocument (ts : List PlainToken) : Type 0 where
  front : List PlainToken
  name : PlainToken
  made : ts ≡ front ++ name ∷ []
  apart : EndsWithCarets front → ⊥
  is_name : name.kind ≡ Name
  is_ontology : name.text ≡ codes "Ontology"

record EndsWithString (ts : List PlainToken) : Type 0 where
  front : List PlainToken
  string : PlainToken
  made : ts ≡ front ++ string ∷ []
  is_string : string.kind ≡ String

-- what the last tokens are, in words of the tokens
abbrev LatestIs : List PlainToken → Latest → Type 0
LatestIs ts DocumentName = NamesDocument ts
LatestIs ts QuotedString = EndsWithString ts
LatestIs ts TypedString = EndsWithCarets ts
LatestIs ts Other = Unit {0}

record Tells (ts : List PlainToken) (m : Met) : Type 0 where
  met : m ≡ met_over nothing_met ts
  latest : LatestIs ts m.latest
  document : m.document ≡ true → 1 ≤ m.depth → IsInsideDocument m.depth ts

tells-depth : (ts : List PlainToken) (m : Met) → Tells ts m → m.depth ≡ open_behind 0 ts
tells-depth ts m tells = ap (λ n. n.depth) tells.met ∙ over-depth nothing_met ts

-- after a string and carets it is known that they are the last
carets-known : (ts : List PlainToken) (m : Met) → Tells ts m → EndsWithCarets ts → m.latest ≡ TypedString
carets-known ts m tells e =
    let before = met_over nothing_met e.front in
    ap (λ n. n.latest)
    (tells.met ∙ ap (met_over nothing_met) e.made ∙ met_over-append nothing_met e.front (e.string ∷ (e.carets ∷ [])))
    ∙ (λ i. latest_after (e.is_carets i) e.carets.text (latest_after (e.is_string i) e.string.text before.latest))

-- one more token inside the document's group
inside-snoc : (ts : List PlainToken) (t : PlainToken) (d : ℕ) → IsInsideDocument d ts → 1 ≤ depth_after t.kind d
    → IsInsideDocument (depth_after t.kind d) (ts ++ t ∷ [])
inside-snoc ts t d i more = record {
  before = i.before;
  name = i.name;
  bracket = i.bracket;
  inside = i.inside ++ t ∷ [];
  made = ap (λ l. l ++ t ∷ []) i.made ∙ append_assoc i.before (i.name ∷ (i.bracket ∷ i.inside)) (t ∷ []);
  outside = i.outside;
  apart = i.apart;
  is_name = i.is_name;
  is_ontology = i.is_ontology;
  opens = i.opens;
  stays = StaysOpen-append 1 i.inside t i.stays (subst (λ e. 1 ≤ depth_after t.kind e) (sym i.level) more);
  level = open_behind-append 1 i.inside (t ∷ []) ∙ ap (depth_after t.kind) i.level;
}

-- a bracket opens after the name
inside-new : (ts : List PlainToken) (t : PlainToken) → open_behind 0 ts ≡ 0 → NamesDocument ts → t.kind ≡ OpenBracket
    → IsInsideDocument 1 (ts ++ t ∷ [])
inside-new ts t outside n opens =
    let level : open_behind 0 ts ≡ open_behind 0 n.front =
    ap (open_behind 0) n.made ∙ open_behind-append 0 n.front (n.name ∷ [])
    ∙ ap (λ k. depth_after k (open_behind 0 n.front)) n.is_name in
    record {
      before = n.front;
      name = n.name;
      bracket = t;
      inside = [];
      made = ap (λ l. l ++ t ∷ []) n.made ∙ append_assoc n.front (n.name ∷ []) (t ∷ []);
      outside = sym level ∙ outside;
      apart = n.apart;
      is_name = n.is_name;
      is_ontology = n.is_ontology;
      opens = opens;
      stays = omega arith;
      level = refl;
    }

at_kind : (k : Kind) (ts : List PlainToken) (t : PlainToken) (d : ℕ) → t.kind ≡ k → IsInsideDocument d ts
    → 1 ≤ depth_after k d → IsInsideDocument (depth_after k d) (ts ++ t ∷ [])
at_kind k ts t d is i more =
    subst (λ j. IsInsideDocument (depth_after j d) (ts ++ t ∷ [])) is
    (inside-snoc ts t d i (subst (λ j. 1 ≤ depth_after j d) (sym is) more))

names : (ts : List PlainToken) (latest : Latest) → LatestIs ts latest → is_document_name latest ≡ true
    → NamesDocument ts
names ts DocumentName is h = is
names ts QuotedString is h = cc
names ts TypedString is h = cc
names ts Other is h = cc

document-snoc : (k : Kind) (ts : List PlainToken) (t : PlainToken) (m : Met) → t.kind ≡ k → Tells ts m
    → (met_after k t.text m).document ≡ true → 1 ≤ (met_after k t.text m).depth
    → IsInsideDocument (met_after k t.text m).depth (ts ++ t ∷ [])
document-snoc OpenBracket ts t m is tells h more =
    elim (nat_eq m.depth 0) as
    (λ v. nat_eq m.depth 0 ≡ v → cond v (is_document_name m.latest) m.document ≡ true
    → IsInsideDocument (m.depth + 1) (ts ++ t ∷ [])) [
      | true ↦ λ e g.
          let none : m.depth ≡ 0 = zero_of m.depth e in
          let one : 1 ≡ m.depth + 1 = omega (arith, none) in
          subst (λ d. IsInsideDocument d (ts ++ t ∷ [])) one
          (inside-new ts t (sym (tells-depth ts m tells) ∙ none) (names ts m.latest tells.latest g) is)
      | false ↦ λ e g. at_kind OpenBracket ts t m.depth is (tells.document g (some_of m.depth e)) more
    ] refl h
document-snoc CloseBracket ts t m is tells h more =
    let some : 1 ≤ m.depth = omega (arith, more) in
    at_kind CloseBracket ts t m.depth is (tells.document h some) more
document-snoc Equals ts t m is tells h more = at_kind Equals ts t m.depth is (tells.document h more) more
document-snoc Iri ts t m is tells h more = at_kind Iri ts t m.depth is (tells.document h more) more
document-snoc String ts t m is tells h more = at_kind String ts t m.depth is (tells.document h more) more
document-snoc Tag ts t m is tells h more = at_kind Tag ts t m.depth is (tells.document h more) more
document-snoc Carets ts t m is tells h more = at_kind Carets ts t m.depth is (tells.document h more) more
document-snoc Name ts t m is tells h more = at_kind Name ts t m.depth is (tells.document h more) more

same_bytes : (xs ys : List ℕ) → bytes_eq xs ys ≡ true → xs ≡ ys
same_bytes xs ys h = grind (arith, common_steps, bytes_eq-Decides xs ys, h)

-- a name is the last token, and no string and carets stand before it
name-latest : (ts : List PlainToken) (t : PlainToken) (v : Bool) → t.kind ≡ Name → (EndsWithCarets ts → ⊥)
    → bytes_eq t.text (codes "Ontology") ≡ v → LatestIs (ts ++ t ∷ []) (cond v DocumentName Other)
name-latest ts t true is apart same = record {
  front = ts;
  name = t;
  made = refl;
  apart = apart;
  is_name = is;
  is_ontology = same_bytes t.text (codes "Ontology") same;
}
name-latest ts t false is apart same = tt

name-snoc : (ts : List PlainToken) (t : PlainToken) (latest : Latest) → t.kind ≡ Name
    → (EndsWithCarets ts → latest ≡ TypedString) → LatestIs (ts ++ t ∷ []) (behind_name t.text latest)
name-snoc ts t DocumentName is known =
    name-latest ts t (bytes_eq t.text (codes "Ontology")) is (λ e. let h : DocumentName ≡ TypedString = known e in cc)
    refl
name-snoc ts t QuotedString is known =
    name-latest ts t (bytes_eq t.text (codes "Ontology")) is (λ e. let h : QuotedString ≡ TypedString = known e in cc)
    refl
name-snoc ts t TypedString is known = tt
name-snoc ts t Other is known =
    name-latest ts t (bytes_eq t.text (codes "Ontology")) is (λ e. let h : Other ≡ TypedString = known e in cc) refl

carets-snoc : (ts : List PlainToken) (t : PlainToken) (latest : Latest) → t.kind ≡ Carets → LatestIs ts latest
    → LatestIs (ts ++ t ∷ []) (behind_carets latest)
carets-snoc ts t DocumentName is before = tt
carets-snoc ts t QuotedString is before = record {
  front = before.front;
  string = before.string;
  carets = t;
  made = ap (λ l. l ++ t ∷ []) before.made ∙ append_assoc before.front (before.string ∷ []) (t ∷ []);
  is_string = before.is_string;
  is_carets = is;
}
carets-snoc ts t TypedString is before = tt
carets-snoc ts t Other is before = tt

latest-snoc : (k : Kind) (ts : List PlainToken) (t : PlainToken) (latest : Latest) → t.kind ≡ k → LatestIs ts latest
    → (EndsWithCarets ts → latest ≡ TypedString) → LatestIs (ts ++ t ∷ []) (latest_after k t.text latest)
latest-snoc Name ts t latest is before known = name-snoc ts t latest is known
latest-snoc String ts t latest is before known = record { front = ts; string = t; made = refl; is_string = is }
latest-snoc Carets ts t latest is before known = carets-snoc ts t latest is before
latest-snoc OpenBracket ts t latest is before known = tt
latest-snoc CloseBracket ts t latest is before known = tt
latest-snoc Equals ts t latest is before known = tt
latest-snoc Iri ts t latest is before known = tt
latest-snoc Tag ts t latest is before known = tt

tells-snoc : (ts : List PlainToken) (t : PlainToken) (m : Met) → Tells ts m
    → Tells (ts ++ t ∷ []) (met_after t.kind t.text m)
tells-snoc ts t m tells = record {
  met = ap (met_after t.kind t.text) tells.met ∙ sym (met_over-append nothing_met ts (t ∷ []));
  latest = latest-snoc t.kind ts t m.latest refl tells.latest (carets-known ts m tells);
  document = document-snoc t.kind ts t m refl tells;
}

tells-nothing : Tells [] nothing_met
tells-nothing = record { met = refl; latest = tt; document = λ h. cc }

tells-over : (ts us : List PlainToken) (m : Met) → Tells ts m → Tells (ts ++ us) (met_over m us)
tells-over ts [] m tells = subst (λ l. Tells l m) (sym (append-nil ts)) tells
tells-over ts (u ∷ us) m tells =
    subst (λ l. Tells l (met_over (met_after u.kind u.text m) us)) (append_assoc ts (u ∷ []) us)
    (tells-over (ts ++ u ∷ []) us (met_after u.kind u.text m) (tells-snoc ts u m tells))

-- the last token closes the document's group
ends-at : (ts : List PlainToken) (t : PlainToken) (m : Met) → Tells ts m → is_last m t ≡ true
    → EndsDocument (ts ++ t ∷ [])
ends-at ts t m tells last =
    let both = (and_parts (is_close t.kind && nat_eq m.depth 1) m.document last).0 in
    let one : m.depth ≡ 1 = one_of m.depth (and_parts (is_close t.kind) (nat_eq m.depth 1) both).1 in
    record {
      front = ts;
      bracket = t;
      made = refl;
      is_inside =
          subst (λ d. IsInsideDocument d ts) one
          (tells.document (and_parts (is_close t.kind && nat_eq m.depth 1) m.document last).1 (omega (arith, one)));
      closes = close_of t.kind (and_parts (is_close t.kind) (nat_eq m.depth 1) both).0;
    }

abbrev EndsOrAll : ℕ → List PlainToken → Result DocumentTokens TextFault → Type 0
EndsOrAll end ts (Err fault) = Unit {0}
EndsOrAll end ts (Ok r) = EndsDocument (ts ++ r.tokens) ⊎ (r.place_behind ≡ end)

more-ends : (end : ℕ) (ts : List PlainToken) (t : PlainToken) (o : Result DocumentTokens TextFault)
    → EndsOrAll end (ts ++ t ∷ []) o → EndsOrAll end ts (with_token t o)
more-ends end ts t (Err fault) h = tt
more-ends end ts t (Ok r) h = subst (λ l. EndsDocument l ⊎ (r.place_behind ≡ end)) (append_assoc ts (t ∷ []) r.tokens) h

front-ends : (end : ℕ) (ts : List PlainToken) (m : Met) (ps : List Piece) → Tells ts m
    → EndsOrAll end ts (document_front end m ps)
front-ends end ts m [] tells = inr refl
front-ends end ts m (faulty fault ∷ ps) tells = tt
front-ends end ts m (whole t behind ∷ ps) tells =
    elim (is_last m t) as
    (λ v. is_last m t ≡ v
    → EndsOrAll end ts
    (cond v (Ok (record { tokens = t ∷ []; place_behind = behind }))
    (with_token t (document_front end (met_after t.kind t.text m) ps)))) [
      | true ↦ λ e. inl (ends-at ts t m tells e)
      | false ↦
          λ e. more-ends end ts t (document_front end (met_after t.kind t.text m) ps)
          (front-ends end (ts ++ t ∷ []) (met_after t.kind t.text m) ps (tells-snoc ts t m tells))
    ] refl

pub ends : (input : List ℕ) (r : DocumentTokens) → reading input ≡ Some r → EndsDocumentOrInput input r
ends input r is =
    subst (EndsOrAll (length input) []) (read_ok (document input) r is)
    (front-ends (length input) [] nothing_met (pieces input) tells-nothing)

-- ---- the first such bracket is the last token

document-kept : (k : Kind) (w : List ℕ) (m : Met) → m.document ≡ true → 1 ≤ m.depth → (met_after k w m).document ≡ true
document-kept OpenBracket w m h some =
    ap (λ v. cond v (is_document_name m.latest) m.document) (above_zero m.depth some) ∙ h
document-kept CloseBracket w m h some = h
document-kept Equals w m h some = h
document-kept Iri w m h some = h
document-kept String w m h some = h
document-kept Tag w m h some = h
document-kept Carets w m h some = h
document-kept Name w m h some = h

first_open : (d : ℕ) (ts : List PlainToken) → StaysOpen d ts → 1 ≤ d
first_open d [] stays = stays
first_open d (t ∷ ts) stays = stays.0

document-stays : (m : Met) (ts : List PlainToken) → m.document ≡ true → StaysOpen m.depth ts
    → (met_over m ts).document ≡ true
document-stays m [] h stays = h
document-stays m (t ∷ ts) h stays =
    document-stays (met_after t.kind t.text m) ts (document-kept t.kind t.text m h stays.0) stays.1

snoc_same : (xs ys : List PlainToken) (a b : PlainToken) → xs ++ a ∷ [] ≡ ys ++ b ∷ [] → (xs ≡ ys) × (a ≡ b)
snoc_same [] [] a b e = (refl, cc)
snoc_same [] (y ∷ []) a b e = cc
snoc_same [] (y ∷ (z ∷ ys)) a b e = cc
snoc_same (x ∷ []) [] a b e = cc
snoc_same (x ∷ (z ∷ xs)) [] a b e = cc
snoc_same (x ∷ xs) (y ∷ ys) a b e =
    let tails : xs ++ a ∷ [] ≡ ys ++ b ∷ [] = cc in
    let same = snoc_same xs ys a b tails in
    let heads : x ≡ y = cc in
    ((λ k. heads k ∷ same.0 k), same.1)

name-known : (ts : List PlainToken) (name : PlainToken) (latest : Latest) → LatestIs ts latest → (EndsWithCarets ts → ⊥)
    → name.text ≡ codes "Ontology" → behind_name name.text latest ≡ DocumentName
name-known ts name DocumentName is apart same = ap (λ w. behind_name w DocumentName) same
name-known ts name QuotedString is apart same = ap (λ w. behind_name w QuotedString) same
name-known ts name TypedString is apart same = absurd (apart is)
name-known ts name Other is apart same = ap (λ w. behind_name w Other) same

-- after the name and the bracket the group is the document's
entered : (m : Met) (name bracket : PlainToken) → m.depth ≡ 0 → name.kind ≡ Name
    → behind_name name.text m.latest ≡ DocumentName → bracket.kind ≡ OpenBracket
    → met_after bracket.kind bracket.text (met_after name.kind name.text m)
    ≡ record { depth = 1; document = true; latest = Other }
entered m name bracket none is_name known opens =
    let named : met_after name.kind name.text m ≡ record { depth = 0; document = m.document; latest = DocumentName } =
    (λ k. met_after (is_name k) name.text m)
    ∙ (λ k. record { depth = none k; document = m.document; latest = known k }) in
    (λ k. met_after (opens k) bracket.text (named k))

last-of : (ts : List PlainToken) (t : PlainToken) → EndsDocument (ts ++ t ∷ [])
    → is_last (met_over nothing_met ts) t ≡ true
last-of ts t e =
    let same = snoc_same ts e.front t e.bracket e.made in
    let i = e.is_inside in
    let m = met_over nothing_met i.before in
    let none : m.depth ≡ 0 = over-depth nothing_met i.before ∙ i.outside in
    let begun : Met = record { depth = 1; document = true; latest = Other } in
    let tells : Tells i.before m = tells-over [] i.before nothing_met tells-nothing in
    let known : behind_name i.name.text m.latest ≡ DocumentName =
    name-known i.before i.name m.latest tells.latest i.apart i.is_ontology in
    let whole_way : met_over nothing_met ts ≡ met_over begun i.inside =
    ap (met_over nothing_met) (same.0 ∙ i.made) ∙ met_over-append nothing_met i.before (i.name ∷ (i.bracket ∷ i.inside))
    ∙ ap (λ n. met_over n i.inside) (entered m i.name i.bracket none i.is_name known i.opens) in
    let level : (met_over nothing_met ts).depth ≡ 1 =
    ap (λ n. n.depth) whole_way ∙ over-depth begun i.inside ∙ i.level in
    let document : (met_over nothing_met ts).document ≡ true =
    ap (λ n. n.document) whole_way ∙ document-stays begun i.inside refl i.stays in
    let closing : t.kind ≡ CloseBracket = ap (λ u. u.kind) same.1 ∙ e.closes in
    λ k. is_close (closing k) && nat_eq (level k) 1 && document k

abbrev StopsAtLast : Met → Result DocumentTokens TextFault → Type 0
StopsAtLast m (Err fault) = Unit {0}
StopsAtLast m (Ok r) = (front rest : List PlainToken) (t : PlainToken) → r.tokens ≡ front ++ t ∷ rest
    → is_last (met_over m front) t ≡ true → rest ≡ []

stops-none : (m : Met) (end : ℕ) → StopsAtLast m (Ok (record { tokens = []; place_behind = end }))
stops-none m end [] rest t e last = cc
stops-none m end (x ∷ front) rest t e last = cc

stops-one : (m : Met) (u : PlainToken) (end : ℕ) → StopsAtLast m (Ok (record { tokens = u ∷ []; place_behind = end }))
stops-one m u end [] rest t e last = cc
stops-one m u end (x ∷ []) rest t e last = cc
stops-one m u end (x ∷ (y ∷ front)) rest t e last = cc

stops-more : (m : Met) (u : PlainToken) (o : Result DocumentTokens TextFault) → is_last m u ≡ false
    → StopsAtLast (met_after u.kind u.text m) o → StopsAtLast m (with_token u o)
stops-more m u (Err fault) go_on h = tt
stops-more m u (Ok r) go_on h =
    λ front rest t e last. elim front as
    (λ f. u ∷ r.tokens ≡ f ++ t ∷ rest → is_last (met_over m f) t ≡ true → rest ≡ []) [
      | [] ↦
          λ e' last'.
          let heads : u ≡ t = cc in let other : is_last m t ≡ false = ap (is_last m) (sym heads) ∙ go_on in cc
      | x ∷ f ↦ λ e' last'.
          let heads : u ≡ x = cc in
          let tails : r.tokens ≡ f ++ t ∷ rest = cc in
          h f rest t tails (ap (λ y. is_last (met_over (met_after y.kind y.text m) f) t) heads ∙ last')
    ] e last

stops : (end : ℕ) (m : Met) (ps : List Piece) → StopsAtLast m (document_front end m ps)
stops end m [] = stops-none m end
stops end m (faulty fault ∷ ps) = tt
stops end m (whole u behind ∷ ps) =
    elim (is_last m u) as
    (λ v. is_last m u ≡ v
    → StopsAtLast m
    (cond v (Ok (record { tokens = u ∷ []; place_behind = behind }))
    (with_token u (document_front end (met_after u.kind u.text m) ps)))) [
      | true ↦ λ e. stops-one m u behind
      | false ↦
          λ e. stops-more m u (document_front end (met_after u.kind u.text m) ps) e
          (stops end (met_after u.kind u.text m) ps)
    ] refl

pub first : (input : List ℕ) (r : DocumentTokens) → reading input ≡ Some r → EndsAtFirstDocument r.tokens
first input r is =
    λ front rest t e ended. subst (StopsAtLast nothing_met) (read_ok (document input) r is)
    (stops (length input) nothing_met (pieces input)) front rest t e (last-of front t ended)
