-- An index only grows at its end, so that it is undone by cutting it.
use Rattle.std.proofs.Common.{◌≡◌, ℕ, zero, suc, ◌+◌, ◌<◌, min, max, Bool, true, false, List, [], ◌∷◌, ◌++◌, length}
use Rattle.std.proofs.Common.{take, drop, get_or, refl, ap, sym, subst, ◌∙◌, Some, None, Option, arith, append_assoc}
use Rattle.std.proofs.Common.{drop-cons, add-one, length-append}
use Rattle.std.specs.Prelude.{◌==◌, slice_get, if◌then◌else◌, Result, Ok, Err, OnOk, OnErr}
use Rattle.std.specs.Result.{is_err}
use Rattle.std.proofs.lemmas.List.{append-nil}
use Rattle.std.proofs.Math.Seq.{take-append_seam, take-length}
use Rattle.calculus_specs.specs.declared.facts.Fact.{Fact}
use Rattle.calculus_specs.specs.declared.facts.Fact.TheVariants as F
use Rattle.branch_facts.specs.declared.seen.Seen.{Seen}
use Rattle.branch_facts.specs.declared.seen.Seen.TheVariants.{Has, Edge, Apart}
use Rattle.branch_facts.specs.Seen.{Index, through, is_seen, with_seen, mentions, seen_renamed, copied_one, copied}
use Rattle.branch_facts.specs.Seen.{copied_at, index_linked, index_joined, seeing, index_after, index_from, index_of}
use Rattle.branch_facts.specs.Seen.{Begins}

-- ---- lists that grow

abbrev pub Longer : {X : Type 0} → List X → List X → Type 0
Longer {X} xs ys = (more : List X) × (ys ≡ xs ++ more)

pub longer_itself : {X : Type 0} (xs : List X) → Longer xs xs
longer_itself xs = ([], sym (append-nil xs))

pub longer_twice : {X : Type 0} (xs ys zs : List X) → Longer xs ys → Longer ys zs → Longer xs zs
longer_twice xs ys zs (more, e) (rest, f) = (more ++ rest, f ∙ ap (λ us. us ++ rest) e ∙ append_assoc xs more rest)

pub longer_taken : {X : Type 0} (xs ys : List X) → Longer xs ys → take (length xs) ys ≡ xs
longer_taken xs ys (more, e) = ap (take (length xs)) e ∙ take-append_seam xs more

-- ---- what is seen

with_seen_longer : (seen : List Seen) (f : Seen) → Longer seen (with_seen seen f)
with_seen_longer seen f = by (is_seen seen f)
  where
    by : (b : Bool) → Longer seen (if b then seen else seen ++ f ∷ [])
    by true = longer_itself seen
    by false = (f ∷ [], refl)

copied_one_longer : (high low : ℕ) (seen : List Seen) (f : Seen) → Longer seen (copied_one high low seen f)
copied_one_longer high low seen f = by (mentions high f)
  where
    by : (b : Bool) → Longer seen (if b then with_seen seen (seen_renamed high low f) else seen)
    by true = with_seen_longer seen (seen_renamed high low f)
    by false = longer_itself seen

copied_longer : (high low : ℕ) (fs seen : List Seen) → Longer seen (copied high low fs seen)
copied_longer high low [] seen = longer_itself seen
copied_longer high low (f ∷ fs) seen =
    longer_twice seen (copied_one high low seen f) (copied high low fs (copied_one high low seen f))
    (copied_one_longer high low seen f) (copied_longer high low fs (copied_one high low seen f))

-- ---- the index

pub record Grows (i j : Index) : Type 0 where
  pub seen : Longer i.seen j.seen
  pub links : Longer i.links j.links

pub grows_itself : (i : Index) → Grows i i
grows_itself i = record { seen = longer_itself i.seen; links = longer_itself i.links }

grows_twice : (i j k : Index) → Grows i j → Grows j k → Grows i k
grows_twice i j k g h = record {
  seen = longer_twice i.seen j.seen k.seen g.seen h.seen;
  links = longer_twice i.links j.links k.links g.links h.links;
}

pub begins : (i j : Index) → Grows i j → Begins i j
begins i j g = record { seen = longer_taken i.seen j.seen g.seen; links = longer_taken i.links j.links g.links }

seeing_grows : (i : Index) (f : Seen) → Grows i (seeing i f)
seeing_grows i f = record { seen = with_seen_longer i.seen f; links = longer_itself i.links }

joined_grows : (i : Index) (y z : ℕ) → Grows i (index_joined i y z)
joined_grows i y z = by (y == z)
  where
    by : (b : Bool) → Grows i (if b then i else index_linked i (max y z) (min y z))
    by true = grows_itself i
    by false =
        record { seen = copied_longer (max y z) (min y z) i.seen i.seen; links = ((max y z, min y z) ∷ [], refl) }

after_grows : (i : Index) (f : Fact ℕ) → Grows i (index_after i f)
after_grows i (F.Has x c) = seeing_grows i (Has (through i.links x) c)
after_grows i (F.Edge r x y) = seeing_grows i (Edge r (through i.links x) (through i.links y))
after_grows i (F.Apart x y) = seeing_grows i (Apart (through i.links x) (through i.links y))
after_grows i (F.Same x y) = joined_grows i (through i.links x) (through i.links y)

pub index_from_grows : (i : Index) (fs : List (Fact ℕ)) → Grows i (index_from i fs)
index_from_grows i [] = grows_itself i
index_from_grows i (f ∷ fs) =
    grows_twice i (index_after i f) (index_from (index_after i f) fs) (after_grows i f)
    (index_from_grows (index_after i f) fs)

pub index_from-append : (i : Index) (fs gs : List (Fact ℕ)) → index_from i (fs ++ gs) ≡ index_from (index_from i fs) gs
index_from-append i [] gs = refl
index_from-append i (f ∷ fs) gs = index_from-append (index_after i f) fs gs

pub index_of-snoc : (fs : List (Fact ℕ)) (f : Fact ℕ) → index_of (fs ++ f ∷ []) ≡ index_after (index_of fs) f
index_of-snoc fs f = index_from-append (record { seen = []; links = [] }) fs (f ∷ [])

-- what was kept of the first facts is what is left when the index is cut
pub cut_back : (fs gs : List (Fact ℕ))
    → record {
      seen = take (length (index_of fs).seen) (index_of (fs ++ gs)).seen;
      links = take (length (index_of fs).links) (index_of (fs ++ gs)).links;
    } ≡ index_of fs
cut_back fs gs =
    let more = index_from-append (record { seen = []; links = [] }) fs gs in
    let g = begins (index_of fs) (index_from (index_of fs) gs) (index_from_grows (index_of fs) gs) in
    ap (λ (i : Index). record {
      seen = take (length (index_of fs).seen) i.seen;
      links = take (length (index_of fs).links) i.links;
    })
    more
    ∙ (λ k. record { seen = g.seen k; links = g.links k })

-- ---- the loop that copies

abbrev pub IsCopying : ℕ → ℕ → ℕ → Index → Index → Type 0
IsCopying high low place i j = (j.links ≡ i.links) × Longer i.seen j.seen
    × (copied high low (drop place i.seen) j.seen ≡ copied high low i.seen i.seen)

-- what stands at a place of the shorter list stands there in the longer
at_place : {X : Type 0} (xs ys : List X) (p : ℕ) (d : X) → p < length xs → Longer xs ys
    → slice_get ys p ≡ Some (get_or xs p d)
at_place [] ys p d lt g = absurd (omega arith)
at_place (x ∷ xs) ys zero d lt (more, e) = ap (λ us. slice_get us 0) e
at_place (x ∷ xs) ys (suc p) d lt (more, e) =
    ap (λ us. slice_get us (suc p)) e ∙ at_place xs (xs ++ more) p d (omega arith) (more, refl)

copies_on : (high low p : ℕ) (fs : List Seen) (d : Seen) (j : Index) → p < length fs → Longer fs j.seen
    → copied high low (drop (p + 1) fs) (copied_at high low j (slice_get j.seen p)).seen
    ≡ copied high low (drop p fs) j.seen
copies_on high low p fs d j lt g =
    let here = at_place fs j.seen p d lt g in
    let rest : drop (p + 1) fs ≡ drop (suc p) fs = ap (λ n. drop n fs) (add-one p) in
    ap (λ o. copied high low (drop (p + 1) fs) (copied_at high low j o).seen) here
    ∙ ap (λ us. copied high low us (copied_one high low j.seen (get_or fs p d))) rest
    ∙ sym (ap (λ us. copied high low us j.seen) (drop-cons fs p d lt))

copied_at_longer : (high low : ℕ) (j : Index) (o : Option Seen) → Longer j.seen (copied_at high low j o).seen
copied_at_longer high low j None = longer_itself j.seen
copied_at_longer high low j (Some f) = copied_one_longer high low j.seen f

copied_at_links : (high low : ℕ) (j : Index) (o : Option Seen) → (copied_at high low j o).links ≡ j.links
copied_at_links high low j None = refl
copied_at_links high low j (Some f) = refl

some_first : (p : ℕ) (fs : List Seen) → p < length fs → Seen
some_first p [] lt = absurd (omega arith)
some_first p (f ∷ fs) lt = f

pub copying_on : (high low p : ℕ) (i j k : Index) → p < length i.seen → IsCopying high low p i j
    → k ≡ copied_at high low j (slice_get j.seen p) → IsCopying high low (p + 1) i k
copying_on high low p i j k lt (links, longer, copied_so_far) is =
    let d = some_first p i.seen lt in
    subst (IsCopying high low (p + 1) i) (sym is) (
      copied_at_links high low j (slice_get j.seen p) ∙ links,
      longer_twice i.seen j.seen (copied_at high low j (slice_get j.seen p)).seen longer
          (copied_at_longer high low j (slice_get j.seen p)),
      copies_on high low p i.seen d j lt longer ∙ copied_so_far,
    )

-- the places of the first facts are places later on
pub place_within : (high low p : ℕ) (i j : Index) → p < length i.seen → IsCopying high low p i j → p < length j.seen
place_within high low p i j lt (links, (more, e), so_far) =
    let n = ap length e in omega (arith, length-append i.seen more)

pub copying_begins : (high low p : ℕ) (i j : Index) → IsCopying high low p i j → Begins i j
copying_begins high low p i j (links, longer, so_far) =
    record { seen = longer_taken i.seen j.seen longer; links = ap (take (length i.links)) links ∙ take-length i.links }

pub after_begins : (i j : Index) (f : Fact ℕ) → j ≡ index_after i f → Begins i j
after_begins i j f is = subst (Begins i) (sym is) (begins i (index_after i f) (after_grows i f))

pub copied_begins : (high low : ℕ) (i j : Index) → j ≡ record { seen = copied high low i.seen i.seen; links = i.links }
    → Begins i j
copied_begins high low i j is =
    let copy : Index = record { seen = copied high low i.seen i.seen; links = i.links } in
    subst (Begins i) (sym is)
    (begins i copy (record { seen = copied_longer high low i.seen i.seen; links = longer_itself i.links }))

-- ---- results

pub on_err : {T E : Type 0} (r : Result T E) (P : Type 0) → P → OnErr r P
on_err (Ok x) P p = tt
on_err (Err e) P p = p

pub from_ok : {T E : Type 0} (r : Result T E) (P : Type 0) → is_err r ≡ false → OnOk r P → P
from_ok (Ok x) P h p = p
from_ok (Err e) P h p = cc

-- what a copy of places cites
pub ruleset copying = (copying_on, place_within, copying_begins)
