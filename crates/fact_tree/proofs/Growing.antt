-- The lists of a node only grow at their ends, until they are cut.
use Rattle.std.proofs.Common.{◌≡◌, ℕ, zero, suc, ◌+◌, ◌<◌, ◌≤◌, true, false, List, [], ◌∷◌, ◌++◌, length, take, drop}
use Rattle.std.proofs.Common.{refl, ap, sym, ◌∙◌, arith, add-one, drop-cons, slice_index_or}
use Rattle.std.specs.Prelude.{◌==◌, if◌then◌else◌, Result, Ok, Err, OnErr, OnOk}
use Rattle.std.specs.Result.{is_err}
use Rattle.std.specs.List.{list_any}
use Rattle.std.proofs.lemmas.List.{take-append-le, length-take}
use Rattle.std.proofs.Math.Seq.{take-append_seam, take-length}
use Rattle.fact_tree.specs.Kept.{Lists, with_concept, with_concepts, having, putting, leading, parted, absorbing}
use Rattle.fact_tree.specs.Kept.{Begins, cut_lists}

-- ---- results

pub on_err : {X E : Type 0} (r : Result X E) (P : Type 0) → P → OnErr r P
on_err (Ok x) P p = tt
on_err (Err e) P p = p

pub from_ok : {X E : Type 0} (r : Result X E) (P : Type 0) → is_err r ≡ false → OnOk r P → P
from_ok (Ok x) P fine p = p
from_ok (Err e) P fine p = cc

pub on_err_by : {X E : Type 0} (r : Result X E) (P Q : Type 0) → (P → Q) → OnErr r P → OnErr r Q
on_err_by (Ok x) P Q f p = tt
on_err_by (Err e) P Q f p = f p

pub on_err_both : {X E : Type 0} (r : Result X E) (P Q R : Type 0) → (P → Q → R) → OnErr r P → OnErr r Q → OnErr r R
on_err_both (Ok x) P Q R f p q = tt
on_err_both (Err e) P Q R f p q = f p q

pub on_ok_by : {X E : Type 0} (r : Result X E) (P Q : Type 0) → (P → Q) → OnOk r P → OnOk r Q
on_ok_by (Ok x) P Q f p = f p
on_ok_by (Err e) P Q f p = tt

-- ---- one list

pub take_whole : {X : Type 0} (n : ℕ) (xs : List X) → length xs ≤ n → take n xs ≡ xs
take_whole zero [] le = refl
take_whole (suc n) [] le = refl
take_whole zero (x ∷ xs) le = absurd (omega (arith, le))
take_whole (suc n) (x ∷ xs) le = ap (λ (ys : List _). x ∷ ys) (take_whole n xs (omega (arith, le)))

pub longer_still : {X : Type 0} (xs ys zs : List X) → take (length xs) ys ≡ xs → take (length xs) (ys ++ zs) ≡ xs
longer_still xs ys zs h =
    take-append-le (length xs) ys zs (omega (arith, ap length (sym h), length-take (length xs) ys)) ∙ h

pub with_concept_begins : (xs cs : List ℕ) (c : ℕ) → take (length xs) cs ≡ xs
    → take (length xs) (with_concept cs c) ≡ xs
with_concept_begins xs cs c h = elim (list_any (λ d. d == c) cs) as
    (λ b. take (length xs) (if b then cs else cs ++ c ∷ []) ≡ xs) [ true ↦ h | false ↦ longer_still xs cs (c ∷ []) h ]

pub with_concepts_begins : (xs cs ds : List ℕ) → take (length xs) cs ≡ xs → take (length xs) (with_concepts cs ds) ≡ xs
with_concepts_begins xs cs [] h = h
with_concepts_begins xs cs (d ∷ ds) h = with_concepts_begins xs (with_concept cs d) ds (with_concept_begins xs cs d h)

-- ---- the lists of a node

pub begins_itself : (n : Lists) → Begins n n
begins_itself n = record {
  origin = refl;
  members = take-length n.members;
  concepts = take-length n.concepts;
  edges = take-length n.edges;
  aparts = take-length n.aparts;
}

pub begins_having : (n m : Lists) (c : ℕ) → Begins n m → Begins n (having c m)
begins_having n m c b = record {
  origin = b.origin;
  members = b.members;
  concepts = with_concept_begins n.concepts m.concepts c b.concepts;
  edges = b.edges;
  aparts = b.aparts;
}

pub begins_putting : (n : Lists) (cs : List ℕ) → Begins n (putting cs n)
begins_putting n cs = record {
  origin = refl;
  members = take-length n.members;
  concepts = with_concepts_begins n.concepts n.concepts cs (take-length n.concepts);
  edges = take-length n.edges;
  aparts = take-length n.aparts;
}

pub begins_leading : (n : Lists) (r y : ℕ) → Begins n (leading r y n)
begins_leading n r y = record {
  origin = refl;
  members = take-length n.members;
  concepts = take-length n.concepts;
  edges = take-append_seam n.edges ((r, y) ∷ []);
  aparts = take-length n.aparts;
}

pub begins_parted : (n : Lists) (y : ℕ) → Begins n (parted y n)
begins_parted n y = record {
  origin = refl;
  members = take-length n.members;
  concepts = take-length n.concepts;
  edges = take-length n.edges;
  aparts = take-append_seam n.aparts (y ∷ []);
}

pub begins_absorbing : (n m : Lists) → Begins n (absorbing m n)
begins_absorbing n m = record {
  origin = refl;
  members = take-append_seam n.members m.members;
  concepts = with_concepts_begins n.concepts n.concepts m.concepts (take-length n.concepts);
  edges = take-append_seam n.edges m.edges;
  aparts = take-append_seam n.aparts m.aparts;
}

pub begins_edges : (n : Lists) (cs : List ℕ) (es : List (ℕ × ℕ))
    → Begins n (record (putting cs n) { edges = n.edges ++ es })
begins_edges n cs es = record {
  origin = refl;
  members = take-length n.members;
  concepts = with_concepts_begins n.concepts n.concepts cs (take-length n.concepts);
  edges = take-append_seam n.edges es;
  aparts = take-length n.aparts;
}

pub begins_aparts : (n : Lists) (cs : List ℕ) (es : List (ℕ × ℕ)) (us : List ℕ)
    → Begins n (record (record (putting cs n) { edges = n.edges ++ es }) { aparts = n.aparts ++ us })
begins_aparts n cs es us = record {
  origin = refl;
  members = take-length n.members;
  concepts = with_concepts_begins n.concepts n.concepts cs (take-length n.concepts);
  edges = take-append_seam n.edges es;
  aparts = take-append_seam n.aparts us;
}

-- what has grown is as it was when it is cut
pub cut_begins : (n m : Lists) → Begins n m
    → cut_lists (length n.members) (length n.concepts) (length n.edges) (length n.aparts) m ≡ n
cut_begins n m b =
    λ i. record {
      origin = b.origin i;
      members = b.members i;
      concepts = b.concepts i;
      edges = b.edges i;
      aparts = b.aparts i;
    }

-- ---- the loop of put_concepts

pub putting_step : (n : Lists) (cs : List ℕ) (i : ℕ) → i < length cs
    → putting (drop i cs) n ≡ putting (drop (i + 1) cs) (having (slice_index_or cs i 0) n)
putting_step n cs i lt = rw (add-one, drop-cons cs i 0) refl
