-- More bytes that a source gave, and longer prefixes that a sink took.
use Rattle.std.proofs.Common.{◌≡◌, ℕ, ◌+◌, ◌-◌, ◌≤◌, List, length, take, drop, ◌++◌, length-drop, length-append, min}
use Rattle.std.proofs.Common.{ap, ◌∙◌, subst, sym, arith}
use Rattle.std.proofs.Math.Seq.{take-add, take-append-add}
use Rattle.std.proofs.lemmas.List.{take_all, take_min}
use Rattle.std.proofs.KnownBytes.{Appends-trans, Consumes-trans}
use Rattle.std.specs.Prelude.{Option, Result, Ok, Err, OnErr}
use Rattle.std.specs.Io.KnownBytes.{Appends, Consumes}
use Rattle.shq_io.specs.Causes.{TakesOutAtMost}

-- a sink that took a prefix of a text, and then a prefix of the rest, took a longer prefix
pub Appends-prefix : (a b c : Option (List ℕ)) (text : List ℕ) (done count : ℕ) → Appends a b (take done text)
    → Appends b c (take count (take (length text - done) (drop done text))) → Appends a c (take (done + count) text)
Appends-prefix a b c text done count first second =
    let rest : take (length text - done) (drop done text) ≡ drop done text =
    take_all (length text - done) (drop done text) (omega (arith, length-drop done text)) in
    subst (Appends a c) (sym (take-add done count text))
    (Appends-trans a b c (take done text) (take count (drop done text)) first
    (subst (λ l. Appends b c (take count l)) rest second))

-- what holds in any case holds after a failure
pub OnErr-intro : {T E : Type 0} (r : Result T E) (P : Type 0) → P → OnErr r P
OnErr-intro (Ok x) P p = tt
OnErr-intro (Err e) P p = p

-- a source that gave some bytes, and then some more, gave both
pub TakesOutAtMost-more : (a b c : Option (List ℕ)) (first second : List ℕ) (n : ℕ) → Consumes a b first
    → Consumes b c second → length first + length second ≤ n → TakesOutAtMost n a c
TakesOutAtMost-more a b c first second n p q within = record {
  bytes = first ++ second;
  count = omega (arith, length-append first second);
  taken = Consumes-trans a b c first second p q;
}

-- what there is room for of a piece, behind what is kept, is what there is room for of both
pub room_kept : (kept piece : List ℕ) (room : ℕ) → length kept ≤ room
    → kept ++ take (min (length piece) (room - length kept)) piece ≡ take room (kept ++ piece)
room_kept kept piece room within =
    let free : ℕ = room - length kept in
    let order : min (length piece) free ≡ min free (length piece) = omega arith in
    let count : length kept + free ≡ room = omega (arith, within) in
    ap (λ n. kept ++ take n piece) order ∙ ap (λ l. kept ++ l) (take_min free piece)
    ∙ sym (take-append-add kept piece free) ∙ ap (λ n. take n (kept ++ piece)) count
